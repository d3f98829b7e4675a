-- Laws of a GUID's text: its length, its fields with their dashes, and how they are written. Assumes nothing.
use mathlib.Core.Path.{◌≡◌}
use mathlib.Core.List.{[], ◌∷◌, ◌++◌, append_assoc}
use Prim.Native.Nat.{ℕ, ◌+◌, ◌≤◌}
use native.Mathlib.Omega.{arith}
use lib.ListN.{length, length-append}
use Rattle.numerals.specs.Statement.{hex}
use Rattle.numerals.proofs.SpelledLaws.{length_spelled_most}
use Rattle.guid.specs.declared.Guid.{Guid}
use Rattle.guid_text.specs.Fields.{dash}
use Rattle.guid_text.specs.Stages.{dashed}
use Rattle.guid_text.specs.Text.{text_of}

-- the whole text: its length, and its fields with their dashes
pub length_dashed : (w : ℕ) → length (dashed w) ≡ length (hex w) + 1
length_dashed w = length-append (hex w) (dash ∷ [])

-- a field without its dash
pub field_short : (w : ℕ) → length (hex w) ≤ 8
field_short w = length_spelled_most 16 8 w

module _ (g : Guid) where
  pub length_text : length (text_of g) ≡ length (hex g.w3) + 1 + (length (hex g.w2) + 1) + (length (hex g.w1) + 1) + length (hex g.w0)
  unfolding text_of
  length_text = simp length-append (omega arith)

  pub text_in_fields : dashed g.w3 ++ dashed g.w2 ++ dashed g.w1 ++ hex g.w0 ≡ text_of g
  unfolding text_of
  text_in_fields = simp append_assoc
