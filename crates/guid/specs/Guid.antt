-- A GUID's sixteen wire bytes, its four words in wire order and its two halves. Document 01, "GUID text"; `guid.rs` for
-- the halves: bytes 0 to 7 and bytes 8 to 15. All of them are little-endian. Assumes nothing.
use Rattle.std.specs.Prelude.{ℕ, ◌+◌, ◌<◌, ◌^◌, Bool, true, false, List, [], ◌∷◌, ◌++◌}
use Rattle.words.specs.Word.{word, bytes_of}
use Rattle.words.specs.Decide.{decide, ◌⇒◌, ◌≠?◌}
use Rattle.guid.specs.declared.Guid.{Guid}
use Rattle.guid.specs.declared.Halves.{Halves}

-- the GUID of four words in wire order
abbrev pub guid_of : ℕ → ℕ → ℕ → ℕ → Guid
guid_of a b c d = record { w0 = a; w1 = b; w2 = c; w3 = d }

abbrev pub words_of : Guid → List ℕ
words_of g = g.w0 ∷ g.w1 ∷ g.w2 ∷ g.w3 ∷ []

-- a GUID that a program can hold: each word fits its 32 bits
pub record Fitting (g : Guid) : Type 0 where
  pub fits0 : g.w0 < 2 ^ 32
  pub fits1 : g.w1 < 2 ^ 32
  pub fits2 : g.w2 < 2 ^ 32
  pub fits3 : g.w3 < 2 ^ 32

-- the sixteen bytes
unfoldable pub wire_bytes : Guid → List ℕ
wire_bytes g = bytes_of 4 g.w0 ++ bytes_of 4 g.w1 ++ bytes_of 4 g.w2 ++ bytes_of 4 g.w3

-- the GUID whose bytes stand in s from `at` on; a byte past the end counts as 0
abbrev pub guid_at : List ℕ → ℕ → Guid
guid_at s at = guid_of (word 4 s at) (word 4 s (at + 4)) (word 4 s (at + 8)) (word 4 s (at + 12))

abbrev pub first_half : Guid → ℕ
first_half g = word 8 (wire_bytes g) 0

abbrev pub second_half : Guid → ℕ
second_half g = word 8 (wire_bytes g) 8

abbrev pub halves_of : Guid → Halves
halves_of g = record { first = first_half g; second = second_half g }

-- the GUID of two halves
abbrev pub guid_of_halves : ℕ → ℕ → Guid
guid_of_halves first second = guid_at (bytes_of 8 first ++ bytes_of 8 second) 0

-- whether all of it is 0
abbrev pub is_null : Guid → Bool
is_null g = decide (g.w0 ≠? 0 ⇒ false ∷ g.w1 ≠? 0 ⇒ false ∷ g.w2 ≠? 0 ⇒ false ∷ g.w3 ≠? 0 ⇒ false ∷ []) true
