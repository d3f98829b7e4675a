-- Laws of a text's fields: what stands between dashes is what was put between them; and of its bytes. Assumes nothing.
use mathlib.Core.Path.{◌≡◌, refl, subst}
use mathlib.Core.List.{List, [], ◌∷◌, ◌++◌, append-nil}
use mathlib.Core.Logic.{◌⊎◌, inl, inr}
use Prim.Native.Nat.{ℕ, zero, suc, ◌<◌, ◌≤◌}
use native.Mathlib.Omega.{arith}
use borrow.Author.Tests.{ne_eqb}
use lib.ListN.{length, get_or}
use Rattle.words.specs.Text.{digit_of}
use Rattle.guid.specs.declared.Guid.{Guid}
use Rattle.guid_text.specs.Digits.{Digits}
use Rattle.guid_text.specs.Fields.{dash, between}
use Rattle.guid_text.specs.Split.{fields}
use Rattle.guid_text.specs.Form.{IsText}
use Rattle.guid_text.proofs.ValueLaws.{digit_byte, no_dash}

-- no dash in it
abbrev pub Dashless : List ℕ → Type 0
Dashless [] = Unit {0}
Dashless (b ∷ f) = (b ≡ dash → ⊥) × Dashless f

pub digits_dashless : (ds : List ℕ) → Digits ds → Dashless ds
digits_dashless [] good = tt
digits_dashless (b ∷ ds) good = (no_dash b (digit_byte b good.0), digits_dashless ds good.1)

-- a field by itself, and one with a dash behind it
pub fields_last : (f : List ℕ) → Dashless f → fields f ≡ f ∷ []
unfolding fields
fields_last [] clear = refl
fields_last (b ∷ f) clear = rw (ne_eqb b dash clear.0, fields_last f clear.1)

pub fields_dash : (f r : List ℕ) → Dashless f → fields (f ++ dash ∷ r) ≡ f ∷ fields r
unfolding fields
fields_dash [] r clear = refl
fields_dash (b ∷ f) r clear = rw (ne_eqb b dash clear.0, fields_dash f r clear.1)

-- four of them
pub fields_four : (s f3 f2 f1 f0 : List ℕ) → s ≡ between (f3 ∷ f2 ∷ f1 ∷ f0 ∷ []) → Dashless f3 → Dashless f2 → Dashless f1 → Dashless f0
    → fields s ≡ f3 ∷ f2 ∷ f1 ∷ f0 ∷ []
fields_four s f3 f2 f1 f0 joined d3 d2 d1 d0 =
    rw (joined, fields_dash f3 (f2 ++ dash ∷ (f1 ++ dash ∷ f0)) d3, fields_dash f2 (f1 ++ dash ∷ f0) d2, fields_dash f1 f0 d1, fields_last f0 d0)

-- each byte is a hex digit or a dash
abbrev pub Clean : List ℕ → Type 0
Clean [] = Unit {0}
Clean (b ∷ s) = ((b ≡ dash) ⊎ (digit_of b ≤ 15)) × Clean s

clean_digits : (f r : List ℕ) → Digits f → Clean r → Clean (f ++ r)
clean_digits [] r good rest = rest
clean_digits (b ∷ f) r good rest = (inr good.0, clean_digits f r good.1 rest)

clean_field : (f r : List ℕ) → Digits f → Clean r → Clean (f ++ dash ∷ r)
clean_field f r good rest = clean_digits f (dash ∷ r) good (inl refl, rest)

text_clean : (s : List ℕ) (g : Guid) → IsText s g → Clean s
text_clean s g t =
    rw t.joined
    (clean_field t.f3 (t.f2 ++ dash ∷ (t.f1 ++ dash ∷ t.f0)) t.is3.hex
    (clean_field t.f2 (t.f1 ++ dash ∷ t.f0) t.is2.hex
    (clean_field t.f1 t.f0 t.is1.hex (subst Clean (append-nil t.f0) (clean_digits t.f0 [] t.is0.hex tt)))))

clean_at : (s : List ℕ) → Clean s → (i : ℕ) → i < length s → (get_or s i 0 ≡ dash) ⊎ (digit_of (get_or s i 0) ≤ 15)
clean_at [] clean i h = absurd (omega arith)
clean_at (b ∷ s) clean zero h = clean.0
clean_at (b ∷ s) clean (suc i) h = clean_at s clean.1 i (omega arith)

pub text_bytes : (s : List ℕ) (g : Guid) → IsText s g → (i : ℕ) → i < length s → (get_or s i 0 ≡ dash) ⊎ (digit_of (get_or s i 0) ≤ 15)
text_bytes s g t = clean_at s (text_clean s g t)
