-- A hex digit with small letters alone, by its value if it were one, or with capital ones alone. Assumes nothing.
use mathlib.Core.Path.{◌≡◌, sym, ◌∙◌}
use mathlib.Core.Logic.{⊎_elim}
use Prim.Native.Nat.{ℕ, ◌+◌, ◌*◌, ◌/◌, ◌%◌, ◌<◌, ◌≤◌}
use native.Mathlib.Omega.{arith}
use borrow.Author.Tests.{lt-ltb, le-ltb}
use Rattle.words.specs.Decide.{pick, ◌<?◌}
use Rattle.words.proofs.DecideLaws.{le_or_gt}
use Rattle.words.specs.Text.{digit_of}
use Rattle.text_form.specs.Walk.{small_value, capital_value}

pub spells : (v : ℕ) → v ≤ 15 → 48 + v + 39 * ((v + 6) / 16) ≡ pick (v <? 10) (48 + v) (87 + v)
spells v h = ⊎_elim (λ (many : 10 ≤ v). rw (le-ltb v 10 many) (omega arith)) (λ (few : v < 10). rw (lt-ltb v 10 few) (omega arith)) (le_or_gt 10 v)

module _ (b : ℕ) where
  -- neither a digit nor one of the six letters
  no_digit : (48 ≤ b → b < 58 → ⊥) → (97 ≤ b → b < 103 → ⊥) → 16 ≡ small_value b
  unfolding small_value
  no_digit low high = ⊎_elim (λ (h : 48 ≤ b). digits h) (λ (h : b < 48). rw (lt-ltb b 48 h)) (le_or_gt 48 b)
    where
      letters : 58 ≤ b → 16 ≡ small_value b
      letters h =
          ⊎_elim
          (λ (k : 97 ≤ b).
          ⊎_elim (λ (m : 103 ≤ b). rw (le-ltb b 48 (omega arith), le-ltb b 58 h, le-ltb b 97 k, le-ltb b 103 m)) (λ (m : b < 103). absurd (high k m)) (le_or_gt 103 b))
          (λ (k : b < 97). rw (le-ltb b 48 (omega arith), le-ltb b 58 h, lt-ltb b 97 k))
          (le_or_gt 97 b)

      digits : 48 ≤ b → 16 ≡ small_value b
      digits h = ⊎_elim (λ (k : 58 ≤ b). letters k) (λ (k : b < 58). absurd (low h k)) (le_or_gt 58 b)

  -- the value as if it were one
  module _ (v : ℕ) (is : v ≡ b % 16 + 9 * (b / 64)) where
    pub too_much : 15 < v → 16 ≡ small_value b
    too_much h = no_digit (λ low high. omega arith) (λ low high. omega arith)

    module _ (w : ℕ) (told : w ≡ pick (v <? 10) (48 + v) (87 + v)) (small : v ≤ 15) where
      pub another : (w ≡ b → ⊥) → 16 ≡ small_value b
      another other =
          no_digit
          (λ low high. let few : v < 10 = omega arith in other (told ∙ rw (lt-ltb v 10 few) (omega arith)))
          (λ low high. let many : 10 ≤ v = omega arith in other (told ∙ rw (le-ltb v 10 many) (omega arith)))

      pub the_digit : w ≡ b → v ≡ small_value b
      unfolding small_value
      the_digit same =
          ⊎_elim
          (λ (many : 10 ≤ v).
          let letter : b ≡ 87 + v = sym same ∙ told ∙ rw (le-ltb v 10 many) in
          rw (le-ltb b 48 (omega arith), le-ltb b 58 (omega arith), le-ltb b 97 (omega arith), lt-ltb b 103 (omega arith)) (omega arith))
          (λ (few : v < 10).
          let number : b ≡ 48 + v = sym same ∙ told ∙ rw (lt-ltb v 10 few) in
          rw (le-ltb b 48 (omega arith), lt-ltb b 58 (omega arith)) (omega arith))
          (le_or_gt 10 v)

pub past_capital : (b : ℕ) → 70 < b → 16 ≡ capital_value b
unfolding capital_value
past_capital b h = rw (le-ltb b 48 (omega arith), le-ltb b 58 (omega arith), le-ltb b 65 (omega arith), le-ltb b 71 (omega arith))

pub other_capital : (b : ℕ) → b ≤ 70 → digit_of b ≡ capital_value b
unfolding capital_value digit_of
other_capital b h = rw (lt-ltb b 71 (omega arith))
