-- Sums that stop at 2 ^ 64 - 1. Assumes nothing.
use mathlib.Core.Path.{◌≡◌, sym, ◌∙◌, ap}
use mathlib.Core.Logic.{⊎_elim, ◌⊎◌, inl, inr}
use Prim.Native.Nat.{ℕ, ◌+◌, ◌-◌, ◌<◌, ◌≤◌}
use native.Mathlib.Omega.{arith}
use borrow.Author.Tests.{lt-ltb, le-ltb, ne_eqb}
use Rattle.words.proofs.DecideLaws.{le_or_gt}
use Rattle.error_write.specs.Writing.{most_bytes, capped}
use Rattle.error_write.specs.Stages.{delimited_size, dictionary_size}

pub capped_small : (n : ℕ) → n ≤ most_bytes → capped n ≡ n
unfolding capped
capped_small n h = rw (le-ltb most_bytes n h)

pub capped_large : (n : ℕ) → most_bytes ≤ n → capped n ≡ most_bytes
unfolding capped
capped_large n h =
    ⊎_elim (λ (low : n ≤ most_bytes). let e : n ≡ most_bytes = omega arith in rw (le-ltb most_bytes n low) e) (λ (high : most_bytes < n). rw (lt-ltb most_bytes n high)) (le_or_gt n most_bytes)

-- a number and its cap: equal where the number fits, else the number is more than the cap, which is the most
pub Cap : ℕ → Type 0
Cap n = ((capped n ≡ n) × (n ≤ most_bytes)) ⊎ ((capped n ≡ most_bytes) × (most_bytes < n))

pub cap : (n : ℕ) → Cap n
unfolding Cap
cap n = ⊎_elim (λ (low : n ≤ most_bytes). inl (capped_small n low, low)) (λ (high : most_bytes < n). inr (capped_large n (omega arith), high)) (le_or_gt n most_bytes)

-- two numbers that agree below the cap
capped_same : (m n : ℕ) → (m < most_bytes → m ≡ n) → (most_bytes ≤ m → most_bytes ≤ n) → capped m ≡ capped n
capped_same m n low high =
    ⊎_elim (λ (h : most_bytes ≤ m). capped_large m h ∙ sym (capped_large n (high h))) (λ (h : m < most_bytes). ap capped (low h)) (le_or_gt most_bytes m)

pub capped_add : (a b : ℕ) → capped (capped a + capped b) ≡ capped (a + b)
unfolding Cap
capped_add a b =
    ⊎_elim
    (λ x. ⊎_elim (λ y. ap capped (omega arith)) (λ y. capped_same (capped a + capped b) (a + b) (λ h. absurd (omega arith)) (λ h. omega arith)) (cap b))
    (λ x. capped_same (capped a + capped b) (a + b) (λ h. absurd (omega arith)) (λ h. omega arith))
    (cap a)

pub capped_add_right : (a b : ℕ) → capped (a + capped b) ≡ capped (a + b)
unfolding Cap
capped_add_right a b =
    ⊎_elim (λ y. ap capped (omega arith)) (λ y. capped_same (a + capped b) (a + b) (λ h. absurd (omega arith)) (λ h. omega arith)) (cap b)

pub capped_add_left : (a b : ℕ) → capped (capped a + b) ≡ capped (a + b)
unfolding Cap
capped_add_left a b =
    ⊎_elim (λ y. ap capped (omega arith)) (λ y. capped_same (capped a + b) (a + b) (λ h. absurd (omega arith)) (λ h. omega arith)) (cap a)

pub capped_delimited : (n : ℕ) → capped (delimited_size (capped n)) ≡ capped (delimited_size n)
unfolding Cap
capped_delimited n =
    ⊎_elim (λ y. ap (λ (m : ℕ). capped (delimited_size m)) y.0)
    (λ y. capped_same (delimited_size (capped n)) (delimited_size n) (λ h. absurd (omega arith)) (λ h. omega arith)) (cap n)

pub capped_dictionary : (n : ℕ) → capped (dictionary_size (capped n)) ≡ capped (dictionary_size n)
unfolding Cap
capped_dictionary n =
    ⊎_elim (λ y. ap (λ (m : ℕ). capped (dictionary_size m)) y.0)
    (λ y. rw (ne_eqb (capped n) 0 (λ z. omega arith), ne_eqb n 0 (λ z. omega arith)) (capped_delimited n)) (cap n)

-- add_capped
pub adds_most : (a b : ℕ) → a ≤ most_bytes → most_bytes - a < b → most_bytes ≡ capped (a + b)
adds_most a b fits h = sym (capped_large (a + b) (omega arith))

pub adds : (a b : ℕ) → a ≤ most_bytes → b ≤ most_bytes - a → a + b ≡ capped (a + b)
adds a b fits h = sym (capped_small (a + b) (omega arith))
