-- Laws of the first use of a pair. Assumes nothing.
use mathlib.Core.Path.{◌≡◌, refl, sym, ◌∙◌, ap}
use mathlib.Core.Bool.{Bool, true, false, ◌&&◌, true≢false}
use mathlib.Core.Logic.{◌⊎◌, inl, inr, ⊎_elim}
use mathlib.Core.List.{List}
use Prim.Native.Nat.{ℕ, zero, suc, ◌+◌, ◌<◌, ◌≤◌}
use native.Mathlib.Nat.{eq-or-lt_of_le}
use native.Mathlib.Omega.{arith}
use lib.Dec.{ltb, eqb}
use borrow.Author.Tests.{eq-eqb, ne_eqb, eqb-true}
use Rattle.words.specs.Decide.{pick, first, ◌=?◌}
use Rattle.words.proofs.DecideLaws.{first_most, first_holds, first_none, first_at, first_all}
use Rattle.pack_pairs.specs.Pairs.{offset_at, length_at, stored}
use Rattle.pack_pairs.specs.Stages.{same, first_use, is_new, room}
use Rattle.pack_pairs.specs.Stages.{Alike, New}

pub both_true : (a b : Bool) → (a && b) ≡ true → (a ≡ true) × (b ≡ true)
both_true true b e = (refl, e)
both_true false b e = absurd (true≢false (sym e))

pub not_true_false : (b : Bool) → (b ≡ true → ⊥) → b ≡ false
not_true_false true h = absurd (h refl)
not_true_false false h = refl

pub same_alike : (t : List ℕ) (j i : ℕ) → same t j i ≡ true → Alike t j i
same_alike t j i e = let both = both_true _ _ e in (eqb-true _ _ both.0, eqb-true _ _ both.1)

pub alike_same : (t : List ℕ) (j i : ℕ) → Alike t j i → same t j i ≡ true
alike_same t j i a = rw (eq-eqb _ _ a.0, eq-eqb _ _ a.1)

pub alike_through : (t : List ℕ) (j i k : ℕ) → Alike t j i → Alike t k i → Alike t j k
alike_through t j i k a b = (a.0 ∙ sym b.0, a.1 ∙ sym b.1)

module _ (values : List ℕ) where
  uses : ℕ → ℕ → Bool
  uses i j = stored values j && same values j i

  uses_yes : (i j : ℕ) → stored values j ≡ true → Alike values j i → uses i j ≡ true
  unfolding uses
  uses_yes i j e alike = rw (e, alike_same values j i alike)

  uses_alike : (i j : ℕ) → uses i j ≡ true → (stored values j ≡ true) × Alike values j i
  unfolding uses
  uses_alike i j e = let both = both_true _ _ e in (both.0, same_alike values j i both.1)

  use_is : (i : ℕ) → first_use values i ≡ first (uses i) i
  unfolding first_use uses
  use_is i = refl

  pub use_most : (i : ℕ) → first_use values i ≤ i
  use_most i = omega (arith, use_is i, first_most (uses i) 0 i)

  -- an entry before the first use has another pair
  before_use : (i k : ℕ) → k < first_use values i → uses i k ≡ false
  before_use i k h = first_none (uses i) 0 i k (omega arith) (rw use_is at h)

  -- the first use of what is stored is new
  module _ (i : ℕ) (is : stored values i ≡ true) where
    pub use_alike : (stored values (first_use values i) ≡ true) × Alike values (first_use values i) i
    use_alike = ⊎_elim here_it_is earlier (eq-or-lt_of_le (use_most i))
      where
        here_it_is : first_use values i ≡ i → (stored values (first_use values i) ≡ true) × Alike values (first_use values i) i
        here_it_is e = rw e (is, (refl, refl))

        earlier : first_use values i < i → (stored values (first_use values i) ≡ true) × Alike values (first_use values i) i
        earlier h = uses_alike i (first_use values i) (rw use_is (first_holds (uses i) 0 i (omega (arith, use_is i))))

    pub use_new : New values (first_use values i)
    use_new = record {
      stores = use_alike.0;
      first_of_all = λ j h e alike. true≢false (sym (uses_yes i j e (alike.0 ∙ use_alike.1.0, alike.1 ∙ use_alike.1.1)) ∙ before_use i j h);
    }

  -- a new entry with this pair is its first use
  pub use_at : (i j : ℕ) → New values j → j < i → Alike values j i → first_use values i ≡ j
  use_at i j new h alike =
      use_is i
      ∙ first_at (uses i) i j h
      (λ k below. not_true_false (uses i k) (λ e. let it = uses_alike i k e in new.first_of_all k below it.0 (alike_through values k i j it.1 alike)))
      (uses_yes i j new.stores alike)

  pub new_use : (i : ℕ) → New values i → first_use values i ≡ i
  new_use i new =
      use_is i
      ∙ first_all (uses i) 0 i (λ k low high. not_true_false (uses i k) (λ e. let it = uses_alike i k e in new.first_of_all k (omega arith) it.0 it.1))
      ∙ omega arith

  -- The room that one more entry takes
  pub room_new : (i : ℕ) → New values i → room values (suc i) ≡ room values i + length_at values i
  unfolding room
  room_new i new = rw (new.stores, eq-eqb _ _ (new_use i new))

  pub room_used : (i : ℕ) → first_use values i < i → room values (suc i) ≡ room values i
  unfolding room
  room_used i h = ⊎_elim (λ e. rw (e, ne_eqb (first_use values i) i (omega arith)) (omega arith)) (λ e. rw e (omega arith)) (either (stored values i))
    where
      either : (b : Bool) → (b ≡ true) ⊎ (b ≡ false)
      either true = inl refl
      either false = inr refl

  pub room_none : (i : ℕ) → stored values i ≡ false → room values (suc i) ≡ room values i
  unfolding room
  room_none i e = rw e (omega arith)
