-- The list of the distinct pairs has what the entries store, and has it once. Assumes nothing.
use mathlib.Core.Path.{◌≡◌, refl, sym, ◌∙◌, ap}
use mathlib.Core.Bool.{Bool, true, false, ◌||◌, true≢false}
use mathlib.Core.Logic.{⊎_elim}
use mathlib.Core.List.{List, [], ◌∷◌, ◌++◌}
use Prim.Native.Nat.{ℕ, zero, suc, ◌<◌}
use native.Mathlib.Omega.{arith}
use borrow.Author.Tests.{eq-eqb, eqb-true}
use Rattle.words.specs.Decide.{◌=?◌}
use Rattle.pack_pairs.specs.Pairs.{stored, Pair, pair, is, has, pair_at, pairs}
use Rattle.pack_pairs.proofs.PairLaws.{either, has_more, pairs_none, pairs_used, pairs_new}
use Rattle.pack_pairs.proofs.UseLaws.{both_true, not_true_false}
use Rattle.pack_promises.specs.Packing.{Once}

is_same : (p q : Pair) → is p q ≡ true → p ≡ q
is_same (pair a n) (pair b m) e =
    let both = both_true (a =? b) (n =? m) e in
    let first : a ≡ b = eqb-true a b both.0 in
    let second : n ≡ m = eqb-true n m both.1 in
    λ i. pair (first i) (second i)

is_self : (p : Pair) → is p p ≡ true
is_self (pair a n) = rw (eq-eqb a a refl, eq-eqb n n refl)

or_false_lem : (a b : Bool) → (a || b) ≡ false → (a ≡ false) × (b ≡ false)
or_false_lem true b e = absurd (true≢false e)
or_false_lem false b e = (refl, e)

-- one more pair that is not there
once_more : (ps : List Pair) (q : Pair) → Once ps → has q ps ≡ false → Once (ps ++ (q ∷ []))
unfolding has
once_more [] q once none = (refl, tt)
once_more (p ∷ ps) q once none =
    let apart = or_false_lem (is p q) (has q ps) none in
    let other : is q p ≡ false = not_true_false (is q p) (λ e. true≢false (sym (ap (is p) (is_same q p e) ∙ is_self p) ∙ apart.0)) in
    (has_more p q ps ∙ rw (once.0, other), once_more ps q once.1 apart.1)

module _ (values : List ℕ) where
  pub once : (n : ℕ) → Once (pairs values n)
  unfolding pairs
  once zero = tt
  once (suc n) =
      ⊎_elim
      (λ (s : stored values n ≡ true).
      ⊎_elim (λ (e : has (pair_at values n) (pairs values n) ≡ true). rw (pairs_used values n e) (once n))
      (λ (e : has (pair_at values n) (pairs values n) ≡ false). rw (pairs_new values n s e) (once_more (pairs values n) (pair_at values n) (once n) e))
      (either (has (pair_at values n) (pairs values n))))
      (λ (s : stored values n ≡ false). rw (pairs_none values n s) (once n))
      (either (stored values n))

  -- what no entry stores is not there
  pub none_had : (p : Pair) (n : ℕ) → ((i : ℕ) → i < n → stored values i ≡ true → pair_at values i ≡ p → ⊥) → has p (pairs values n) ≡ false
  unfolding has pairs
  none_had p zero none = refl
  none_had p (suc n) none =
      let still : has p (pairs values n) ≡ false = none_had p n (λ i h. none i (omega arith)) in
      ⊎_elim
      (λ (s : stored values n ≡ true).
      ⊎_elim (λ (e : has (pair_at values n) (pairs values n) ≡ true). rw (pairs_used values n e) still)
      (λ (e : has (pair_at values n) (pairs values n) ≡ false).
      rw (pairs_new values n s e, has_more p (pair_at values n) (pairs values n), still)
      (not_true_false (is (pair_at values n) p) (λ it. none n (omega arith) s (is_same (pair_at values n) p it))))
      (either (has (pair_at values n) (pairs values n))))
      (λ (s : stored values n ≡ false). rw (pairs_none values n s) still)
      (either (stored values n))
