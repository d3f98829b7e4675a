-- The room needed is the sum of the distinct pairs' lengths, and a pair's new offset the sum of those before it.
-- Assumes nothing.
use mathlib.Core.Path.{◌≡◌, refl, sym, ◌∙◌, ap}
use mathlib.Core.Bool.{Bool, true, false, ◌&&◌, ◌||◌, true≢false}
use mathlib.Core.Logic.{◌⊎◌, inl, inr, ⊎_elim}
use mathlib.Core.List.{List, [], ◌∷◌, ◌++◌}
use Prim.Native.Nat.{ℕ, zero, suc, ◌+◌, ◌<◌, ◌≤◌}
use native.Mathlib.Nat.{eq-or-lt_of_le}
use native.Mathlib.Omega.{arith}
use Rattle.words.specs.Decide.{pick}
use Rattle.pack_pairs.specs.Pairs.{offset_at, length_at, stored}
use Rattle.pack_pairs.specs.Stages.{same, first_use, room, new_offset}
use Rattle.pack_pairs.specs.Stages.{Alike, New}
use Rattle.pack_pairs.specs.Pairs.{Pair, pair, size_of, is, has, pair_at, pairs, sizes, before}
use Rattle.pack_pairs.proofs.UseLaws.{alike_same, same_alike, not_true_false, use_alike, use_new, use_most, new_use, room_new, room_used, room_none}

pub either : (b : Bool) → (b ≡ true) ⊎ (b ≡ false)
either true = inl refl
either false = inr refl

-- One pair more behind a list

pub has_more : (p q : Pair) (ps : List Pair) → has p (ps ++ (q ∷ [])) ≡ (has p ps || is q p)
unfolding has
has_more p q [] = or_false (is q p)
  where
    or_false : (b : Bool) → (b || false) ≡ b
    or_false true = refl
    or_false false = refl
has_more p q (r ∷ ps) = ap (λ (b : Bool). is r p || b) (has_more p q ps) ∙ assoc (is r p) (has p ps) (is q p)
  where
    assoc : (a b c : Bool) → (a || (b || c)) ≡ ((a || b) || c)
    assoc true b c = refl
    assoc false b c = refl

sizes_more : (q : Pair) (ps : List Pair) → sizes (ps ++ (q ∷ [])) ≡ sizes ps + size_of q
unfolding sizes
sizes_more q [] = omega arith
sizes_more q (r ∷ ps) = rw (sizes_more q ps) (omega arith)

before_kept : (p q : Pair) (ps : List Pair) → has p ps ≡ true → before p (ps ++ (q ∷ [])) ≡ before p ps
unfolding has before
before_kept p q [] h = absurd (true≢false (sym h))
before_kept p q (r ∷ ps) h =
    ⊎_elim (λ (e : is r p ≡ true). rw e) (λ (e : is r p ≡ false). rw (e, before_kept p q ps (rw e at h))) (either (is r p))

before_last : (p q : Pair) (ps : List Pair) → has p ps ≡ false → is q p ≡ true → before p (ps ++ (q ∷ [])) ≡ sizes ps
unfolding has before sizes
before_last p q [] h e = rw e
before_last p q (r ∷ ps) h e =
    ⊎_elim (λ (e' : is r p ≡ true). absurd (true≢false (rw e' at h))) (λ (e' : is r p ≡ false). rw (e', before_last p q ps (rw e' at h) e)) (either (is r p))

module _ (values : List ℕ) where
  -- the pairs after one entry more
  pub pairs_none : (n : ℕ) → stored values n ≡ false → pairs values (suc n) ≡ pairs values n
  unfolding pairs
  pairs_none n e = rw e

  pub pairs_used : (n : ℕ) → has (pair_at values n) (pairs values n) ≡ true → pairs values (suc n) ≡ pairs values n
  unfolding pairs
  pairs_used n e = ⊎_elim (λ (s : stored values n ≡ true). rw (s, e)) (λ (s : stored values n ≡ false). rw s) (either (stored values n))

  pub pairs_new : (n : ℕ) → stored values n ≡ true → has (pair_at values n) (pairs values n) ≡ false → pairs values (suc n) ≡ pairs values n ++ (pair_at values n ∷ [])
  unfolding pairs
  pairs_new n s e = rw (s, e)

  -- a pair stands in the list where an entry stores it, and only there
  pub has_in : (i n j : ℕ) → j < n → stored values j ≡ true → Alike values j i → has (pair_at values i) (pairs values n) ≡ true
  has_in i zero j h s alike = absurd (omega arith)
  has_in i (suc n) j h s alike =
      ⊎_elim
      (λ (e : has (pair_at values n) (pairs values n) ≡ true). rw (pairs_used n e) (⊎_elim (λ (last : j ≡ n). rw (← alike.0, ← alike.1, last) e) (λ (less : j < n). has_in i n j less s alike) (eq-or-lt_of_le (at_most j n h))))
      (λ (e : has (pair_at values n) (pairs values n) ≡ false).
      ⊎_elim
      (λ (s' : stored values n ≡ true). rw (pairs_new n s' e, has_more (pair_at values i) (pair_at values n) (pairs values n))
      (⊎_elim (λ (last : j ≡ n). or_true (has (pair_at values i) (pairs values n)) (is (pair_at values n) (pair_at values i)) (rw last at (alike_same values j i alike))) (λ (less : j < n). rw (has_in i n j less s alike)) (eq-or-lt_of_le (at_most j n h))))
      (λ (s' : stored values n ≡ false). rw (pairs_none n s')
      (⊎_elim (λ (last : j ≡ n). absurd (true≢false (sym (rw last at s) ∙ s'))) (λ (less : j < n). has_in i n j less s alike) (eq-or-lt_of_le (at_most j n h))))
      (either (stored values n)))
      (either (has (pair_at values n) (pairs values n)))
    where
      at_most : (j n : ℕ) → j < suc n → j ≤ n
      at_most j n h = omega arith

      or_true : (a b : Bool) → b ≡ true → (a || b) ≡ true
      or_true true b e = refl
      or_true false b e = e

  has_out : (i n : ℕ) → ((j : ℕ) → j < n → stored values j ≡ true → Alike values j i → ⊥) → has (pair_at values i) (pairs values n) ≡ false
  unfolding has pairs
  has_out i zero none = refl
  has_out i (suc n) none =
      let still : has (pair_at values i) (pairs values n) ≡ false = has_out i n (λ j h. none j (omega arith)) in
      ⊎_elim
      (λ (s : stored values n ≡ true).
      ⊎_elim (λ (e : has (pair_at values n) (pairs values n) ≡ true). rw (pairs_used n e) still)
      (λ (e : has (pair_at values n) (pairs values n) ≡ false). rw (pairs_new n s e, has_more (pair_at values i) (pair_at values n) (pairs values n), still)
      (not_true_false (is (pair_at values n) (pair_at values i)) (λ it. none n (omega arith) s (same_alike values n i it))))
      (either (has (pair_at values n) (pairs values n))))
      (λ (s : stored values n ≡ false). rw (pairs_none n s) still)
      (either (stored values n))

  pub new_not_had : (n : ℕ) → New values n → has (pair_at values n) (pairs values n) ≡ false
  new_not_had n new = has_out n n new.first_of_all

  -- the room that the first n entries take
  pub room_total : (n : ℕ) → room values n ≡ sizes (pairs values n)
  unfolding room pairs sizes
  room_total zero = refl
  room_total (suc n) =
      ⊎_elim
      (λ (s : stored values n ≡ true).
      ⊎_elim
      (λ (e : first_use values n ≡ n). let new : New values n = rw e at (use_new values n s) in
      room_new values n new ∙ rw (pairs_new n s (new_not_had n new), sizes_more (pair_at values n) (pairs values n), room_total n))
      (λ (less : first_use values n < n).
      room_used values n less ∙ room_total n ∙ ap sizes (sym (pairs_used n (has_in n n (first_use values n) less (use_alike values n s).0 (use_alike values n s).1))))
      (eq-or-lt_of_le (use_most values n)))
      (λ (s : stored values n ≡ false). room_none values n s ∙ room_total n ∙ ap sizes (sym (pairs_none n s)))
      (either (stored values n))

  -- where the pair of the entry i goes
  pub offset_before : (i n : ℕ) → stored values i ≡ true → first_use values i < n → new_offset values i ≡ before (pair_at values i) (pairs values n)
  offset_before i zero s h = absurd (omega arith)
  offset_before i (suc n) s h =
      let alike : Alike values (first_use values i) i = (use_alike values i s).1 in
      let stores : stored values (first_use values i) ≡ true = (use_alike values i s).0 in
      ⊎_elim
      (λ (e : first_use values i ≡ n).
      let new : New values n = rw e at (use_new values i s) in
      let here : Alike values n i = rw e at alike in
      let not_yet : has (pair_at values i) (pairs values n) ≡ false = rw (here.0, here.1) at (new_not_had n new) in
      ap (room values) e ∙ room_total n
      ∙ sym (ap (before (pair_at values i)) (pairs_new n new.stores (new_not_had n new)) ∙ before_last (pair_at values i) (pair_at values n) (pairs values n) not_yet (alike_same values n i here)))
      (λ (less : first_use values i < n).
      let had : has (pair_at values i) (pairs values n) ≡ true = has_in i n (first_use values i) less stores alike in
      offset_before i n s less
      ∙ ⊎_elim
      (λ (s' : stored values n ≡ true).
      ⊎_elim (λ (e : has (pair_at values n) (pairs values n) ≡ true). ap (before (pair_at values i)) (sym (pairs_used n e)))
      (λ (e : has (pair_at values n) (pairs values n) ≡ false). sym (ap (before (pair_at values i)) (pairs_new n s' e) ∙ before_kept (pair_at values i) (pair_at values n) (pairs values n) had))
      (either (has (pair_at values n) (pairs values n))))
      (λ (s' : stored values n ≡ false). ap (before (pair_at values i)) (sym (pairs_none n s')))
      (either (stored values n)))
      (eq-or-lt_of_le (at_most h))
    where
      at_most : first_use values i < suc n → first_use values i ≤ n
      at_most h = omega arith
