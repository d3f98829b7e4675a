-- Packing by first uses is packing by the list of the distinct pairs. Assumes nothing.
use mathlib.Core.Path.{◌≡◌, refl, sym, ◌∙◌, ap}
use mathlib.Core.Bool.{Bool, true, false, ◌&&◌}
use mathlib.Core.Logic.{◌⊎◌, inl, inr, ⊎_elim}
use mathlib.Core.List.{List, [], ◌∷◌, ◌++◌, append-nil, append_assoc}
use Prim.Native.Nat.{ℕ, zero, suc, ◌+◌, ◌*◌, ◌/◌, ◌%◌, ◌<◌, ◌≤◌}
use native.Mathlib.Nat.{eq-or-lt_of_le}
use native.Mathlib.Omega.{arith}
use lib.ListN.{length, get_or, take, drop}
use borrow.Author.Tests.{eq-eqb, ne_eqb, eqb-true}
use Rattle.words.specs.Decide.{pick, ◌<?◌, ◌=?◌}
use Rattle.words.specs.Buffer.{stretch}
use Rattle.wire.specs.Layout.{entry_words, blob}
use Rattle.wire_check.specs.Writing.{entries_in}
use Rattle.pack_pairs.specs.Pairs.{type_at, offset_at, length_at, stored, Pair, pair, pair_at, pairs, distinct, before, bytes_at, bytes_of_pairs}
use Rattle.pack_pairs.specs.Packing.{placed, table, placed_word, packed_table, packed_area, needed_bytes}
use Rattle.pack_pairs.specs.Stages.{Alike, New, first_use, is_new, room_of, room, packed_bytes, new_offset, new_word, packed_word, packed, needed}
use Rattle.pack_pairs.proofs.RoomLaws.{choose}
use Rattle.pack_pairs.proofs.UseLaws.{use_alike, use_new, use_most, new_use}
use Rattle.pack_pairs.proofs.PairLaws.{either, pairs_none, pairs_used, pairs_new, has_in, new_not_had, room_total, offset_before}

pub table_by : (f g : ℕ → ℕ) (k n : ℕ) → ((i : ℕ) → k ≤ i → i < k + n → f i ≡ g i) → table f k n ≡ table g k n
unfolding table
table_by f g k zero same = refl
table_by f g k (suc n) same = rw (same k (omega arith) (omega arith), table_by f g (k + 1) n (λ i low high. same i (omega arith) (omega arith)))

bytes_more : (area : List ℕ) (q : Pair) (ps : List Pair) → bytes_of_pairs area (ps ++ (q ∷ [])) ≡ bytes_of_pairs area ps ++ bytes_at area q
unfolding bytes_of_pairs
bytes_more area q [] = append-nil (bytes_at area q)
bytes_more area q (p ∷ ps) = ap (λ (l : List ℕ). bytes_at area p ++ l) (bytes_more area q ps) ∙ sym (append_assoc (bytes_at area p) (bytes_of_pairs area ps) (bytes_at area q))

module _ (values : List ℕ) where
  -- the room
  pub needed_is : needed values ≡ needed_bytes values
  unfolding needed_bytes
  needed_is = room_total values (entries_in values)

  -- the table
  word_is : (i : ℕ) → i < entries_in values → new_word values i ≡ placed values i
  unfolding new_word placed
  word_is i h =
      choose (blob (type_at values i)) (0 <? length_at values i) (new_offset values i) (before (pair_at values i) (distinct values)) (offset_at values i)
      (λ s. offset_before values i (entries_in values) s (omega (arith, use_most values i)))

  pub packed_is : length values % entry_words ≡ 0 → packed values ≡ packed_table values
  unfolding packed packed_table
  packed_is whole = table_by (packed_word values) (placed_word values) 0 (length values) (λ k low high. word k high)
    where
      word : (k : ℕ) → k < 0 + length values → packed_word values k ≡ placed_word values k
      word k h =
          ⊎_elim (λ (e : ((k % entry_words) =? 3) ≡ true). let at : k % entry_words ≡ 3 = eqb-true (k % entry_words) 3 e in rw e (word_is (k / entry_words) (omega arith)))
          (λ (e : ((k % entry_words) =? 3) ≡ false). rw e) (either ((k % entry_words) =? 3))

  -- one entry more: its pair is new, or nothing is added
  step : (n : ℕ)
      → ((room_of values n ≡ length_at values n) × (pairs values (suc n) ≡ pairs values n ++ (pair_at values n ∷ [])))
      ⊎ ((room_of values n ≡ 0) × (pairs values (suc n) ≡ pairs values n))
  step n =
      ⊎_elim
      (λ (s : stored values n ≡ true).
      ⊎_elim
      (λ (e : first_use values n ≡ n). let new : New values n = rw e at (use_new values n s) in inl (rw (s, eq-eqb (first_use values n) n e), pairs_new values n s (new_not_had values n new)))
      (λ (less : first_use values n < n). inr (rw (s, ne_eqb (first_use values n) n (omega arith)), pairs_used values n (has_in values n n (first_use values n) less (use_alike values n s).0 (use_alike values n s).1)))
      (eq-or-lt_of_le (use_most values n)))
      (λ (s : stored values n ≡ false). inr (rw s, pairs_none values n s))
      (either (stored values n))

  -- the bytes
  bytes_are : (area : List ℕ) (n : ℕ) → packed_bytes area values n ≡ bytes_of_pairs area (pairs values n)
  unfolding packed_bytes pairs bytes_of_pairs
  bytes_are area zero = refl
  bytes_are area (suc n) =
      ⊎_elim
      (λ (new : (room_of values n ≡ length_at values n) × (pairs values (suc n) ≡ pairs values n ++ (pair_at values n ∷ []))).
      rw (new.0, bytes_are area n) (sym (bytes_more area (pair_at values n) (pairs values n))) ∙ ap (bytes_of_pairs area) (sym new.1))
      (λ (old : (room_of values n ≡ 0) × (pairs values (suc n) ≡ pairs values n)).
      rw old.0 (append-nil (packed_bytes area values n)) ∙ bytes_are area n ∙ ap (bytes_of_pairs area) (sym old.1))
      (step n)

  pub area_is : (area : List ℕ) → packed_bytes area values (entries_in values) ≡ packed_area area values
  unfolding packed_area
  area_is area = bytes_are area (entries_in values)
