-- Packing what is packed changes no more. Assumes nothing.
use mathlib.Core.Path.{◌≡◌, refl, sym, ◌∙◌, ap}
use mathlib.Core.Bool.{Bool, true, false}
use mathlib.Core.Logic.{⊎_elim}
use mathlib.Core.List.{List, ◌++◌}
use Prim.Native.Nat.{ℕ, zero, suc, ◌+◌, ◌*◌, ◌/◌, ◌%◌, ◌<◌, ◌≤◌}
use native.Mathlib.Nat.{eq-or-lt_of_le}
use native.Mathlib.Omega.{arith}
use lib.ListN.{length, get_or, get_or-eq_default}
use borrow.Author.Tests.{eq-eqb, eqb-true, eqb-false, ltb-true}
use Rattle.words.specs.Decide.{pick, ◌<?◌, ◌=?◌}
use Rattle.words.specs.Buffer.{stretch}
use Rattle.words.proofs.DecideLaws.{le_or_gt}
use Rattle.wire.specs.Layout.{blob}
use Rattle.wire_check.specs.Writing.{entries_in}
use Rattle.pack_pairs.specs.Pairs.{type_at, offset_at, length_at, stored}
use Rattle.pack_pairs.specs.Stages.{Alike, New, first_use, is_new, room_of, room, new_offset, new_word, packed_word, packed, packed_bytes, Inside}
use Rattle.pack_pairs.proofs.UseLaws.{both_true, use_most, use_alike, use_new, use_at, new_use}
use Rattle.pack_pairs.proofs.RoomLaws.{length_table, get_d_table, table_same, room_grows, choose, packed_else, packed_fourth, new_word_stored}
use Rattle.pack_pairs.proofs.PairLaws.{either}
use Rattle.pack_promises.proofs.ContentLaws.{content_stands}

module _ (values : List ℕ) where
  -- entries with one pair have one first use
  use_same : (i j : ℕ) → stored values i ≡ true → stored values j ≡ true → Alike values j i → first_use values j ≡ first_use values i
  use_same i j s s' alike =
      let new : New values (first_use values i) = use_new values i s in
      let to_j : Alike values (first_use values i) j = ((use_alike values i s).1.0 ∙ sym alike.0, (use_alike values i s).1.1 ∙ sym alike.1) in
      ⊎_elim
      (λ (h : first_use values i ≤ j).
      ⊎_elim (λ (e : first_use values i ≡ j). new_use values j (rw e at new) ∙ sym e) (λ (less : first_use values i < j). use_at values j (first_use values i) new less to_j) (eq-or-lt_of_le h))
      (λ (h : j < first_use values i). absurd (new.first_of_all j h s' (sym to_j.0, sym to_j.1)))
      (le_or_gt (first_use values i) j)

  -- a later new pair goes further back
  room_apart : (i j : ℕ) → stored values j ≡ true → first_use values j < first_use values i → new_offset values j < new_offset values i
  unfolding room
  room_apart i j s h =
      let new : New values (first_use values j) = use_new values j s in
      let size : room_of values (first_use values j) ≡ length_at values (first_use values j) = rw (new.stores, eq-eqb (first_use values (first_use values j)) (first_use values j) (new_use values (first_use values j) new)) in
      let some : 0 < length_at values (first_use values j) = ltb-true 0 _ (both_true (blob (type_at values (first_use values j))) (0 <? length_at values (first_use values j)) new.stores).1 in
      omega (arith, size, some, room_grows values (suc (first_use values j)) (first_use values i) (omega arith))

  use_told : (i j : ℕ) → stored values i ≡ true → stored values j ≡ true → new_offset values j ≡ new_offset values i → first_use values j ≡ first_use values i
  use_told i j s s' e =
      ⊎_elim
      (λ (h : first_use values j ≤ first_use values i).
      ⊎_elim (λ (same : first_use values j ≡ first_use values i). same) (λ (less : first_use values j < first_use values i). absurd (omega (arith, room_apart i j s' less))) (eq-or-lt_of_le h))
      (λ (h : first_use values i < first_use values j). absurd (omega (arith, room_apart j i s h)))
      (le_or_gt (first_use values j) (first_use values i))

  -- The words of the packed table

  pub packed_long : length (packed values) ≡ length values
  unfolding packed
  packed_long = length_table (packed_word values) 0 (length values)

  pub packed_at : (k : ℕ) → k < length values → get_or (packed values) k 0 ≡ packed_word values k
  unfolding packed
  packed_at k h = let on : 0 + k ≡ k = omega arith in rw on at (get_d_table (packed_word values) 0 (length values) k h)

  pub packed_other : (k : ℕ) → (k % 5 ≡ 3 → ⊥) → get_or (packed values) k 0 ≡ get_or values k 0
  packed_other k other =
      ⊎_elim (λ (h : length values ≤ k). get_or-eq_default (packed values) 0 (omega (arith, packed_long)) ∙ sym (get_or-eq_default values 0 h))
      (λ (h : k < length values). packed_at k h ∙ packed_else values k other)
      (le_or_gt (length values) k)

  pub type_kept : (i : ℕ) → type_at (packed values) i ≡ type_at values i
  type_kept i = packed_other (5 * i + 1) (λ e. omega arith)

  pub length_kept : (i : ℕ) → length_at (packed values) i ≡ length_at values i
  length_kept i = packed_other (5 * i + 4) (λ e. omega arith)

  pub stored_kept : (i : ℕ) → stored (packed values) i ≡ stored values i
  stored_kept i = rw (type_kept i, length_kept i)

  pub offset_new : (i : ℕ) → i < entries_in values → offset_at (packed values) i ≡ new_word values i
  offset_new i h = packed_at (5 * i + 3) (omega arith) ∙ packed_fourth values i

  pub offset_stored : (i : ℕ) → i < entries_in values → stored values i ≡ true → offset_at (packed values) i ≡ new_offset values i
  offset_stored i h s = offset_new i h ∙ new_word_stored values i s

  -- Pairs are told apart as before

  module _ (i j : ℕ) (h : i < entries_in values) (h' : j < entries_in values) (s : stored values i ≡ true) (s' : stored values j ≡ true) where
    alike_to : Alike values j i → Alike (packed values) j i
    alike_to alike = (
      offset_stored j h' s' ∙ ap (room values) (use_same i j s s' alike) ∙ sym (offset_stored i h s),
      length_kept j ∙ alike.1 ∙ sym (length_kept i),
    )

    alike_from : Alike (packed values) j i → Alike values j i
    alike_from alike =
        let same : first_use values j ≡ first_use values i = use_told i j s s' (sym (offset_stored j h' s') ∙ alike.0 ∙ offset_stored i h s) in
        let of-j : Alike values (first_use values j) j = (use_alike values j s').1 in
        let of-i : Alike values (first_use values j) i = rw same (use_alike values i s).1 in
        (sym of-j.0 ∙ of-i.0, sym of-j.1 ∙ of-i.1)

  use_new_too : (i : ℕ) → i < entries_in values → stored values i ≡ true → New (packed values) (first_use values i)
  use_new_too i h s = record {
    stores = stored_kept (first_use values i) ∙ (use_alike values i s).0;
    first_of_all = λ j below e alike.
        let most : first_use values i ≤ i = use_most values i in
        (use_new values i s).first_of_all j below (sym (stored_kept j) ∙ e)
        (alike_from (first_use values i) j (omega arith) (omega arith) (use_alike values i s).0 (sym (stored_kept j) ∙ e) alike);
  }

  use_kept : (i : ℕ) → i < entries_in values → stored values i ≡ true → first_use (packed values) i ≡ first_use values i
  use_kept i h s =
      ⊎_elim (λ (e : first_use values i ≡ i). new_use (packed values) i (rw e at (use_new_too i h s)) ∙ sym e)
      (λ (less : first_use values i < i). use_at (packed values) i (first_use values i) (use_new_too i h s) less
      (alike_to i (first_use values i) h (omega arith) s (use_alike values i s).0 (use_alike values i s).1))
      (eq-or-lt_of_le (use_most values i))

  room_of_kept : (i : ℕ) → i < entries_in values → room_of (packed values) i ≡ room_of values i
  room_of_kept i h =
      ⊎_elim (λ (s : stored values i ≡ true). rw (stored_kept i, s, use_kept i h s, length_kept i)) (λ (s : stored values i ≡ false). rw (stored_kept i, s)) (either (stored values i))

  pub room_kept : (n : ℕ) → n ≤ entries_in values → room (packed values) n ≡ room values n
  unfolding room
  room_kept zero h = refl
  room_kept (suc n) h = rw (room_kept n (omega arith), room_of_kept n (omega arith))

  word_kept : (i : ℕ) → i < entries_in values → new_word (packed values) i ≡ new_word values i
  unfolding new_word
  word_kept i h =
      rw (type_kept i, length_kept i)
      (choose (blob (type_at values i)) (0 <? length_at values i) (new_offset (packed values) i) (new_offset values i) (offset_at (packed values) i)
      (λ s. ap (room (packed values)) (use_kept i h s) ∙ room_kept (first_use values i) (omega (arith, use_most values i)))
      ∙ ⊎_elim (λ (b : blob (type_at values i) ≡ true). rw b) (λ (b : blob (type_at values i) ≡ false). rw (b, offset_new i h, b)) (either (blob (type_at values i))))

  -- the table
  pub packed_twice : length values % 5 ≡ 0 → packed (packed values) ≡ packed values
  unfolding packed
  packed_twice whole =
      sym (table_same (packed_word (packed values)) (packed values) (λ k h. packed_at k (omega (arith, packed_long)) ∙ same_word k (omega (arith, packed_long))))
    where
      same_word : (k : ℕ) → k < length values → packed_word values k ≡ packed_word (packed values) k
      same_word k h =
          ⊎_elim
          (λ (e : ((k % 5) =? 3) ≡ true). let at : k % 5 ≡ 3 = eqb-true (k % 5) 3 e in rw e (sym (word_kept (k / 5) (omega arith))))
          (λ (e : ((k % 5) =? 3) ≡ false). let other : k % 5 ≡ 3 → ⊥ = eqb-false (k % 5) 3 e in packed_else values k other ∙ sym (packed_other k other) ∙ sym (packed_else (packed values) k other))
          (either ((k % 5) =? 3))

  -- and the bytes
  pub bytes_twice : (area tail : List ℕ) → Inside area values → (n : ℕ) → n ≤ entries_in values
      → packed_bytes (packed_bytes area values (entries_in values) ++ tail) (packed values) n ≡ packed_bytes area values n
  unfolding packed_bytes
  bytes_twice area tail inside zero h = refl
  bytes_twice area tail inside (suc n) h =
      rw (bytes_twice area tail inside n (omega arith), room_of_kept n (omega arith)) (ap (λ (l : List ℕ). packed_bytes area values n ++ l) (piece (is_new values n) refl))
    where
      piece : (b : Bool) → is_new values n ≡ b
          → stretch (packed_bytes area values (entries_in values) ++ tail) (offset_at (packed values) n) (pick b (length_at values n) 0) ≡ stretch area (offset_at values n) (pick b (length_at values n) 0)
      piece true e =
          let s : stored values n ≡ true = (both_true (stored values n) _ e).0 in
          rw (offset_stored n (omega arith) s) (content_stands values n s area inside (omega arith) tail)
      piece false e = refl
