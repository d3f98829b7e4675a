-- The packed table over an area that begins with the packed bytes, beside the table as it was: the same entries,
-- offsets apart, and none of them bad. Assumes nothing.
use mathlib.Core.Path.{◌≡◌, sym, ◌∙◌, ap}
use mathlib.Core.Bool.{true, false, not}
use mathlib.Core.Logic.{◌⊎◌, ⊎_elim}
use mathlib.Core.List.{List, ◌++◌}
use Prim.Native.Nat.{ℕ, zero, ◌+◌, ◌*◌, ◌/◌, ◌%◌, ◌<◌, ◌≤◌}
use native.Mathlib.Omega.{arith}
use lib.ListN.{length, get_or, length-append, get_or-eq_default}
use borrow.Author.Tests.{le-ltb, ne_eqb, ltb-true, ltb-false}
use Rattle.words.specs.Buffer.{stretch}
use Rattle.words.specs.Decide.{first, ◌<?◌}
use Rattle.words.proofs.DecideLaws.{le_or_gt}
use Rattle.wire.specs.Layout.{entry_words, boolean, null_type, blob}
use Rattle.wire_check.specs.Writing.{entries_in, bad, bad_entry, first_bad}
use Rattle.wire_check.specs.Stages.{Good}
use Rattle.wire_check.proofs.TableLaws.{none_wrong}
use Rattle.pack_pairs.specs.Pairs.{type_at, offset_at, length_at, stored}
use Rattle.pack_pairs.specs.Stages.{new_word, packed, packed_bytes, needed, Inside}
use Rattle.pack_pairs.proofs.PairLaws.{either}
use Rattle.pack_pairs.proofs.RoomLaws.{length_bytes, new_word_stored}
use Rattle.pack_pairs.proofs.RuleLaws.{good_inside}
use Rattle.pack_pairs.proofs.UseLaws.{both_true}
use Rattle.pack_promises.proofs.ContentLaws.{content_stands, lies}
use Rattle.pack_promises.proofs.TwiceLaws.{packed_long, packed_other, offset_new, type_kept, length_kept}
use Rattle.pack_promises.proofs.SameLaws.{Same}
use Rattle.pack_promises.proofs.FilledLaws.{none_found}

-- the fourth word of what is no blob, and of an empty one
pub word_other : (values : List ℕ) (i : ℕ) → blob (type_at values i) ≡ false → new_word values i ≡ offset_at values i
unfolding new_word
word_other values i b = rw b

word_empty : (values : List ℕ) (i : ℕ) → blob (type_at values i) ≡ true → (0 <? length_at values i) ≡ false → new_word values i ≡ 0
unfolding new_word
word_empty values i b e = rw (b, e)

-- a blob that lies in its area is not bad, wherever it lies
bad_moved : (size size' id type aggregate bits bits' n : ℕ) → bad size id type aggregate bits n ≡ false → blob type ≡ true → bits' + n ≤ size'
    → bad size' id type aggregate bits' n ≡ false
unfolding bad
bad_moved size size' id type aggregate bits bits' n good is inside =
    let fails = none_wrong size id type aggregate bits n good in
    let high : 15 < type = ltb-true 15 type (both_true (15 <? type) (type <? 19) is).0 in
    rw (fails.0, fails.1, fails.2, ne_eqb type boolean (λ e. omega arith), ne_eqb type null_type (λ e. omega arith), is, le-ltb size' (bits' + n) inside)

-- what is no blob is not bad over any area
bad_other : (size size' id type aggregate bits n : ℕ) → bad size id type aggregate bits n ≡ false → blob type ≡ false → bad size' id type aggregate bits n ≡ false
unfolding bad
bad_other size size' id type aggregate bits n good isnt =
    let fails = none_wrong size id type aggregate bits n good in
    rw (fails.0, fails.1, fails.2, fails.3, fails.4, fails.5, isnt)

module _ (area values tail : List ℕ) (whole : length values % entry_words ≡ 0) (good : Good area values) where
  inside : Inside area values
  inside = good_inside area values whole good

  -- a blob's bytes
  moved : (i : ℕ) → i < entries_in values → blob (type_at values i) ≡ true
      → stretch (packed_bytes area values (entries_in values) ++ tail) (offset_at (packed values) i) (length_at values i) ≡ stretch area (offset_at values i) (length_at values i)
  moved i h b =
      ⊎_elim
      (λ (e : (0 <? length_at values i) ≡ true).
      let s : stored values i ≡ true = rw (b, e) in
      rw (offset_new values i h, new_word_stored values i s) (content_stands values i s area inside h tail))
      (λ (e : (0 <? length_at values i) ≡ false). let none : length_at values i ≡ 0 = omega (arith, ltb-false 0 (length_at values i) e) in rw none)
      (either (0 <? length_at values i))

  -- where it lies
  moved_inside : (i : ℕ) → i < entries_in values → blob (type_at values i) ≡ true
      → offset_at (packed values) i + length_at values i ≤ length (packed_bytes area values (entries_in values) ++ tail)
  moved_inside i h b =
      let long : length (packed_bytes area values (entries_in values) ++ tail) ≡ needed values + length tail =
      length-append (packed_bytes area values (entries_in values)) tail ∙ ap (λ (n : ℕ). n + length tail) (length_bytes area values inside (entries_in values) (omega arith)) in
      ⊎_elim
      (λ (e : (0 <? length_at values i) ≡ true).
      let s : stored values i ≡ true = rw (b, e) in
      rw (offset_new values i h, new_word_stored values i s) (omega (arith, long, lies values i s h)))
      (λ (e : (0 <? length_at values i) ≡ false).
      let none : length_at values i ≡ 0 = omega (arith, ltb-false 0 (length_at values i) e) in
      rw (offset_new values i h, word_empty values i b e) (omega arith))
      (either (0 <? length_at values i))

  -- the entry that begins at the word k
  pub packed_same : (k : ℕ) → k % entry_words ≡ 0 → Same area values (packed_bytes area values (entries_in values) ++ tail) (packed values) k
  packed_same k aligned =
      ⊎_elim past here (le_or_gt (length values) k)
    where
      past : length values ≤ k → Same area values (packed_bytes area values (entries_in values) ++ tail) (packed values) k
      past h =
          let zero-type : get_or values (k + 1) 0 ≡ 0 = get_or-eq_default values 0 (omega arith) in
          record {
            id = packed_other values k (λ e. omega arith);
            type = packed_other values (k + 1) (λ e. omega arith);
            aggregate = packed_other values (k + 2) (λ e. omega arith);
            size = packed_other values (k + 4) (λ e. omega arith);
            bytes = λ b. let no : false ≡ true = rw zero-type at b in absurd (let z : ◌≡◌ {A = ℕ} 0 1 = cc in omega arith);
            bits = λ b. get_or-eq_default (packed values) 0 (omega (arith, packed_long values)) ∙ sym (get_or-eq_default values 0 (omega arith));
          }

      here : k < length values → Same area values (packed_bytes area values (entries_in values) ++ tail) (packed values) k
      here h =
          let at : 5 * (k / 5) ≡ k = omega arith in
          let below : k / 5 < entries_in values = omega arith in
          record {
            id = packed_other values k (λ e. omega arith);
            type = packed_other values (k + 1) (λ e. omega arith);
            aggregate = packed_other values (k + 2) (λ e. omega arith);
            size = packed_other values (k + 4) (λ e. omega arith);
            bytes = rw at at (moved (k / 5) below);
            bits = λ b. rw at at (offset_new values (k / 5) below ∙ word_other values (k / 5) (rw at b));
          }

  good_at : (i : ℕ) → i < entries_in values → bad_entry (length area) values (5 * i) ≡ false
  good_at i h = good (5 * i) (omega arith) (omega arith)

  good_packed : (i : ℕ) → i < entries_in values → bad_entry (length (packed_bytes area values (entries_in values) ++ tail)) (packed values) (5 * i) ≡ false
  good_packed i h =
      rw (packed_other values (5 * i) (λ e. omega arith), type_kept values i, packed_other values (5 * i + 2) (λ e. omega arith), length_kept values i)
      (⊎_elim
      (λ (b : blob (type_at values i) ≡ true). bad_moved (length area) _ _ _ _ (offset_at values i) _ _ (good_at i h) b (moved_inside i h b))
      (λ (b : blob (type_at values i) ≡ false). rw (offset_new values i h, word_other values i b) (bad_other (length area) _ _ _ _ _ _ (good_at i h) b))
      (either (blob (type_at values i))))

  -- no entry is bad, before and after
  pub none_after : first_bad (length (packed_bytes area values (entries_in values) ++ tail)) (packed values) ≡ entries_in values
  none_after =
      let long : entries_in (packed values) ≡ entries_in values = ap (λ (n : ℕ). n / 5) (packed_long values) in
      none_found (packed_bytes area values (entries_in values) ++ tail) (packed values) (λ i h. good_packed i (omega arith)) ∙ long

  pub found_same : first_bad (length (packed_bytes area values (entries_in values) ++ tail)) (packed values) ≡ first_bad (length area) values
  found_same = none_after ∙ sym (none_found area values good_at)
