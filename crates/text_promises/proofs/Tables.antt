-- The rows of tables that can be written have a text. Assumes nothing.
use mathlib.Core.Path.{◌≡◌, refl, sym, ◌∙◌, ap}
use mathlib.Core.Bool.{Bool, true, false, not, ◌&&◌, ◌||◌}
use mathlib.Core.List.{List, [], ◌∷◌}
use mathlib.Core.Logic.{⊎_elim}
use Prim.Native.Nat.{ℕ, zero, suc, ◌+◌, ◌*◌, ◌/◌, ◌%◌, ◌^◌, ◌<◌, ◌≤◌}
use native.Mathlib.Omega.{arith}
use lib.Dec.{ltb, eqb}
use lib.ListN.{length, get_or, take, drop, length-take, get_or-eq_default}
use lib.Seq.{get_or-take, get_or-drop}
use native.Mathlib.Nat.{min-le_left}
use borrow.Author.Tests.{eqb-true, ltb-false, not-false, eq-eqb}
use Rattle.words.specs.Word.{Bytes}
use Rattle.words.specs.Buffer.{stretch}
use Rattle.words.specs.Answer.{accepted}
use Rattle.words.specs.Decide.{decide, pick}
use Rattle.words.proofs.DecideLaws.{pick_case, decide_append, le_or_gt}
use Rattle.wire.specs.Layout.{null_mark, null_type, boolean, known, scalar, blob, entry_words, values_in, max_rows}
use Rattle.wire.specs.Content.{nothing, word, bytes, content_in, cells_in, row_in, rows_from, rows_in}
use Rattle.wire_check.specs.Writing.{total, bad, first_bad, bad_table_lines, limit_lines, check_lines}
use Rattle.wire_check.specs.Stages.{Good, Sound}
use Rattle.wire_check.proofs.TableLaws.{none_wrong, tables_pass}
use Rattle.text_form.specs.Form.{FitsContent, FitsCell, FitsCells, FitsRow, FitsRows}
use Rattle.text_form.proofs.TextLaws.{not_true}
use Rattle.text_promises.specs.Texts.{Words}
use Rattle.text_promises.proofs.Refusals.{passes}

bytes_take : (n : ℕ) (s : List ℕ) → Bytes s → Bytes (take n s)
bytes_take n s good i =
    ⊎_elim
    (λ (past : n ≤ i). rw (get_or-eq_default (take n s) 0 {n = i} (rw (length-take n s) (omega (arith, min-le_left n (length s))))) (omega arith))
    (λ (low : i < n). rw (get_or-take) (good i))
    (le_or_gt n i)

bytes_stretch : (area : List ℕ) (at n : ℕ) → Bytes area → Bytes (stretch area at n)
bytes_stretch area at n good = bytes_take n (drop at area) (λ i. rw get_or-drop (good (at + i)))

-- a value whose words are not bad
module _ (area : List ℕ) (all-bytes : Bytes area) (id type aggregate bits n : ℕ) (small : bits < 2 ^ 64) (good : bad (length area) id type aggregate bits n ≡ false) where
  facts : (ltb 65535 id ≡ false) × (not (known type) ≡ false) × (ltb 1 aggregate ≡ false) × ((eqb type 6 && ltb 1 bits) ≡ false)
      × ((eqb type 2 && not (eqb bits 0)) ≡ false) × ((not (blob type) && not (eqb n 0)) ≡ false) × ((blob type && ltb (length area) (bits + n)) ≡ false)
  facts = none_wrong (length area) id type aggregate bits n good

  a_boolean : type ≡ boolean → bits ≤ 1
  a_boolean e = ltb-false 1 bits (rw (eq-eqb type 6 e) at facts.3)

  a_null : scalar type ≡ false → blob type ≡ false → type ≡ null_type
  a_null s b = eqb-true type null_type (each (eqb type null_type) refl)
    where
      each : (x : Bool) → eqb type null_type ≡ x → eqb type null_type ≡ true
      each true e = e
      each false e = not_true (sym (ap (λ (t : Bool). t || scalar type || blob type) e ∙ ap (λ (t : Bool). t || blob type) s ∙ b) ∙ not-false (known type) facts.1)

  pub cell_fits : FitsCell (record { id = id; type = type; aggregate = aggregate; content = content_in area type bits n })
  cell_fits = record {
    id_fits = ltb-false 65535 id facts.0;
    aggregate_bit = ltb-false 1 aggregate facts.2;
    content_fits = pick_case (blob type) (bytes (stretch area bits n)) (pick (scalar type) (word bits) nothing) (FitsContent type)
        (λ is. (is, bytes_stretch area bits n all-bytes))
        (λ isnt. pick_case (scalar type) (word bits) nothing (FitsContent type) (λ is. (is, small, a_boolean)) (λ none. a_null none isnt));
  }

module _ (area table : List ℕ) (all-bytes : Bytes area) (All-words : Words table) (good : Good area table) where
  cells_fit : (n k : ℕ) → k % entry_words ≡ 0 → k + entry_words * n ≤ length table → FitsCells (cells_in area table n k)
  unfolding cells_in
  cells_fit zero k aligned inside = tt
  cells_fit (suc n) k aligned inside =
      (cell_fits area all-bytes (get_or table k 0) (get_or table (k + 1) 0) (get_or table (k + 2) 0) (get_or table (k + 3) 0) (get_or table (k + 4) 0) (All-words (k + 3)) (good k aligned (omega arith)), cells_fit n (k + entry_words) (omega arith) (omega arith))

  row_fits : (count k : ℕ) → k % entry_words ≡ 0 → k + entry_words * values_in count ≤ length table → FitsRow (row_in area table count k)
  row_fits count k aligned inside = each (eqb count null_mark) refl
    where
      each : (x : Bool) → eqb count null_mark ≡ x → FitsRow (row_in area table count k)
      each true e = rw e tt
      each false e = let all : values_in count ≡ count = rw e in rw e (cells_fit count k aligned (rw all at inside))

  pub rows_fit : (rows : List ℕ) (k : ℕ) → k % entry_words ≡ 0 → k + entry_words * total rows ≤ length table → FitsRows (rows_from area rows table k)
  unfolding rows_from total
  rows_fit [] k aligned inside = tt
  rows_fit (count ∷ rows) k aligned inside =
      (row_fits count k aligned (omega arith), rows_fit rows (k + entry_words * values_in count) (omega arith) (omega arith))

-- tables that the checks let pass are sound
pub sound_tables : (area rows table : List ℕ) (n m : ℕ) → decide (check_lines area rows table) (accepted n []) ≡ accepted m [] → Sound area rows table
unfolding check_lines
sound_tables area rows table n m e =
    let all = sym (decide_append (bad_table_lines area rows table) (limit_lines rows table) (accepted n [])) ∙ e in
    let one = passes _ 18 _ _ m all in
    let two = passes _ 18 _ _ m one.1 in
    let three = passes _ 18 _ _ m two.1 in
    let four = passes _ 10 _ _ m three.1 in
    let whole : length table % entry_words ≡ 0 = eqb-true (length table % entry_words) 0 (not-false _ one.0) in
    let sums : eqb (total rows) (length table / entry_words) ≡ true = not-false _ two.0 in
    (tables_pass area rows table whole sums (first_bad (length area) table) refl (ltb-false _ _ three.0) (ltb-false max_rows (length rows) four.0)).0

pub tables_fit : (area rows table : List ℕ) (n m : ℕ) → Bytes area → Words table → decide (check_lines area rows table) (accepted n []) ≡ accepted m [] → FitsRows (rows_in area rows table)
tables_fit area rows table n m all-bytes All-words e =
    let sound = sound_tables area rows table n m e in
    rows_fit area table all-bytes All-words sound.good rows 0 refl (omega (arith, sound.whole))
