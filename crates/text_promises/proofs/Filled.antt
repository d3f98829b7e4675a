-- Tables that are filled from rows: they hold these rows, and where the rows keep the limits, the rowset writer's checks pass.
-- Assumes nothing.
use mathlib.Core.Path.{◌≡◌, refl, sym, ◌∙◌, ap}
use mathlib.Core.Bool.{Bool, true, false, not, ◌&&◌}
use mathlib.Core.List.{List, [], ◌∷◌, ◌++◌, append_assoc, append-nil}
use Prim.Native.Nat.{ℕ, zero, suc, ◌+◌, ◌*◌, ◌/◌, ◌<◌, ◌≤◌}
use native.Mathlib.Nat.{add-zero}
use native.Mathlib.Omega.{arith}
use lib.Dec.{ltb, eqb}
use lib.ListN.{length, get_or, take, drop, length-append}
use lib.Seq.{get_or-drop, drop-drop, drop-append_seam, take_at}
use borrow.Author.Tests.{le-ltb, eq-eqb, ne_eqb, ltb-true, eqb-true}
use Rattle.words.specs.Answer.{Answer}
use Rattle.words.specs.Decide.{decide}
use Rattle.words.specs.Word.{bytes_of}
use Rattle.words.proofs.DecideLaws.{first_all}
use Rattle.words.proofs.WordLaws.{length_bytes_of}
use Rattle.wire.specs.Layout.{null_mark, boolean, known, scalar, blob, payload, entry_words, max_values, max_length, max_size}
use Rattle.wire.specs.Content.{Content, nothing, word, bytes, Cell, Row, null, values, content_in, cell_in, cells_in, rows_from, rows_in, cell_bytes, cells_bytes, row_bytes, rows_bytes, bytes_of_rows}
use Rattle.wire.proofs.TypeLaws.{scalar_low, blob_low, known_scalar, known_blob, payload_none, payload_scalar, payload_blob}
use Rattle.wire_check.specs.Writing.{type_in, length_in, entries_in, total, bad, bad_entry, first_bad, value_size, values_size, value_order, count_order, check_lines}
use Rattle.wire_check.specs.Stages.{fit_values, fit_row, fit_rows, fitting}
use Rattle.wire_check.proofs.TableLaws.{tables_pass}
use Rattle.wire_check.proofs.LinesLaws.{check_lines_lem}
use Rattle.text_form.specs.Form.{FitsContent, FitsCell, FitsCells, FitsRows}
use Rattle.text_form.proofs.TextLaws.{both}
use Rattle.text_steps.specs.Tables.{blob_of, blobs, all_cells, fourth_word, fifth_word, entries_from, row_table, value_table, area_bytes}
use Rattle.text_steps.proofs.SizeLaws.{null_cell, word_cell, blob_cell, row_size_lem, null_size, blobs_join}
use Rattle.text_read.proofs.LineLaws.{entries_join, length_entries}
use Rattle.text_read.proofs.TextLaws.{length_row_table, length_value_table}
use Rattle.text_promises.specs.Texts.{CellsWithin, RowsWithin, WithinLimits}

-- what stands behind the front of a stretch
behind : (s a b : List ℕ) (at n : ℕ) → drop at s ≡ a ++ b → length a ≡ n → drop (at + n) s ≡ b
behind s a b at n e size = sym (drop-drop n at s) ∙ ap (drop n) e ∙ ap (λ (m : ℕ). drop m (a ++ b)) (sym size) ∙ drop-append_seam a b

word_there : (table : List ℕ) (k i : ℕ) (ws : List ℕ) → drop k table ≡ ws → get_or table (k + i) 0 ≡ get_or ws i 0
word_there table k i ws e = sym (get_or-drop k table i 0) ∙ ap (λ (l : List ℕ). get_or l i 0) e

scalar_range : (type : ℕ) → scalar type ≡ true → (2 < type) × (type < 7)
scalar_range type is = let x = both (ltb 2 type) (ltb type 7) is in (ltb-true 2 type x.0, ltb-true type 7 x.1)

blob_range : (type : ℕ) → blob type ≡ true → (15 < type) × (type < 19)
blob_range type is = let x = both (ltb 15 type) (ltb type 19) is in (ltb-true 15 type x.0, ltb-true type 19 x.1)

-- One value: the entry at the word k of the table is that of the cell

module _ (area table : List ℕ) (c : Cell) (k offset : ℕ) (tail rest : List ℕ) (fits : FitsCell c)
    (stands : drop k table ≡ entries_from offset (c ∷ []) ++ tail) (lies : drop offset area ≡ blob_of c.content ++ rest) where
  id_is : get_or table k 0 ≡ c.id
  unfolding entries_from
  id_is = ap (λ (i : ℕ). get_or table i 0) (sym (add-zero k)) ∙ word_there table k 0 _ stands

  type_is : get_or table (k + 1) 0 ≡ c.type
  unfolding entries_from
  type_is = word_there table k 1 _ stands

  aggregate_is : get_or table (k + 2) 0 ≡ c.aggregate
  unfolding entries_from
  aggregate_is = word_there table k 2 _ stands

  bits_is : get_or table (k + 3) 0 ≡ fourth_word offset c.content
  unfolding entries_from
  bits_is = word_there table k 3 _ stands

  length_is : get_or table (k + 4) 0 ≡ fifth_word c.content
  unfolding entries_from
  length_is = word_there table k 4 _ stands

  content_is : content_in area c.type (fourth_word offset c.content) (fifth_word c.content) ≡ c.content
  content_is = each c.content fits.content_fits lies
    where
      each : (content : Content) → FitsContent c.type content → drop offset area ≡ blob_of content ++ rest → content_in area c.type (fourth_word offset content) (fifth_word content) ≡ content
      each nothing is there = rw is
      each (word w) is there = let range = scalar_range c.type is.0 in rw (blob_low c.type (omega (arith, range.1)), is.0)
      each (bytes s) is there = rw is.0 (ap bytes (ap (take (length s)) there ∙ take_at s rest (length s) refl))

  cell_is : cell_in area table k ≡ c
  cell_is =
      let content : content_in area (get_or table (k + 1) 0) (get_or table (k + 3) 0) (get_or table (k + 4) 0) ≡ c.content = rw (type_is, bits_is, length_is) content_is in
      λ i. record { id = id_is i; type = type_is i; aggregate = aggregate_is i; content = content i }

  -- its bytes in a rowset
  size_is : value_size table k ≡ length (cell_bytes c)
  size_is = rw (type_is, length_is) (each c.content refl fits.content_fits)
    where
      each : (content : Content) → c.content ≡ content → FitsContent c.type content → 8 + payload c.type (fifth_word content) ≡ length (cell_bytes c)
      each nothing e is = ap (λ (n : ℕ). 8 + n) (payload_none c.type 0 (scalar_low c.type (omega arith)) (blob_low c.type (omega arith))) ∙ sym (null_cell c e)
      each (word w) e is = let range = scalar_range c.type is.0 in ap (λ (n : ℕ). 8 + n) (payload_scalar c.type 0 range.0 range.1) ∙ sym (word_cell c w e)
      each (bytes s) e is = let range = blob_range c.type is.0 in ap (λ (n : ℕ). 8 + n) (payload_blob c.type (length s) range.0 range.1) ∙ sym (blob_cell c s e)

  not_long : length (blob_of c.content) ≤ max_length → (blob (type_in table k) && ltb max_length (length_in table k)) ≡ false
  not_long h = rw (type_is, length_is) (each c.content fits.content_fits h)
    where
      each : (content : Content) → FitsContent c.type content → length (blob_of content) ≤ max_length → (blob c.type && ltb max_length (fifth_word content)) ≡ false
      each nothing is h = rw is
      each (word w) is h = let range = scalar_range c.type is.0 in rw (blob_low c.type (omega (arith, range.1)))
      each (bytes s) is h = rw is.0 (le-ltb max_length (length s) h)

  -- the tests of its words by which it would be bad, but for id and aggregate
  kept : offset + length (blob_of c.content) ≤ length area
      → (known c.type ≡ true) × ((eqb c.type 6 && ltb 1 (fourth_word offset c.content)) ≡ false) × ((eqb c.type 2 && not (eqb (fourth_word offset c.content) 0)) ≡ false)
      × ((not (blob c.type) && not (eqb (fifth_word c.content) 0)) ≡ false) × ((blob c.type && ltb (length area) (fourth_word offset c.content + fifth_word c.content)) ≡ false)
  kept = each c.content fits.content_fits
    where
      boolean_ok : (w : ℕ) → (c.type ≡ boolean → w ≤ 1) → (x : Bool) → eqb c.type 6 ≡ x → (eqb c.type 6 && ltb 1 w) ≡ false
      boolean_ok w bit true e = rw (e, le-ltb 1 w (bit (eqb-true c.type 6 e)))
      boolean_ok w bit false e = rw e

      each : (content : Content) → FitsContent c.type content → offset + length (blob_of content) ≤ length area
          → (known c.type ≡ true) × ((eqb c.type 6 && ltb 1 (fourth_word offset content)) ≡ false) × ((eqb c.type 2 && not (eqb (fourth_word offset content) 0)) ≡ false)
          × ((not (blob c.type) && not (eqb (fifth_word content) 0)) ≡ false) × ((blob c.type && ltb (length area) (fourth_word offset content + fifth_word content)) ≡ false)
      each nothing is h = (rw is, rw is, rw is, rw is, rw is)
      each (word w) is h =
          let range = scalar_range c.type is.0 in
          let other : blob c.type ≡ false = blob_low c.type (omega (arith, range.1)) in
          (known_scalar c.type range.0 range.1, boolean_ok w is.2 (eqb c.type 6) refl, rw (ne_eqb c.type 2 (λ e. omega (arith, range.0))), rw other, rw other)
      each (bytes s) is h =
          let range = blob_range c.type is.0 in (
            known_blob c.type range.0 range.1,
            rw (ne_eqb c.type 6 (λ e. omega (arith, range.0))),
            rw (ne_eqb c.type 2 (λ e. omega (arith, range.0))),
            rw is.0,
            rw is.0 (le-ltb (length area) (offset + length s) h),
          )

  not_bad : offset + length (blob_of c.content) ≤ length area → bad_entry (length area) table k ≡ false
  unfolding bad
  not_bad h =
      let all = kept h in
      rw (id_is, type_is, aggregate_is, bits_is, length_is, le-ltb 65535 c.id fits.id_fits, le-ltb 1 c.aggregate fits.aggregate_bit, all.0, all.1, all.2, all.3, all.4)

-- Values

unfolded : (offset : ℕ) (c : Cell) (cells : List Cell) (tail : List ℕ) → entries_from offset (c ∷ cells) ++ tail ≡ entries_from offset (c ∷ []) ++ (entries_from (offset + length (blob_of c.content)) cells ++ tail)
unfolding entries_from
unfolded offset c cells tail = refl

module _ (area table : List ℕ) where
  -- these cells stand in the table from the word k on, and their blobs in the area from this offset on
  record Stand (cells : List Cell) (k offset : ℕ) : Type 0 where
    tail : List ℕ
    rest : List ℕ
    stands : drop k table ≡ entries_from offset cells ++ tail
    lies : drop offset area ≡ blobs cells ++ rest

  module _ (c : Cell) (cells : List Cell) (k offset : ℕ) (there : Stand (c ∷ cells) k offset) where
    first_stands : drop k table ≡ entries_from offset (c ∷ []) ++ (entries_from (offset + length (blob_of c.content)) cells ++ there.tail)
    first_stands = there.stands ∙ unfolded offset c cells there.tail

    first_lies : drop offset area ≡ blob_of c.content ++ (blobs cells ++ there.rest)
    unfolding blobs
    first_lies = there.lies ∙ append_assoc (blob_of c.content) (blobs cells) there.rest

    others_stand : Stand cells (k + entry_words) (offset + length (blob_of c.content))
    others_stand =
        record {
          tail = there.tail;
          rest = there.rest;
          stands = behind table (entries_from offset (c ∷ [])) (entries_from (offset + length (blob_of c.content)) cells ++ there.tail) k entry_words first_stands (length_entries offset (c ∷ []));
          lies = behind area (blob_of c.content) (blobs cells ++ there.rest) offset (length (blob_of c.content)) first_lies refl;
        }

  cells_are : (cells : List Cell) (k offset : ℕ) → FitsCells cells → Stand cells k offset → cells_in area table (length cells) k ≡ cells
  unfolding cells_in
  cells_are [] k offset fit there = refl
  cells_are (c ∷ cells) k offset fit there =
      ap (λ (x : Cell). x ∷ cells_in area table (length cells) (k + entry_words)) (cell_is area table c k offset _ _ fit.0 (first_stands c cells k offset there) (first_lies c cells k offset there))
      ∙ ap (◌∷◌ c) (cells_are cells (k + entry_words) (offset + length (blob_of c.content)) fit.1 (others_stand c cells k offset there))

  values_pass : (cells : List Cell) (k offset size : ℕ) (rest : Answer) → FitsCells cells → CellsWithin cells → Stand cells k offset → size + length (cells_bytes cells) ≤ max_size
      → fit_values table (length cells) k size rest ≡ rest
  unfolding fit_values value_order cells_bytes
  values_pass [] k offset size rest fit within there h = refl
  values_pass (c ∷ cells) k offset size rest fit within there h =
      let first = first_stands c cells k offset there in
      let lie = first_lies c cells k offset there in
      let is = size_is area table c k offset _ _ fit.0 first lie in
      let both-sizes : length (cell_bytes c ++ cells_bytes cells) ≡ length (cell_bytes c) + length (cells_bytes cells) = length-append (cell_bytes c) (cells_bytes cells) in
      rw (not_long area table c k offset _ _ fit.0 first lie within.0, le-ltb max_size (size + value_size table k) (omega (arith, is)))
      (values_pass cells (k + entry_words) (offset + length (blob_of c.content)) (size + value_size table k) rest fit.1 within.1 (others_stand c cells k offset there) (omega (arith, is)))

  none_bad : (cells : List Cell) (k offset : ℕ) → FitsCells cells → Stand cells k offset → offset + length (blobs cells) ≤ length area → (i : ℕ) → i < length cells → bad_entry (length area) table (k + entry_words * i) ≡ false
  unfolding blobs
  none_bad [] k offset fit there h i less = absurd (omega arith)
  none_bad (c ∷ cells) k offset fit there h zero less =
      let place : k ≡ k + entry_words * 0 = omega arith in
      let sizes : length (blob_of c.content ++ blobs cells) ≡ length (blob_of c.content) + length (blobs cells) = length-append (blob_of c.content) (blobs cells) in
      rw (← place) (not_bad area table c k offset _ _ fit.0 (first_stands c cells k offset there) (first_lies c cells k offset there) (omega arith))
  none_bad (c ∷ cells) k offset fit there h (suc i) less =
      let place : k + entry_words + entry_words * i ≡ k + entry_words * suc i = omega arith in
      let sizes : length (blob_of c.content ++ blobs cells) ≡ length (blob_of c.content) + length (blobs cells) = length-append (blob_of c.content) (blobs cells) in
      rw place at (none_bad cells (k + entry_words) (offset + length (blob_of c.content)) fit.1 (others_stand c cells k offset there) (omega arith) i (omega arith))

  values_size_lem : (cells : List Cell) (k offset : ℕ) → FitsCells cells → Stand cells k offset → values_size table (length cells) k ≡ length (cells_bytes cells)
  unfolding values_size cells_bytes
  values_size_lem [] k offset fit there = refl
  values_size_lem (c ∷ cells) k offset fit there =
      omega (
        arith,
        size_is area table c k offset _ _ fit.0 (first_stands c cells k offset there) (first_lies c cells k offset there),
        values_size_lem cells (k + entry_words) (offset + length (blob_of c.content)) fit.1 (others_stand c cells k offset there),
        length-append (cell_bytes c) (cells_bytes cells),
      )

  front_stands : (xs ys : List Cell) (k offset : ℕ) → Stand (xs ++ ys) k offset → Stand xs k offset
  front_stands xs ys k offset there =
      record {
        tail = entries_from (offset + length (blobs xs)) ys ++ there.tail;
        rest = blobs ys ++ there.rest;
        stands = there.stands ∙ ap (λ (l : List ℕ). l ++ there.tail) (entries_join offset xs ys) ∙ append_assoc (entries_from offset xs) (entries_from (offset + length (blobs xs)) ys) there.tail;
        lies = there.lies ∙ ap (λ (l : List ℕ). l ++ there.rest) (blobs_join xs ys) ∙ append_assoc (blobs xs) (blobs ys) there.rest;
      }

  back_stands : (xs ys : List Cell) (k offset : ℕ) → Stand (xs ++ ys) k offset → Stand ys (k + entry_words * length xs) (offset + length (blobs xs))
  back_stands xs ys k offset there =
      let front = front_stands xs ys k offset there in
      record {
        tail = there.tail;
        rest = there.rest;
        stands = behind table (entries_from offset xs) (entries_from (offset + length (blobs xs)) ys ++ there.tail) k (entry_words * length xs)
            (there.stands ∙ ap (λ (l : List ℕ). l ++ there.tail) (entries_join offset xs ys) ∙ append_assoc (entries_from offset xs) (entries_from (offset + length (blobs xs)) ys) there.tail)
            (length_entries offset xs);
        lies = behind area (blobs xs) (blobs ys ++ there.rest) offset (length (blobs xs))
            (there.lies ∙ ap (λ (l : List ℕ). l ++ there.rest) (blobs_join xs ys) ∙ append_assoc (blobs xs) (blobs ys) there.rest) refl;
      }

  -- Rows

  no_mark : (cells : List Cell) → length cells ≤ max_values → eqb (length cells) null_mark ≡ false
  no_mark cells few = ne_eqb (length cells) null_mark (λ e. omega arith)

  rows_are : (rows : List Row) (k offset : ℕ) → FitsRows rows → RowsWithin rows → Stand (all_cells rows) k offset → rows_from area (row_table rows) table k ≡ rows
  unfolding rows_from row_table all_cells
  rows_are [] k offset fit within there = refl
  rows_are (null ∷ rows) k offset fit within there =
      let place : k + entry_words * 0 ≡ k = omega arith in
      rw place (ap (◌∷◌ null) (rows_are rows k offset fit.1 within.2 there))
  rows_are (values cells ∷ rows) k offset fit within there =
      let unmarked : eqb (length cells) null_mark ≡ false = no_mark cells within.0 in
      rw (unmarked, cells_are cells k offset fit.0 (front_stands cells (all_cells rows) k offset there))
      (ap (◌∷◌ (values cells)) (rows_are rows (k + entry_words * length cells) (offset + length (blobs cells)) fit.1 within.2 (back_stands cells (all_cells rows) k offset there)))

  rows_pass : (rows : List Row) (i k offset size : ℕ) (rest : Answer) → FitsRows rows → RowsWithin rows → Stand (all_cells rows) k offset → size + length (rows_bytes rows) ≤ max_size
      → fit_rows (row_table rows) table i k size rest ≡ rest
  unfolding fit_rows fit_row count_order row_table all_cells rows_bytes fit_values values_size
  rows_pass [] i k offset size rest fit within there h = refl
  rows_pass (null ∷ rows) i k offset size rest fit within there h =
      let place : k + entry_words * 0 ≡ k = omega arith in
      let sizes : length (row_bytes null ++ rows_bytes rows) ≡ length (row_bytes null) + length (rows_bytes rows) = length-append (row_bytes null) (rows_bytes rows) in
      rw (place, le-ltb max_size (size + 8) (omega (arith, null_size))) (rows_pass rows (i + 1) k offset (size + (8 + 0)) rest fit.1 within.2 there (omega (arith, null_size)))
  rows_pass (values cells ∷ rows) i k offset size rest fit within there h =
      let unmarked : eqb (length cells) null_mark ≡ false = no_mark cells within.0 in
      let front = front_stands cells (all_cells rows) k offset there in
      let sizes : length (row_bytes (values cells) ++ rows_bytes rows) ≡ length (row_bytes (values cells)) + length (rows_bytes rows) = length-append (row_bytes (values cells)) (rows_bytes rows) in
      let mine : length (row_bytes (values cells)) ≡ 8 + length (cells_bytes cells) = row_size_lem cells in
      let words : values_size table (length cells) k ≡ length (cells_bytes cells) = values_size_lem cells k offset fit.0 front in
      rw (unmarked, le-ltb max_size (size + 8) (omega arith), le-ltb max_values (length cells) within.0)
      (values_pass cells k offset (size + 8) _ fit.0 within.1 front (omega arith)
      ∙ rows_pass rows (i + 1) (k + entry_words * length cells) (offset + length (blobs cells)) (size + (8 + values_size table (length cells) k)) rest fit.1 within.2 (back_stands cells (all_cells rows) k offset there) (omega arith))

-- The tables and the area of rows

total_is : (rows : List Row) → RowsWithin rows → total (row_table rows) ≡ length (all_cells rows)
unfolding total row_table all_cells
total_is [] within = refl
total_is (null ∷ rows) within = omega (arith, total_is rows within.2)
total_is (values cells ∷ rows) within =
    let unmarked : eqb (length cells) null_mark ≡ false = ne_eqb (length cells) null_mark (λ e. omega (arith, within.0)) in
    rw unmarked (omega (arith, total_is rows within.2, length-append cells (all_cells rows)))

fits_join : (xs ys : List Cell) → FitsCells xs → FitsCells ys → FitsCells (xs ++ ys)
fits_join [] ys a b = b
fits_join (x ∷ xs) ys a b = (a.0, fits_join xs ys a.1 b)

fits_all : (rows : List Row) → FitsRows rows → FitsCells (all_cells rows)
unfolding all_cells
fits_all [] fit = tt
fits_all (null ∷ rows) fit = fits_all rows fit.1
fits_all (values cells ∷ rows) fit = fits_join cells (all_cells rows) fit.0 (fits_all rows fit.1)

module _ (rows : List Row) (fit : FitsRows rows) (within : WithinLimits rows) where
  all_stand : Stand (area_bytes rows) (value_table rows) (all_cells rows) 0 0
  unfolding value_table area_bytes
  all_stand = record { tail = []; rest = []; stands = sym (append-nil _); lies = sym (append-nil _) }

  -- they hold the rows
  pub tables_hold : rows_in (area_bytes rows) (row_table rows) (value_table rows) ≡ rows
  tables_hold = rows_are (area_bytes rows) (value_table rows) rows 0 0 fit within.0 all_stand

  whole_size : length (bytes_of_rows rows) ≡ 8 + length (rows_bytes rows)
  unfolding bytes_of_rows
  whole_size = length-append (bytes_of 8 (length rows)) (rows_bytes rows) ∙ rw (length_bytes_of 8 (length rows))

  no_bad : (i : ℕ) → 0 ≤ i → i < 0 + entries_in (value_table rows) → bad_entry (length (area_bytes rows)) (value_table rows) (entry_words * i) ≡ false
  unfolding area_bytes
  no_bad i low less =
      let place : 0 + entry_words * i ≡ entry_words * i = omega arith in
      rw place at (none_bad (area_bytes rows) (value_table rows) (all_cells rows) 0 0 (fits_all rows fit) all_stand (omega arith) i (omega (arith, length_value_table rows)))

  found : first_bad (length (area_bytes rows)) (value_table rows) ≡ 0 + entries_in (value_table rows)
  unfolding first_bad
  found = first_all (λ (i : ℕ). bad_entry (length (area_bytes rows)) (value_table rows) (entry_words * i)) 0 (entries_in (value_table rows)) no_bad

  -- and can be written
  pub tables_written : (rest : Answer) → decide (check_lines (area_bytes rows) (row_table rows) (value_table rows)) rest ≡ rest
  unfolding fitting
  tables_written rest =
      let count : length (value_table rows) ≡ entry_words * length (all_cells rows) = length_value_table rows in
      let sum : total (row_table rows) ≡ length (all_cells rows) = total_is rows within.0 in
      let none : entries_in (value_table rows) ≤ first_bad (length (area_bytes rows)) (value_table rows) = omega (arith, found) in
      check_lines_lem (area_bytes rows) (row_table rows) (value_table rows) rest
      ∙ (tables_pass (area_bytes rows) (row_table rows) (value_table rows) (omega arith) (eq-eqb (total (row_table rows)) (length (value_table rows) / entry_words) (omega arith)) (first_bad (length (area_bytes rows)) (value_table rows)) refl none (omega (arith, length_row_table rows, within.1))).1 _
      ∙ rows_pass (area_bytes rows) (value_table rows) rows 0 0 0 8 rest fit within.0 all_stand (omega (arith, whole_size, within.2))
