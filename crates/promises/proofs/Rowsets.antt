-- Every row in its place: the rowsets' theorems, from the laws of the crates that define reading and writing. Assumes nothing.
use mathlib.Core.Path.{◌≡◌, refl, sym, ◌∙◌, ap}
use mathlib.Core.List.{List, [], ◌∷◌, ◌++◌}
use Prim.Native.Nat.{ℕ, ◌+◌, ◌*◌, ◌/◌, ◌<◌, ◌≤◌}
use native.Mathlib.Omega.{arith}
use lib.ListN.{length, get_or, take, drop, length-drop}
use lib.Seq.{take_at, drop_at, get_or-take, take-append-le, drop-append-le}
use Rattle.words.specs.Answer.{Answer, accepted, afterwards}
use Rattle.words.specs.Buffer.{stretch, over}
use Rattle.wire.specs.Layout.{entry_words, values_in, count_at, next_rows, value_count, entries, row_words, value_words}
use Rattle.wire.proofs.LayoutLaws.{length_row_words, length_value_words}
use Rattle.wire_read.specs.Reading.{values_of}
use Rattle.wire_read.specs.Paper.{paper_decoded}
use Rattle.wire_read.specs.Statement.{Decodes}
use Rattle.wire_read.proofs.DecodeLaws.{decodes_told}
use Rattle.wire_read.proofs.RowLaws.{row_word, row_entries}
use Rattle.wire_check.specs.Writing.{total}
use Rattle.wire.specs.Content.{Row, rows_in, bytes_of_rows}
use Rattle.promises.specs.RowContent.{rows_of, Writable}
use Rattle.promises.specs.RowsetReader.{Acceptable, Roomy}
use Rattle.promises.specs.RowsetWriter.{Encodable}
use Rattle.promises.specs.Rowsets.{RowsInOrder, RowsByPlace, RowsetRoundTrip, RowsetEncodeThenDecode, WrittenIsPlain}
use Rattle.promises.proofs.ContentRound.{reads_passes, reads_rows}
use Rattle.promises.proofs.ContentLaws.{rows_at_place, total_read, values_before, same_words}
use Rattle.promises.proofs.TableContent.{tables_filled}
use Rattle.promises.proofs.TableBytes.{content_writable}
use Rattle.promises.proofs.RowsetWriter.{lets, from_front, rowset_writer_accepts}
use Rattle.promises.proofs.RowsetReader.{acceptable, rowset_reader_accepts}
use Rattle.promises.proofs.PlainWritten.{written_plain}
use Rattle.std.specs.declared.result.Result.TheVariants.{Ok}

-- the front of what was written over a table, and what is behind it
front : (ws xs : List ℕ) (n : ℕ) → length ws ≡ n → take n (over ws xs) ≡ ws
front ws xs n e = take_at ws (drop (length ws) xs) n e

kept : (ws xs : List ℕ) (n : ℕ) → length ws ≡ n → drop n (over ws xs) ≡ drop n xs
kept ws xs n e = drop_at ws (drop (length ws) xs) n e ∙ ap (λ (k : ℕ). drop k xs) e

-- a stretch of the front
stretch_front : (ws xs : List ℕ) (k n : ℕ) → k + n ≤ length ws → stretch (ws ++ xs) k n ≡ stretch ws k n
stretch_front ws xs k n h =
    ap (take n) (drop-append-le k ws xs (omega arith)) ∙ take-append-le n (drop k ws) xs (rw (length-drop k ws) (omega arith))

-- the entries of row i lie within those of all rows
row_within : (s : List ℕ) (n i at : ℕ) → i < n
    → entry_words * value_count s i at + entry_words * values_in (count_at s (next_rows s i at)) ≤ length (value_words s n at)
row_within s n i at h = rw (length_value_words s n at) (omega (arith, values_before s n i at h))

-- the fronts of the tables that reading filled
pub read_fronts : (s rows values : List ℕ) (n m : ℕ) (rows' values' : List ℕ) → Decodes s rows values (Ok record { rows = n; values = m }) rows' values'
    → (take n rows' ≡ row_words s (count_at s 0) 8) × (take (entry_words * m) values' ≡ value_words s (count_at s 0) 8)
read_fronts s rows values n m rows' values' decodes =
    let tables = decodes_told s rows values (Ok record { rows = n; values = m }) rows' values' decodes in
    let told = (rowset_reader_accepts s rows values (Ok record { rows = n; values = m }) rows' values' decodes).0 n m refl in (
      ap (take n) tables.0 ∙ front (row_words s (count_at s 0) 8) rows n (length_row_words s (count_at s 0) 8 ∙ sym told.2),
      ap (take (entry_words * m)) tables.1 ∙ front (value_words s (count_at s 0) 8) values (entry_words * m) (length_value_words s (count_at s 0) 8 ∙ ap (λ (k : ℕ). entry_words * k) (sym told.3)),
    )

-- "I prepared fisheries and opened dentistry" cannot happen: row i stands at row i.
pub rows_in_order : RowsInOrder
rows_in_order s rows values n m rows' values' decodes =
    let tables = decodes_told s rows values (Ok record { rows = n; values = m }) rows' values' decodes in
    let told = (rowset_reader_accepts s rows values (Ok record { rows = n; values = m }) rows' values' decodes).0 n m refl in
    let count : n ≡ count_at s 0 = told.2 in
    let all : m ≡ values_of s = told.3 in
    let rowLength : length (row_words s (count_at s 0) 8) ≡ n = length_row_words s (count_at s 0) 8 ∙ sym count in
    let valueLength : length (value_words s (count_at s 0) 8) ≡ entry_words * m = length_value_words s (count_at s 0) 8 ∙ ap (λ (k : ℕ). entry_words * k) (sym all) in
    let fronts = read_fronts s rows values n m rows' values' decodes in (
      count,
      all,
      (λ i less. sym (get_or-take n rows' i 0 less) ∙ ap (λ (l : List ℕ). get_or l i 0) fronts.0 ∙ row_word s (count_at s 0) i 8 (rw count at less)),
      (λ i less. row_stretch s i (rw count at less) values' values tables.1),
      ap (λ (l : List ℕ). rows_in s l values') fronts.0 ∙ tables_filled s values' (drop (length (value_words s (count_at s 0) 8)) values) tables.1,
      ap (drop n) tables.0 ∙ kept (row_words s (count_at s 0) 8) rows n rowLength,
      ap (drop (entry_words * m)) tables.1 ∙ kept (value_words s (count_at s 0) 8) values (entry_words * m) valueLength,
    )
  where
    row_stretch : (s : List ℕ) (i : ℕ) → i < count_at s 0 → (table before : List ℕ) → table ≡ over (value_words s (count_at s 0) 8) before
        → stretch table (entry_words * value_count s i 8) (entry_words * values_in (count_at s (next_rows s i 8)))
        ≡ entries s (values_in (count_at s (next_rows s i 8))) (next_rows s i 8 + 8)
    row_stretch s i less table before e =
        let ws : List ℕ = value_words s (count_at s 0) 8 in
        let k : ℕ = entry_words * value_count s i 8 in
        let n : ℕ = entry_words * values_in (count_at s (next_rows s i 8)) in
        let place : k + n ≤ length ws = row_within s (count_at s 0) i 8 less in
        ap (λ (l : List ℕ). stretch l k n) e ∙ stretch_front ws (drop (length ws) before) k n place ∙ row_entries s (count_at s 0) i 8 less

pub rows_by_place : RowsByPlace
rows_by_place s i h = rows_at_place s (count_at s 0) i 8 h

-- Content that is written is read back, nulls and empties in their places.
pub rowset_round_trip : RowsetRoundTrip
rowset_round_trip rows good = ((acceptable (bytes_of_rows rows) (accepted 0 []) (ap lets (reads_passes rows good (accepted 0 [])))).0, reads_rows rows good)

-- What is written has the plain form.
pub written_is_plain : WrittenIsPlain
written_is_plain rows says good small tells = tells ∙ written_plain rows good small

-- And so it is of the bytes that `encode_rowset` says it wrote.
pub rowset_encode_then_decode : RowsetEncodeThenDecode
rowset_encode_then_decode area rows values out n after row_table value_table r rowTable' valueTable' says words told roomy wide decodes tells =
    let wrote = (rowset_writer_accepts area rows values out (Ok n) after told).0 n refl in
    let ok : Encodable area rows values = wrote.0 in
    let content : List Row = rows_in area rows values in
    let good : Writable content = content_writable area values words rows ok.few_rows ok.counts (from_front area rows values ok.entries) in
    let is : take n after ≡ bytes_of_rows content = ap (take n) wrote.3 ∙ take_at (bytes_of_rows content) _ n (sym wrote.1) in
    let s : List ℕ = take n after in
    let round = rowset_round_trip content good in
    let accepts : Acceptable s = rw is round.0 in
    let held : rows_of s ≡ content = rw is round.1 in
    let same_rows : row_words s (count_at s 0) 8 ≡ rows = same_words s area rows values (count_at s 0) 8 0 held in
    let count : count_at s 0 ≡ length rows = sym (length_row_words s (count_at s 0) 8) ∙ ap length same_rows in
    let sum : values_of s ≡ total rows = sym (total_read s (count_at s 0) 8) ∙ ap total same_rows in
    let all : length values ≡ entry_words * total rows = ok.whole in
    let room : Roomy s row_table value_table = record { for_rows = omega (arith, count); for_values = omega (arith, sum) } in
    let answer : r ≡ Ok record { rows = count_at s 0; values = values_of s } = (rowset_reader_accepts s row_table value_table r rowTable' valueTable' decodes).1 accepts room in
    let entries : values_of s ≡ length values / entry_words = omega (arith, sum) in
    let inOrder = rows_in_order s row_table value_table (count_at s 0) (values_of s) rowTable' valueTable' (rw answer at decodes) in
    let taken : paper_decoded r ≡ accepted 0 (count_at s 0 ∷ values_of s ∷ []) = ap paper_decoded answer in (
      answer ∙ ap (λ (k : ℕ). Ok record { rows = k; values = values_of s }) count ∙ ap (λ (k : ℕ). Ok record { rows = length rows; values = k }) entries,
      (decodes_told s row_table value_table r rowTable' valueTable' decodes).0 ∙ ap (λ (a : Answer). afterwards a (row_words s (count_at s 0) 8) row_table) taken ∙ ap (λ (ws : List ℕ). over ws row_table) same_rows,
      ap (λ (k : ℕ). rows_in s (take k rowTable') valueTable') (sym count) ∙ inOrder.4 ∙ held,
      tells ∙ rw is (written_plain content good (omega (arith, ok.small))),
    )
