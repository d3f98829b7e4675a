-- One plain form: an input is plain exactly where it is what is written for the rows read from it. Assumes nothing.
use mathlib.Core.Path.{◌≡◌, refl, sym, ◌∙◌, ap}
use mathlib.Core.Bool.{true, false}
use mathlib.Core.List.{List, [], ◌∷◌, ◌++◌, append_assoc, append-nil}
use mathlib.Core.Logic.{◌⊎◌, ⊎_elim}
use Prim.Native.Nat.{ℕ, zero, suc, ◌+◌, ◌-◌, ◌*◌, ◌^◌, ◌<◌, ◌≤◌}
use native.Mathlib.Nat.{add-zero}
use native.Mathlib.Decide.{dec_lt}
use native.Mathlib.Omega.{arith}
use lib.Dec.{eqb}
use lib.ListN.{length, get_or, take, drop, replicate, take-append-drop, length-drop, drop_of_length-le}
use lib.Seq.{drop-cons, drop-drop, length-take-le, take_at}
use borrow.Author.Tests.{eqb-true, eq-eqb}
use Rattle.words.specs.Buffer.{stretch}
use Rattle.words.specs.Word.{word as word_at, bytes_of, Bytes}
use Rattle.words.proofs.WordLaws.{word_lt, bytes_of_word}
use Rattle.wire.specs.Layout.{null_mark, max_size, max_values, entry_words, boolean, scalar, blob, padding, payload, flag, bits_of, values_in, id_at, type_at, aggregate_at, length_at, scalar_at, count_at, next_value, next_values, next_row, next_rows, value_count, entry, fourth, fifth, entries, row_words, value_words}
use Rattle.wire.specs.Content.{bytes, Cell, rows_in, length_word, content_bytes, cell_bytes, cells_bytes, row_bytes, rows_bytes, bytes_of_rows}
use Rattle.promises.specs.RowContent.{content_at, cell_at, cells_at, row_at, rows_at, rows_of, GoodCell, GoodCells, GoodRow, GoodRows, Writable}
use Rattle.wire.proofs.LayoutLaws.{length_entries, length_row_words, length_value_words}
use Rattle.wire_read.specs.Reading.{end_of, values_of}
use Rattle.wire_read.specs.Plain.{plain}
use Rattle.wire_read.specs.Statement.{Decodes, TellsPlain}
use Rattle.wire_read.specs.declared.rowset.Decoded.{Decoded}
use Rattle.wire_read.proofs.RowLaws.{row_word}
use Rattle.wire_write.specs.Statement.{Encodes}
use Rattle.wire_check.specs.Writing.{total}
use Rattle.promises.specs.RowsetReader.{RowStands, ValueStands, Acceptable, EachValue}
use Rattle.promises.specs.RowsetWriter.{Allowed, Encodable, table_bytes}
use Rattle.promises.specs.Rowsets.{PlainAt, rows_read, values_read, WrittenBack, PlainIsWhatTheWriterWrites, OnePlainForm}
use Rattle.promises.proofs.CellRound.{by_test, drop_behind, one_byte, small_flag}
use Rattle.promises.proofs.ContentLaws.{length_cells_at, length_rows_at, total_read}
use Rattle.promises.proofs.TableContent.{word_there, entry_append, behind_entry, tables_filled}
use Rattle.promises.proofs.TableBytes.{null_type_lem, AllowedFrom}
use Rattle.promises.proofs.RowsetWriter.{rowset_writer_accepts}
use Rattle.promises.proofs.RowsetReader.{rowset_reader_accepts}
use Rattle.promises.proofs.PlainForm.{plain_exactly}
use Rattle.promises.proofs.PlainWritten.{written_plain}
use Rattle.promises.proofs.Rowsets.{read_fronts}
use Rattle.wire.specs.declared.error.WireError.{WireError}
use Rattle.std.specs.declared.result.Result.{Result}
use Rattle.std.specs.declared.result.Result.TheVariants.{Ok, Err}

flag_bit : (n : ℕ) → flag n ≤ 1
flag_bit n = by_test (eqb n 0) (λ t. rw t (omega arith)) (λ t. rw t (omega arith))

-- The bytes of a plain input are those of its content

module _ (s : List ℕ) (all : Bytes s) where
  -- the word that stands at `at`, and what is behind it
  step : (k at next n : ℕ) → at + k ≤ length s → at + k ≡ next → word_at k s at ≡ n → drop at s ≡ bytes_of k n ++ drop next s
  step k at next n there e is =
      sym (take-append-drop k (drop at s))
      ∙ ap (λ (x : List ℕ). x ++ drop k (drop at s)) (sym (bytes_of_word k s at all there))
      ∙ ap (λ (x : List ℕ). bytes_of k (word_at k s at) ++ x) (drop-drop k at s)
      ∙ ap (λ (m : ℕ). bytes_of k m ++ drop (at + k) s) is
      ∙ ap (λ (i : ℕ). bytes_of k n ++ drop i s) e

  zeros_front : (p k : ℕ) → ((i : ℕ) → i < p → get_or s (k + i) 0 ≡ 0) → k + p ≤ length s → drop k s ≡ replicate p 0 ++ drop (k + p) s
  zeros_front zero k h there = ap (λ (i : ℕ). drop i s) (sym (add-zero k))
  zeros_front (suc p) k h there =
      let here : get_or s k 0 ≡ 0 = ap (λ (i : ℕ). get_or s i 0) (sym (add-zero k)) ∙ h 0 (omega arith) in
      let one : suc k ≡ k + 1 = omega arith in
      let next : k + 1 + p ≡ k + suc p = omega arith in
      let others : drop (k + 1) s ≡ replicate p 0 ++ drop (k + 1 + p) s =
      zeros_front p (k + 1) (λ i less. let place : k + 1 + i ≡ k + suc i = omega arith in ap (λ (j : ℕ). get_or s j 0) place ∙ h (suc i) (omega arith)) (omega arith) in
      drop-cons s k 0 (omega arith) ∙ ap (λ (z : ℕ). z ∷ drop (suc k) s) here
      ∙ ap (◌∷◌ 0) (ap (λ (i : ℕ). drop i s) one ∙ others ∙ ap (λ (i : ℕ). replicate p 0 ++ drop i s) next)

  module _ (at : ℕ) (stands : ValueStands s at) where
    -- a blob's bytes are there
    blob_end : blob (type_at s at) ≡ true → next_value s at ≡ at + 8 + (length_at s at + padding (length_at s at))
    unfolding next_value payload
    blob_end is = rw is

    blob_size : blob (type_at s at) ≡ true → length (stretch s (at + 8) (length_at s at)) ≡ length_at s at
    blob_size is = length-take-le (length_at s at) (drop (at + 8) s) (rw (length-drop (at + 8) s) (omega (arith, blob_end is, stands.payload_there)))

    module _ (plain_at : PlainAt s at) where
      blob_stands : blob (type_at s at) ≡ true → drop (at + 8) s ≡ content_bytes (bytes (stretch s (at + 8) (length_at s at))) ++ drop (next_value s at) s
      blob_stands is =
          let n : ℕ = length_at s at in
          let b : List ℕ = stretch s (at + 8) n in
          let fill : drop (at + 8 + n) s ≡ replicate (padding n) 0 ++ drop (at + 8 + n + padding n) s =
          zeros_front (padding n) (at + 8 + n) (plain_at.padding_zero is) (omega (arith, blob_end is, stands.payload_there)) in
          let end : at + 8 + n + padding n ≡ next_value s at = omega (arith, blob_end is) in
          sym (take-append-drop n (drop (at + 8) s))
          ∙ ap (λ (x : List ℕ). b ++ x) (drop-drop n (at + 8) s ∙ fill ∙ ap (λ (i : ℕ). replicate (padding n) 0 ++ drop i s) end)
          ∙ sym (append_assoc b (replicate (padding n) 0) (drop (next_value s at) s))
          ∙ ap (λ (m : ℕ). (b ++ replicate (padding m) 0) ++ drop (next_value s at) s) (sym (blob_size is))

      scalar_stands : scalar (type_at s at) ≡ true → blob (type_at s at) ≡ false → drop (at + 8) s ≡ bytes_of 8 (bits_of (type_at s at) (scalar_at s at)) ++ drop (next_value s at) s
      unfolding next_value payload
      scalar_stands is isnt =
          let end : next_value s at ≡ at + 8 + 8 = rw (isnt, is) in
          let bits : scalar_at s at ≡ bits_of (type_at s at) (scalar_at s at) =
          by_test (eqb (type_at s at) boolean) (λ b. rw b (sym (small_flag (scalar_at s at) (plain_at.boolean_word (eqb-true (type_at s at) boolean b))))) (λ b. rw b) in
          step 8 (at + 8) (next_value s at) (bits_of (type_at s at) (scalar_at s at)) (omega (arith, end, stands.payload_there)) (sym end) bits

      none_stands : scalar (type_at s at) ≡ false → blob (type_at s at) ≡ false → drop (at + 8) s ≡ drop (next_value s at) s
      unfolding next_value payload
      none_stands none isnt = let end : next_value s at ≡ at + 8 = rw (isnt, none) (add-zero (at + 8)) in ap (λ (i : ℕ). drop i s) (sym end)

      content_stands : drop (at + 8) s ≡ content_bytes (content_at s at) ++ drop (next_value s at) s
      content_stands =
          by_test (blob (type_at s at)) (λ is. rw is (blob_stands is))
          (λ isnt. by_test (scalar (type_at s at)) (λ is. rw (isnt, is) (scalar_stands is isnt)) (λ none. rw (isnt, none) (none_stands none isnt)))

      length_is : length_at s at ≡ length_word (content_at s at)
      length_is =
          by_test (blob (type_at s at)) (λ is. rw is (sym (blob_size is)))
          (λ isnt. by_test (scalar (type_at s at)) (λ is. rw (isnt, is) (plain_at.length_word_lem isnt)) (λ none. rw (isnt, none) (plain_at.length_word_lem isnt)))

      cell_stands : drop at s ≡ cell_bytes (cell_at s at) ++ drop (next_value s at) s
      cell_stands =
          let tail : List ℕ = drop (next_value s at) s in
          let room : at + 8 ≤ length s = stands.header in
          let id : drop at s ≡ bytes_of 2 (id_at s at) ++ drop (at + 2) s = step 2 at (at + 2) (id_at s at) (omega arith) refl refl in
          let type : drop (at + 2) s ≡ bytes_of 1 (type_at s at) ++ drop (at + 3) s = step 1 (at + 2) (at + 3) (type_at s at) (omega arith) (omega arith) (one_byte s (at + 2)) in
          let aggregate : drop (at + 3) s ≡ bytes_of 1 (flag (aggregate_at s at)) ++ drop (at + 4) s =
          step 1 (at + 3) (at + 4) (flag (aggregate_at s at)) (omega arith) (omega arith) (one_byte s (at + 3) ∙ sym (small_flag (aggregate_at s at) plain_at.aggregate_byte)) in
          let size : drop (at + 4) s ≡ bytes_of 4 (length_word (content_at s at)) ++ drop (at + 8) s = step 4 (at + 4) (at + 8) (length_word (content_at s at)) (omega arith) (omega arith) length_is in
          let flat : cell_bytes (cell_at s at) ++ tail ≡ bytes_of 2 (id_at s at) ++ (bytes_of 1 (type_at s at) ++ (bytes_of 1 (flag (aggregate_at s at)) ++ (bytes_of 4 (length_word (content_at s at)) ++ (content_bytes (content_at s at) ++ tail)))) =
          simp append_assoc in
          id
          ∙ ap (λ (x : List ℕ). bytes_of 2 (id_at s at) ++ x)
          (type
          ∙ ap (λ (x : List ℕ). bytes_of 1 (type_at s at) ++ x)
          (aggregate ∙ ap (λ (x : List ℕ). bytes_of 1 (flag (aggregate_at s at)) ++ x) (size ∙ ap (λ (x : List ℕ). bytes_of 4 (length_word (content_at s at)) ++ x) content_stands)))
          ∙ sym flat

  cells_stand : (n at : ℕ) → ((j : ℕ) → j < n → ValueStands s (next_values s j at)) → ((j : ℕ) → j < n → PlainAt s (next_values s j at))
      → drop at s ≡ cells_bytes (cells_at s n at) ++ drop (next_values s n at) s
  unfolding cells_at cells_bytes next_values
  cells_stand zero at v p = refl
  cells_stand (suc n) at v p =
      cell_stands at (v 0 (omega arith)) (p 0 (omega arith))
      ∙ ap (λ (x : List ℕ). cell_bytes (cell_at s at) ++ x) (cells_stand n (next_value s at) (λ j less. v (suc j) (omega arith)) (λ j less. p (suc j) (omega arith)))
      ∙ sym (append_assoc (cell_bytes (cell_at s at)) (cells_bytes (cells_at s n (next_value s at))) (drop (next_values s n (next_value s at)) s))

  row_stands : (at : ℕ) → RowStands s at → ((j : ℕ) → j < values_in (count_at s at) → ValueStands s (next_values s j (at + 8)))
      → ((j : ℕ) → j < values_in (count_at s at) → PlainAt s (next_values s j (at + 8))) → drop at s ≡ row_bytes (row_at s at) ++ drop (next_row s at) s
  unfolding next_row next_values
  row_stands at row v p =
      by_test (eqb (count_at s at) null_mark)
      (λ t. rw t (step 8 at (at + 8) null_mark row.there refl (eqb-true (count_at s at) null_mark t)))
      (λ t.
      let n : ℕ = count_at s at in
      let cells : List Cell = cells_at s n (at + 8) in
      rw t
      (step 8 at (at + 8) (length cells) row.there refl (sym (length_cells_at s n (at + 8)))
      ∙ ap (λ (x : List ℕ). bytes_of 8 (length cells) ++ x) (cells_stand n (at + 8) (rw t at v) (rw t at p))
      ∙ sym (append_assoc (bytes_of 8 (length cells)) (cells_bytes cells) (drop (next_values s n (at + 8)) s))))

  rows_stand : (n at : ℕ) → ((k : ℕ) → k < n → RowStands s (next_rows s k at))
      → ((k j : ℕ) → k < n → j < values_in (count_at s (next_rows s k at)) → ValueStands s (next_values s j (next_rows s k at + 8)))
      → ((k j : ℕ) → k < n → j < values_in (count_at s (next_rows s k at)) → PlainAt s (next_values s j (next_rows s k at + 8)))
      → drop at s ≡ rows_bytes (rows_at s n at) ++ drop (next_rows s n at) s
  unfolding rows_at rows_bytes next_rows
  rows_stand zero at h v p = refl
  rows_stand (suc n) at h v p =
      row_stands at (h 0 (omega arith)) (λ j few. v 0 j (omega arith) few) (λ j few. p 0 j (omega arith) few)
      ∙ ap (λ (x : List ℕ). row_bytes (row_at s at) ++ x) (rows_stand n (next_row s at) (λ k less. h (suc k) (omega arith)) (λ k j less few. v (suc k) j (omega arith) few) (λ k j less few. p (suc k) j (omega arith) few))
      ∙ sym (append_assoc (row_bytes (row_at s at)) (rows_bytes (rows_at s n (next_row s at))) (drop (next_rows s n (next_row s at)) s))

  plain_bytes : Acceptable s → EachValue s (PlainAt s) → bytes_of_rows (rows_of s) ≡ s
  unfolding bytes_of_rows
  plain_bytes ok values =
      let head : s ≡ bytes_of 8 (length (rows_of s)) ++ drop 8 s = step 8 0 8 (length (rows_of s)) ok.there refl (sym (length_rows_at s (count_at s 0) 8)) in
      let rows : drop 8 s ≡ rows_bytes (rows_of s) ++ drop (end_of s) s = rows_stand (count_at s 0) 8 ok.rows ok.values values in
      let ends : drop (end_of s) s ≡ [] = drop_of_length-le s ok.nothing_behind in
      sym (head ∙ ap (λ (x : List ℕ). bytes_of 8 (length (rows_of s)) ++ x) (rows ∙ ap (λ (x : List ℕ). rows_bytes (rows_of s) ++ x) ends ∙ append-nil (rows_bytes (rows_of s))))

  -- The content of an acceptable input can be written

  bits_fit : (type n : ℕ) → n < 2 ^ 64 → bits_of type n < 2 ^ 64
  bits_fit type n h = by_test (eqb type boolean) (λ b. rw b (omega (arith, flag_bit n))) (λ b. rw b h)

  boolean_bits : (type n : ℕ) → type ≡ boolean → bits_of type n ≤ 1
  boolean_bits type n e = rw (eq-eqb type boolean e) (flag_bit n)

  cell_good : (at : ℕ) → ValueStands s at → GoodCell (cell_at s at)
  cell_good at v =
      record {
        id_fits = omega (arith, word_lt 2 s at all);
        aggregate_bit = flag_bit (aggregate_at s at);
        fits_type =
            by_test (blob (type_at s at)) (λ is. rw is (is, rw (blob_size at v is) (v.short is)))
            (λ isnt. by_test (scalar (type_at s at)) (λ is. rw (isnt, is) (is, bits_fit (type_at s at) (scalar_at s at) (word_lt 8 s (at + 8) all), boolean_bits (type_at s at) (scalar_at s at)))
            (λ none. rw (isnt, none) (null_type_lem (type_at s at) v.is_known none isnt)));
      }

  cells_good : (n at : ℕ) → ((j : ℕ) → j < n → ValueStands s (next_values s j at)) → GoodCells (cells_at s n at)
  unfolding cells_at next_values
  cells_good zero at v = tt
  cells_good (suc n) at v = (cell_good at (v 0 (omega arith)), cells_good n (next_value s at) (λ j less. v (suc j) (omega arith)))

  few_values : (count : ℕ) → eqb count null_mark ≡ false → (count ≡ null_mark) ⊎ (count ≤ max_values) → count ≤ max_values
  few_values count t few =
      ⊎_elim (λ (e : count ≡ null_mark). let never : true ≡ false = sym (eq-eqb count null_mark e) ∙ t in absurd (let z : ◌≡◌ {A = ℕ} 0 1 = cc in omega arith)) (λ (h : count ≤ max_values). h) few

  row_good : (at : ℕ) → RowStands s at → ((j : ℕ) → j < values_in (count_at s at) → ValueStands s (next_values s j (at + 8))) → GoodRow (row_at s at)
  row_good at row v =
      by_test (eqb (count_at s at) null_mark) (λ t. rw t tt)
      (λ t. rw t (rw (length_cells_at s (count_at s at) (at + 8)) (few_values (count_at s at) t row.few), cells_good (count_at s at) (at + 8) (rw t at v)))

  rows_good : (n at : ℕ) → ((k : ℕ) → k < n → RowStands s (next_rows s k at))
      → ((k j : ℕ) → k < n → j < values_in (count_at s (next_rows s k at)) → ValueStands s (next_values s j (next_rows s k at + 8))) → GoodRows (rows_at s n at)
  unfolding rows_at next_rows
  rows_good zero at h v = tt
  rows_good (suc n) at h v =
      (row_good at (h 0 (omega arith)) (λ j few. v 0 j (omega arith) few), rows_good n (next_row s at) (λ k less. h (suc k) (omega arith)) (λ k j less few. v (suc k) j (omega arith) few))

  content_good : Acceptable s → Writable (rows_of s)
  content_good ok = (rw (length_rows_at s (count_at s 0) 8) ok.few, rows_good (count_at s 0) 8 ok.rows ok.values)

  -- The tables that are read from it are allowed, entry by entry

  fourth_boolean : (at : ℕ) → type_at s at ≡ boolean → fourth s at ≤ 1
  unfolding fourth
  fourth_boolean at e = rw e (flag_bit (scalar_at s at))

  fourth_null : (at : ℕ) → type_at s at ≡ 2 → fourth s at ≡ 0
  unfolding fourth
  fourth_null at e = rw e

  fourth_blob : (at : ℕ) → blob (type_at s at) ≡ true → fourth s at ≡ at + 8
  unfolding fourth
  fourth_blob at is = rw is

  fifth_blob : (at : ℕ) → blob (type_at s at) ≡ true → fifth s at ≡ length_at s at
  unfolding fifth
  fifth_blob at is = rw is

  fifth_none : (at : ℕ) → blob (type_at s at) ≡ false → fifth s at ≡ 0
  unfolding fifth
  fifth_none at isnt = rw isnt

  module _ (table : List ℕ) where
    entry_allowed : (more : List ℕ) (k at : ℕ) → drop k table ≡ entry s at more → ValueStands s at → Allowed s table k
    unfolding entry
    entry_allowed more k at there v =
        let id : get_or table k 0 ≡ id_at s at = ap (λ (i : ℕ). get_or table i 0) (sym (add-zero k)) ∙ word_there table k 0 _ there in
        let type : get_or table (k + 1) 0 ≡ type_at s at = word_there table k 1 _ there in
        let aggregate : get_or table (k + 2) 0 ≡ flag (aggregate_at s at) = word_there table k 2 _ there in
        let bits : get_or table (k + 3) 0 ≡ fourth s at = word_there table k 3 _ there in
        let size : get_or table (k + 4) 0 ≡ fifth s at = word_there table k 4 _ there in
        record {
          id_fits = rw id (omega (arith, word_lt 2 s at all));
          is_known = rw type v.is_known;
          aggregate_bit = rw aggregate (flag_bit (aggregate_at s at));
          boolean_bit = λ is. rw bits (fourth_boolean at (sym type ∙ is));
          null_bits = λ is. bits ∙ fourth_null at (sym type ∙ is);
          no_length = λ isnt. size ∙ fifth_none at (rw type at isnt);
          lies = λ is.
              let b : blob (type_at s at) ≡ true = rw type at is in
              rw (bits, size, fourth_blob at b, fifth_blob at b) (omega (arith, blob_end at v b, v.payload_there));
          short = λ is. let b : blob (type_at s at) ≡ true = rw type at is in rw (size, fifth_blob at b) (v.short b);
        }

    -- m entries, and n behind them
    together : (m n k : ℕ) → AllowedFrom s table m k → AllowedFrom s table n (k + entry_words * m) → AllowedFrom s table (m + n) k
    together m n k first others i less = by_dec (dec_lt i m)
      where
        by_dec : Dec (i < m) → Allowed s table (k + entry_words * i)
        by_dec (yes h) = first i h
        by_dec (no h) = let place : k + entry_words * m + entry_words * (i - m) ≡ k + entry_words * i = omega arith in rw place at (others (i - m) (omega arith))

    one_allowed : (k : ℕ) → Allowed s table k → AllowedFrom s table 1 k
    one_allowed k here i less = let place : k ≡ k + entry_words * i = omega arith in rw place at here

    cells_allowed : (n k at : ℕ) (tail : List ℕ) → drop k table ≡ entries s n at ++ tail → ((j : ℕ) → j < n → ValueStands s (next_values s j at)) → AllowedFrom s table n k
    unfolding entries next_values
    cells_allowed zero k at tail there v = λ i less. absurd (omega arith)
    cells_allowed (suc n) k at tail there v =
        let more : List ℕ = entries s n (next_value s at) ++ tail in
        let first : drop k table ≡ entry s at more = there ∙ entry_append s at (entries s n (next_value s at)) tail in
        let others : AllowedFrom s table n (k + entry_words) = cells_allowed n (k + entry_words) (next_value s at) tail (behind_entry s table more k at first) (λ j less. v (suc j) (omega arith)) in
        let count : 1 + n ≡ suc n = omega arith in
        rw count at (together 1 n k (one_allowed k (entry_allowed more k at first (v 0 (omega arith)))) others)

    rows_allowed : (n k at : ℕ) (tail : List ℕ) → drop k table ≡ value_words s n at ++ tail
        → ((i j : ℕ) → i < n → j < values_in (count_at s (next_rows s i at)) → ValueStands s (next_values s j (next_rows s i at + 8))) → AllowedFrom s table (value_count s n at) k
    unfolding value_words value_count next_rows
    rows_allowed zero k at tail there v = λ i less. absurd (omega arith)
    rows_allowed (suc n) k at tail there v =
        let m : ℕ = values_in (count_at s at) in
        let others : List ℕ = value_words s n (next_row s at) ++ tail in
        let first : drop k table ≡ entries s m (at + 8) ++ others = there ∙ append_assoc (entries s m (at + 8)) (value_words s n (next_row s at)) tail in
        let behind : drop (k + entry_words * m) table ≡ others = drop_behind table (entries s m (at + 8)) others k (entry_words * m) first (length_entries s m (at + 8)) in
        together m (value_count s n (next_row s at)) k (cells_allowed m k (at + 8) others first (λ j few. v 0 j (omega arith) few))
        (rows_allowed n (k + entry_words * m) (next_row s at) tail behind (λ i j less few. v (suc i) j (omega arith) few))

  -- the tables that are read can be written, where the bytes are not too many
  module _ (ok : Acceptable s) where
    filled : rows_in s (row_words s (count_at s 0) 8) (value_words s (count_at s 0) 8) ≡ rows_of s
    filled = tables_filled s (value_words s (count_at s 0) 8) [] (sym (append-nil (value_words s (count_at s 0) 8)))

    tables_encodable : length (bytes_of_rows (rows_of s)) ≤ max_size → Encodable s (row_words s (count_at s 0) 8) (value_words s (count_at s 0) 8)
    tables_encodable small =
        let n : ℕ = count_at s 0 in
        let sum : total (row_words s n 8) ≡ value_count s n 8 = total_read s n 8 in
        record {
          whole = length_value_words s n 8 ∙ ap (λ (m : ℕ). entry_words * m) (sym sum);
          entries = λ i less. let place : 0 + entry_words * i ≡ entry_words * i = omega arith in rw place at (rows_allowed (value_words s n 8) n 0 8 [] (sym (append-nil (value_words s n 8))) ok.values i (rw sum at less));
          few_rows = rw (length_row_words s n 8) ok.few;
          counts = λ i less. let h : i < n = rw (length_row_words s n 8) at less in rw (row_word s n i 8 h) (ok.rows i h).few;
          small = rw filled small;
        }

-- The bytes of what is plain
plain_is : (s : List ℕ) → Bytes s → TellsPlain s true → bytes_of_rows (rows_of s) ≡ s
plain_is s all tells = let told = (plain_exactly s true tells).0 refl in plain_bytes s all told.1 told.2

pub one_plain_form : OnePlainForm
one_plain_form s t all-s all-t tells-s tells-t same = sym (plain_is s all-s tells-s) ∙ ap bytes_of_rows same ∙ plain_is t all-t tells-t

pub plain_is_what_the_writer_writes : PlainIsWhatTheWriterWrites
plain_is_what_the_writer_writes s says row_table value_table r rowTable' valueTable' out w after all tells room decodes wide encodes = (yes_written, written_yes r w decodes encodes)
  where
    yes_written : says ≡ true → WrittenBack s r w after
    yes_written is =
        let told = (plain_exactly s says tells).0 is in
        let ok : Acceptable s = told.1 in
        let same : bytes_of_rows (rows_of s) ≡ s = plain_bytes s all ok told.2 in
        let answer : r ≡ Ok record { rows = count_at s 0; values = values_of s } = (rowset_reader_accepts s row_table value_table r rowTable' valueTable' decodes).1 ok room in
        let fronts = read_fronts s row_table value_table (count_at s 0) (values_of s) rowTable' valueTable' (rw answer at decodes) in
        let given : Encodes s (row_words s (count_at s 0) 8) (value_words s (count_at s 0) 8) out w after = rw (answer, fronts.0, fronts.1) at encodes in
        let bytes_are : table_bytes s (row_words s (count_at s 0) 8) (value_words s (count_at s 0) 8) ≡ s = ap bytes_of_rows (filled s all ok) ∙ same in
        let writer = rowset_writer_accepts s (row_words s (count_at s 0) 8) (value_words s (count_at s 0) 8) out w after given in
        let wrote : w ≡ Ok (length (table_bytes s (row_words s (count_at s 0) 8) (value_words s (count_at s 0) 8))) = writer.1 (tables_encodable s all ok (rw same told.0)) (rw bytes_are wide) in
        let front = (writer.0 _ wrote).3 in
        rw (answer, wrote) (ap (take (length (table_bytes s (row_words s (count_at s 0) 8) (value_words s (count_at s 0) 8)))) front ∙ take_at _ _ _ refl ∙ bytes_are)

    written_yes : (r : Result Decoded WireError) (w : Result ℕ WireError) → Decodes s row_table value_table r rowTable' valueTable' → Encodes s (rows_read r rowTable') (values_read r valueTable') out w after → WrittenBack s r w after → says ≡ true
    written_yes (Ok d) (Ok size) read given same =
        let ok : Acceptable s = ((rowset_reader_accepts s row_table value_table (Ok d) rowTable' valueTable' read).0 d.rows d.values refl).0 in
        let fronts = read_fronts s row_table value_table d.rows d.values rowTable' valueTable' read in
        let writes : Encodes s (row_words s (count_at s 0) 8) (value_words s (count_at s 0) 8) out (Ok size) after = rw (fronts.0, fronts.1) at given in
        let wrote = (rowset_writer_accepts s (row_words s (count_at s 0) 8) (value_words s (count_at s 0) 8) out (Ok size) after writes).0 size refl in
        let is : s ≡ bytes_of_rows (rows_of s) = sym same ∙ ap (take size) wrote.3 ∙ take_at _ _ size (sym wrote.1) ∙ ap bytes_of_rows (filled s all ok) in
        let small : length (bytes_of_rows (rows_of s)) ≤ max_size = rw (filled s all ok) at wrote.0.small in
        tells ∙ ap plain is ∙ written_plain (rows_of s) (content_good s all ok) small
    written_yes (Ok d) (Err refusal) read given same = absurd same
    written_yes (Err refusal) w read given same = absurd same
