-- What the writers leave, piece by piece: a header, a blob, a value, the values of a row, the rows. Assumes nothing.
use mathlib.Core.Path.{◌≡◌, refl, sym, ◌∙◌, ap}
use mathlib.Core.Bool.{false}
use mathlib.Core.List.{List, [], ◌∷◌, ◌++◌, append_assoc}
use Prim.Native.Nat.{ℕ, suc, ◌+◌, ◌*◌, ◌%◌, ◌-◌, ◌<◌, ◌≤◌}
use native.Mathlib.Numerals.{add-one}
use native.Mathlib.Omega.{arith}
use lib.ListN.{length, get_or, drop, replicate, length-append, length-drop, length-replicate, drop_of_length-le}
use lib.Seq.{length-take-le, drop-cons}
use borrow.Rule.Slice.PartMut.{mid_of, put_mid}
use Rattle.words.specs.Word.{bytes_of}
use Rattle.words.specs.Buffer.{fitted, stretch}
use Rattle.words.proofs.WordLaws.{length_bytes_of, bytes_of_join, bytes_of_mod}
use Rattle.words.proofs.BufferLaws.{fitted_fits}
use Rattle.wire.specs.Layout.{entry_words, padding, values_in, payload_bytes, value_bytes, entry_bytes, values_bytes, row_bytes, rows_bytes, rowset_bytes}
use Rattle.wire_check.specs.Writing.{total, bad}
use Rattle.wire_write.specs.Stages.{Puts, header_bytes, blob_bytes}
use Rattle.wire_check.proofs.TableLaws.{total_more}
use Rattle.wire_write.proofs.FillingLaws.{Filling, begins, opens, ends, within, mid_room, step, closes, word_opens}
use Rattle.wire_write.proofs.LengthLaws.{good_blob, good_stretch, bytes_none, bytes_scalar, bytes_blob}

-- The header is one word

pub header_word : (id type aggregate n : ℕ)
    → bytes_of 8 (id % 65536 + 65536 * (type % 256 + 256 * (aggregate % 256 + 256 * (n % 4294967296)))) ≡ header_bytes id type aggregate n
header_word id type aggregate n =
    let four : ℕ = n % 4294967296 in
    let three : ℕ = aggregate % 256 + 256 * four in
    let two : ℕ = type % 256 + 256 * three in
    let a : bytes_of 8 (id % 65536 + 65536 * two) ≡ bytes_of 2 (id % 65536) ++ bytes_of 6 two = bytes_of_join 2 6 (id % 65536) two (omega arith) in
    let b : bytes_of 6 two ≡ bytes_of 1 (type % 256) ++ bytes_of 5 three = bytes_of_join 1 5 (type % 256) three (omega arith) in
    let c : bytes_of 5 three ≡ bytes_of 1 (aggregate % 256) ++ bytes_of 4 four = bytes_of_join 1 4 (aggregate % 256) four (omega arith) in
    let d : bytes_of 2 (id % 65536) ≡ bytes_of 2 id = bytes_of_mod 2 id in
    let e : bytes_of 1 (type % 256) ≡ bytes_of 1 type = bytes_of_mod 1 type in
    let f : bytes_of 1 (aggregate % 256) ≡ bytes_of 1 aggregate = bytes_of_mod 1 aggregate in
    let g : bytes_of 4 four ≡ bytes_of 4 n = bytes_of_mod 4 n in
    rw (a, b, c, d, e, f, g)

-- A blob: its bytes, then zeros

module _ (area before : List ℕ) (offset n : ℕ) (inside : offset + n ≤ length area) (room : length (blob_bytes area offset n) ≤ length before)
    (now : List ℕ) (first : now ≡ fitted (stretch area offset (offset + n - offset)) before) where
  blob_opens : Filling (blob_bytes area offset n) (replicate (padding n) 0) before now n
  blob_opens =
      let same : offset + n - offset ≡ n = omega arith in
      opens (stretch area offset n) (replicate (padding n) 0) n room (length-take-le n (drop offset area) (rw length-drop (omega arith))) (rw same at first)

  pub blob_within : n ≤ length now
  blob_within = omega (arith, within blob_opens)

  pub blob_puts : (after : List ℕ) → after ≡ fitted (replicate (padding n) 0) (mid_of n (length now - n) now)
      → Puts (blob_bytes area offset n) before (put_mid n (length now - n) now after) (n + padding n)
  blob_puts after e =
      closes (replicate (padding n) 0) blob_opens
      (sym (length-replicate {A = ℕ} (padding n) 0), e ∙ fitted_fits (replicate (padding n) 0) _ (mid_room blob_opens))

-- A value: its header's word stands over the front of what held `before`

module _ (area : List ℕ) (id type aggregate bits n : ℕ) (good : bad (length area) id type aggregate bits n ≡ false) (before : List ℕ)
    (room : length (value_bytes area id type aggregate bits n) ≤ length before)
    (word : ℕ) (spells : bytes_of 8 word ≡ header_bytes id type aggregate n) (now : List ℕ) (first : now ≡ fitted (bytes_of 8 word) before) where
  value_joins : value_bytes area id type aggregate bits n ≡ bytes_of 8 word ++ payload_bytes area type bits n
  unfolding value_bytes
  value_joins = rw spells (simp append_assoc)

  value_opens : (ws : List ℕ) → payload_bytes area type bits n ≡ ws → Filling (value_bytes area id type aggregate bits n) ws before now 8
  value_opens ws e =
      rw (value_joins, e) (word_opens word ws (rw (value_joins, e) at room) first)

  pub value_within : 8 ≤ length now
  value_within = omega (arith, within (value_opens _ refl))

  pub null_puts : type < 3 → Puts (value_bytes area id type aggregate bits n) before now 8
  null_puts h = ends (value_opens [] (bytes_none area type bits n h))

  pub scalar_puts : 3 ≤ type → type < 7 → (after : List ℕ) → after ≡ fitted (bytes_of 8 bits) (mid_of 8 (length now - 8) now)
      → Puts (value_bytes area id type aggregate bits n) before (put_mid 8 (length now - 8) now after) 16
  scalar_puts low high after e =
      let f : Filling (value_bytes area id type aggregate bits n) (bytes_of 8 bits) before now 8 = value_opens (bytes_of 8 bits) (bytes_scalar area type bits n low high) in
      closes (bytes_of 8 bits) f (sym (length_bytes_of 8 bits), e ∙ fitted_fits (bytes_of 8 bits) _ (mid_room f))

  module _ (high : 7 ≤ type) where
    blob_filling : Filling (value_bytes area id type aggregate bits n) (blob_bytes area bits n) before now 8
    blob_filling = value_opens (blob_bytes area bits n) (bytes_blob area type bits n (good_blob (length area) id type aggregate bits n good high))

    pub blob_room : (bits + n ≤ length area) × (length (blob_bytes area bits n) ≤ length (mid_of 8 (length now - 8) now))
    blob_room = (good_stretch (length area) id type aggregate bits n good high, mid_room blob_filling)

    pub value_puts : (after : List ℕ) (r : ℕ) → Puts (blob_bytes area bits n) (mid_of 8 (length now - 8) now) after r
        → Puts (value_bytes area id type aggregate bits n) before (put_mid 8 (length now - 8) now after) (8 + r)
    value_puts after r puts = closes (blob_bytes area bits n) blob_filling puts

-- Values: `left` of them are to be written at `at`, their entries from the word k on

abbrev pub ValuesToGo : List ℕ → List ℕ → ℕ → ℕ → List ℕ → List ℕ → ℕ → ℕ → ℕ → Type 0
ValuesToGo area values start count before now at k left =
    (k % entry_words ≡ 0)
    × (k + entry_words * left ≤ length values)
    × Filling (values_bytes area values count start) (values_bytes area values left k) before now at

module _ (area values : List ℕ) (start count : ℕ) (before now : List ℕ) (at k left : ℕ) (so_far : ValuesToGo area values start count before now at k left) where
  pub values_done : left ≤ 0 → Puts (values_bytes area values count start) before now at
  unfolding values_bytes
  values_done h =
      let none : left ≡ 0 = omega arith in
      let all : Filling (values_bytes area values count start) (values_bytes area values 0 k) before now at = rw none at so_far.2 in
      ends all

  module _ (some : 0 < left) where
    next_value_lem : Filling (values_bytes area values count start) (entry_bytes area values k ++ values_bytes area values (left - 1) (k + entry_words)) before now at
    unfolding values_bytes
    next_value_lem =
        let one_more : left ≡ suc (left - 1) = omega arith in
        rw (ap (λ (m : ℕ). values_bytes area values m k) one_more) at so_far.2

    pub entry_within : at ≤ length now
    entry_within = omega (arith, within next_value_lem)

    pub entry_room : length (entry_bytes area values k) ≤ length (mid_of at (length now - at) now)
    entry_room = omega (arith, mid_room next_value_lem, length-append (entry_bytes area values k) (values_bytes area values (left - 1) (k + entry_words)))

    pub values_step : (after : List ℕ) (r : ℕ) → Puts (entry_bytes area values k) (mid_of at (length now - at) now) after r
        → ValuesToGo area values start count before (put_mid at (length now - at) now after) (at + r) (k + entry_words) (left - 1)
    values_step after r puts = (omega arith, omega arith, step (entry_bytes area values k) (values_bytes area values (left - 1) (k + entry_words)) next_value_lem puts)

-- A row: its word stands over the front of what held `before`, and its n values are to come

module _ (area values : List ℕ) (count k : ℕ) (before : List ℕ) (room : length (row_bytes area values count k) ≤ length before)
    (now : List ℕ) (first : now ≡ fitted (bytes_of 8 count) before) (n : ℕ) (is : n ≡ values_in count) where
  row_filling : Filling (row_bytes area values count k) (values_bytes area values n k) before now 8
  unfolding row_bytes
  row_filling = rw is (word_opens count (values_bytes area values (values_in count) k) room first)

  pub word_within : 8 ≤ length now
  word_within = omega (arith, within row_filling)

  pub values_room : length (values_bytes area values n k) ≤ length (mid_of 8 (length now - 8) now)
  values_room = mid_room row_filling

  pub row_puts : (after : List ℕ) (r : ℕ) → Puts (values_bytes area values n k) (mid_of 8 (length now - 8) now) after r
      → Puts (row_bytes area values count k) before (put_mid 8 (length now - 8) now after) (8 + r)
  row_puts after r puts = closes (values_bytes area values n k) row_filling puts

-- Rows: those from i on are to be written at `at`, the entries of their values from the word k on

abbrev pub RowsToGo : List ℕ → List ℕ → List ℕ → List ℕ → List ℕ → ℕ → ℕ → ℕ → Type 0
RowsToGo area rows values before now at k i =
    (k % entry_words ≡ 0)
    × (k + entry_words * total (drop i rows) ≤ length values)
    × Filling (rows_bytes area rows values 0) (rows_bytes area (drop i rows) values k) before now at

pub rows_start : (area rows values before : List ℕ) → length values ≡ entry_words * total rows → length (rows_bytes area rows values 0) ≤ length before
    → RowsToGo area rows values before before 0 0 0
rows_start area rows values before whole room = (refl, omega arith, begins (rows_bytes area rows values 0) before room)

module _ (area rows values before now : List ℕ) (at k i : ℕ) (so_far : RowsToGo area rows values before now at k i) where
  pub rows_done : length rows ≤ i → Puts (rows_bytes area rows values 0) before now at
  unfolding rows_bytes
  rows_done h =
      let none : drop i rows ≡ [] = drop_of_length-le rows h in
      let all : Filling (rows_bytes area rows values 0) (rows_bytes area [] values k) before now at = rw none at so_far.2 in
      ends all

  module _ (some : i < length rows) where
    next_row : Filling (rows_bytes area rows values 0)
        (row_bytes area values (get_or rows i 0) k ++ rows_bytes area (drop (i + 1) rows) values (k + entry_words * values_in (get_or rows i 0))) before now at
    unfolding rows_bytes
    next_row =
        let one_more : drop i rows ≡ get_or rows i 0 ∷ drop (i + 1) rows = rw (add-one i) (drop-cons rows i 0 some) in
        rw (ap (λ (l : List ℕ). rows_bytes area l values k) one_more) at so_far.2

    pub row_within : at ≤ length now
    row_within = omega (arith, within next_row)

    pub row_fits : k + entry_words * values_in (get_or rows i 0) ≤ length values
    row_fits = omega (arith, total_more rows i some, so_far.1)

    pub row_room : length (row_bytes area values (get_or rows i 0) k) ≤ length (mid_of at (length now - at) now)
    row_room =
        omega (arith, mid_room next_row, length-append (row_bytes area values (get_or rows i 0) k) (rows_bytes area (drop (i + 1) rows) values (k + entry_words * values_in (get_or rows i 0))))

    pub rows_step : (after : List ℕ) (r : ℕ) → Puts (row_bytes area values (get_or rows i 0) k) (mid_of at (length now - at) now) after r
        → (n : ℕ) → n ≡ values_in (get_or rows i 0) → RowsToGo area rows values before (put_mid at (length now - at) now after) (at + r) (k + entry_words * n) (i + 1)
    rows_step after r puts n is =
        let more : total (drop i rows) ≡ values_in (get_or rows i 0) + total (drop (i + 1) rows) = total_more rows i some in
        let next : Filling (rows_bytes area rows values 0) (rows_bytes area (drop (i + 1) rows) values (k + entry_words * values_in (get_or rows i 0))) before (put_mid at (length now - at) now after) (at + r) =
        step (row_bytes area values (get_or rows i 0) k) (rows_bytes area (drop (i + 1) rows) values (k + entry_words * values_in (get_or rows i 0))) next_row puts in
        (omega arith, omega arith, rw is next)

-- The whole: the row count's word stands over the front

module _ (area rows values before : List ℕ) (room : length (rowset_bytes area rows values) ≤ length before)
    (now : List ℕ) (first : now ≡ fitted (bytes_of 8 (length rows)) before) where
  rowset_filling : Filling (rowset_bytes area rows values) (rows_bytes area rows values 0) before now 8
  unfolding rowset_bytes
  rowset_filling = word_opens (length rows) (rows_bytes area rows values 0) room first

  pub count_within : 8 ≤ length now
  count_within = omega (arith, within rowset_filling)

  pub rows_room : length (rows_bytes area rows values 0) ≤ length (mid_of 8 (length now - 8) now)
  rows_room = mid_room rowset_filling

  pub rowset_puts : (after : List ℕ) (r : ℕ) → Puts (rows_bytes area rows values 0) (mid_of 8 (length now - 8) now) after r
      → Puts (rowset_bytes area rows values) before (put_mid 8 (length now - 8) now after) (8 + r)
  rowset_puts after r puts = closes (rows_bytes area rows values 0) rowset_filling puts
