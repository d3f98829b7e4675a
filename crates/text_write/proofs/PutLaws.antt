-- What the writers leave, piece by piece: a head, a blob's bytes, a value, the values of a row, the rows. Assumes nothing.
use mathlib.Core.Path.{◌≡◌, refl, sym, ◌∙◌, ap}
use mathlib.Core.Bool.{true, false}
use mathlib.Core.List.{List, [], ◌∷◌, ◌++◌, append_assoc}
use Prim.Native.Nat.{ℕ, suc, ◌+◌, ◌*◌, ◌-◌, ◌/◌, ◌%◌, ◌<◌, ◌≤◌}
use native.Mathlib.Omega.{arith}
use lib.ListN.{length, get_or, set, take, drop, length-append}
use borrow.Author.Tests.{eq-eqb, ne_eqb}
use borrow.Rule.Slice.PartMut.{mid_of, put_mid}
use Rattle.words.specs.Buffer.{over, fitted}
use Rattle.words.specs.Decide.{pick, ◌=?◌}
use Rattle.words.proofs.BufferLaws.{over_store, length_over, fitted_fits}
use Rattle.numerals.specs.Statement.{decimal}
use Rattle.numerals.proofs.SpelledLaws.{Storing, digits_stored}
use Rattle.wire.specs.Layout.{entry_words, flag, values_in}
use Rattle.wire.specs.Content.{Row, content_in, row_in}
use Rattle.wire_check.specs.Writing.{total}
use Rattle.wire_check.proofs.TableLaws.{total_more}
use Rattle.wire_write.specs.Stages.{Puts}
use Rattle.words.proofs.FillingLaws as Laws
use Rattle.wire_write.proofs.FillingLaws.{Filling, begins, opens, ends, within, mid_room, step, closes, room_left, length_now}
use Rattle.text_form.specs.Form.{tab, line_feed, null_sign, letter_of, escaped, capital, unit, units, hexes, content_text, head, cell_text, row_text}
use Rattle.text_size.specs.Stages.{value_text, entry_text, values_text, rows_text}
use Rattle.text_size.proofs.SizeLaws.{same_stretch, head_length, units_more, units_none, hexes_lowest, length_hexes, text_null, text_scalar, text_blob, values_more, values_none, rows_more, rows_none}

-- one byte, stored where the next goes
pub store : (b : ℕ) (rest : List ℕ) (next : ℕ) {whole before now : List ℕ} {at : ℕ} → at + 1 ≡ next → Filling whole (b ∷ rest) before now at
    → Filling whole rest before (set now at b) next
store b rest next {whole} {before} {now} {at} reach f =
    let so_far : length f.done ≡ at = f.reached in
    let left : at + suc (length rest) ≤ length before = room_left f in
    record {
      done = f.done ++ b ∷ [];
      joins = append_assoc f.done (b ∷ []) rest ∙ f.joins;
      reached = length-append f.done (b ∷ []) ∙ omega arith;
      fits = f.fits;
      holds = ap (λ (l : List ℕ). set l at b) f.holds ∙ over_store f.done before at b 0 so_far (omega arith);
    }

-- Id, colon, sign and letter

module _ (id aggregate mark : ℕ) where
  head_plain : aggregate ≡ 0 → head id aggregate ++ mark ∷ [] ≡ decimal id ++ 58 ∷ mark ∷ []
  unfolding head
  head_plain e = rw (eq-eqb aggregate 0 e) (append_assoc (decimal id) (58 ∷ []) (mark ∷ []))

  head_signed : (aggregate ≡ 0 → ⊥) → head id aggregate ++ mark ∷ [] ≡ decimal id ++ 58 ∷ 33 ∷ mark ∷ []
  unfolding head
  head_signed e = rw (ne_eqb aggregate 0 e) (append_assoc (decimal id) (58 ∷ 33 ∷ []) (mark ∷ []))

  module _ (before : List ℕ) (room : length (head id aggregate) < length before) (n : ℕ) (is : n ≡ length (decimal id)) (now : List ℕ) (first : now ≡ fitted (decimal id) before) where
    whole_room : length (head id aggregate ++ mark ∷ []) ≤ length before
    whole_room = rw (length-append (head id aggregate) (mark ∷ [])) (omega arith)

    filling : (rest : List ℕ) → head id aggregate ++ mark ∷ [] ≡ decimal id ++ rest → Filling (head id aggregate ++ mark ∷ []) rest before now n
    filling rest e =
        rw e (opens (decimal id) rest n (rw e at whole_room) (sym is) first)

    pub colon_within : n + 1 < length now
    colon_within =
        let digits : length (head id aggregate) ≡ length (decimal id) + 1 + flag aggregate = head_length id aggregate in
        let fits : length (decimal id) ≤ length before = omega arith in
        let same : length now ≡ length before = ap length (first ∙ fitted_fits (decimal id) before fits) ∙ length_over (decimal id) before fits in
        omega arith

    module _ (e : aggregate ≡ 0 → ⊥) where
      signed_filling : Filling (head id aggregate ++ mark ∷ []) (58 ∷ 33 ∷ mark ∷ []) before now n
      signed_filling = filling (58 ∷ 33 ∷ mark ∷ []) (head_signed e)

      pub sign_within : n + 2 < length now
      sign_within = omega (arith, within signed_filling)

      pub signed_puts : Puts (head id aggregate ++ mark ∷ []) before (set (set (set now n 58) (n + 1) 33) (n + 2) mark) (n + 3)
      signed_puts = ends (store mark [] (n + 3) (omega arith) (store 33 (mark ∷ []) (n + 2) (omega arith) (store 58 (33 ∷ mark ∷ []) (n + 1) refl signed_filling)))

    pub plain_puts : aggregate ≡ 0 → Puts (head id aggregate ++ mark ∷ []) before (set (set now n 58) (n + 1) mark) (n + 2)
    plain_puts e = ends (store mark [] (n + 2) (omega arith) (store 58 (mark ∷ []) (n + 1) refl (filling (58 ∷ mark ∷ []) (head_plain e))))

-- A scalar's digits

pub word_start : (w : ℕ) (before : List ℕ) → 16 ≤ length before → Storing 16 (hexes 16 w) before before 16 w
word_start w before room = record { same_length = refl; room = room; comes = ap (λ (ws : List ℕ). over ws before) (sym (hexes_lowest 16 w)) }

pub word_puts : (w : ℕ) (before now : List ℕ) (left rest : ℕ) → 16 ≤ length before → Storing 16 (hexes 16 w) before now left rest → left ≤ 0 → Puts (hexes 16 w) before now 16
word_puts w before now left rest room s none =
    let size : length (hexes 16 w) ≡ 16 = length_hexes 16 w in
    (sym size, digits_stored s none (omega arith) ∙ fitted_fits (hexes 16 w) before (omega arith))

-- A blob's byte

module _ (b : ℕ) (before : List ℕ) (room : length (unit b) ≤ length before) where
  module _ (is : escaped b ≡ true) where
    unit_is : unit b ≡ 37 ∷ capital (b / 16) ∷ capital (b % 16) ∷ []
    unfolding unit
    unit_is = rw is

    pub escape_within : 3 ≤ length before
    escape_within = omega (arith, ap length unit_is)

    pub escape_puts : (high low : ℕ) → high ≡ capital (b / 16) → low ≡ capital (b % 16) → Puts (unit b) before (set (set (set before 0 37) 1 high) 2 low) 3
    escape_puts high low e f =
        let first : Filling (unit b) (37 ∷ high ∷ low ∷ []) before before 0 = rw (e, f, ← unit_is) (begins (unit b) before room) in
        ends (store low [] 3 refl (store high (low ∷ []) 2 refl (store 37 (high ∷ low ∷ []) 1 refl first)))

  module _ (isnt : escaped b ≡ false) where
    itself : unit b ≡ b ∷ []
    unfolding unit
    itself = rw isnt

    pub itself_within : 1 ≤ length before
    itself_within = omega (arith, ap length itself)

    pub itself_puts : Puts (unit b) before (set before 0 b) 1
    itself_puts =
        let first : Filling (unit b) (b ∷ []) before before 0 = rw (← itself) (begins (unit b) before room) in
        ends (store b [] 1 refl first)

-- A blob's bytes: those from i on are to be written at `at`

abbrev pub UnitsToGo : List ℕ → List ℕ → List ℕ → ℕ → ℕ → Type 0
UnitsToGo s before now at i = Filling (units s) (units (drop i s)) before now at

pub units_start : (s before : List ℕ) → length (units s) ≤ length before → UnitsToGo s before before 0 0
units_start s before room = begins (units s) before room

module _ (s before now : List ℕ) (at i : ℕ) (so_far : UnitsToGo s before now at i) where
  pub units_done : length s ≤ i → Puts (units s) before now at
  units_done h = ends (rw (units_none s i h) at so_far)

  module _ (some : i < length s) where
    next_unit : Filling (units s) (unit (get_or s i 0) ++ units (drop (i + 1) s)) before now at
    next_unit = rw (units_more s i some) at so_far

    pub unit_within : at ≤ length now
    unit_within = omega (arith, within next_unit)

    pub unit_room : length (unit (get_or s i 0)) ≤ length (mid_of at (length now - at) now)
    unit_room = omega (arith, mid_room next_unit, length-append (unit (get_or s i 0)) (units (drop (i + 1) s)))

    pub units_step : (after : List ℕ) (r : ℕ) → Puts (unit (get_or s i 0)) (mid_of at (length now - at) now) after r
        → UnitsToGo s before (put_mid at (length now - at) now after) (at + r) (i + 1)
    units_step after r puts = step (unit (get_or s i 0)) (units (drop (i + 1) s)) next_unit puts

-- A value: its head stands over the front of what held `before`

module _ (area : List ℕ) (id type aggregate bits n : ℕ) (before : List ℕ) (room : length (value_text area id type aggregate bits n) ≤ length before) where
  -- the head has room whatever the type
  pub head_room : length (head id aggregate) < length before
  unfolding cell_text
  head_room = omega (arith, length-append (head id aggregate) (letter_of type ∷ content_text (content_in area type bits n)))

  module _ (mark : ℕ) (is : mark ≡ letter_of type) (now : List ℕ) (at : ℕ) (first : Puts (head id aggregate ++ mark ∷ []) before now at) where
    value_filling : (rest : List ℕ) → value_text area id type aggregate bits n ≡ head id aggregate ++ letter_of type ∷ rest → Filling (value_text area id type aggregate bits n) rest before now at
    value_filling rest e =
        let same : value_text area id type aggregate bits n ≡ (head id aggregate ++ mark ∷ []) ++ rest =
        e ∙ ap (λ (l : ℕ). head id aggregate ++ l ∷ rest) (sym is) ∙ sym (append_assoc (head id aggregate) (mark ∷ []) rest) in
        rw same (Laws.opens (head id aggregate ++ mark ∷ []) rest at (rw same at room) (sym first.0) first.1)

    pub null_puts : type < 3 → Puts (value_text area id type aggregate bits n) before now at
    null_puts low = ends (value_filling [] (text_null area id type aggregate bits n low))

    module _ (low : 2 < type) (high : type < 7) where
      scalar_filling : Filling (value_text area id type aggregate bits n) (hexes 16 bits) before now at
      scalar_filling = value_filling (hexes 16 bits) (text_scalar area id type aggregate bits n low high)

      pub scalar_within : at ≤ length now
      scalar_within = omega (arith, within scalar_filling)

      pub scalar_room : 16 ≤ length (mid_of at (length now - at) now)
      scalar_room = omega (arith, mid_room scalar_filling, length_hexes 16 bits)

      pub scalar_puts : (after : List ℕ) (r : ℕ) → Puts (hexes 16 bits) (mid_of at (length now - at) now) after r
          → Puts (value_text area id type aggregate bits n) before (put_mid at (length now - at) now after) (at + r)
      scalar_puts after r puts = closes (hexes 16 bits) scalar_filling puts

    module _ (low : 15 < type) (high : type < 19) where
      blob_filling : Filling (value_text area id type aggregate bits n) (units (take (bits + n - bits) (drop bits area))) before now at
      blob_filling = value_filling _ (text_blob area id type aggregate bits n low high ∙ ap (λ (l : List ℕ). head id aggregate ++ letter_of type ∷ l) (sym (same_stretch area bits n)))

      pub blob_within : at ≤ length now
      blob_within = omega (arith, within blob_filling)

      pub blob_room : length (units (take (bits + n - bits) (drop bits area))) ≤ length (mid_of at (length now - at) now)
      blob_room = mid_room blob_filling

      pub blob_puts : (after : List ℕ) (r : ℕ) → Puts (units (take (bits + n - bits) (drop bits area))) (mid_of at (length now - at) now) after r
          → Puts (value_text area id type aggregate bits n) before (put_mid at (length now - at) now after) (at + r)
      blob_puts after r puts = closes (units (take (bits + n - bits) (drop bits area))) blob_filling puts

-- Values: `left` of them are to be written at `at`, their entries from the word k on

abbrev pub ValuesToGo : List ℕ → List ℕ → ℕ → ℕ → List ℕ → List ℕ → ℕ → ℕ → ℕ → Type 0
ValuesToGo area table start count before now at k left =
    (k % entry_words ≡ 0)
    × (k + entry_words * left ≤ length table)
    × Filling (values_text area table count start) (values_text area table left k) before now at

module _ (area table : List ℕ) (start count : ℕ) (before now : List ℕ) (at k left : ℕ) (so_far : ValuesToGo area table start count before now at k left) where
  pub values_done : left ≤ 0 → Puts (values_text area table count start) before now at
  values_done none =
      let all : Filling (values_text area table count start) [] before now at = rw (values_none area table left k none) at so_far.2 in
      ends all

  module _ (some : 0 < left) where
    next_value_lem : Filling (values_text area table count start) (entry_text area table k ++ pick (left =? 1) line_feed tab ∷ values_text area table (left - 1) (k + entry_words)) before now at
    next_value_lem = rw (values_more area table left k some) at so_far.2

    pub entry_within : at ≤ length now
    entry_within = omega (arith, within next_value_lem)

    pub entry_room : length (entry_text area table k) ≤ length (mid_of at (length now - at) now)
    entry_room = omega (arith, mid_room next_value_lem, length-append (entry_text area table k) (pick (left =? 1) line_feed tab ∷ values_text area table (left - 1) (k + entry_words)))

    module _ (after : List ℕ) (r : ℕ) (puts : Puts (entry_text area table k) (mid_of at (length now - at) now) after r) where
      behind_entry : Filling (values_text area table count start) (pick (left =? 1) line_feed tab ∷ values_text area table (left - 1) (k + entry_words)) before (put_mid at (length now - at) now after) (at + r)
      behind_entry = step (entry_text area table k) (pick (left =? 1) line_feed tab ∷ values_text area table (left - 1) (k + entry_words)) next_value_lem puts

      pub separator_within : at + r < length (put_mid at (length now - at) now after)
      separator_within = omega (arith, within behind_entry)

      pub separator_length : length (put_mid at (length now - at) now after) ≡ length before
      separator_length = length_now behind_entry

      pub values_step : (b : ℕ) → b ≡ pick (left =? 1) line_feed tab → (fewer : ℕ) → fewer ≡ left - 1
          → ValuesToGo area table start count before (set (put_mid at (length now - at) now after) (at + r) b) (at + r + 1) (k + entry_words) fewer
      values_step b e fewer is =
          let next : Filling (values_text area table count start) (b ∷ values_text area table (left - 1) (k + entry_words)) before (put_mid at (length now - at) now after) (at + r) = rw e behind_entry in
          rw is (omega arith, omega arith, store b (values_text area table (left - 1) (k + entry_words)) (at + r + 1) refl next)

-- A row without values, and one with them

pub same_puts : (ws ws' before after : List ℕ) (n : ℕ) → ws ≡ ws' → Puts ws' before after n → Puts ws before after n
same_puts ws ws' before after n e puts = rw e puts

module _ (before line : List ℕ) (row : Row) (is : row_text row ≡ line) (room : length (row_text row) ≤ length before) where
  pub line_within : length line ≤ length before
  line_within = omega (arith, ap length is)

  line_filling : Filling (row_text row) line before before 0
  line_filling = rw is (begins line before (rw is at room))

pub null_line : (before : List ℕ) (row : Row) → row_text row ≡ null_sign ∷ line_feed ∷ [] → length (row_text row) ≤ length before → Puts (row_text row) before (set (set before 0 35) 1 10) 2
null_line before row is room = ends (store 10 [] 2 refl (store 35 (10 ∷ []) 1 refl (line_filling before (35 ∷ 10 ∷ []) row is room)))

pub empty_line : (before : List ℕ) (row : Row) → row_text row ≡ line_feed ∷ [] → length (row_text row) ≤ length before → Puts (row_text row) before (set before 0 10) 1
empty_line before row is room = ends (store 10 [] 1 refl (line_filling before (10 ∷ []) row is room))

-- Rows: those from i on are to be written at `at`, the entries of their values from the word k on

abbrev pub RowsToGo : List ℕ → List ℕ → List ℕ → List ℕ → List ℕ → ℕ → ℕ → ℕ → Type 0
RowsToGo area rows table before now at k i =
    (k % entry_words ≡ 0)
    × (k + entry_words * total (drop i rows) ≤ length table)
    × Filling (rows_text area rows table 0) (rows_text area (drop i rows) table k) before now at

pub rows_start : (area rows table before : List ℕ) → length table ≡ entry_words * total rows → length (rows_text area rows table 0) ≤ length before
    → RowsToGo area rows table before before 0 0 0
rows_start area rows table before whole room = (refl, omega arith, begins (rows_text area rows table 0) before room)

module _ (area rows table before now : List ℕ) (at k i : ℕ) (so_far : RowsToGo area rows table before now at k i) where
  pub rows_done : length rows ≤ i → Puts (rows_text area rows table 0) before now at
  rows_done h =
      let all : Filling (rows_text area rows table 0) [] before now at = rw (rows_none area rows table i k h) at so_far.2 in
      ends all

  module _ (some : i < length rows) where
    next_row : Filling (rows_text area rows table 0)
        (row_text (row_in area table (get_or rows i 0) k) ++ rows_text area (drop (i + 1) rows) table (k + entry_words * values_in (get_or rows i 0))) before now at
    next_row = rw (rows_more area rows table i k some) at so_far.2

    pub row_within : at ≤ length now
    row_within = omega (arith, within next_row)

    pub row_inside : k + entry_words * values_in (get_or rows i 0) ≤ length table
    row_inside = omega (arith, total_more rows i some, so_far.1)

    pub row_room : length (row_text (row_in area table (get_or rows i 0) k)) ≤ length (mid_of at (length now - at) now)
    row_room =
        omega (arith, mid_room next_row, length-append (row_text (row_in area table (get_or rows i 0) k)) (rows_text area (drop (i + 1) rows) table (k + entry_words * values_in (get_or rows i 0))))

    pub rows_step : (after : List ℕ) (r : ℕ) → Puts (row_text (row_in area table (get_or rows i 0) k)) (mid_of at (length now - at) now) after r
        → (n : ℕ) → n ≡ values_in (get_or rows i 0) → RowsToGo area rows table before (put_mid at (length now - at) now after) (at + r) (k + entry_words * n) (i + 1)
    rows_step after r puts n is =
        let more : total (drop i rows) ≡ values_in (get_or rows i 0) + total (drop (i + 1) rows) = total_more rows i some in
        let next : Filling (rows_text area rows table 0) (rows_text area (drop (i + 1) rows) table (k + entry_words * values_in (get_or rows i 0))) before (put_mid at (length now - at) now after) (at + r) =
        step (row_text (row_in area table (get_or rows i 0) k)) (rows_text area (drop (i + 1) rows) table (k + entry_words * values_in (get_or rows i 0))) next_row puts in
        (omega arith, omega arith, rw is next)
