-- How the second walk fills a line: the values of a row, an empty row, a null row. Assumes nothing.
use mathlib.Core.Path.{◌≡◌, refl, sym, ◌∙◌, ap}
use mathlib.Core.Bool.{Bool, true, false}
use mathlib.Core.List.{List, [], ◌∷◌, ◌++◌}
use mathlib.Core.Logic.{inl}
use Prim.Native.Nat.{ℕ, ◌+◌, ◌-◌, ◌*◌, ◌<◌, ◌≤◌}
use native.Mathlib.Omega.{arith}
use borrow.Author.Tests.{ne_eqb, eqb-true, eqb-false, le-ltb, lt-ltb}
use lib.ListN.{length, get_or, length-append}
use lib.Seq.{sets, length-sets}
use Rattle.words.specs.Answer.{Answer}
use Rattle.words.specs.Decide.{◌=?◌}
use Rattle.places.specs.Machine.{on, off, read}
use Rattle.wire.specs.Layout.{null_mark, entry_words}
use Rattle.wire.specs.Content.{Cell, Row, null, values}
use Rattle.wire.proofs.LayoutLaws.{sets_append}
use Rattle.text_form.specs.Form.{line_feed, null_sign}
use Rattle.text_form.specs.Walk.{fresh, number, State, hash, at, Go, step}
use Rattle.text_form.specs.Limits.{Ask, asked, over}
use Rattle.text_steps.specs.Tables.{blob_of, blobs, entries_from}
use Rattle.text_steps.specs.Stages.{from, is_digit, behind_value}
use Rattle.text_steps.proofs.SizeLaws.{blobs_snoc}
use Rattle.text_steps.proofs.StepLaws as steps
use Rattle.text_read.specs.Stages.{HasValue, FillsValue, HasLine, HasValues, FillsLine}
use Rattle.text_read.specs.declared.fill.Value.{Value}
use Rattle.text_steps.proofs.AheadLaws.{cells_so_far, within_end}
use Rattle.text_steps.proofs.ReadLaws as reads

-- a move that was asked and went on is the move itself
on_same : (x : Go) (y : Ask) (next moved : State) → asked {S = State} {R = Unit {0}} {L = Answer} x y ≡ on next → x ≡ on moved → next ≡ moved
on_same (on q) (on u) next moved e f = cc
on_same (on q) (off l) next moved e f = cc
on_same (off r) y next moved e f = cc

-- where a byte leads in a reading that comes to its end
follow : (s : List ℕ) (i : ℕ) (q moved : State) (final : List Row) → from s i q ≡ read final → i < length s → step q (get_or s i 0) ≡ on moved → from s (i + 1) moved ≡ read final
follow s i q moved final here h e =
    let l = reads.leads_on s i q final here h in
    let same : l.0 ≡ moved = on_same (step q (get_or s i 0)) (over q (get_or s i 0)) l.0 moved l.1 e in
    rw (← same) l.2

digit_step : (rows : List Row) (cells : List Cell) (b : ℕ) → is_digit b ≡ true → step (at rows cells fresh) b ≡ on (at rows cells (number (b - 48)))
unfolding step
digit_step rows cells b is = each cells
  where
    range : (48 ≤ b) × (b < 58)
    range = steps.digit_range b is

    each : (cells : List Cell) → step (at rows cells fresh) b ≡ on (at rows cells (number (b - 48)))
    each [] = rw (ne_eqb b 10 (λ e. omega (arith, range.0)), ne_eqb b 35 (λ e. omega (arith, range.0)), le-ltb b 48 range.0, lt-ltb b 58 range.1)
    each (c ∷ cells) = rw (le-ltb b 48 range.0, lt-ltb b 58 range.1)

feed_step : (rows : List Row) (b : ℕ) → b ≡ line_feed → step (at rows [] fresh) b ≡ on (at (rows ++ values [] ∷ []) [] fresh)
unfolding step
feed_step rows b e = rw e

null_step : (rows : List Row) (b : ℕ) → b ≡ null_sign → step (at rows [] fresh) b ≡ on (hash rows)
unfolding step
null_step rows b e = rw e

hash_step : (rows : List Row) (b : ℕ) → b ≡ line_feed → step (hash rows) b ≡ on (at (rows ++ null ∷ []) [] fresh)
unfolding step
hash_step rows b e = rw e

-- Entries

pub entries_join : (offset : ℕ) (xs ys : List Cell) → entries_from offset (xs ++ ys) ≡ entries_from offset xs ++ entries_from (offset + length (blobs xs)) ys
unfolding entries_from blobs
entries_join offset [] ys = ap (λ (o : ℕ). entries_from o ys) (omega arith)
entries_join offset (x ∷ xs) ys =
    let place : offset + length (blob_of x.content) + length (blobs xs) ≡ offset + length (blob_of x.content ++ blobs xs) = omega (arith, length-append (blob_of x.content) (blobs xs)) in
    let rest = entries_join (offset + length (blob_of x.content)) xs ys in
    rw (rest, place)

pub length_entries : (offset : ℕ) (cells : List Cell) → length (entries_from offset cells) ≡ entry_words * length cells
unfolding entries_from
length_entries offset [] = refl
length_entries offset (c ∷ cells) = omega (arith, length_entries (offset + length (blob_of c.content)) cells)

stored_value : (table : List ℕ) (first before k used : ℕ) (cells : List Cell) (c : Cell) → k ≡ first + entry_words * length cells → used ≡ before + length (blobs cells)
    → sets (sets table first (entries_from before cells)) k (entries_from used (c ∷ [])) ≡ sets table first (entries_from before (cells ++ c ∷ []))
stored_value table first before k used cells c is-k is-used =
    rw (is-k, is-used)
    (sym (sets_append table first (entry_words * length cells) (entries_from before cells) (entries_from (before + length (blobs cells)) (c ∷ [])) (length_entries before cells))
    ∙ ap (sets table first) (sym (entries_join before cells (c ∷ []))))

-- The values of a line: up to the place i they were read, and their entries and blobs lie in the tables

abbrev pub ValuesLeft : List ℕ → ℕ → ℕ → ℕ → List ℕ → List ℕ → List ℕ → List ℕ → ℕ → ℕ → ℕ → ℕ → Type 0
ValuesLeft s start first before values₀ area₀ values' area i k used count =
    (rows : List Row) (final : List Row) → from s start (at rows [] fresh) ≡ read final
    → (cells : List Cell) × (start ≤ i) × (length cells ≡ 0 → i ≡ start) × (k ≡ first + entry_words * length cells) × (used ≡ before + length (blobs cells)) × (count ≡ length cells)
    × (values' ≡ sets values₀ first (entries_from before cells)) × (area ≡ sets area₀ before (blobs cells))
    × (from s i (at rows cells fresh) ≡ read final)

pub values_begin : (s : List ℕ) (start first before : ℕ) (values₀ area₀ : List ℕ) → ValuesLeft s start first before values₀ area₀ values₀ area₀ start first before 0
unfolding entries_from blobs
values_begin s start first before values₀ area₀ rows final here = ([], omega arith, (λ _. refl), omega arith, omega arith, refl, refl, refl, here)

module _ (s : List ℕ) (start : ℕ) (values₀ : List ℕ) (first : ℕ) (area₀ : List ℕ) (before : ℕ) (has : HasValues s start values₀ first area₀ before)
    (values' area : List ℕ) (i k used count : ℕ) (so_far : ValuesLeft s start first before values₀ area₀ values' area i k used count) where
  mine : (cells : List Cell) × (start ≤ i) × (length cells ≡ 0 → i ≡ start) × (k ≡ first + entry_words * length cells) × (used ≡ before + length (blobs cells)) × (count ≡ length cells)
      × (values' ≡ sets values₀ first (entries_from before cells)) × (area ≡ sets area₀ before (blobs cells))
      × (from s i (at has.0.1.0 cells fresh) ≡ read has.0.1.1)
  mine = so_far has.0.1.0 has.0.1.1 has.0.1.2

  pub same_values : length values' ≡ length values₀
  same_values = ap length mine.6 ∙ length-sets values₀ first (entries_from before mine.0)

  pub same_area : length area ≡ length area₀
  same_area = ap length mine.7 ∙ length-sets area₀ before (blobs mine.0)

  pub value_there : i < length s
  value_there = each mine.0 refl
    where
      each : (cells : List Cell) → mine.0 ≡ cells → i < length s
      each [] e = let same : i ≡ start = mine.2 (ap length e) in omega (arith, has.0.0)
      each (c ∷ cells) e = reads.there s i _ has.0.1.1 mine.8 (steps.fresh_early has.0.1.0 mine.0 (λ none. omega (arith, ap length e)))

  pub value_digit : is_digit (get_or s i 0) ≡ true
  value_digit = each mine.0 refl
    where
      some : (cells : List Cell) (c : Cell) → mine.0 ≡ c ∷ cells → (x : Bool) → is_digit (get_or s i 0) ≡ x → is_digit (get_or s i 0) ≡ true
      some cells c e true f = f
      some cells c e false f =
          absurd (reads.not_off s i _ has.0.1.1 mine.8 value_there (inl tt) (steps.begin_other has.0.1.0 mine.0 (get_or s i 0) f (λ none. omega (arith, ap length e))))

      each : (cells : List Cell) → mine.0 ≡ cells → is_digit (get_or s i 0) ≡ true
      each [] e = rw (mine.2 (ap length e)) has.1
      each (c ∷ cells) e = some cells c e (is_digit (get_or s i 0)) refl

  pub value_range : (48 ≤ get_or s i 0) × (get_or s i 0 < 58)
  value_range = steps.digit_range (get_or s i 0) value_digit

  begun : (rows : List Row) (cells : List Cell) (final : List Row) → from s i (at rows cells fresh) ≡ read final → from s (i + 1) (at rows cells (number (get_or s i 0 - 48))) ≡ read final
  begun rows cells final here = follow s i _ _ final here value_there (digit_step rows cells (get_or s i 0) value_digit)

  pub value_has : HasValue s (i + 1) (get_or s i 0 - 48) values' k area used
  unfolding blobs
  value_has = (
    has.0.1.0,
    mine.0,
    has.0.1.1,
    begun has.0.1.0 mine.0 has.0.1.1 mine.8,
    (omega (arith, mine.3, has.0.1.3.0), omega (arith, has.0.1.3.1, same_values)),
    (omega (arith, mine.4, has.0.1.4.0), omega (arith, has.0.1.4.1, same_area)),
  )

  pub count_small : (k + entry_words ≤ length values₀) × (count < length values₀)
  unfolding cells_so_far
  count_small =
      let room = (within_end s (i + 1) _ has.0.1.1 (begun has.0.1.0 mine.0 has.0.1.1 mine.8)).cells_within in
      (omega (arith, room, mine.3, has.0.1.3.0, has.0.1.3.1), omega (arith, room, mine.5, has.0.1.3.1))

  module _ (values'' area'' : List ℕ) (r : Value) (told : FillsValue s (i + 1) (get_or s i 0 - 48) k used values' area values'' area'' r) where
    pub value_passed : i < r.next
    value_passed = let all = told has.0.1.0 mine.0 has.0.1.1 (begun has.0.1.0 mine.0 has.0.1.1 mine.8) in omega (arith, all.1)

    pub values_same : length values'' ≡ length values₀
    values_same =
        let all = told has.0.1.0 mine.0 has.0.1.1 (begun has.0.1.0 mine.0 has.0.1.1 mine.8) in
        ap length all.4 ∙ length-sets values' k (entries_from used (all.0 ∷ [])) ∙ same_values

    pub area_same : length area'' ≡ length area₀
    area_same =
        let all = told has.0.1.0 mine.0 has.0.1.1 (begun has.0.1.0 mine.0 has.0.1.1 mine.8) in
        ap length all.5 ∙ length-sets area used (blob_of all.0.content) ∙ same_area

    -- one value more
    module _ (rows final : List Row) (here : from s start (at rows [] fresh) ≡ read final) where
      old : (cells : List Cell) × (start ≤ i) × (length cells ≡ 0 → i ≡ start) × (k ≡ first + entry_words * length cells) × (used ≡ before + length (blobs cells)) × (count ≡ length cells)
          × (values' ≡ sets values₀ first (entries_from before cells)) × (area ≡ sets area₀ before (blobs cells))
          × (from s i (at rows cells fresh) ≡ read final)
      old = so_far rows final here

      new : (c : Cell) × (i + 1 < r.next) × (r.next ≤ length s) × (r.used ≡ used + length (blob_of c.content))
          × (values'' ≡ sets values' k (entries_from used (c ∷ []))) × (area'' ≡ sets area used (blob_of c.content))
          × (from s r.next (behind_value r.last rows old.0 c) ≡ read final)
      new = told rows old.0 final (begun rows old.0 final old.8)

      k_more : k + entry_words ≡ first + entry_words * length (old.0 ++ new.0 ∷ [])
      k_more = omega (arith, old.3, length-append old.0 (new.0 ∷ []))

      used_more : r.used ≡ before + length (blobs (old.0 ++ new.0 ∷ []))
      used_more = omega (arith, new.3, old.4, ap length (blobs_snoc old.0 new.0), length-append (blobs old.0) (blob_of new.0.content))

      count_more : count + 1 ≡ length (old.0 ++ new.0 ∷ [])
      count_more = omega (arith, old.5, length-append old.0 (new.0 ∷ []))

      values_more : values'' ≡ sets values₀ first (entries_from before (old.0 ++ new.0 ∷ []))
      values_more =
          new.4 ∙ ap (λ (xs : List ℕ). sets xs k (entries_from used (new.0 ∷ []))) old.6
          ∙ stored_value values₀ first before k used old.0 new.0 old.3 old.4

      area_more : area'' ≡ sets area₀ before (blobs (old.0 ++ new.0 ∷ []))
      area_more =
          new.5 ∙ ap (λ (xs : List ℕ). sets xs used (blob_of new.0.content)) old.7
          ∙ ap (λ (j : ℕ). sets (sets area₀ before (blobs old.0)) j (blob_of new.0.content)) old.4
          ∙ sym (sets_append area₀ before (length (blobs old.0)) (blobs old.0) (blob_of new.0.content) refl)
          ∙ ap (sets area₀ before) (sym (blobs_snoc old.0 new.0))

    pub values_more_left : r.last ≡ false → ValuesLeft s start first before values₀ area₀ values'' area'' r.next (k + entry_words) r.used (count + 1)
    values_more_left goes rows final here =
        let c = new rows final here in
        let cells = old rows final here in (
          cells.0 ++ c.0 ∷ [],
          omega (arith, cells.1, c.1),
          (λ none. absurd (omega (arith, none, length-append cells.0 (c.0 ∷ [])))),
          k_more rows final here,
          used_more rows final here,
          count_more rows final here,
          values_more rows final here,
          area_more rows final here,
          ap (λ (x : Bool). from s r.next (behind_value x rows cells.0 c.0)) (sym goes) ∙ c.6,
        )

    pub values_end : r.last ≡ true → FillsLine s start first before values₀ area₀ values'' area'' (record { next = r.next; k = k + entry_words; used = r.used; word = count + 1 })
    values_end ends rows final here =
        let c = new rows final here in
        let cells = old rows final here in (
          values (cells.0 ++ c.0 ∷ []),
          omega (arith, cells.1, c.1),
          c.2,
          count_more rows final here,
          k_more rows final here,
          used_more rows final here,
          values_more rows final here,
          area_more rows final here,
          ap (λ (x : Bool). from s r.next (behind_value x rows cells.0 c.0)) (sym ends) ∙ c.6,
        )

-- A line

module _ (s : List ℕ) (i : ℕ) (table : List ℕ) (k : ℕ) (area : List ℕ) (used : ℕ) (has : HasLine s i table k area used) where
  pub line_empty : get_or s i 0 ≡ line_feed → FillsLine s i k used table area table area (record { next = i + 1; k = k; used = used; word = 0 })
  unfolding entries_from blobs
  line_empty e rows final here = (
    values [],
    omega arith,
    omega (arith, has.0),
    refl,
    omega arith,
    omega arith,
    refl,
    refl,
    follow s i _ _ final here has.0 (feed_step rows (get_or s i 0) e),
  )

  module _ (e : get_or s i 0 ≡ null_sign) where
    behind_sign : (rows final : List Row) → from s i (at rows [] fresh) ≡ read final → from s (i + 1) (hash rows) ≡ read final
    behind_sign rows final here = follow s i _ _ final here has.0 (null_step rows (get_or s i 0) e)

    feed_there : (rows final : List Row) → from s i (at rows [] fresh) ≡ read final → i + 1 < length s
    feed_there rows final here = reads.there s (i + 1) _ final (behind_sign rows final here) (steps.hash_early rows)

    pub null_within : i + 2 ≤ length s
    null_within = omega (arith, feed_there has.1.0 has.1.1 has.1.2)

    behind_feed : (rows final : List Row) → from s i (at rows [] fresh) ≡ read final → from s (i + 2) (at (rows ++ null ∷ []) [] fresh) ≡ read final
    behind_feed rows final here = each (get_or s (i + 1) 0 =? line_feed) refl
      where
        each : (x : Bool) → (get_or s (i + 1) 0 =? line_feed) ≡ x → from s (i + 2) (at (rows ++ null ∷ []) [] fresh) ≡ read final
        each true f =
            let place : i + 1 + 1 ≡ i + 2 = omega arith in
            let next = follow s (i + 1) _ _ final (behind_sign rows final here) (feed_there rows final here) (hash_step rows (get_or s (i + 1) 0) (eqb-true (get_or s (i + 1) 0) line_feed f)) in
            rw (← place) next
        each false f = absurd (reads.not_off s (i + 1) _ final (behind_sign rows final here) (feed_there rows final here) (inl tt) (steps.hash_other rows (get_or s (i + 1) 0) (eqb-false (get_or s (i + 1) 0) line_feed f)))

    pub line_null : FillsLine s i k used table area table area (record { next = i + 2; k = k; used = used; word = null_mark })
    unfolding entries_from blobs
    line_null rows final here = (null, omega arith, null_within, refl, omega arith, omega arith, refl, refl, behind_feed rows final here)

  pub line_values : (get_or s i 0 ≡ line_feed → ⊥) → (get_or s i 0 ≡ null_sign → ⊥) → HasValues s i table k area used
  line_values fed signed = (has, each (is_digit (get_or s i 0)) refl)
    where
      each : (x : Bool) → is_digit (get_or s i 0) ≡ x → is_digit (get_or s i 0) ≡ true
      each true f = f
      each false f =
          absurd (reads.not_off s i _ has.1.1 has.1.2 has.0 (inl tt) (steps.line_other has.1.0 (get_or s i 0) (rw (ne_eqb (get_or s i 0) 10 fed, ne_eqb (get_or s i 0) 35 signed, f))))
