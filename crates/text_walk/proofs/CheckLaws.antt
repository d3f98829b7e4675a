-- How the stages of the walk go on and stop: an id, a head, a scalar, a blob, a value, a line. Assumes nothing.
use mathlib.Core.Path.{◌≡◌, refl, sym, ◌∙◌, ap}
use mathlib.Core.Bool.{Bool, true, false, ◌||◌, true≢false}
use mathlib.Core.List.{List, [], ◌∷◌, ◌++◌}
use mathlib.Core.Logic.{◌⊎◌, inl, inr, ⊎_elim}
use Prim.Native.Nat.{ℕ, suc, ◌+◌, ◌-◌, ◌*◌, ◌<◌, ◌≤◌}
use native.Mathlib.Omega.{arith}
use borrow.Author.Tests.{eqb-true, eqb-false, ne_eqb}
use lib.ListN.{length, get_or, length-append, get_or-eq_default}
use Rattle.words.specs.Answer.{accepted, refuse}
use Rattle.words.specs.Decide.{◌=?◌}
use Rattle.words.proofs.DecideLaws.{le_or_gt}
use Rattle.text_form.proofs.TextLaws.{not_true}
use Rattle.places.specs.Machine.{on, off, read, stopped}
use Rattle.wire.specs.Layout.{null_type, known, scalar, blob, max_rows, max_values, max_length, max_size, padded}
use Rattle.wire.specs.Content.{nothing, word, bytes, Cell, Row, null, values, cell_bytes, cells_bytes, bytes_of_rows}
use Rattle.wire.proofs.TypeLaws.{scalar_yes, blob_yes, blob_low}
use Rattle.wire.specs.declared.error.WireError.TheVariants.{TooManyRows, TooManyValues, ValueTooLong, RowsetTooLarge}
use Rattle.text_form.specs.Form.{tab, line_feed, null_sign, colon, aggregate_sign, percent_sign, escaped}
use Rattle.text_form.specs.Walk.{Phase, fresh, number, letter, digits, full, percent, second, State, hash, at, cell_of, type_of, small_value, capital_value, fits_word, fits_high, behind_digit, start}
use Rattle.text_form.specs.Limits.{size_with, walk_within}
use Rattle.text_steps.specs.Tables.{blob_of, blobs, cells_of, all_cells, area_bytes}
use Rattle.text_walk.specs.Statement.{walking, ending_as, counts, counting, Counts}
use Rattle.text_walk.specs.Paper.{text_paper}
use Rattle.text_steps.specs.Stages.{is_digit, Reading, from, bad_at, opened, Closed, Settled, behind_value}
use Rattle.text_walk.specs.Stages.{StopsBy, IdChecks, LetterChecks, HeadChecks, WordChecks, EscapeChecks, UnitsCheck, EndChecks, Wholly, Checks, ScalarChecks, BlobChecks, ValueChecks, Wholes, ValuesCheck, NullChecks, LineChecks}
use Rattle.text_walk.specs.declared.error.TextError.{TextError}
use Rattle.text_walk.specs.declared.error.TextError.TheVariants.{BadText, Limit}
use Rattle.text_walk.specs.declared.error.BadPlace.{BadPlace}
use Rattle.text_walk.specs.declared.check.Head.{Head}
use Rattle.text_walk.specs.declared.check.Blob.{Blob}
use Rattle.text_walk.specs.declared.check.Value.{Value}
use Rattle.text_walk.specs.declared.check.Line.{Line}
use Rattle.std.proofs.lemmas.Result.{err_from_is_err_and}
use Rattle.std.specs.Result.{IsErrAnd}
use Rattle.std.specs.declared.result.Result.{Result}
use Rattle.std.specs.declared.result.Result.TheVariants.{Ok, Err}
use Rattle.text_steps.proofs.StepLaws as step
use Rattle.text_steps.proofs.SizeLaws as size

abbrev pub bad_place : ℕ → BadPlace
bad_place i = record { place = i }

-- what the exit of a `?` returns
pub goes_up : {T E : Type 0} (r : Result T E) (e : E) → IsErrAnd r (λ y. y ≡ e) → r ≡ Err e
goes_up r e gives = let found = err_from_is_err_and r gives in found.1 ∙ ap Err found.2

-- An id, digit by digit: from the place i on its digits so far spell n

abbrev pub IdLeft : List ℕ → ℕ → ℕ → ℕ → ℕ → Type 0
IdLeft s start first i n =
    (start ≤ i) × (i ≤ length s) × (n ≤ 65_535)
    × ((rows : List Row) (cells : List Cell) → from s start (at rows cells (number first)) ≡ from s i (at rows cells (number n)))

module _ (s : List ℕ) (start first i n : ℕ) (so_far : IdLeft s start first i n) where
  pub id_early : length s ≤ i → (end : ℕ) → i ≡ end → IdChecks s start first (Err (bad_place end))
  id_early h end e =
      λ rows cells.
      so_far.3 rows cells ∙ step.ends_early s i (at rows cells (number n)) h (step.number_early rows cells n) ∙ ap bad_at e

  module _ (h : i < length s) where
    pub id_colon : get_or s i 0 ≡ colon → IdChecks s start first (Ok (i + 1))
    id_colon e =
        (n, (omega arith, omega arith), λ rows cells. so_far.3 rows cells ∙ step.goes s i (at rows cells (number n)) (at rows cells (letter n 0)) h (step.number_colon rows cells n (get_or s i 0) e))

    pub id_stop : ((rows : List Row) (cells : List Cell) → walk_within.step (at rows cells (number n)) (get_or s i 0) ≡ off (inl tt)) → IdChecks s start first (Err (bad_place i))
    id_stop e = λ rows cells. so_far.3 rows cells ∙ step.halts s i (at rows cells (number n)) (inl tt) h (e rows cells)

    pub id_more : (m : ℕ) → m ≤ 65_535 → ((rows : List Row) (cells : List Cell) → walk_within.step (at rows cells (number n)) (get_or s i 0) ≡ on (at rows cells (number m))) → IdLeft s start first (i + 1) m
    id_more m small e =
        (omega arith, omega arith, small, λ rows cells. so_far.3 rows cells ∙ step.goes s i (at rows cells (number n)) (at rows cells (number m)) h (e rows cells))

-- A letter

module _ (s : List ℕ) (i : ℕ) where
  pub letter_early : length s ≤ i → LetterChecks s i (Err (bad_place i))
  letter_early h = λ rows cells id aggregate sign. step.ends_early s i (at rows cells (letter id aggregate)) h (step.letter_early rows cells id aggregate)

  module _ (h : i < length s) (type : ℕ) (is : type ≡ type_of (get_or s i 0)) where
    pub letter_null : type ≡ null_type → LetterChecks s i (Ok record { next = i + 1; kind = type })
    letter_null e = (
      (omega arith, omega arith),
      rw e,
      λ rows cells id aggregate sign.
          step.goes s i (at rows cells (letter id aggregate)) (at rows cells (opened id aggregate type)) h (rw e (step.letter_null rows cells id aggregate (get_or s i 0) sign (sym is ∙ e))),
    )

    pub letter_scalar : known type ≡ true → 2 < type → type < 7 → LetterChecks s i (Ok record { next = i + 1; kind = type })
    letter_scalar known low high = (
      (omega arith, omega arith),
      known,
      λ rows cells id aggregate sign.
          step.goes s i (at rows cells (letter id aggregate)) (at rows cells (opened id aggregate type)) h (rw is (step.letter_scalar rows cells id aggregate (get_or s i 0) sign (rw (← is) low) (rw (← is) high))),
    )

    pub letter_blob : known type ≡ true → 15 < type → type < 19 → LetterChecks s i (Ok record { next = i + 1; kind = type })
    letter_blob known low high = (
      (omega arith, omega arith),
      known,
      λ rows cells id aggregate sign.
          step.goes s i (at rows cells (letter id aggregate)) (at rows cells (opened id aggregate type)) h (rw is (step.letter_blob rows cells id aggregate (get_or s i 0) sign (rw (← is) low) (rw (← is) high))),
    )

    pub letter_other : known type ≡ false → scalar type ≡ false → blob type ≡ false → LetterChecks s i (Err (bad_place i))
    letter_other isnt x y =
        λ rows cells id aggregate sign. step.halts s i (at rows cells (letter id aggregate)) (inl tt) h (step.letter_other rows cells id aggregate (get_or s i 0) sign (rw (← is) isnt) (rw (← is) x) (rw (← is) y))

-- A head: the id, then the letter, behind the aggregate sign or at once

past_end : (s : List ℕ) (i b : ℕ) → get_or s i 0 ≡ b → (b ≡ 0 → ⊥) → i < length s
past_end s i b e some = ⊎_elim (λ (h : length s ≤ i). absurd (some (sym e ∙ get_or-eq_default s 0 h))) (λ (h : i < length s). h) (le_or_gt (length s) i)

module _ (s : List ℕ) (start first : ℕ) (found : Result ℕ BadPlace) (told : IdChecks s start first found) (next : ℕ) (found-is : found ≡ Ok next) where
  id : IdChecks s start first (Ok next)
  id = rw found-is at told

  pub id_inside : next ≤ length s
  id_inside = id.1.1

  pub sign_inside : get_or s next 0 ≡ aggregate_sign → next + 1 ≤ length s
  sign_inside e = omega (arith, past_end s next aggregate_sign e (λ z. omega arith))

  pub head_sign : get_or s next 0 ≡ aggregate_sign → (r : Result Head BadPlace) → LetterChecks s (next + 1) r → HeadChecks s start first r
  head_sign e (Ok head) checked = (
    id.0,
    1,
    (omega (arith, id.1.0, checked.0.0), checked.0.1),
    checked.1,
    λ rows cells.
        id.2 rows cells ∙ over rows cells ∙ checked.2 rows cells id.0 1 (λ _ z. omega arith),
  )
    where
      over : (rows : List Row) (cells : List Cell) → from s next (at rows cells (letter id.0 0)) ≡ from s (next + 1) (at rows cells (letter id.0 1))
      over rows cells = step.goes s next (at rows cells (letter id.0 0)) (at rows cells (letter id.0 1)) (omega (arith, sign_inside e)) (step.letter_sign rows cells id.0 (get_or s next 0) e)
  head_sign e (Err bad) checked =
      λ rows cells.
      id.2 rows cells
      ∙ step.goes s next (at rows cells (letter id.0 0)) (at rows cells (letter id.0 1)) (omega (arith, sign_inside e)) (step.letter_sign rows cells id.0 (get_or s next 0) e)
      ∙ checked rows cells id.0 1 (λ _ z. omega arith)

  pub head_plain : (get_or s next 0 ≡ aggregate_sign → ⊥) → (r : Result Head BadPlace) → LetterChecks s next r → HeadChecks s start first r
  head_plain e (Ok head) checked =
      (id.0, 0, (omega (arith, id.1.0, checked.0.0), checked.0.1), checked.1, λ rows cells. id.2 rows cells ∙ checked.2 rows cells id.0 0 (λ f _. e f))
  head_plain e (Err bad) checked = λ rows cells. id.2 rows cells ∙ checked rows cells id.0 0 (λ f _. e f)

pub head_bad : (s : List ℕ) (start first : ℕ) (found : Result ℕ BadPlace) → IdChecks s start first found → (bad : BadPlace) → found ≡ Err bad → HeadChecks s start first (Err bad)
head_bad s start first found told bad e = rw e at told

-- A scalar's digits: `left` of them are to come from the place i on

abbrev pub WordLeft : List ℕ → ℕ → ℕ → ℕ → ℕ → Type 0
WordLeft s start type i left =
    (w : ℕ) × (start ≤ i) × (i ≤ length s)
    × ((rows : List Row) (cells : List Cell) (id aggregate : ℕ) → from s start (at rows cells (digits id aggregate type 15 0)) ≡ from s i (behind_digit rows cells id aggregate type left w))

pub word_same : (s : List ℕ) (start type i i' left left' : ℕ) → i ≡ i' → left ≡ left' → WordLeft s start type i left
    → WordLeft s start type i' left'
word_same s start type i i' left left' e f so_far = rw (← e, ← f) so_far

pub word_begins : (s : List ℕ) (start type : ℕ) → start ≤ length s → WordLeft s start type start 16
word_begins s start type h = (0, omega arith, h, λ rows cells id aggregate. refl)

module _ (s : List ℕ) (start type i left : ℕ) (so_far : WordLeft s start type i left) where
  pub word_done : left ≤ 0 → WordChecks s start type (Ok i)
  word_done none =
      let nothing_left : left ≡ 0 = omega arith in
      (so_far.0, (so_far.1, so_far.2), λ rows cells id aggregate. so_far.3 rows cells id aggregate ∙ ap (λ (k : ℕ). from s i (behind_digit rows cells id aggregate type k so_far.0)) nothing_left)

  module _ (some : 0 < left) where
    one_more : left ≡ suc (left - 1)
    one_more = omega arith

    digits_left : (rows : List Row) (cells : List Cell) (id aggregate : ℕ) → from s start (at rows cells (digits id aggregate type 15 0)) ≡ from s i (at rows cells (digits id aggregate type (left - 1) so_far.0))
    digits_left rows cells id aggregate = so_far.3 rows cells id aggregate ∙ ap (λ (k : ℕ). from s i (behind_digit rows cells id aggregate type k so_far.0)) one_more

    pub word_early : length s ≤ i → WordChecks s start type (Err (bad_place i))
    word_early h = λ rows cells id aggregate. digits_left rows cells id aggregate ∙ step.ends_early s i (at rows cells (digits id aggregate type (left - 1) so_far.0)) h (step.digits_early rows cells id aggregate type (left - 1) so_far.0)

    module _ (h : i < length s) (v : ℕ) (is : v ≡ small_value (get_or s i 0)) (fits : Bool) (told : fits ≡ fits_word type (left - 1) v) where
      same : fits ≡ fits_word type (left - 1) (small_value (get_or s i 0))
      same = told ∙ ap (λ (x : ℕ). fits_word type (left - 1) x) is

      pub word_off : fits ≡ false → WordChecks s start type (Err (bad_place i))
      word_off e =
          λ rows cells id aggregate. digits_left rows cells id aggregate
          ∙ step.halts s i (at rows cells (digits id aggregate type (left - 1) so_far.0)) (inl tt) h (step.digit_off rows cells id aggregate type (left - 1) so_far.0 (get_or s i 0) (sym same ∙ e))

      pub word_on : fits ≡ true → WordLeft s start type (i + 1) (left - 1)
      word_on e = (
        so_far.0 * 16 + small_value (get_or s i 0),
        omega arith,
        omega arith,
        λ rows cells id aggregate. digits_left rows cells id aggregate
            ∙ step.goes s i (at rows cells (digits id aggregate type (left - 1) so_far.0)) (behind_digit rows cells id aggregate type (left - 1) (so_far.0 * 16 + small_value (get_or s i 0))) h (step.digit_on rows cells id aggregate type (left - 1) so_far.0 (get_or s i 0) (sym same ∙ e)),
      )

-- An escape's two digits

module _ (s : List ℕ) (i : ℕ) where
  pub escape_early : length s ≤ i → EscapeChecks s i (Err (bad_place i))
  escape_early h = λ rows cells id aggregate type t. step.ends_early s i (at rows cells (percent id aggregate type t)) h (step.percent_early rows cells id aggregate type t)

  module _ (h : i < length s) (high : ℕ) (is : high ≡ capital_value (get_or s i 0)) (fits : Bool) (told : fits ≡ fits_high high) where
    same_high : fits ≡ fits_high (capital_value (get_or s i 0))
    same_high = told ∙ ap (λ (x : ℕ). fits_high x) is

    pub escape_high : fits ≡ false → EscapeChecks s i (Err (bad_place i))
    escape_high e =
        λ rows cells id aggregate type t.
        step.halts s i (at rows cells (percent id aggregate type t)) (inl tt) h (step.high_off rows cells id aggregate type t (get_or s i 0) (sym same_high ∙ e))

    pub high_small : fits ≡ true → high ≤ 15
    high_small e = step.high_most high (sym told ∙ e)

    module _ (e : fits ≡ true) where
      behind_high : (rows : List Row) (cells : List Cell) (id aggregate type : ℕ) (t : List ℕ) → from s i (at rows cells (percent id aggregate type t)) ≡ from s (i + 1) (at rows cells (second id aggregate type t high))
      behind_high rows cells id aggregate type t =
          step.goes s i (at rows cells (percent id aggregate type t)) (at rows cells (second id aggregate type t (capital_value (get_or s i 0)))) h (step.high_on rows cells id aggregate type t (get_or s i 0) (sym same_high ∙ e))
          ∙ ap (λ (x : ℕ). from s (i + 1) (at rows cells (second id aggregate type t x))) (sym is)

      pub escape_half : length s ≤ i + 1 → EscapeChecks s i (Err (bad_place (i + 1)))
      escape_half end =
          λ rows cells id aggregate type t. behind_high rows cells id aggregate type t
          ∙ step.ends_early s (i + 1) (at rows cells (second id aggregate type t high)) end (step.second_early rows cells id aggregate type t high)

      module _ (h2 : i + 1 < length s) (low : ℕ) (its : low ≡ capital_value (get_or s (i + 1) 0)) where
        pub escape_low : 15 < low → EscapeChecks s i (Err (bad_place (i + 1)))
        escape_low past =
            λ rows cells id aggregate type t. behind_high rows cells id aggregate type t
            ∙ step.halts s (i + 1) (at rows cells (second id aggregate type t high)) (inl tt) h2 (step.low_other rows cells id aggregate type t (get_or s (i + 1) 0) high (rw (← its) past))

        module _ (small : low ≤ 15) (needed : Bool) (tells : needed ≡ escaped (high * 16 + low)) where
          spelled_as : escaped (high * 16 + capital_value (get_or s (i + 1) 0)) ≡ needed
          spelled_as = ap (λ (x : ℕ). escaped (high * 16 + x)) (sym its) ∙ sym tells

          pub escape_needless : needed ≡ false → EscapeChecks s i (Err (bad_place (i + 1)))
          escape_needless isnt =
              λ rows cells id aggregate type t. behind_high rows cells id aggregate type t
              ∙ step.halts s (i + 1) (at rows cells (second id aggregate type t high)) (inl tt) h2 (step.low_off rows cells id aggregate type t (get_or s (i + 1) 0) high (rw (← its) small) (spelled_as ∙ isnt))

          pub escape_whole : needed ≡ true → EscapeChecks s i (Ok (i + 1 + 1))
          escape_whole does = (
            high * 16 + capital_value (get_or s (i + 1) 0),
            (omega arith, omega arith),
            (λ rows cells id aggregate type t short. behind_high rows cells id aggregate type t
                ∙ step.goes s (i + 1) (at rows cells (second id aggregate type t high)) (at rows cells (full (cell_of id aggregate type (bytes (t ++ (high * 16 + capital_value (get_or s (i + 1) 0)) ∷ []))))) h2
                (step.low_on rows cells id aggregate type t (get_or s (i + 1) 0) high (rw (← its) small) (spelled_as ∙ does) short)),
            (λ rows cells id aggregate type t long. behind_high rows cells id aggregate type t
                ∙ step.halts s (i + 1) (at rows cells (second id aggregate type t high)) (inr (refuse 12 ((length t + 1) ∷ []))) h2
                (step.low_over rows cells id aggregate type t (get_or s (i + 1) 0) high (rw (← its) small) (spelled_as ∙ does) long)),
          )

-- A blob: `count` bytes of it were read up to the place i

abbrev pub UnitsLeft : List ℕ → ℕ → ℕ → ℕ → Type 0
UnitsLeft s start i count =
    (t : List ℕ) × (length t ≡ count) × (count ≤ max_length) × (start ≤ i) × (i ≤ length s)
    × ((rows : List Row) (cells : List Cell) (id aggregate type : ℕ) → from s start (at rows cells (full (cell_of id aggregate type (bytes [])))) ≡ from s i (at rows cells (full (cell_of id aggregate type (bytes t)))))

pub units_begin : (s : List ℕ) (start : ℕ) → start ≤ length s → UnitsLeft s start start 0
units_begin s start h = ([], refl, omega arith, omega arith, h, λ rows cells id aggregate type. refl)

module _ (s : List ℕ) (start i count : ℕ) (so_far : UnitsLeft s start i count) where
  pub units_early : length s ≤ i → UnitsCheck s start (Err (BadText i))
  units_early h =
      λ rows cells id aggregate type. so_far.5 rows cells id aggregate type
      ∙ step.ends_early s i (at rows cells (full (cell_of id aggregate type (bytes so_far.0)))) h (step.full_early rows cells (cell_of id aggregate type (bytes so_far.0)))

  longer : (b : ℕ) → length (so_far.0 ++ b ∷ []) ≡ count + 1
  longer b = length-append so_far.0 (b ∷ []) ∙ omega (arith, so_far.1)

  -- 12, where the blob has as many bytes as it may
  too_long : (r : Result Blob TextError) → r ≡ Err (Limit (ValueTooLong 16777217)) → count ≡ max_length → (place : ℕ)
      → ((rows : List Row) (cells : List Cell) (id aggregate type : ℕ) → from s i (at rows cells (full (cell_of id aggregate type (bytes so_far.0)))) ≡ stopped place (inr (refuse 12 ((length so_far.0 + 1) ∷ []))))
      → UnitsCheck s start r
  too_long r e most place halts =
      let number_is : length so_far.0 + 1 ≡ 16777217 = omega (arith, so_far.1) in
      rw e (λ rows cells id aggregate type. (place, so_far.5 rows cells id aggregate type ∙ halts rows cells id aggregate type ∙ ap (λ (n : ℕ). stopped place (inr (refuse 12 (n ∷ [])))) number_is))

  module _ (h : i < length s) where
    module _ (isnt : escaped (get_or s i 0) ≡ false) where
      pub units_plain : (count ≡ max_length → ⊥) → UnitsLeft s start (i + 1) (count + 1)
      units_plain room = (
        so_far.0 ++ get_or s i 0 ∷ [],
        longer (get_or s i 0),
        omega (arith, room, so_far.2),
        omega arith,
        omega arith,
        λ rows cells id aggregate type. so_far.5 rows cells id aggregate type
            ∙ step.goes s i (at rows cells (full (cell_of id aggregate type (bytes so_far.0)))) (at rows cells (full (cell_of id aggregate type (bytes (so_far.0 ++ get_or s i 0 ∷ []))))) h
            (step.plain_on rows cells id aggregate type so_far.0 (get_or s i 0) isnt (omega (arith, room, so_far.1, so_far.2))),
      )

      pub units_over : (r : Result Blob TextError) → r ≡ Err (Limit (ValueTooLong 16777217)) → count ≡ max_length → UnitsCheck s start r
      units_over r e most =
          too_long r e most i (λ rows cells id aggregate type.
          step.halts s i (at rows cells (full (cell_of id aggregate type (bytes so_far.0)))) _ h (step.plain_over rows cells id aggregate type so_far.0 (get_or s i 0) isnt (omega (arith, so_far.1))))

    module _ (is : escaped (get_or s i 0) ≡ true) where
      module _ (sign : get_or s i 0 ≡ percent_sign) where
        behind_sign : (rows : List Row) (cells : List Cell) (id aggregate type : ℕ) → from s i (at rows cells (full (cell_of id aggregate type (bytes so_far.0)))) ≡ from s (i + 1) (at rows cells (percent id aggregate type so_far.0))
        behind_sign rows cells id aggregate type =
            step.goes s i (at rows cells (full (cell_of id aggregate type (bytes so_far.0)))) (at rows cells (percent id aggregate type so_far.0)) h (step.percent_begins rows cells id aggregate type so_far.0 (get_or s i 0) sign)

        module _ (r : Result ℕ BadPlace) (checked : EscapeChecks s (i + 1) r) where
          pub units_broken : (bad : BadPlace) → r ≡ Err bad → UnitsCheck s start (Err (BadText bad.place))
          units_broken bad e =
              let halts : EscapeChecks s (i + 1) (Err bad) = rw e at checked in
              λ rows cells id aggregate type. so_far.5 rows cells id aggregate type ∙ behind_sign rows cells id aggregate type ∙ halts rows cells id aggregate type so_far.0

          module _ (next : ℕ) (e : r ≡ Ok next) where
            good : EscapeChecks s (i + 1) (Ok next)
            good = rw e at checked

            pub escape_lies : (i < next) × (next ≤ length s)
            escape_lies = (omega (arith, good.1.0), good.1.1)

            pub units_escape : (count ≡ max_length → ⊥) → UnitsLeft s start next (count + 1)
            units_escape room = (
              so_far.0 ++ good.0 ∷ [],
              longer good.0,
              omega (arith, room, so_far.2),
              omega (arith, good.1.0),
              good.1.1,
              λ rows cells id aggregate type. so_far.5 rows cells id aggregate type
                  ∙ behind_sign rows cells id aggregate type ∙ good.2 rows cells id aggregate type so_far.0 (omega (arith, room, so_far.1, so_far.2)),
            )

            pub units_escape_over : (b : Result Blob TextError) → b ≡ Err (Limit (ValueTooLong 16777217)) → count ≡ max_length → UnitsCheck s start b
            units_escape_over b f most =
                too_long b f most (i + 1 + 1) (λ rows cells id aggregate type.
                behind_sign rows cells id aggregate type ∙ good.3 rows cells id aggregate type so_far.0 (omega (arith, so_far.1)))

      pub units_other : (get_or s i 0 ≡ percent_sign → ⊥) → (get_or s i 0 ≡ tab → ⊥) → (get_or s i 0 ≡ line_feed → ⊥) → UnitsCheck s start (Err (BadText i))
      units_other sign tabbed fed =
          λ rows cells id aggregate type. so_far.5 rows cells id aggregate type
          ∙ step.halts s i (at rows cells (full (cell_of id aggregate type (bytes so_far.0)))) (inl tt) h (step.blob_other rows cells id aggregate type so_far.0 (get_or s i 0) is sign tabbed fed)

    pub units_end : (get_or s i 0 ≡ tab) ⊎ (get_or s i 0 ≡ line_feed) → UnitsCheck s start (Ok record { next = i; length = count })
    units_end there = (so_far.0, so_far.1, so_far.2, so_far.3, (h, there), so_far.5)

pub tab_or_feed : (b : ℕ) → 9 ≤ b → b ≤ 10 → (b ≡ tab) ⊎ (b ≡ line_feed)
tab_or_feed b low high = ⊎_elim (λ (h : b ≤ 9). inl (omega arith)) (λ (h : 9 < b). inr (omega arith)) (le_or_gt b 9)

-- the same by the place at which one byte more would be too many
abbrev pub UnitsTo : List ℕ → ℕ → ℕ → ℕ → Type 0
UnitsTo s start i limit = (limit ≤ i + 16777216) × UnitsLeft s start i (i + 16777216 - limit)

same_count : (s : List ℕ) (start i n m : ℕ) → n ≡ m → UnitsLeft s start i n → UnitsLeft s start i m
same_count s start i n m e left = rw (← e) left

pub to_begin : (s : List ℕ) (start : ℕ) → start ≤ length s → UnitsTo s start start (start + 16777216)
to_begin s start h = (omega arith, same_count s start start 0 (start + 16777216 - (start + 16777216)) (omega arith) (units_begin s start h))

module _ (s : List ℕ) (start i limit : ℕ) (to : UnitsTo s start i limit) where
  pub at_most : i ≡ limit → i + 16777216 - limit ≡ max_length
  at_most e = omega arith

  pub not_most : (i ≡ limit → ⊥) → i + 16777216 - limit ≡ max_length → ⊥
  not_most other e = other (omega (arith, to.0))

  pub plain_to : i < length s → escaped (get_or s i 0) ≡ false → (i ≡ limit → ⊥) → UnitsTo s start (i + 1) limit
  plain_to h isnt other =
      (omega (arith, to.0), same_count s start (i + 1) (i + 16777216 - limit + 1) (i + 1 + 16777216 - limit) (omega (arith, to.0)) (units_plain s start i (i + 16777216 - limit) to.1 h isnt (not_most other)))

  pub escape_to : (h : i < length s) (is : escaped (get_or s i 0) ≡ true) (sign : get_or s i 0 ≡ percent_sign) (r : Result ℕ BadPlace) (checked : EscapeChecks s (i + 1) r) (next : ℕ) → r ≡ Ok next → (i ≡ limit → ⊥)
      → UnitsTo s start next (limit + (next - i - 1))
  escape_to h is sign r checked next e other =
      let lies = escape_lies s start i (i + 16777216 - limit) to.1 h is sign r checked next e in (
        omega (arith, to.0, lies.0),
        same_count s start next (i + 16777216 - limit + 1) (next + 16777216 - (limit + (next - i - 1))) (omega (arith, to.0, lies.0))
            (units_escape s start i (i + 16777216 - limit) to.1 h is sign r checked next e (not_most other)),
      )

-- The byte behind a value

ends_byte : (b : ℕ) → (b =? tab || b =? line_feed) ≡ true → (b ≡ tab) ⊎ (b ≡ line_feed)
ends_byte b is = each (b =? tab) refl
  where
    each : (x : Bool) → (b =? tab) ≡ x → (b ≡ tab) ⊎ (b ≡ line_feed)
    each true e = inl (eqb-true b tab e)
    each false e = inr (eqb-true b line_feed (rw e at is))

ends_not : (b : ℕ) → (b =? tab || b =? line_feed) ≡ false → (b ≡ tab → ⊥) × (b ≡ line_feed → ⊥)
ends_not b isnt = each (b =? tab) refl
  where
    each : (x : Bool) → (b =? tab) ≡ x → (b ≡ tab → ⊥) × (b ≡ line_feed → ⊥)
    each true e = not_true (sym (rw e at isnt))
    each false e = (eqb-false b tab e, eqb-false b line_feed (rw e at isnt))

module _ (s : List ℕ) (i n whole : ℕ) where
  pub end_early : length s ≤ i → EndChecks s i n whole (Err (BadText i))
  end_early h = λ rows cells c settled with_it. step.ends_early s i (at rows cells (full c)) h (step.full_early rows cells c)

  module _ (h : i < length s) (ends : Bool) (told : ends ≡ (get_or s i 0 =? tab || get_or s i 0 =? line_feed)) where
    pub end_other : ends ≡ false → EndChecks s i n whole (Err (BadText i))
    end_other isnt rows cells c settled with_it =
        let nots = ends_not (get_or s i 0) (sym told ∙ isnt) in
        step.halts s i (at rows cells (full c)) (inl tt) h (step.full_other rows cells c (get_or s i 0) (shut settled nots) nots.0 nots.1)
      where
        shut : Settled s i c → (get_or s i 0 ≡ tab → ⊥) × (get_or s i 0 ≡ line_feed → ⊥) → Closed c.content
        shut (inl closed) nots = closed
        shut (inr (there, inl e)) nots = absurd (nots.0 e)
        shut (inr (there, inr e)) nots = absurd (nots.1 e)

    module _ (is : ends ≡ true) where
      byte : (get_or s i 0 ≡ tab) ⊎ (get_or s i 0 ≡ line_feed)
      byte = ends_byte (get_or s i 0) (sym told ∙ is)

      pub end_large : max_size < whole → EndChecks s i n whole (Err (Limit (RowsetTooLarge whole)))
      end_large large =
          λ rows cells c settled with_it.
          (i, step.halts s i (at rows cells (full c)) (inr (refuse 13 (size_with rows (cells ++ c ∷ []) ∷ []))) h (step.full_large rows cells c (get_or s i 0) (rw with_it large) byte) ∙ ap (λ (m : ℕ). stopped i (inr (refuse 13 (m ∷ [])))) with_it)

      pub end_whole : whole ≤ max_size → EndChecks s i n whole (Ok record { next = i + 1; length = n; size = whole; last = get_or s i 0 =? line_feed })
      end_whole small = (refl, refl, small, omega arith, omega arith, λ rows cells c settled with_it. each rows cells c with_it (get_or s i 0 =? line_feed) refl byte)
        where
          each : (rows : List Row) (cells : List Cell) (c : Cell) → size_with rows (cells ++ c ∷ []) ≡ whole → (last : Bool) → (get_or s i 0 =? line_feed) ≡ last → (get_or s i 0 ≡ tab) ⊎ (get_or s i 0 ≡ line_feed)
              → from s i (at rows cells (full c)) ≡ from s (i + 1) (behind_value last rows cells c)
          each rows cells c with_it true e there =
              step.goes s i (at rows cells (full c)) (behind_value true rows cells c) h (step.full_feed rows cells c (get_or s i 0) (rw with_it small) (eqb-true (get_or s i 0) line_feed e))
          each rows cells c with_it false e (inl f) =
              step.goes s i (at rows cells (full c)) (behind_value false rows cells c) h (step.full_tab rows cells c (get_or s i 0) (rw with_it small) f)
          each rows cells c with_it false e (inr f) = absurd (eqb-false (get_or s i 0) line_feed e f)

  -- a byte that ends a value, where a byte past the end is 0
  module _ (b : ℕ) (same : b ≡ get_or s i 0) (ends : Bool) (told : ends ≡ (b =? tab || b =? line_feed)) where
    of_byte : ends ≡ (get_or s i 0 =? tab || get_or s i 0 =? line_feed)
    of_byte = told ∙ ap (λ (x : ℕ). x =? tab || x =? line_feed) same

    pub end_not : ends ≡ false → EndChecks s i n whole (Err (BadText i))
    end_not isnt = ⊎_elim (λ (past : length s ≤ i). end_early past) (λ (h : i < length s). end_other h ends of_byte isnt) (le_or_gt (length s) i)

    pub end_there : ends ≡ true → i < length s
    end_there is = ⊎_elim (λ (past : length s ≤ i). absurd (true≢false (sym is ∙ of_byte ∙ ap (λ (x : ℕ). x =? tab || x =? line_feed) (get_or-eq_default s 0 {n = i} past)))) (λ (h : i < length s). h) (le_or_gt (length s) i)

    module _ (is : ends ≡ true) where
      pub end_over : max_size < whole → EndChecks s i n whole (Err (Limit (RowsetTooLarge whole)))
      end_over = end_large (end_there is) ends of_byte is

      pub end_good : whole ≤ max_size → EndChecks s i n whole (Ok record { next = i + 1; length = n; size = whole; last = b =? line_feed })
      end_good small = rw same (end_whole (end_there is) ends of_byte is small)

-- From the content to the end

-- a reading that stops where another does
pub stops_like : (refusal : TextError) (x y : Reading) → x ≡ y → StopsBy refusal y → StopsBy refusal x
stops_like (BadText place) x y e stops = e ∙ stops
stops_like (Limit refusal) x y e stops = (stops.0, e ∙ stops.1)

-- what a value's content leads to, and the byte behind it
pub content_ends : (s : List ℕ) (i next before n whole : ℕ) (state : List Row → List Cell → State) (c : Cell) → (i ≤ next)
    → ((rows : List Row) (cells : List Cell) → from s i (state rows cells) ≡ from s next (at rows cells (full c)))
    → Settled s next c → length (blob_of c.content) ≡ n → before + length (cell_bytes c) ≡ whole
    → (r : Result Value TextError) → EndChecks s next n whole r → Checks s i before state r
content_ends s i next before n whole state c further leads settled blob-is whole_is (Ok value) checked =
    record {
      cell = c;
      blob_length = blob-is ∙ sym checked.0;
      size_with_lem = checked.1 ∙ sym whole_is;
      size_fits = rw checked.1 checked.2;
      further = omega (arith, checked.3);
      inside = checked.4;
      goes = λ rows cells with_it. leads rows cells ∙ checked.5 rows cells c settled (size.size_cell rows cells c ∙ ap (λ (m : ℕ). m + length (cell_bytes c)) with_it ∙ whole_is);
    }
content_ends s i next before n whole state c further leads settled blob-is whole_is (Err refusal) checked =
    λ rows cells with_it.
    stops_like refusal _ _ (leads rows cells) (checked rows cells c settled (size.size_cell rows cells c ∙ ap (λ (m : ℕ). m + length (cell_bytes c)) with_it ∙ whole_is))

module _ (s : List ℕ) (i type whole : ℕ) (r : Result ℕ BadPlace) (checked : WordChecks s i type r) where
  pub scalar_bad : (bad : BadPlace) → r ≡ Err bad → ScalarChecks s i type whole (Err (BadText bad.place))
  scalar_bad bad e =
      let halts : WordChecks s i type (Err bad) = rw e at checked in
      λ id aggregate before sum rows cells with_it. halts rows cells id aggregate

  module _ (next : ℕ) (e : r ≡ Ok next) where
    good_word : WordChecks s i type (Ok next)
    good_word = rw e at checked

    pub word_inside : next ≤ length s
    word_inside = good_word.1.1

    pub scalar_ends : (v : Result Value TextError) → EndChecks s next 0 whole v → ScalarChecks s i type whole v
    scalar_ends v ended =
        λ id aggregate before sum.
        content_ends s i next before 0 whole (λ rows cells. at rows cells (digits id aggregate type 15 0)) (cell_of id aggregate type (word good_word.0)) good_word.1.0
        (λ rows cells. good_word.2 rows cells id aggregate) (inl tt) refl (ap (λ (m : ℕ). before + m) (size.word_cell (cell_of id aggregate type (word good_word.0)) good_word.0 refl) ∙ sum) v ended

module _ (s : List ℕ) (i before : ℕ) (r : Result Blob TextError) (checked : UnitsCheck s i r) where
  pub blob_fails : (refusal : TextError) → r ≡ Err refusal → BlobChecks s i before (Err refusal)
  blob_fails refusal e =
      let bad : UnitsCheck s i (Err refusal) = rw e at checked in
      λ id aggregate type rows cells with_it. bad rows cells id aggregate type

  module _ (blob : Blob) (e : r ≡ Ok blob) where
    good_units : UnitsCheck s i (Ok blob)
    good_units = rw e at checked

    pub units_inside : blob.next ≤ length s
    units_inside = omega (arith, good_units.4.0)

    pub units_short : blob.length ≤ max_length
    units_short = good_units.2

    pub blob_ends : (v : Result Value TextError) → EndChecks s blob.next blob.length (before + 8 + padded blob.length) v → BlobChecks s i before v
    blob_ends v ended =
        λ id aggregate type.
        let c : Cell = cell_of id aggregate type (bytes good_units.0) in
        content_ends s i blob.next before blob.length (before + 8 + padded blob.length) (λ rows cells. at rows cells (full (cell_of id aggregate type (bytes [])))) c good_units.3
        (λ rows cells. good_units.5 rows cells id aggregate type) (inr good_units.4) good_units.1
        (ap (λ (m : ℕ). before + m) (size.blob_cell c good_units.0 refl ∙ ap (λ (m : ℕ). 8 + padded m) good_units.1) ∙ omega arith) v ended

-- A value: its head, then its content

-- from an earlier place that leads there
pub checks_from : (s : List ℕ) (i next before : ℕ) (state state' : List Row → List Cell → State) → i ≤ next
    → ((rows : List Row) (cells : List Cell) → from s i (state rows cells) ≡ from s next (state' rows cells))
    → (v : Result Value TextError) → Checks s next before state' v → Checks s i before state v
checks_from s i next before state state' further leads (Ok value) checked =
    record {
      cell = checked.cell;
      blob_length = checked.blob_length;
      size_with_lem = checked.size_with_lem;
      size_fits = checked.size_fits;
      further = omega (arith, checked.further);
      inside = checked.inside;
      goes = λ rows cells with_it. leads rows cells ∙ checked.goes rows cells with_it;
    }
checks_from s i next before state state' further leads (Err refusal) checked =
    λ rows cells with_it. stops_like refusal _ _ (leads rows cells) (checked rows cells with_it)

module _ (s : List ℕ) (start first before : ℕ) (r : Result Head BadPlace) (checked : HeadChecks s start first r) where
  pub value_headless : (bad : BadPlace) → r ≡ Err bad → ValueChecks s start first before (Err (BadText bad.place))
  value_headless bad e =
      let halts : HeadChecks s start first (Err bad) = rw e at checked in
      λ rows cells with_it. halts rows cells

  module _ (head : Head) (e : r ≡ Ok head) where
    good_head : HeadChecks s start first (Ok head)
    good_head = rw e at checked

    pub head_inside : head.next ≤ length s
    head_inside = good_head.2.1

    pub type_known : known head.kind ≡ true
    type_known = good_head.3

    pub value_null : head.kind ≡ null_type → (v : Result Value TextError) → EndChecks s head.next 0 (before + 8) v → ValueChecks s start first before v
    value_null is v ended =
        content_ends s start head.next before 0 (before + 8) (λ rows cells. at rows cells (number first)) (cell_of good_head.0 good_head.1 null_type nothing) good_head.2.0
        (λ rows cells. good_head.4 rows cells ∙ ap (λ (t : ℕ). from s head.next (at rows cells (opened good_head.0 good_head.1 t))) is) (inl tt) refl
        (ap (λ (m : ℕ). before + m) (size.null_cell (cell_of good_head.0 good_head.1 null_type nothing) refl)) v ended

    pub value_scalar : 2 < head.kind → head.kind < 7 → (v : Result Value TextError) → ScalarChecks s head.next head.kind (before + 8 + 8) v → ValueChecks s start first before v
    value_scalar low high v ended =
        checks_from s start head.next before (λ rows cells. at rows cells (number first)) (λ rows cells. at rows cells (digits good_head.0 good_head.1 head.kind 15 0)) good_head.2.0
        (λ rows cells. good_head.4 rows cells ∙ ap (λ (p : Phase). from s head.next (at rows cells p)) shape) v (ended good_head.0 good_head.1 before (omega arith))
      where
        shape : opened good_head.0 good_head.1 head.kind ≡ digits good_head.0 good_head.1 head.kind 15 0
        shape = rw (blob_low head.kind (omega arith), scalar_yes head.kind low high)

    pub value_blob : 15 < head.kind → head.kind < 19 → (v : Result Value TextError) → BlobChecks s head.next before v → ValueChecks s start first before v
    value_blob low high v ended =
        checks_from s start head.next before (λ rows cells. at rows cells (number first)) (λ rows cells. at rows cells (full (cell_of good_head.0 good_head.1 head.kind (bytes [])))) good_head.2.0
        (λ rows cells. good_head.4 rows cells ∙ ap (λ (p : Phase). from s head.next (at rows cells p)) shape) v (ended good_head.0 good_head.1 head.kind)
      where
        shape : opened good_head.0 good_head.1 head.kind ≡ full (cell_of good_head.0 good_head.1 head.kind (bytes []))
        shape = rw (blob_yes head.kind low high)

-- The values of a line: `count` of them were read up to the place i

abbrev pub ValuesLeft : List ℕ → ℕ → ℕ → ℕ → ℕ → ℕ → ℕ → ℕ → Type 0
ValuesLeft s start row with_it i count n whole =
    (cells : List Cell) × (length cells ≡ count) × (length (blobs cells) ≡ n) × (with_it + length (cells_bytes cells) ≡ whole)
    × (whole ≤ max_size) × (count ≤ max_values) × (start ≤ i) × (i ≤ length s) × (count ≡ 0 → i ≡ start)
    × ((rows : List Row) → length rows ≡ row → length (bytes_of_rows rows) + 8 ≡ with_it → from s start (at rows [] fresh) ≡ from s i (at rows cells fresh))

pub values_begin : (s : List ℕ) (start row with_it : ℕ) → start ≤ length s → with_it ≤ max_size → ValuesLeft s start row with_it start 0 0 with_it
unfolding blobs cells_bytes
values_begin s start row with_it h small = ([], refl, refl, omega arith, small, omega arith, omega arith, h, (λ _. refl), λ rows is sum. refl)

module _ (s : List ℕ) (start row with_it i count n whole : ℕ) (so_far : ValuesLeft s start row with_it i count n whole)
    (first : is_digit (get_or s start 0) ≡ true) (few : row < max_rows) (small : with_it ≤ max_size) where
  -- a first byte is there
  first_inside : start < length s
  first_inside = let range = step.digit_range (get_or s start 0) first in past_end s start (get_or s start 0) refl (λ z. omega (arith, range.0))

  pub values_early : length s ≤ i → ValuesCheck s start row with_it (Err (BadText i))
  values_early h before sum rows is sizes =
      so_far.9 rows is (ap (λ (m : ℕ). m + 8) sizes ∙ sum)
      ∙ step.ends_early s i (at rows so_far.0 fresh) h (step.fresh_early rows so_far.0 (λ none. omega (arith, so_far.8 (sym so_far.1 ∙ none), first_inside)))

  module _ (h : i < length s) where
    pub values_other : is_digit (get_or s i 0) ≡ false → ValuesCheck s start row with_it (Err (BadText i))
    values_other isnt before sum rows is sizes =
        so_far.9 rows is (ap (λ (m : ℕ). m + 8) sizes ∙ sum)
        ∙ step.halts s i (at rows so_far.0 fresh) (inl tt) h
        (step.begin_other rows so_far.0 (get_or s i 0) isnt (λ none. not_true (sym isnt ∙ ap (λ (k : ℕ). is_digit (get_or s k 0)) (so_far.8 (sym so_far.1 ∙ none)) ∙ first)))

    module _ (digit_here : is_digit (get_or s i 0) ≡ true) where
      pub values_many : (r : Result Line TextError) → r ≡ Err (Limit (TooManyValues row 1025)) → count ≡ max_values → ValuesCheck s start row with_it r
      values_many r e most = rw e (λ before sum rows is sizes. (
        i,
        so_far.9 rows is (ap (λ (m : ℕ). m + 8) sizes ∙ sum)
            ∙ step.halts s i (at rows so_far.0 fresh) (inr (refuse 11 (length rows ∷ (max_values + 1) ∷ []))) h
            (step.begin_many rows so_far.0 (get_or s i 0) digit_here _ (step.ask_many rows so_far.0 (so_far.1 ∙ most)))
            ∙ ap (λ (m : ℕ). stopped i (inr (refuse 11 (m ∷ 1025 ∷ [])))) is,
      ))

      module _ (room : count ≡ max_values → ⊥) where
        begun : (rows : List Row) → length rows ≡ row → length (bytes_of_rows rows) + 8 ≡ with_it
            → from s start (at rows [] fresh) ≡ from s (i + 1) (at rows so_far.0 (number (get_or s i 0 - 48)))
        begun rows is sum =
            so_far.9 rows is sum
            ∙ step.goes s i (at rows so_far.0 fresh) (at rows so_far.0 (number (get_or s i 0 - 48))) h
            (step.begin_value rows so_far.0 (get_or s i 0) digit_here
            (step.ask_value rows so_far.0 (omega (arith, is)) (omega (arith, size.size_begun rows)) (omega (arith, so_far.1, so_far.5, room))))

        sized : (rows : List Row) → length (bytes_of_rows rows) + 8 ≡ with_it → size_with rows so_far.0 ≡ whole
        sized rows sum = omega (arith, size.size_with_lem rows so_far.0, so_far.3)

        module _ (v : Result Value TextError) (checked : ValueChecks s (i + 1) (get_or s i 0 - 48) whole v) where
          pub values_broken : (refusal : TextError) → v ≡ Err refusal → ValuesCheck s start row with_it (Err refusal)
          values_broken refusal e before sum rows is sizes =
              let bad : ValueChecks s (i + 1) (get_or s i 0 - 48) whole (Err refusal) = rw e at checked in
              let total : length (bytes_of_rows rows) + 8 ≡ with_it = ap (λ (m : ℕ). m + 8) sizes ∙ sum in
              stops_like refusal _ _ (begun rows is total) (bad rows so_far.0 (sized rows total))

          module _ (value : Value) (e : v ≡ Ok value) where
            good_value : Wholly s (i + 1) whole (λ rows cells. at rows cells (number (get_or s i 0 - 48))) value
            good_value = rw e at checked

            pub value_lies : (i < value.next) × (value.next ≤ length s)
            value_lies = (omega (arith, good_value.further), good_value.inside)

            pub whole_fits : value.size ≤ max_size
            whole_fits = good_value.size_fits

            cells_more : length (so_far.0 ++ good_value.cell ∷ []) ≡ count + 1
            cells_more = length-append so_far.0 (good_value.cell ∷ []) ∙ omega (arith, so_far.1)

            blobs_more : length (blobs (so_far.0 ++ good_value.cell ∷ [])) ≡ n + value.length
            blobs_more =
                ap length (size.blobs_snoc so_far.0 good_value.cell) ∙ length-append (blobs so_far.0) (blob_of good_value.cell.content)
                ∙ omega (arith, so_far.2, good_value.blob_length)

            size_more : with_it + length (cells_bytes (so_far.0 ++ good_value.cell ∷ [])) ≡ value.size
            size_more = omega (arith, size.row_snoc so_far.0 good_value.cell, size.row_size_lem so_far.0, size.row_size_lem (so_far.0 ++ good_value.cell ∷ []), so_far.3, good_value.size_with_lem)

            -- what was counted is no more than the rowset's bytes
            pub counts_small : (n + value.length ≤ value.size) × (count + 1 ≤ value.size)
            counts_small =
                let most = size.cells_most (so_far.0 ++ good_value.cell ∷ []) in
                (omega (arith, most, blobs_more, size_more), omega (arith, most, cells_more, size_more))

            pub values_more : value.last ≡ false → ValuesLeft s start row with_it value.next (count + 1) (n + value.length) value.size
            values_more e = (
              so_far.0 ++ good_value.cell ∷ [],
              cells_more,
              blobs_more,
              size_more,
              good_value.size_fits,
              omega (arith, so_far.5, room),
              omega (arith, so_far.6, good_value.further),
              good_value.inside,
              (λ none. absurd (omega arith)),
              (λ rows is sum. begun rows is sum ∙ good_value.goes rows so_far.0 (sized rows sum) ∙ ap (λ (b : Bool). from s value.next (behind_value b rows so_far.0 good_value.cell)) e),
            )

            pub values_last : value.last ≡ true → ValuesCheck s start row with_it (Ok record { next = value.next; values = count + 1; bytes = n + value.length; size = value.size })
            values_last e before sum = record {
              the_row = values (so_far.0 ++ good_value.cell ∷ []);
              count_is = cells_more;
              blob_length = blobs_more;
              size_with_lem = omega (arith, size_more, size.row_size_lem (so_far.0 ++ good_value.cell ∷ []));
              size_fits = good_value.size_fits;
              row_fits = few;
              further = omega (arith, so_far.6, good_value.further);
              inside = good_value.inside;
              goes = λ rows is sizes.
                  let total : length (bytes_of_rows rows) + 8 ≡ with_it = ap (λ (k : ℕ). k + 8) sizes ∙ sum in
                  begun rows is total ∙ good_value.goes rows so_far.0 (sized rows total) ∙ ap (λ (b : Bool). from s value.next (behind_value b rows so_far.0 good_value.cell)) e;
            }

-- A null row's line, behind its sign

module _ (s : List ℕ) (i with_it : ℕ) where
  pub null_early : length s ≤ i → NullChecks s i with_it (Err (BadText i))
  null_early h = λ row before few sum small rows is sizes. step.ends_early s i (hash rows) h (step.hash_early rows)

  module _ (h : i < length s) where
    pub null_other : (get_or s i 0 ≡ line_feed → ⊥) → NullChecks s i with_it (Err (BadText i))
    null_other isnt = λ row before few sum small rows is sizes. step.halts s i (hash rows) (inl tt) h (step.hash_other rows (get_or s i 0) isnt)

    pub null_whole : get_or s i 0 ≡ line_feed → NullChecks s i with_it (Ok record { next = i + 1; values = 0; bytes = 0; size = with_it })
    unfolding blobs
    null_whole e row before few sum small = record {
      the_row = null;
      count_is = refl;
      blob_length = refl;
      size_with_lem = omega (arith, size.null_size);
      size_fits = small;
      row_fits = few;
      further = omega arith;
      inside = omega arith;
      goes = λ rows is sizes. step.goes s i (hash rows) (at (rows ++ null ∷ []) [] fresh) h (step.hash_feed rows (get_or s i 0) e);
    }

-- A line

module _ (s : List ℕ) (i row before : ℕ) (h : i < length s) (begins : Bool) (told : begins ≡ (get_or s i 0 =? line_feed || get_or s i 0 =? null_sign || is_digit (get_or s i 0))) where
  pub line_other : begins ≡ false → LineChecks s i row before (Err (BadText i))
  line_other isnt = λ rows is sizes. step.halts s i (at rows [] fresh) (inl tt) h (step.line_other rows (get_or s i 0) (sym told ∙ isnt))

  module _ (fits : begins ≡ true) where
    pub line_many : row ≡ max_rows → LineChecks s i row before (Err (Limit (TooManyRows 5242881)))
    line_many most rows is sizes =
        let number_is : length rows + 1 ≡ 5242881 = omega (arith, is) in
        (i, step.halts s i (at rows [] fresh) (inr (refuse 10 ((length rows + 1) ∷ []))) h (step.line_many rows (get_or s i 0) (sym told ∙ fits) (omega (arith, is))) ∙ ap (λ (m : ℕ). stopped i (inr (refuse 10 (m ∷ [])))) number_is)

    module _ (few : row < max_rows) where
      pub line_large : max_size < before + 8 → LineChecks s i row before (Err (Limit (RowsetTooLarge (before + 8))))
      line_large large rows is sizes =
          let sum : size_with rows [] ≡ before + 8 = size.size_begun rows ∙ ap (λ (m : ℕ). m + 8) sizes in
          (i, step.halts s i (at rows [] fresh) (inr (refuse 13 (size_with rows [] ∷ []))) h (step.line_large rows (get_or s i 0) (sym told ∙ fits) (omega (arith, is)) (rw sum large)) ∙ ap (λ (m : ℕ). stopped i (inr (refuse 13 (m ∷ [])))) sum)

      module _ (small : before + 8 ≤ max_size) where
        sum_fits : (rows : List Row) → length (bytes_of_rows rows) ≡ before → size_with rows [] ≤ max_size
        sum_fits rows sizes = omega (arith, size.size_begun rows)

        pub line_empty : get_or s i 0 ≡ line_feed → LineChecks s i row before (Ok record { next = i + 1; values = 0; bytes = 0; size = before + 8 })
        unfolding blobs
        line_empty e = record {
          the_row = values [];
          count_is = refl;
          blob_length = refl;
          size_with_lem = omega (arith, size.empty_size);
          size_fits = small;
          row_fits = few;
          further = omega arith;
          inside = omega arith;
          goes = λ rows is sizes. step.goes s i (at rows [] fresh) (at (rows ++ values [] ∷ []) [] fresh) h (step.line_feed_lem rows (get_or s i 0) (omega (arith, is)) (sum_fits rows sizes) e);
        }

        pub line_null : get_or s i 0 ≡ null_sign → (r : Result Line TextError) → NullChecks s (i + 1) (before + 8) r → LineChecks s i row before r
        line_null e (Ok line) checked =
            let rest = checked row before few refl small in
            record {
              the_row = rest.the_row;
              count_is = rest.count_is;
              blob_length = rest.blob_length;
              size_with_lem = rest.size_with_lem;
              size_fits = rest.size_fits;
              row_fits = few;
              further = omega (arith, rest.further);
              inside = rest.inside;
              goes = λ rows is sizes. step.goes s i (at rows [] fresh) (hash rows) h (step.line_null rows (get_or s i 0) (omega (arith, is)) (sum_fits rows sizes) e) ∙ rest.goes rows is sizes;
            }
        line_null e (Err refusal) checked =
            λ rows is sizes.
            stops_like refusal _ _ (step.goes s i (at rows [] fresh) (hash rows) h (step.line_null rows (get_or s i 0) (omega (arith, is)) (sum_fits rows sizes) e)) (checked row before few refl small rows is sizes)

    -- neither of the signs: a digit
    pub line_digit : (get_or s i 0 ≡ line_feed → ⊥) → (get_or s i 0 ≡ null_sign → ⊥) → is_digit (get_or s i 0) ≡ true
    line_digit fed signed = rw (ne_eqb (get_or s i 0) line_feed fed, ne_eqb (get_or s i 0) null_sign signed) at (sym told ∙ fits)

-- The whole text: up to the place i

abbrev pub TextLeft : List ℕ → ℕ → ℕ → ℕ → ℕ → ℕ → Type 0
TextLeft s i row count n whole =
    (rows : List Row) × (length rows ≡ row) × (length (all_cells rows) ≡ count) × (length (area_bytes rows) ≡ n) × (length (bytes_of_rows rows) ≡ whole)
    × (whole ≤ max_size) × (row ≤ max_rows) × (i ≤ length s) × (from s 0 start ≡ from s i (at rows [] fresh))

pub text_begins : (s : List ℕ) → TextLeft s 0 0 0 0 8
unfolding all_cells area_bytes blobs
text_begins s = ([], refl, refl, refl, size.size_none, omega arith, omega arith, omega arith, refl)

module _ (s : List ℕ) (i row count n whole : ℕ) (so_far : TextLeft s i row count n whole) where
  pub text_done : length s ≤ i → Counts s (Ok record { rows = row; values = count; bytes = n })
  unfolding counting
  text_done h =
      let ends : walking s ≡ read so_far.0 = so_far.8 ∙ step.ends_read s i so_far.0 h in
      ap (λ (m : ℕ). accepted m (row ∷ count ∷ [])) (sym so_far.3)
      ∙ ap (λ (m : ℕ). accepted (length (area_bytes so_far.0)) (m ∷ count ∷ [])) (sym so_far.1)
      ∙ ap (λ (m : ℕ). accepted (length (area_bytes so_far.0)) (length so_far.0 ∷ m ∷ [])) (sym so_far.2)
      ∙ sym (ap (λ (e : Reading). ending_as counts e) ends)

  module _ (line : Result Line TextError) (checked : LineChecks s i row whole line) where
    pub text_stopped : (refusal : TextError) → line ≡ Err refusal → Counts s (Err refusal)
    unfolding counting
    text_stopped refusal e = each refusal (stops_like refusal _ _ so_far.8 (bad so_far.0 so_far.1 so_far.4))
      where
        bad : LineChecks s i row whole (Err refusal)
        bad = rw e at checked

        each : (refusal : TextError) → StopsBy refusal (walking s) → text_paper refusal ≡ ending_as counts (walking s)
        each (BadText place) stops = sym (ap (λ (x : Reading). ending_as counts x) stops)
        each (Limit limit) stops = sym (ap (λ (x : Reading). ending_as counts x) stops.1)

    module _ (found : Line) (e : line ≡ Ok found) where
      good_line : Wholes s i row whole (λ rows. at rows [] fresh) found
      good_line = rw e at checked

      pub line_lies : (i < found.next) × (found.next ≤ length s)
      line_lies = (good_line.further, good_line.inside)

      pub text_goes : TextLeft s found.next (row + 1) (count + found.values) (n + found.bytes) found.size
      unfolding area_bytes
      text_goes = (
        so_far.0 ++ good_line.the_row ∷ [],
        length-append so_far.0 (good_line.the_row ∷ []) ∙ omega (arith, so_far.1),
        ap length (size.cells_join so_far.0 good_line.the_row) ∙ length-append (all_cells so_far.0) (cells_of good_line.the_row) ∙ omega (arith, so_far.2, good_line.count_is),
        ap (λ (l : List Cell). length (blobs l)) (size.cells_join so_far.0 good_line.the_row) ∙ ap length (size.blobs_join (all_cells so_far.0) (cells_of good_line.the_row))
            ∙ length-append (blobs (all_cells so_far.0)) (blobs (cells_of good_line.the_row)) ∙ omega (arith, so_far.3, good_line.blob_length),
        size.size_row so_far.0 good_line.the_row ∙ omega (arith, so_far.4, good_line.size_with_lem),
        good_line.size_fits,
        omega (arith, good_line.row_fits),
        good_line.inside,
        so_far.8 ∙ good_line.goes so_far.0 so_far.1 so_far.4,
      )

      pub sums_fit : (count + found.values ≤ max_size) × (n + found.bytes ≤ max_size)
      unfolding area_bytes
      sums_fit =
          let all = text_goes in
          let most = size.rows_most all.0 in
          (omega (arith, most, all.2, all.4, all.5), omega (arith, most, all.3, all.4, all.5))
