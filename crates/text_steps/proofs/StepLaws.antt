-- How the reading goes on at a byte, state by state and test by test, and how it stops. Assumes nothing.
use mathlib.Core.Path.{◌≡◌, refl, sym, ◌∙◌, ap}
use mathlib.Core.Bool.{Bool, true, false, not, ◌&&◌, ◌||◌}
use mathlib.Core.List.{List, [], ◌∷◌, ◌++◌}
use mathlib.Core.Logic.{◌⊎◌, inl, inr, ⊎_elim}
use Prim.Native.Nat.{ℕ, zero, suc, ◌+◌, ◌-◌, ◌*◌, ◌<◌, ◌≤◌}
use native.Mathlib.Omega.{arith}
use borrow.Author.Tests.{not-false, lt-ltb, le-ltb, ne_eqb, eq-eqb, ltb-true, ltb-false, eqb-true, eqb-false}
use lib.ListN.{length, get_or, drop}
use Rattle.words.specs.Answer.{Answer, refuse}
use Rattle.words.specs.Decide.{pick, ◌<?◌, ◌=?◌}
use Rattle.words.proofs.DecideLaws.{pick_case}
use Rattle.places.specs.Machine.{on, off, read, stopped, run}
use Rattle.places.proofs.MachineLaws.{loop_on, loop_off, loop_read, loop_early}
use Rattle.wire.specs.Layout.{null_type, known, scalar, blob, max_rows, max_values, max_length, max_size}
use Rattle.wire.specs.Content.{Content, nothing, word, bytes, Cell, Row, null, values}
use Rattle.text_form.specs.Form.{tab, line_feed, null_sign, colon, aggregate_sign, percent_sign, escaped}
use Rattle.text_form.specs.Walk.{Phase, fresh, number, letter, digits, full, percent, second, State, hash, at, cell_of, type_of, small_value, capital_value, fits_word, fits_high, behind_digit, onward, step, close}
use Rattle.text_form.specs.Limits.{asked, asking, further, beginning, ending, lengthening, size_with, over, walk_within}
use Rattle.text_form.proofs.TextLaws.{both, not_true}
use Rattle.text_form.proofs.Reading.{Plain, plain}
use Rattle.text_steps.specs.Stages.{is_digit, from, bad_at, opened, Closed, behind_value}

-- at a byte of the text, and at its end
module _ (s : List ℕ) (i : ℕ) where
  pub goes : (q next : State) → i < length s → walk_within.step q (get_or s i 0) ≡ on next → from s i q ≡ from s (i + 1) next
  goes q next h e = loop_on walk_within q next s i h e

  pub halts : (q : State) (r : Unit {0} ⊎ Answer) → i < length s → walk_within.step q (get_or s i 0) ≡ off r → from s i q ≡ stopped i r
  halts q r h e = loop_off walk_within q s i r h e

  pub ends_early : (q : State) → length s ≤ i → walk_within.close q ≡ off (inl tt) → from s i q ≡ bad_at i
  ends_early q h e = loop_early walk_within q s i (inl tt) h e

  pub ends_read : (rows : List Row) → length s ≤ i → from s i (at rows [] fresh) ≡ read rows
  unfolding close
  ends_read rows h = loop_read walk_within (at rows [] fresh) s i rows h refl

-- behind the sign of a null row
module _ (rows : List Row) (b : ℕ) where
  pub hash_feed : b ≡ line_feed → walk_within.step (hash rows) b ≡ on (at (rows ++ null ∷ []) [] fresh)
  unfolding step over
  hash_feed e = rw e

  pub hash_other : (b ≡ line_feed → ⊥) → walk_within.step (hash rows) b ≡ off (inl tt)
  unfolding step over
  hash_other e = rw (ne_eqb b 10 e)

pub hash_early : (rows : List Row) → walk_within.close (hash rows) ≡ off (inl tt)
unfolding close
hash_early rows = refl

pub digit_range : (b : ℕ) → is_digit b ≡ true → (48 ≤ b) × (b < 58)
digit_range b e =
    let x = both (not (b <? 48)) (b <? 58) e in
    (low (b <? 48) refl x.0, ltb-true b 58 x.1)
  where
    low : (t : Bool) → (b <? 48) ≡ t → not (b <? 48) ≡ true → 48 ≤ b
    low true f g = not_true (sym (ap (λ (u : Bool). not u) f) ∙ g)
    low false f g = ltb-false b 48 f

pub digit_other : (b : ℕ) → is_digit b ≡ false → (b < 48) ⊎ (57 < b)
digit_other b e = low (b <? 48) refl
  where
    low : (t : Bool) → (b <? 48) ≡ t → (b < 48) ⊎ (57 < b)
    low true f = inl (ltb-true b 48 f)
    low false f =
        let past : (b <? 58) ≡ false = rw f at e in
        let high : 58 ≤ b = ltb-false b 58 past in
        inr (omega arith)

-- before a value
module _ (rows : List Row) (cells : List Cell) where
  -- no limit is met where a value begins, the row's own where it is the first
  pub ask_value : length rows + 1 ≤ max_rows → size_with rows [] ≤ max_size → length cells + 1 ≤ max_values → asking (beginning rows cells) ≡ on tt
  ask_value few small short = each cells short
    where
      each : (cells : List Cell) → length cells + 1 ≤ max_values → asking (beginning rows cells) ≡ on tt
      each [] short = rw (le-ltb max_rows (length rows + 1) few, le-ltb max_size (size_with rows []) small)
      each (c ∷ cells) short = rw (le-ltb max_values (length (c ∷ cells) + 1) short)

  pub ask_many : length cells ≡ max_values → asking (beginning rows cells) ≡ off (refuse 11 (length rows ∷ (max_values + 1) ∷ []))
  ask_many most = each cells most
    where
      each : (cells : List Cell) → length cells ≡ max_values → asking (beginning rows cells) ≡ off (refuse 11 (length rows ∷ (max_values + 1) ∷ []))
      each [] most = absurd (omega arith)
      each (c ∷ cells) most = rw most

  module _ (b : ℕ) where
    digit_step : is_digit b ≡ true → step (at rows cells fresh) b ≡ on (at rows cells (number (b - 48)))
    unfolding step
    digit_step is = each cells
      where
        range : (48 ≤ b) × (b < 58)
        range = digit_range b is

        each : (cells : List Cell) → step (at rows cells fresh) b ≡ on (at rows cells (number (b - 48)))
        each [] = rw (ne_eqb b 10 (λ e. omega (arith, range.0)), ne_eqb b 35 (λ e. omega (arith, range.0)), le-ltb b 48 range.0, lt-ltb b 58 range.1)
        each (c ∷ cells) = rw (le-ltb b 48 range.0, lt-ltb b 58 range.1)

    pub begin_value : is_digit b ≡ true → asking (beginning rows cells) ≡ on tt → walk_within.step (at rows cells fresh) b ≡ on (at rows cells (number (b - 48)))
    unfolding over
    begin_value is passes = rw (digit_step is, passes)

    pub begin_many : is_digit b ≡ true → (refusal : Answer) → asking (beginning rows cells) ≡ off refusal → walk_within.step (at rows cells fresh) b ≡ off (inr refusal)
    unfolding over
    begin_many is refusal fails = rw (digit_step is, fails)

    pub begin_other : is_digit b ≡ false → (length cells ≡ 0 → ⊥) → walk_within.step (at rows cells fresh) b ≡ off (inl tt)
    unfolding step over
    begin_other isnt some = each cells some (digit_other b isnt)
      where
        each : (cells : List Cell) → (length cells ≡ 0 → ⊥) → (b < 48) ⊎ (57 < b) → walk_within.step (at rows cells fresh) b ≡ off (inl tt)
        each [] some out = absurd (some refl)
        each (c ∷ cells) some (inl low) = rw (lt-ltb b 48 low)
        each (c ∷ cells) some (inr high) = rw (le-ltb b 48 (omega arith), le-ltb b 58 (omega arith))

  pub fresh_early : (length cells ≡ 0 → ⊥) → walk_within.close (at rows cells fresh) ≡ off (inl tt)
  unfolding close
  fresh_early some = each cells some
    where
      each : (cells : List Cell) → (length cells ≡ 0 → ⊥) → walk_within.close (at rows cells fresh) ≡ off (inl tt)
      each [] some = absurd (some refl)
      each (c ∷ cells) some = refl

-- at the start of a line
module _ (rows : List Row) (b : ℕ) where
  pub line_other : (b =? line_feed || b =? null_sign || is_digit b) ≡ false → walk_within.step (at rows [] fresh) b ≡ off (inl tt)
  unfolding step over
  line_other isnt = each (b =? line_feed) refl (b =? null_sign) refl
    where
      each : (x : Bool) → (b =? line_feed) ≡ x → (y : Bool) → (b =? null_sign) ≡ y → walk_within.step (at rows [] fresh) b ≡ off (inl tt)
      each true e y f = not_true (sym (rw e at isnt))
      each false e true f = not_true (sym (rw (e, f) at isnt))
      each false e false f = out (digit_other b (rw (e, f) at isnt))
        where
          out : (b < 48) ⊎ (57 < b) → walk_within.step (at rows [] fresh) b ≡ off (inl tt)
          out (inl low) = rw (e, f, lt-ltb b 48 low)
          out (inr high) = rw (e, f, le-ltb b 48 (omega arith), le-ltb b 58 (omega arith))

  -- 10 and 13 are asked of every byte that fits
  ask_rows : max_rows < length rows + 1 → asking (beginning rows []) ≡ off (refuse 10 ((length rows + 1) ∷ []))
  ask_rows many = rw (lt-ltb max_rows (length rows + 1) many)

  ask_large : length rows + 1 ≤ max_rows → max_size < size_with rows [] → asking (beginning rows []) ≡ off (refuse 13 (size_with rows [] ∷ []))
  ask_large few large = rw (le-ltb max_rows (length rows + 1) few, lt-ltb max_size (size_with rows []) large)

  -- a byte that fits leads on where no limit is met
  fits_step : (b =? line_feed || b =? null_sign || is_digit b) ≡ true → (next : State) × (step (at rows [] fresh) b ≡ on next)
  unfolding step
  fits_step is = each (b =? line_feed) refl (b =? null_sign) refl
    where
      each : (x : Bool) → (b =? line_feed) ≡ x → (y : Bool) → (b =? null_sign) ≡ y → (next : State) × (step (at rows [] fresh) b ≡ on next)
      each true e y f = (at (rows ++ values [] ∷ []) [] fresh, rw e)
      each false e true f = (hash rows, rw (e, f))
      each false e false f =
          let range = digit_range b (rw (e, f) at is) in
          (at rows [] (number (b - 48)), rw (e, f, le-ltb b 48 range.0, lt-ltb b 58 range.1))

  line_limit : (b =? line_feed || b =? null_sign || is_digit b) ≡ true → (refusal : Answer) → asking (beginning rows []) ≡ off refusal → walk_within.step (at rows [] fresh) b ≡ off (inr refusal)
  unfolding over
  line_limit is refusal fails = let next = fits_step is in rw (next.1, fails)

  pub line_many : (b =? line_feed || b =? null_sign || is_digit b) ≡ true → max_rows < length rows + 1 → walk_within.step (at rows [] fresh) b ≡ off (inr (refuse 10 ((length rows + 1) ∷ [])))
  line_many is many = line_limit is _ (ask_rows many)

  pub line_large : (b =? line_feed || b =? null_sign || is_digit b) ≡ true → length rows + 1 ≤ max_rows → max_size < size_with rows []
      → walk_within.step (at rows [] fresh) b ≡ off (inr (refuse 13 (size_with rows [] ∷ [])))
  line_large is few large = line_limit is _ (ask_large few large)

  module _ (few : length rows + 1 ≤ max_rows) (small : size_with rows [] ≤ max_size) where
    passes : asking (beginning rows []) ≡ on tt
    passes = ask_value rows [] few small (omega arith)

    pub line_feed_lem : b ≡ line_feed → walk_within.step (at rows [] fresh) b ≡ on (at (rows ++ values [] ∷ []) [] fresh)
    unfolding step over
    line_feed_lem e = rw (e, passes)

    pub line_null : b ≡ null_sign → walk_within.step (at rows [] fresh) b ≡ on (hash rows)
    unfolding step over
    line_null e = rw (e, passes)

-- in an id
module _ (rows : List Row) (cells : List Cell) (n b : ℕ) where
  pub number_colon : b ≡ colon → walk_within.step (at rows cells (number n)) b ≡ on (at rows cells (letter n 0))
  unfolding step over
  number_colon e = rw e

  pub number_low : b < 48 → walk_within.step (at rows cells (number n)) b ≡ off (inl tt)
  unfolding step over
  number_low low = rw (ne_eqb b 58 (λ e. omega arith), lt-ltb b 48 low)

  module _ (other : b ≡ colon → ⊥) where
    pub number_high : 57 < b → walk_within.step (at rows cells (number n)) b ≡ off (inl tt)
    unfolding step over
    number_high high = rw (ne_eqb b 58 other, le-ltb b 48 (omega arith), lt-ltb 57 b high)

    module _ (low : 48 ≤ b) (high : b ≤ 57) where
      pub number_zero : n ≡ 0 → walk_within.step (at rows cells (number n)) b ≡ off (inl tt)
      unfolding step over
      number_zero none = rw (ne_eqb b 58 other, le-ltb b 48 low, le-ltb 57 b high, eq-eqb n 0 none)

      module _ (some : n ≡ 0 → ⊥) where
        pub number_over : 65_535 < n * 10 + (b - 48) → walk_within.step (at rows cells (number n)) b ≡ off (inl tt)
        unfolding step over
        number_over much = rw (ne_eqb b 58 other, le-ltb b 48 low, le-ltb 57 b high, ne_eqb n 0 some, lt-ltb 65535 (n * 10 + (b - 48)) much)

        pub number_more : n * 10 + (b - 48) ≤ 65_535 → walk_within.step (at rows cells (number n)) b ≡ on (at rows cells (number (n * 10 + (b - 48))))
        unfolding step over
        number_more little = rw (ne_eqb b 58 other, le-ltb b 48 low, le-ltb 57 b high, ne_eqb n 0 some, le-ltb 65535 (n * 10 + (b - 48)) little)

pub number_early : (rows : List Row) (cells : List Cell) (n : ℕ) → walk_within.close (at rows cells (number n)) ≡ off (inl tt)
unfolding close
number_early rows cells n = refl

-- behind the colon, or behind the aggregate sign
module _ (rows : List Row) (cells : List Cell) (id : ℕ) where
  pub letter_sign : (b : ℕ) → b ≡ aggregate_sign → walk_within.step (at rows cells (letter id 0)) b ≡ on (at rows cells (letter id 1))
  unfolding step over
  letter_sign b e = rw e

  module _ (aggregate b : ℕ) (signless : b ≡ aggregate_sign → aggregate ≡ 0 → ⊥) where
    no_sign : (b =? aggregate_sign && aggregate =? 0) ≡ false
    no_sign = each (b =? aggregate_sign) refl (aggregate =? 0) refl
      where
        each : (x : Bool) → (b =? aggregate_sign) ≡ x → (y : Bool) → (aggregate =? 0) ≡ y → (b =? aggregate_sign && aggregate =? 0) ≡ false
        each true e true f = absurd (signless (eqb-true b aggregate_sign e) (eqb-true aggregate 0 f))
        each true e false f = rw (e, f)
        each false e y f = rw e

    pub letter_null : type_of b ≡ null_type → walk_within.step (at rows cells (letter id aggregate)) b ≡ on (at rows cells (opened id aggregate null_type))
    unfolding step over
    letter_null e = rw (no_sign, e)

    pub letter_scalar : 2 < type_of b → type_of b < 7 → walk_within.step (at rows cells (letter id aggregate)) b ≡ on (at rows cells (opened id aggregate (type_of b)))
    unfolding step over
    letter_scalar low high =
        rw (no_sign, ne_eqb (type_of b) 2 (λ e. omega arith), lt-ltb 2 (type_of b) low, lt-ltb (type_of b) 7 high, le-ltb 15 (type_of b) (omega arith))

    pub letter_blob : 15 < type_of b → type_of b < 19 → walk_within.step (at rows cells (letter id aggregate)) b ≡ on (at rows cells (opened id aggregate (type_of b)))
    unfolding step over
    letter_blob low high =
        rw (no_sign, ne_eqb (type_of b) 2 (λ e. omega arith), lt-ltb 2 (type_of b) (omega arith), le-ltb (type_of b) 7 (omega arith), lt-ltb 15 (type_of b) low, lt-ltb (type_of b) 19 high)

    pub letter_other : known (type_of b) ≡ false → scalar (type_of b) ≡ false → blob (type_of b) ≡ false → walk_within.step (at rows cells (letter id aggregate)) b ≡ off (inl tt)
    unfolding step over
    letter_other isnt s t = each (type_of b =? null_type) refl
      where
        each : (x : Bool) → (type_of b =? null_type) ≡ x → walk_within.step (at rows cells (letter id aggregate)) b ≡ off (inl tt)
        each true e = not_true (sym (rw e at isnt))
        each false e = rw (no_sign, e, s, t)

pub letter_early : (rows : List Row) (cells : List Cell) (id aggregate : ℕ) → walk_within.close (at rows cells (letter id aggregate)) ≡ off (inl tt)
unfolding close
letter_early rows cells id aggregate = refl

-- in a scalar
module _ (rows : List Row) (cells : List Cell) (id aggregate type k w b : ℕ) where
  pub digit_on : fits_word type k (small_value b) ≡ true → walk_within.step (at rows cells (digits id aggregate type k w)) b ≡ on (behind_digit rows cells id aggregate type k (w * 16 + small_value b))
  unfolding step over
  digit_on fits = rw fits

  pub digit_off : fits_word type k (small_value b) ≡ false → walk_within.step (at rows cells (digits id aggregate type k w)) b ≡ off (inl tt)
  unfolding step over
  digit_off isnt = rw isnt

pub digits_early : (rows : List Row) (cells : List Cell) (id aggregate type k w : ℕ) → walk_within.close (at rows cells (digits id aggregate type k w)) ≡ off (inl tt)
unfolding close
digits_early rows cells id aggregate type k w = refl

-- in a blob
module _ (rows : List Row) (cells : List Cell) (id aggregate type : ℕ) (t : List ℕ) where
  module _ (b : ℕ) where
    module _ (isnt : escaped b ≡ false) where
      p : Plain b
      p = plain b isnt

      pub plain_on : length t + 1 ≤ max_length → walk_within.step (at rows cells (full (cell_of id aggregate type (bytes t)))) b ≡ on (at rows cells (full (cell_of id aggregate type (bytes (t ++ b ∷ [])))))
      unfolding step over
      plain_on short =
          rw (isnt, ne_eqb b 9 (λ e. omega (arith, p.low)), ne_eqb b 10 (λ e. omega (arith, p.low)), ne_eqb b 37 p.other, le-ltb max_length (length t + 1) short)

      pub plain_over : max_length < length t + 1 → walk_within.step (at rows cells (full (cell_of id aggregate type (bytes t)))) b ≡ off (inr (refuse 12 ((length t + 1) ∷ [])))
      unfolding step over
      plain_over long =
          rw (isnt, ne_eqb b 9 (λ e. omega (arith, p.low)), ne_eqb b 10 (λ e. omega (arith, p.low)), ne_eqb b 37 p.other, lt-ltb max_length (length t + 1) long)

    pub percent_begins : b ≡ percent_sign → walk_within.step (at rows cells (full (cell_of id aggregate type (bytes t)))) b ≡ on (at rows cells (percent id aggregate type t))
    unfolding step over
    percent_begins e = rw e

    pub blob_other : escaped b ≡ true → (b ≡ percent_sign → ⊥) → (b ≡ tab → ⊥) → (b ≡ line_feed → ⊥) → walk_within.step (at rows cells (full (cell_of id aggregate type (bytes t)))) b ≡ off (inl tt)
    unfolding step over
    blob_other is sign tabbed fed = rw (is, ne_eqb b 9 tabbed, ne_eqb b 10 fed, ne_eqb b 37 sign)

    pub high_on : fits_high (capital_value b) ≡ true → walk_within.step (at rows cells (percent id aggregate type t)) b ≡ on (at rows cells (second id aggregate type t (capital_value b)))
    unfolding step over
    high_on fits = rw fits

    pub high_off : fits_high (capital_value b) ≡ false → walk_within.step (at rows cells (percent id aggregate type t)) b ≡ off (inl tt)
    unfolding step over
    high_off isnt = rw isnt

    module _ (h : ℕ) where
      pub low_other : 15 < capital_value b → walk_within.step (at rows cells (second id aggregate type t h)) b ≡ off (inl tt)
      unfolding step over
      low_other past = rw (lt-ltb 15 (capital_value b) past)

      module _ (low : capital_value b ≤ 15) where
        pub low_off : escaped (h * 16 + capital_value b) ≡ false → walk_within.step (at rows cells (second id aggregate type t h)) b ≡ off (inl tt)
        unfolding step over
        low_off isnt = rw (le-ltb 15 (capital_value b) low, isnt)

        pub low_on : escaped (h * 16 + capital_value b) ≡ true → length t + 1 ≤ max_length
            → walk_within.step (at rows cells (second id aggregate type t h)) b ≡ on (at rows cells (full (cell_of id aggregate type (bytes (t ++ (h * 16 + capital_value b) ∷ [])))))
        unfolding step over
        low_on is short = rw (le-ltb 15 (capital_value b) low, is, le-ltb max_length (length t + 1) short)

        pub low_over : escaped (h * 16 + capital_value b) ≡ true → max_length < length t + 1
            → walk_within.step (at rows cells (second id aggregate type t h)) b ≡ off (inr (refuse 12 ((length t + 1) ∷ [])))
        unfolding step over
        low_over is long = rw (le-ltb 15 (capital_value b) low, is, lt-ltb max_length (length t + 1) long)

  pub percent_early : walk_within.close (at rows cells (percent id aggregate type t)) ≡ off (inl tt)
  unfolding close
  percent_early = refl

  pub second_early : (h : ℕ) → walk_within.close (at rows cells (second id aggregate type t h)) ≡ off (inl tt)
  unfolding close
  second_early h = refl

-- behind a value
module _ (rows : List Row) (cells : List Cell) (c : Cell) where
  pub full_early : walk_within.close (at rows cells (full c)) ≡ off (inl tt)
  unfolding close
  full_early = refl

  module _ (b : ℕ) where
    module _ (small : size_with rows (cells ++ c ∷ []) ≤ max_size) where
      pub full_tab : b ≡ tab → walk_within.step (at rows cells (full c)) b ≡ on (at rows (cells ++ c ∷ []) fresh)
      unfolding step over
      full_tab e = rw (e, le-ltb max_size (size_with rows (cells ++ c ∷ [])) small)

      pub full_feed : b ≡ line_feed → walk_within.step (at rows cells (full c)) b ≡ on (at (rows ++ values (cells ++ c ∷ []) ∷ []) [] fresh)
      unfolding step over
      full_feed e = rw (e, le-ltb max_size (size_with rows (cells ++ c ∷ [])) small)

    module _ (large : max_size < size_with rows (cells ++ c ∷ [])) where
      pub full_large : (b ≡ tab) ⊎ (b ≡ line_feed) → walk_within.step (at rows cells (full c)) b ≡ off (inr (refuse 13 (size_with rows (cells ++ c ∷ []) ∷ [])))
      unfolding step over
      full_large (inl e) = rw (e, lt-ltb max_size (size_with rows (cells ++ c ∷ [])) large)
      full_large (inr e) = rw (e, lt-ltb max_size (size_with rows (cells ++ c ∷ [])) large)

  pub full_other : (b : ℕ) → Closed c.content → (b ≡ tab → ⊥) → (b ≡ line_feed → ⊥) → walk_within.step (at rows cells (full c)) b ≡ off (inl tt)
  unfolding step over
  full_other b shut tabbed fed = rw (ne_eqb b 9 tabbed, ne_eqb b 10 fed) (each c.content shut)
    where
      each : (content : Content) → Closed content → asked (onward rows cells c.id c.aggregate c.type content b) (further content b) ≡ off (inl tt)
      each nothing shut = refl
      each (word w) shut = refl
      each (bytes s) shut = absurd shut

-- a high digit that fits is one digit
pub high_most : (h : ℕ) → fits_high h ≡ true → h ≤ 15
high_most h =
    pick_case (h <? 3) true _ (λ (x : Bool). x ≡ true → h ≤ 15) (λ e _. let low = ltb-true h 3 e in omega arith)
    (λ _. pick_case (h <? 7) false _ (λ (x : Bool). x ≡ true → h ≤ 15) (λ _ e. not_true e) (λ _ e. let low = ltb-true h 16 e in omega arith))
