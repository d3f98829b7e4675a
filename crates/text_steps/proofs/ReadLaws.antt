-- A reading that comes to its end, state by state: which bytes may stand there, and what they lead to. Assumes nothing.
use mathlib.Core.Path.{◌≡◌, refl, sym, ◌∙◌, ap}
use mathlib.Core.Bool.{Bool, true, false, not, ◌&&◌, ◌||◌}
use mathlib.Core.List.{List, [], ◌∷◌, ◌++◌}
use mathlib.Core.Logic.{◌⊎◌, inl, inr, ⊎_elim}
use Prim.Native.Nat.{ℕ, zero, suc, ◌+◌, ◌-◌, ◌*◌, ◌<◌, ◌≤◌}
use native.Mathlib.Omega.{arith}
use borrow.Author.Tests.{lt-ltb, le-ltb, ltb-true, ltb-false, eqb-true, eqb-false, ne_eqb}
use lib.ListN.{length, get_or}
use Rattle.words.specs.Answer.{Answer}
use Rattle.words.specs.Decide.{pick, ◌<?◌, ◌=?◌}
use Rattle.words.proofs.DecideLaws.{le_or_gt, pick_case}
use Rattle.places.specs.Machine.{on, off, read, stopped}
use Rattle.places.proofs.MachineLaws.{read_not_stopped, move_told}
use Rattle.wire.specs.Layout.{null_type, known, scalar, blob, max_rows, max_values, max_length, max_size}
use Rattle.wire.specs.Content.{Content, nothing, word, bytes, Cell, Row, null, values}
use Rattle.text_form.specs.Form.{tab, line_feed, null_sign, colon, aggregate_sign, percent_sign, escaped}
use Rattle.text_form.specs.Walk.{Phase, fresh, number, letter, digits, full, percent, second, State, hash, at, cell_of, type_of, small_value, capital_value, fits_word, fits_high, behind_digit, step, close}
use Rattle.text_form.specs.Limits.{asking, beginning, size_with, walk_within}
use Rattle.text_form.proofs.TextLaws.{both, not_true}
use Rattle.text_steps.specs.Stages.{is_digit, from, bad_at, opened, Closed, behind_value}
use Rattle.text_steps.proofs.StepLaws as steps

module _ (s : List ℕ) (i : ℕ) (q : State) (final : List Row) (reads : from s i q ≡ read final) where
  -- it does not stop there
  pub goes_on : (p : ℕ) (r : Unit {0} ⊎ Answer) → from s i q ≡ stopped p r → ⊥
  goes_on p r e = read_not_stopped final p r (sym reads ∙ e)

  -- a byte is there
  pub there : walk_within.close q ≡ off (inl tt) → i < length s
  there e = ⊎_elim (λ (h : length s ≤ i). absurd (goes_on i (inl tt) (steps.ends_early s i q h e))) (λ (h : i < length s). h) (le_or_gt (length s) i)

  -- and leads on
  pub leads_on : i < length s → (next : State) × (walk_within.step q (get_or s i 0) ≡ on next) × (from s (i + 1) next ≡ read final)
  leads_on h = each (move_told (walk_within.step q (get_or s i 0)))
    where
      each : ((next : State) × (walk_within.step q (get_or s i 0) ≡ on next)) ⊎ ((r : Unit {0} ⊎ Answer) × (walk_within.step q (get_or s i 0) ≡ off r))
          → (next : State) × (walk_within.step q (get_or s i 0) ≡ on next) × (from s (i + 1) next ≡ read final)
      each (inl n) = (n.0, n.1, sym (steps.goes s i q n.0 h n.1) ∙ reads)
      each (inr r) = absurd (goes_on i r.0 (steps.halts s i q r.0 h r.1))

  pub next_is : i < length s → (next : State) → walk_within.step q (get_or s i 0) ≡ on next → from s (i + 1) next ≡ read final
  next_is h next e = sym (steps.goes s i q next h e) ∙ reads

  pub not_off : i < length s → (r : Unit {0} ⊎ Answer) → walk_within.step q (get_or s i 0) ≡ off r → ⊥
  not_off h r e = goes_on i r (steps.halts s i q r h e)

-- in an id
module _ (s : List ℕ) (i n : ℕ) (rows : List Row) (cells : List Cell) (final : List Row) (reads : from s i (at rows cells (number n)) ≡ read final) where
  pub number_there : i < length s
  number_there = there s i _ final reads (steps.number_early rows cells n)

  pub number_colon : get_or s i 0 ≡ colon → from s (i + 1) (at rows cells (letter n 0)) ≡ read final
  number_colon e = next_is s i _ final reads number_there (at rows cells (letter n 0)) (steps.number_colon rows cells n (get_or s i 0) e)

  module _ (other : get_or s i 0 ≡ colon → ⊥) where
    pub number_low : 48 ≤ get_or s i 0
    number_low = ⊎_elim (λ (h : 48 ≤ get_or s i 0). h) (λ (h : get_or s i 0 < 48). absurd (not_off s i _ final reads number_there (inl tt) (steps.number_low rows cells n (get_or s i 0) h))) (le_or_gt 48 (get_or s i 0))

    pub number_high : get_or s i 0 ≤ 57
    number_high = ⊎_elim (λ (h : get_or s i 0 ≤ 57). h) (λ (h : 57 < get_or s i 0). absurd (not_off s i _ final reads number_there (inl tt) (steps.number_high rows cells n (get_or s i 0) other h))) (le_or_gt (get_or s i 0) 57)

    number_some : n ≡ 0 → ⊥
    number_some e = not_off s i _ final reads number_there (inl tt) (steps.number_zero rows cells n (get_or s i 0) other number_low number_high e)

    pub number_small : n * 10 + (get_or s i 0 - 48) ≤ 65_535
    number_small =
        ⊎_elim (λ (h : n * 10 + (get_or s i 0 - 48) ≤ 65_535). h)
        (λ (h : 65_535 < n * 10 + (get_or s i 0 - 48)). absurd (not_off s i _ final reads number_there (inl tt) (steps.number_over rows cells n (get_or s i 0) other number_low number_high number_some h)))
        (le_or_gt (n * 10 + (get_or s i 0 - 48)) 65_535)

    pub number_more : from s (i + 1) (at rows cells (number (n * 10 + (get_or s i 0 - 48)))) ≡ read final
    number_more = next_is s i _ final reads number_there _ (steps.number_more rows cells n (get_or s i 0) other number_low number_high number_some number_small)

-- behind the colon, or behind the aggregate sign
module _ (s : List ℕ) (i : ℕ) (rows : List Row) (cells : List Cell) (id aggregate : ℕ) (final : List Row) (reads : from s i (at rows cells (letter id aggregate)) ≡ read final) where
  pub letter_there : i < length s
  letter_there = there s i _ final reads (steps.letter_early rows cells id aggregate)

  pub letter_known : (get_or s i 0 ≡ aggregate_sign → aggregate ≡ 0 → ⊥) → (known (type_of (get_or s i 0)) ≡ true) × (from s (i + 1) (at rows cells (opened id aggregate (type_of (get_or s i 0)))) ≡ read final)
  letter_known signless = by_null (type_of (get_or s i 0) =? null_type) refl
    where
      b : ℕ
      b = get_or s i 0

      by_blob : (type_of (get_or s i 0) =? null_type) ≡ false → scalar (type_of (get_or s i 0)) ≡ false → (z : Bool) → blob (type_of (get_or s i 0)) ≡ z
          → (known (type_of (get_or s i 0)) ≡ true) × (from s (i + 1) (at rows cells (opened id aggregate (type_of (get_or s i 0)))) ≡ read final)
      by_blob e f true g =
          let range = both (15 <? type_of (get_or s i 0)) (type_of (get_or s i 0) <? 19) g in
          (rw (e, f, g), next_is s i _ final reads letter_there _ (steps.letter_blob rows cells id aggregate (get_or s i 0) signless (ltb-true 15 _ range.0) (ltb-true _ 19 range.1)))
      by_blob e f false g = absurd (not_off s i _ final reads letter_there (inl tt) (steps.letter_other rows cells id aggregate (get_or s i 0) signless (rw (e, f, g)) f g))

      by_scalar : (type_of (get_or s i 0) =? null_type) ≡ false → (y : Bool) → scalar (type_of (get_or s i 0)) ≡ y
          → (known (type_of (get_or s i 0)) ≡ true) × (from s (i + 1) (at rows cells (opened id aggregate (type_of (get_or s i 0)))) ≡ read final)
      by_scalar e true f =
          let range = both (2 <? type_of (get_or s i 0)) (type_of (get_or s i 0) <? 7) f in
          (rw (e, f), next_is s i _ final reads letter_there _ (steps.letter_scalar rows cells id aggregate (get_or s i 0) signless (ltb-true 2 _ range.0) (ltb-true _ 7 range.1)))
      by_scalar e false f = by_blob e f (blob (type_of (get_or s i 0))) refl

      by_null : (x : Bool) → (type_of (get_or s i 0) =? null_type) ≡ x
          → (known (type_of (get_or s i 0)) ≡ true) × (from s (i + 1) (at rows cells (opened id aggregate (type_of (get_or s i 0)))) ≡ read final)
      by_null true e =
          let is : type_of (get_or s i 0) ≡ null_type = eqb-true _ null_type e in
          (rw is, rw is (next_is s i _ final reads letter_there _ (steps.letter_null rows cells id aggregate (get_or s i 0) signless is)))
      by_null false e = by_scalar e (scalar (type_of (get_or s i 0))) refl

  pub letter_sign : aggregate ≡ 0 → get_or s i 0 ≡ aggregate_sign → from s (i + 1) (at rows cells (letter id 1)) ≡ read final
  letter_sign none e =
      next_is s i (at rows cells (letter id 0)) final (rw (← none) reads) letter_there (at rows cells (letter id 1)) (steps.letter_sign rows cells id (get_or s i 0) e)

-- in a scalar
fits_digit : (type k v : ℕ) → fits_word type k v ≡ true → v ≤ 15
fits_digit type k v = pick_case (15 <? v) false _ (λ (x : Bool). x ≡ true → v ≤ 15) (λ _ e. not_true e) (λ f _. ltb-false 15 v f)

module _ (s : List ℕ) (i : ℕ) (rows : List Row) (cells : List Cell) (id aggregate type k w : ℕ) (final : List Row) (reads : from s i (at rows cells (digits id aggregate type k w)) ≡ read final) where
  pub digit_there : i < length s
  digit_there = there s i _ final reads (steps.digits_early rows cells id aggregate type k w)

  pub digit_fits : (small_value (get_or s i 0) ≤ 15) × (from s (i + 1) (behind_digit rows cells id aggregate type k (w * 16 + small_value (get_or s i 0))) ≡ read final)
  digit_fits = each (fits_word type k (small_value (get_or s i 0))) refl
    where
      each : (x : Bool) → fits_word type k (small_value (get_or s i 0)) ≡ x → (small_value (get_or s i 0) ≤ 15) × (from s (i + 1) (behind_digit rows cells id aggregate type k (w * 16 + small_value (get_or s i 0))) ≡ read final)
      each true e = (fits_digit type k (small_value (get_or s i 0)) e, next_is s i _ final reads digit_there _ (steps.digit_on rows cells id aggregate type k w (get_or s i 0) e))
      each false e = absurd (not_off s i _ final reads digit_there (inl tt) (steps.digit_off rows cells id aggregate type k w (get_or s i 0) e))

-- in a blob
module _ (s : List ℕ) (i : ℕ) (rows : List Row) (cells : List Cell) (id aggregate type : ℕ) (t : List ℕ) (final : List Row) where
  module _ (reads : from s i (at rows cells (full (cell_of id aggregate type (bytes t)))) ≡ read final) where
    pub blob_there : i < length s
    blob_there = there s i _ final reads (steps.full_early rows cells (cell_of id aggregate type (bytes t)))

    pub blob_sign : get_or s i 0 ≡ percent_sign → from s (i + 1) (at rows cells (percent id aggregate type t)) ≡ read final
    blob_sign e = next_is s i _ final reads blob_there _ (steps.percent_begins rows cells id aggregate type t (get_or s i 0) e)

    pub blob_plain : (get_or s i 0 ≡ percent_sign → ⊥) → (get_or s i 0 ≡ tab → ⊥) → (get_or s i 0 ≡ line_feed → ⊥)
        → from s (i + 1) (at rows cells (full (cell_of id aggregate type (bytes (t ++ get_or s i 0 ∷ []))))) ≡ read final
    blob_plain sign tabbed fed = each (escaped (get_or s i 0)) refl
      where
        room : escaped (get_or s i 0) ≡ false → from s (i + 1) (at rows cells (full (cell_of id aggregate type (bytes (t ++ get_or s i 0 ∷ []))))) ≡ read final
        room e =
            ⊎_elim
            (λ (short : length t + 1 ≤ max_length). next_is s i _ final reads blob_there _ (steps.plain_on rows cells id aggregate type t (get_or s i 0) e short))
            (λ (long : max_length < length t + 1). absurd (not_off s i _ final reads blob_there _ (steps.plain_over rows cells id aggregate type t (get_or s i 0) e long)))
            (le_or_gt (length t + 1) max_length)

        each : (x : Bool) → escaped (get_or s i 0) ≡ x → from s (i + 1) (at rows cells (full (cell_of id aggregate type (bytes (t ++ get_or s i 0 ∷ []))))) ≡ read final
        each true e = absurd (not_off s i _ final reads blob_there (inl tt) (steps.blob_other rows cells id aggregate type t (get_or s i 0) e sign tabbed fed))
        each false e = room e

  module _ (reads : from s i (at rows cells (percent id aggregate type t)) ≡ read final) where
    pub high_there : i < length s
    high_there = there s i _ final reads (steps.percent_early rows cells id aggregate type t)

    pub high_fits : (capital_value (get_or s i 0) ≤ 15) × (from s (i + 1) (at rows cells (second id aggregate type t (capital_value (get_or s i 0)))) ≡ read final)
    high_fits = each (fits_high (capital_value (get_or s i 0))) refl
      where
        each : (x : Bool) → fits_high (capital_value (get_or s i 0)) ≡ x → (capital_value (get_or s i 0) ≤ 15) × (from s (i + 1) (at rows cells (second id aggregate type t (capital_value (get_or s i 0)))) ≡ read final)
        each true e = (steps.high_most (capital_value (get_or s i 0)) e, next_is s i _ final reads high_there _ (steps.high_on rows cells id aggregate type t (get_or s i 0) e))
        each false e = absurd (not_off s i _ final reads high_there (inl tt) (steps.high_off rows cells id aggregate type t (get_or s i 0) e))

  module _ (h : ℕ) (reads : from s i (at rows cells (second id aggregate type t h)) ≡ read final) where
    pub low_there : i < length s
    low_there = there s i _ final reads (steps.second_early rows cells id aggregate type t h)

    pub low_fits : (capital_value (get_or s i 0) ≤ 15) × (from s (i + 1) (at rows cells (full (cell_of id aggregate type (bytes (t ++ (h * 16 + capital_value (get_or s i 0)) ∷ []))))) ≡ read final)
    low_fits =
        ⊎_elim
        (λ (small : capital_value (get_or s i 0) ≤ 15). (small, each small (escaped (h * 16 + capital_value (get_or s i 0))) refl))
        (λ (past : 15 < capital_value (get_or s i 0)). absurd (not_off s i _ final reads low_there (inl tt) (steps.low_other rows cells id aggregate type t (get_or s i 0) h past)))
        (le_or_gt (capital_value (get_or s i 0)) 15)
      where
        each : capital_value (get_or s i 0) ≤ 15 → (x : Bool) → escaped (h * 16 + capital_value (get_or s i 0)) ≡ x
            → from s (i + 1) (at rows cells (full (cell_of id aggregate type (bytes (t ++ (h * 16 + capital_value (get_or s i 0)) ∷ []))))) ≡ read final
        each small true e =
            ⊎_elim
            (λ (short : length t + 1 ≤ max_length). next_is s i _ final reads low_there _ (steps.low_on rows cells id aggregate type t (get_or s i 0) h small e short))
            (λ (long : max_length < length t + 1). absurd (not_off s i _ final reads low_there _ (steps.low_over rows cells id aggregate type t (get_or s i 0) h small e long)))
            (le_or_gt (length t + 1) max_length)
        each small false e = absurd (not_off s i _ final reads low_there (inl tt) (steps.low_off rows cells id aggregate type t (get_or s i 0) h small e))

-- behind a value
module _ (s : List ℕ) (i : ℕ) (rows : List Row) (cells : List Cell) (c : Cell) (final : List Row) (reads : from s i (at rows cells (full c)) ≡ read final) where
  pub full_there : i < length s
  full_there = there s i _ final reads (steps.full_early rows cells c)

  -- at a tab or a line feed the value ends
  pub value_ends : (get_or s i 0 ≡ tab) ⊎ (get_or s i 0 ≡ line_feed) → from s (i + 1) (behind_value (get_or s i 0 =? line_feed) rows cells c) ≡ read final
  value_ends byte =
      ⊎_elim
      (λ (small : size_with rows (cells ++ c ∷ []) ≤ max_size). each small (get_or s i 0 =? line_feed) refl byte)
      (λ (large : max_size < size_with rows (cells ++ c ∷ [])). absurd (not_off s i _ final reads full_there _ (steps.full_large rows cells c (get_or s i 0) large byte)))
      (le_or_gt (size_with rows (cells ++ c ∷ [])) max_size)
    where
      each : size_with rows (cells ++ c ∷ []) ≤ max_size → (last : Bool) → (get_or s i 0 =? line_feed) ≡ last → (get_or s i 0 ≡ tab) ⊎ (get_or s i 0 ≡ line_feed) → from s (i + 1) (behind_value last rows cells c) ≡ read final
      each small true e b = next_is s i _ final reads full_there _ (steps.full_feed rows cells c (get_or s i 0) small (eqb-true (get_or s i 0) line_feed e))
      each small false e (inl f) = next_is s i _ final reads full_there _ (steps.full_tab rows cells c (get_or s i 0) small f)
      each small false e (inr f) = absurd (eqb-false (get_or s i 0) line_feed e f)

  -- and where nothing else fits, one of them is there
  pub closed_ends : Closed c.content → (get_or s i 0 ≡ tab) ⊎ (get_or s i 0 ≡ line_feed)
  closed_ends shut = by_tab (get_or s i 0 =? tab) refl
    where
      by_feed : (get_or s i 0 ≡ tab → ⊥) → (y : Bool) → (get_or s i 0 =? line_feed) ≡ y → (get_or s i 0 ≡ tab) ⊎ (get_or s i 0 ≡ line_feed)
      by_feed other true e = inr (eqb-true (get_or s i 0) line_feed e)
      by_feed other false e = absurd (not_off s i _ final reads full_there (inl tt) (steps.full_other rows cells c (get_or s i 0) shut other (eqb-false (get_or s i 0) line_feed e)))

      by_tab : (x : Bool) → (get_or s i 0 =? tab) ≡ x → (get_or s i 0 ≡ tab) ⊎ (get_or s i 0 ≡ line_feed)
      by_tab true e = inl (eqb-true (get_or s i 0) tab e)
      by_tab false e = by_feed (eqb-false (get_or s i 0) tab e) (get_or s i 0 =? line_feed) refl
