-- How the stages of the second walk go on: an id, a head, a scalar, a blob. Assumes nothing.
use mathlib.Core.Path.{◌≡◌, refl, sym, ◌∙◌, ap}
use mathlib.Core.List.{List}
use Prim.Native.Nat.{ℕ, zero, suc, ◌+◌, ◌-◌, ◌*◌, ◌^◌, ◌<◌, ◌≤◌}
use native.Mathlib.Nat.{add-zero, pow-succ'}
use native.Mathlib.Omega.{arith}
use lib.ListN.{length, get_or}
use Rattle.places.specs.Machine.{read}
use Rattle.wire.specs.Content.{Cell, Row}
use Rattle.text_form.specs.Form.{colon, aggregate_sign}
use Rattle.text_form.specs.Walk.{number, letter, digits, at, type_of, small_value, behind_digit}
use Rattle.text_steps.specs.Stages.{from}
use Rattle.text_read.specs.Stages.{HasNumber, ReadsId, HasLetter, ReadsLetter, ReadsHead, Digits, spelling, HasWord, ReadsWord}
use Rattle.text_read.specs.declared.fill.Number.{Number}
use Rattle.text_read.specs.declared.fill.Head.{Head}
use Rattle.text_steps.proofs.ReadLaws as reads
use Rattle.text_read.proofs.DigitLaws.{spelling_behind}

-- An id: from the place i on its digits so far spell n

abbrev pub IdLeft : List ℕ → ℕ → ℕ → ℕ → ℕ → Type 0
IdLeft s start first i n =
    (start ≤ i)
    × ((rows : List Row) (cells : List Cell) (final : List Row) → from s start (at rows cells (number first)) ≡ read final → from s i (at rows cells (number n)) ≡ read final)

module _ (s : List ℕ) (start first : ℕ) (has : HasNumber s start first) (i n : ℕ) (so_far : IdLeft s start first i n) where
  here : from s i (at has.0 has.1 (number n)) ≡ read has.2
  here = so_far.1 has.0 has.1 has.2 has.3

  pub id_there : i < length s
  id_there = reads.number_there s i n has.0 has.1 has.2 here

  pub id_colon : get_or s i 0 ≡ colon → ReadsId s start first (record { next = i + 1; value = n })
  id_colon e rows cells final from_start = (omega (arith, so_far.0), reads.number_colon s i n rows cells final (so_far.1 rows cells final from_start) e)

  module _ (other : get_or s i 0 ≡ colon → ⊥) where
    pub id_low : 48 ≤ get_or s i 0
    id_low = reads.number_low s i n has.0 has.1 has.2 here other

    pub id_small : n * 10 + (get_or s i 0 - 48) ≤ 65_535
    id_small = reads.number_small s i n has.0 has.1 has.2 here other

    pub id_more : IdLeft s start first (i + 1) (n * 10 + (get_or s i 0 - 48))
    id_more = (omega (arith, so_far.0), λ rows cells final from_start. reads.number_more s i n rows cells final (so_far.1 rows cells final from_start) other)

-- A letter

module _ (s : List ℕ) (i id aggregate : ℕ) (has : HasLetter s i id aggregate) where
  pub letter_there : i < length s
  letter_there = reads.letter_there s i has.0.0 has.0.1 id aggregate has.0.2 has.0.3

  pub letter_read : (type : ℕ) → type ≡ type_of (get_or s i 0) → ReadsLetter s i id aggregate (record { next = i + 1; id = id; aggregate = aggregate; kind = type })
  letter_read type is rows cells final from-here =
      let Known-so = reads.letter_known s i rows cells id aggregate final from-here has.1 in
      (omega arith, rw is Known-so.0, refl, refl, rw is Known-so.1)

-- A head

module _ (s : List ℕ) (start first : ℕ) (has : HasNumber s start first) (n : Number) (told : ReadsId s start first n) where
  behind : from s n.next (at has.0 has.1 (letter n.value 0)) ≡ read has.2
  behind = (told has.0 has.1 has.2 has.3).1

  pub head_there : n.next < length s
  head_there = reads.letter_there s n.next has.0 has.1 n.value 0 has.2 behind

  module _ (sign : get_or s n.next 0 ≡ aggregate_sign) where
    pub sign_letter : HasLetter s (n.next + 1) n.value 1
    sign_letter = ((has.0, has.1, has.2, reads.letter_sign s n.next has.0 has.1 n.value 0 has.2 behind refl sign), λ _ e. omega arith)

    pub head_signed : (r : Head) → ReadsLetter s (n.next + 1) n.value 1 r → ReadsHead s start first r
    head_signed r letter-told rows cells final from_start =
        let first_part = told rows cells final from_start in
        let rest = letter-told rows cells final (reads.letter_sign s n.next rows cells n.value 0 final first_part.1 refl sign) in
        (omega (arith, first_part.0, rest.0), rest.1, rw (rest.2, rest.3) rest.4)

  module _ (plain : get_or s n.next 0 ≡ aggregate_sign → ⊥) where
    pub plain_letter : HasLetter s n.next n.value 0
    plain_letter = ((has.0, has.1, has.2, behind), λ e _. plain e)

    pub head_plain : (r : Head) → ReadsLetter s n.next n.value 0 r → ReadsHead s start first r
    head_plain r letter-told rows cells final from_start =
        let first_part = told rows cells final from_start in
        let rest = letter-told rows cells final first_part.1 in
        (omega (arith, first_part.0, rest.0), rest.1, rw (rest.2, rest.3) rest.4)

-- A scalar: `left` digits are to come

abbrev pub WordLeft : List ℕ → ℕ → ℕ → ℕ → ℕ → ℕ → Type 0
WordLeft s start type i w left =
    (left ≤ 16) × (i + left ≡ start + 16) × (w < 16 ^ (16 - left))
    × ((rows : List Row) (cells : List Cell) (id aggregate : ℕ) (final : List Row) → from s start (at rows cells (digits id aggregate type 15 0)) ≡ read final → from s i (behind_digit rows cells id aggregate type left w) ≡ read final)

pub word_begins : (s : List ℕ) (start type : ℕ) → WordLeft s start type start 0 16
word_begins s start type = (omega arith, refl, omega arith, λ rows cells id aggregate final from_start. from_start)

module _ (s : List ℕ) (start type : ℕ) (has : HasWord s start type) (i w left : ℕ) (so_far : WordLeft s start type i w left) where
  pub word_done : left ≤ 0 → ReadsWord s start type w
  word_done none rows cells id aggregate final from_start =
      let nothing_left : left ≡ 0 = omega arith in
      let place : i ≡ start + 16 = omega (arith, so_far.1) in
      let goes : from s i (behind_digit rows cells id aggregate type left w) ≡ read final = so_far.3 rows cells id aggregate final from_start in
      rw (← place) (rw nothing_left at goes)

  module _ (some : 0 < left) where
    one_more : left ≡ suc (left - 1)
    one_more = omega arith

    at_digit : (rows : List Row) (cells : List Cell) (id aggregate : ℕ) (final : List Row) → from s start (at rows cells (digits id aggregate type 15 0)) ≡ read final
        → from s i (at rows cells (digits id aggregate type (left - 1) w)) ≡ read final
    at_digit rows cells id aggregate final from_start =
        sym (ap (λ (k : ℕ). from s i (behind_digit rows cells id aggregate type k w)) one_more) ∙ so_far.3 rows cells id aggregate final from_start

    now : from s i (at has.2.0 has.2.1 (digits has.0 has.1 type (left - 1) w)) ≡ read has.2.2
    now = at_digit has.2.0 has.2.1 has.0 has.1 has.2.2 has.2.3

    pub digit_there : i < length s
    digit_there = reads.digit_there s i has.2.0 has.2.1 has.0 has.1 type (left - 1) w has.2.2 now

    pub digit_low : small_value (get_or s i 0) ≤ 15
    digit_low = (reads.digit_fits s i has.2.0 has.2.1 has.0 has.1 type (left - 1) w has.2.2 now).0

    power : 16 ^ (16 - (left - 1)) ≡ 16 * 16 ^ (16 - left)
    power =
        let next : 16 - (left - 1) ≡ suc (16 - left) = omega (arith, so_far.0) in
        ap (λ (k : ℕ). 16 ^ k) next ∙ pow-succ' 16 (16 - left)

    pub word_more : WordLeft s start type (i + 1) (w * 16 + small_value (get_or s i 0)) (left - 1)
    word_more = (
      omega (arith, so_far.0),
      omega (arith, so_far.1),
      omega (arith, power, so_far.2, digit_low),
      λ rows cells id aggregate final from_start.
          (reads.digit_fits s i rows cells id aggregate type (left - 1) w final (at_digit rows cells id aggregate final from_start)).1,
    )

module _ (s : List ℕ) (start type : ℕ) (has : HasWord s start type) where
  -- k digits more
  pub record Run (k i w left : ℕ) : Type 0 where
    pub are_digits : Digits k s i
    pub there : i + k ≤ length s
    pub then : WordLeft s start type (i + k) (spelling k s i w) (left - k)

  run : (k i w left : ℕ) → WordLeft s start type i w left → i ≤ length s → k ≤ left → Run k i w left
  run zero i w left so_far there h =
      let all : left - 0 ≡ left = omega arith in
      record { are_digits = tt; there = omega arith; then = rw (add-zero i, all) so_far }
  run (suc k) i w left so_far there h =
      let low = digit_low s start type has i w left so_far (omega arith) in
      let rest = run k (i + 1) (w * 16 + small_value (get_or s i 0)) (left - 1) (word_more s start type has i w left so_far (omega arith)) (omega (arith, digit_there s start type has i w left so_far (omega arith))) (omega arith) in
      let place : i + 1 + k ≡ i + suc k = omega arith in
      let fewer : left - 1 - k ≡ left - suc k = omega arith in
      record {
        are_digits = (low, rest.are_digits);
        there = omega (arith, rest.there);
        then = rw (← place, ← fewer) rest.then;
      }

  pub first_half_lem : Run 8 start 0 16
  first_half_lem =
      run 8 start 0 16 (word_begins s start type)
      (omega (arith, digit_there s start type has start 0 16 (word_begins s start type) (omega arith))) (omega arith)

  pub second_half_lem : Run 8 (start + 8) (spelling 8 s start 0) 8
  second_half_lem = run 8 (start + 8) (spelling 8 s start 0) 8 first_half_lem.then first_half_lem.there (omega arith)

  -- both are read
  pub high_fits : spelling 8 s start 0 < 4294967296
  high_fits = first_half_lem.then.2

  pub word_fits : spelling 8 s start 0 * 4294967296 + spelling 8 s (start + 8) 0 < 18446744073709551616
  word_fits = rw (spelling_behind s (start + 8) (spelling 8 s start 0)) second_half_lem.then.2

  pub halves_read : ReadsWord s start type (spelling 8 s start 0 * 4294967296 + spelling 8 s (start + 8) 0)
  halves_read =
      rw (spelling_behind s (start + 8) (spelling 8 s start 0))
      (word_done s start type has (start + 8 + 8) (spelling 8 s (start + 8) (spelling 8 s start 0)) 0 second_half_lem.then (omega arith))
