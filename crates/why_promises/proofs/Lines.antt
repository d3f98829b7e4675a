-- What every line of a rowset's order is: a refusal, or, in the plain form, an acceptance that tells something. Assumes
-- nothing.
use Prim.Native.Nat.{ℕ, zero, suc, ◌+◌}
use mathlib.Core.Bool.{Bool, true, false}
use mathlib.Core.List.{List, [], ◌∷◌, ◌++◌}
use mathlib.Core.Path.{◌≡◌, refl, sym, ◌∙◌, ap}
use Rattle.words.specs.Answer.{Answer, accepted, more, refused}
use Rattle.words.specs.Decide.{Line, ◌⇒◌, decide}
use Rattle.words.specs.Note.{Told, answer_of, answers}
use Rattle.words.proofs.DecideLaws.{answers_decide, decide_append}
use Rattle.wire.specs.Layout.{length_at, values_in, count_at, next_value, next_row}
use Rattle.wire_value.specs.ValueOrder.{value_lines}
use Rattle.wire_read.specs.Reading.{values_lines, rows_lines, end_lines, input_lines}
use Rattle.finding.specs.Saying.{Saying, fine, waiting, refusing, breaking, saying, untold}
use Rattle.why_rowset.specs.Plain.{padding_lines, padding_at, plain_value_lines, plain_values_lines, plain_rows_lines, plain_lines}
use Rattle.why_rowset.specs.Checks.{rowset_checks}
use Rattle.why_promises.specs.Why.{number_told, number_in, WhyTellsTheNumber}
use Rattle.why_promises.proofs.Why.{Every, every_decide, every_append}

-- something is told
abbrev pub is_fine : Saying → Bool
is_fine fine = true
is_fine (waiting name n) = false
is_fine (refusing code name offset value wanted) = false
is_fine (breaking name offset value wanted) = false

abbrev pub is_refusal : Answer → Bool
is_refusal (accepted consumed fields) = false
is_refusal more = false
is_refusal (refused code values consumed) = true

-- a line of the reader's order: a refusal, whose number is told
abbrev pub Refuses : Told → Type 0
Refuses told = (is_fine (saying told) ≡ false) × (is_refusal (answer_of told) ≡ true) × (number_told (saying told) ≡ number_in (answer_of told))

-- a line of the plain form: accepted, but something is told
abbrev pub Breaks : Told → Type 0
Breaks told = (is_fine (saying told) ≡ false) × (answer_of told ≡ accepted 0 []) × (number_told (saying told) ≡ 0)

module _ (s : List ℕ) where
  values_refuse : (n at : ℕ) → Every Refuses (values_lines s n at)
  unfolding values_lines
  values_refuse zero at = tt
  values_refuse (suc n) at =
      every_append Refuses (value_lines s at) (values_lines s n (next_value s at))
      ((refl, refl, refl), ((refl, refl, refl), ((refl, refl, refl), ((refl, refl, refl), tt)))) (values_refuse n (next_value s at))

  rows_refuse : (n i at : ℕ) → Every Refuses (rows_lines s n i at)
  unfolding rows_lines
  rows_refuse zero i at = tt
  rows_refuse (suc n) i at = (
    (refl, refl, refl),
    (
      (refl, refl, refl),
      every_append Refuses (values_lines s (values_in (count_at s at)) (at + 8)) (rows_lines s n (i + 1) (next_row s at)) (values_refuse (values_in (count_at s at)) (at + 8)) (rows_refuse n (i + 1) (next_row s at)),
    ),
  )

  pub input_refuses : Every Refuses (input_lines s)
  unfolding input_lines
  input_refuses =
      ((refl, refl, refl), ((refl, refl, refl), every_append Refuses (rows_lines s (count_at s 0) 0 8) (end_lines s) (rows_refuse (count_at s 0) 0 8) ((refl, refl, refl), tt)))

  padding_breaks : (n at : ℕ) → Every Breaks (padding_lines s n at)
  unfolding padding_lines
  padding_breaks zero at = tt
  padding_breaks (suc n) at = ((refl, refl, refl), padding_breaks n (at + 1))

  value_breaks : (at : ℕ) → Every Breaks (plain_value_lines s at)
  unfolding plain_value_lines
  value_breaks at = ((refl, refl, refl), ((refl, refl, refl), ((refl, refl, refl), padding_breaks (padding_at s at) (at + 8 + length_at s at))))

  values_break : (n at : ℕ) → Every Breaks (plain_values_lines s n at)
  unfolding plain_values_lines
  values_break zero at = tt
  values_break (suc n) at =
      every_append Breaks (plain_value_lines s at) (plain_values_lines s n (next_value s at)) (value_breaks at) (values_break n (next_value s at))

  rows_break : (n at : ℕ) → Every Breaks (plain_rows_lines s n at)
  unfolding plain_rows_lines
  rows_break zero at = tt
  rows_break (suc n) at =
      every_append Breaks (plain_values_lines s (values_in (count_at s at)) (at + 8)) (plain_rows_lines s n (next_row s at)) (values_break (values_in (count_at s at)) (at + 8)) (rows_break n (next_row s at))

  pub plain_breaks : Every Breaks (plain_lines s)
  plain_breaks = rows_break (count_at s 0) 8

  -- The number

  abbrev Counted : Told → Type 0
  Counted told = number_told (saying told) ≡ number_in (answer_of told)

  abbrev Taken : Told → Type 0
  Taken told = (answer_of told ≡ accepted 0 []) × Counted told

  every_weaker : (P Q : Told → Type 0) → ((t : Told) → P t → Q t) → (lines : List (Line Told)) → Every P lines → Every Q lines
  every_weaker P Q f [] every = tt
  every_weaker P Q f ((test ⇒ t) ∷ lines) every = (f t every.0, every_weaker P Q f lines every.1)

  -- what the plain form's lines tell is no refusal
  plain_taken : Taken (decide (plain_lines s) untold)
  plain_taken =
      every_decide Taken (plain_lines s) untold
      (every_weaker Breaks Taken (λ t breaks. (breaks.1, breaks.2 ∙ sym (ap number_in breaks.1))) (plain_lines s) plain_breaks)
      (refl, refl)

  pub number_told_lem : number_told (saying (decide (rowset_checks s) untold)) ≡ number_in (decide (answers (input_lines s)) (accepted 0 []))
  unfolding rowset_checks
  number_told_lem =
      ap (λ (t : Told). number_told (saying t)) (decide_append (input_lines s) (plain_lines s) untold)
      ∙ every_decide Counted (input_lines s) (decide (plain_lines s) untold) (every_weaker Refuses Counted (λ t refuses. refuses.2) (input_lines s) input_refuses) plain_taken.1
      ∙ ap number_in (sym (answers_decide (input_lines s) (decide (plain_lines s) untold)) ∙ ap (decide (answers (input_lines s))) plain_taken.0)

pub why_tells_the_number : WhyTellsTheNumber
why_tells_the_number s r e = ap number_told e ∙ number_told_lem s
