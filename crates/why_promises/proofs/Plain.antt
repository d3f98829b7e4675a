-- The lines of the plain form are silent exactly where the plain-form check says yes. Assumes nothing.
use Prim.Native.Nat.{ℕ, zero, suc, ◌+◌, ◌<◌, ◌≤◌}
use mathlib.Core.Bool.{Bool, true, false, true≢false, not, ◌&&◌, ◌||◌}
use mathlib.Core.List.{List, [], ◌∷◌, ◌++◌}
use mathlib.Core.Logic.{⊎_elim}
use mathlib.Core.Path.{◌≡◌, refl, sym, ◌∙◌, ap}
use native.Mathlib.Omega.{arith}
use borrow.Author.Tests.{lt-ltb, le-ltb, ne_eqb}
use lib.Dec.{ltb, eqb}
use lib.ListN.{length, get_or}
use Rattle.words.specs.Answer.{Answer, accepted, more, refused}
use Rattle.words.specs.Decide.{pick, Line, ◌⇒◌, decide, ◌<?◌, ◌=?◌}
use Rattle.words.specs.Note.{Told, answer_of, answers}
use Rattle.words.proofs.DecideLaws.{le_or_gt}
use Rattle.wire.specs.Layout.{max_size, boolean, blob, padding, values_in, type_at, aggregate_at, length_at, scalar_at, count_at, next_value, next_row}
use Rattle.wire_read.specs.Reading.{input_lines}
use Rattle.wire_read.specs.Plain.{zeros, plain_value, plain_values, plain_rows, is_accepted, accepts, plain}
use Rattle.finding.specs.Saying.{Saying, fine, saying, untold, explain}
use Rattle.finding.specs.Meaning.{meaning}
use Rattle.finding.specs.declared.Finding.{Finding}
use Rattle.finding.specs.declared.Finding.TheVariants.{Fine}
use Rattle.finding.proofs.Unique.{meaning_injective}
use Rattle.why_rowset.specs.Plain.{padding_lines, padding_at, plain_value_lines, plain_values_lines, plain_rows_lines, plain_lines}
use Rattle.why_rowset.specs.Checks.{rowset_checks, ExplainsRowset}
use Rattle.why_promises.specs.Why.{WhyFineIsPlain}
use Rattle.why_promises.proofs.Why.{Every, every_append}
use Rattle.why_promises.proofs.Lines.{is_fine, is_refusal, Refuses, Breaks, input_refuses, plain_breaks}

-- no test of the lines holds
abbrev quiet : List (Line Told) → Bool
quiet [] = true
quiet ((test ⇒ told) ∷ lines) = pick test false (quiet lines)

quiet_append : (xs ys : List (Line Told)) → quiet (xs ++ ys) ≡ pick (quiet xs) (quiet ys) false
quiet_append [] ys = refl
quiet_append ((true ⇒ told) ∷ xs) ys = refl
quiet_append ((false ⇒ told) ∷ xs) ys = quiet_append xs ys

-- lines each of which tells something
abbrev Loud : Told → Type 0
Loud told = is_fine (saying told) ≡ false

fine_quiet : (lines : List (Line Told)) → Every Loud lines → explain lines ≡ fine → quiet lines ≡ true
fine_quiet [] loud e = refl
fine_quiet ((true ⇒ told) ∷ lines) loud e = absurd (true≢false (sym (ap is_fine e) ∙ loud.0))
fine_quiet ((false ⇒ told) ∷ lines) loud e = fine_quiet lines loud.1 e

quiet_fine : (lines : List (Line Told)) → quiet lines ≡ true → explain lines ≡ fine
quiet_fine [] e = refl
quiet_fine ((true ⇒ told) ∷ lines) e = absurd (true≢false (sym e))
quiet_fine ((false ⇒ told) ∷ lines) e = quiet_fine lines e

input_loud : (lines : List (Line Told)) → Every Refuses lines → Every Loud lines
input_loud [] every = tt
input_loud ((test ⇒ told) ∷ lines) every = (every.0.0, input_loud lines every.1)

plain_loud : (lines : List (Line Told)) → Every Breaks lines → Every Loud lines
plain_loud [] every = tt
plain_loud ((test ⇒ told) ∷ lines) every = (every.0.0, plain_loud lines every.1)

-- The reader accepts where its lines are silent

not_accepted : (a : Answer) → is_refusal a ≡ true → is_accepted a ≡ false
not_accepted (accepted consumed fields) e = absurd (true≢false (sym e))
not_accepted more e = refl
not_accepted (refused code values consumed) e = refl

accepted_quiet : (lines : List (Line Told)) → Every Refuses lines → is_accepted (decide (answers lines) (accepted 0 [])) ≡ quiet lines
accepted_quiet [] every = refl
accepted_quiet ((true ⇒ told) ∷ lines) every = not_accepted (answer_of told) every.0.1
accepted_quiet ((false ⇒ told) ∷ lines) every = accepted_quiet lines every.1

-- The plain form's lines

above_one : (a : ℕ) → ltb 1 a ≡ not (ltb a 2)
above_one a =
    ⊎_elim (λ (h : a ≤ 1). rw (le-ltb 1 a h, lt-ltb a 2 (omega arith)))
    (λ (h : 1 < a). rw (lt-ltb 1 a h, le-ltb a 2 (omega arith)))
    (le_or_gt a 1)

no_boolean : (type : ℕ) → blob type ≡ true → eqb type boolean ≡ false
no_boolean type b = ne_eqb type boolean (λ e. let here : blob boolean ≡ true = rw e at b in true≢false (sym here))

-- by the tests: the aggregate, the length word, a boolean and its word
words_alike : (a l t w : Bool) → pick (not a) false (pick (not l) false (pick (t && not w) false true)) ≡ (a && (l && (not t || w)))
words_alike false l t w = refl
words_alike true false t w = refl
words_alike true true false w = refl
words_alike true true true false = refl
words_alike true true true true = refl

blob_alike : (a z : Bool) → pick (not a) false z ≡ (a && z)
blob_alike true z = refl
blob_alike false z = refl

zeros_alike : (b : Bool) (q z : Bool) → q ≡ z → pick (not b) false q ≡ pick b z false
zeros_alike true q z e = e
zeros_alike false q z e = refl

module _ (s : List ℕ) where
  padding_quiet : (n at : ℕ) → quiet (padding_lines s n at) ≡ zeros s n at
  unfolding padding_lines zeros
  padding_quiet zero at = refl
  padding_quiet (suc n) at = zeros_alike (eqb (get_or s at 0) 0) (quiet (padding_lines s n (at + 1))) (zeros s n (at + 1)) (padding_quiet n (at + 1))

  value_quiet : (at : ℕ) → quiet (plain_value_lines s at) ≡ plain_value s at
  unfolding plain_value_lines plain_value padding_lines
  value_quiet at = by_blob (blob (type_at s at)) refl
    where
      by_blob : (b : Bool) → blob (type_at s at) ≡ b → quiet (plain_value_lines s at) ≡ plain_value s at
      by_blob true e =
          rw (above_one (aggregate_at s at), no_boolean (type_at s at) e, e)
          (ap (pick (not (ltb (aggregate_at s at) 2)) false) (padding_quiet (padding (length_at s at)) (at + 8 + length_at s at)) ∙ blob_alike (ltb (aggregate_at s at) 2) (zeros s (padding (length_at s at)) (at + 8 + length_at s at)))
      by_blob false e =
          rw (above_one (aggregate_at s at), above_one (scalar_at s at), e)
          (words_alike (ltb (aggregate_at s at) 2) (eqb (length_at s at) 0) (eqb (type_at s at) boolean) (ltb (scalar_at s at) 2))

  values_quiet : (n at : ℕ) → quiet (plain_values_lines s n at) ≡ plain_values s n at
  unfolding plain_values_lines plain_values
  values_quiet zero at = refl
  values_quiet (suc n) at =
      quiet_append (plain_value_lines s at) (plain_values_lines s n (next_value s at)) ∙ rw (value_quiet at, values_quiet n (next_value s at))

  rows_quiet : (n at : ℕ) → quiet (plain_rows_lines s n at) ≡ plain_rows s n at
  unfolding plain_rows_lines plain_rows
  rows_quiet zero at = refl
  rows_quiet (suc n) at =
      quiet_append (plain_values_lines s (values_in (count_at s at)) (at + 8)) (plain_rows_lines s n (next_row s at))
      ∙ rw (values_quiet (values_in (count_at s at)) (at + 8), rows_quiet n (next_row s at))

  checks_quiet : length s ≤ max_size → quiet (rowset_checks s) ≡ plain s
  unfolding rowset_checks plain accepts
  checks_quiet small =
      quiet_append (input_lines s) (plain_lines s)
      ∙ rw (le-ltb max_size (length s) small, accepted_quiet (input_lines s) (input_refuses s), rows_quiet (count_at s 0) 8)

  checks_loud : Every Loud (rowset_checks s)
  unfolding rowset_checks
  checks_loud = every_append Loud (input_lines s) (plain_lines s) (input_loud (input_lines s) (input_refuses s)) (plain_loud (plain_lines s) (plain_breaks s))

pub why_fine_is_plain : WhyFineIsPlain
why_fine_is_plain s r e small = (
  (λ same. sym (checks_quiet s small) ∙ fine_quiet (rowset_checks s) (checks_loud s) (sym e ∙ ap meaning same)),
  (λ yes. meaning_injective r Fine (e ∙ quiet_fine (rowset_checks s) (checks_quiet s small ∙ yes))),
)
