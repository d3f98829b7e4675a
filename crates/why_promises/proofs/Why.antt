-- The check that is named, and what was found. Assumes nothing.
use Prim.Native.Nat.{ℕ, zero, suc, ◌+◌, ◌-◌, ◌≤◌}
use mathlib.Core.Bool.{Bool, true, false, ◌&&◌, ◌||◌}
use mathlib.Core.List.{List, [], ◌∷◌, ◌++◌}
use mathlib.Core.Logic.{◌⊎◌, inl, inr, ⊎_elim}
use mathlib.Core.Path.{◌≡◌, refl, sym, ◌∙◌, ap}
use native.Mathlib.Nat.{add-zero}
use lib.ListN.{length, get_or}
use Rattle.words.specs.Answer.{Answer, accepted, more, refused}
use Rattle.words.specs.Decide.{pick, Line, ◌⇒◌, Silent, Decides, decide}
use Rattle.words.specs.Note.{Told, answer_of, answers}
use Rattle.words.specs.Word.{word}
use Rattle.words.proofs.DecideLaws.{deciding, answers_decide, answers_append, decide_append}
use Rattle.packet.specs.Layout.{count}
use Rattle.packet.specs.declared.Mode.{Mode}
use Rattle.packet_read.specs.Reading.{Limits, order, fixed_lines, count_lines, variable_lines, size_lines, part_lines, room_lines}
use Rattle.wire.specs.Layout.{blob, type_at, length_at, values_in, count_at, next_value, next_row}
use Rattle.wire_value.specs.ValueOrder.{payload_name, value_lines}
use Rattle.wire_read.specs.Reading as Rowset
use Rattle.wire_read.specs.Reading.{values_lines, rows_lines, head_lines, end_lines, input_lines}
use Rattle.finding.specs.Saying.{Saying, fine, waiting, refusing, breaking, saying, untold, explain}
use Rattle.finding.specs.Meaning.{meaning, Explains}
use Rattle.finding.specs.declared.Finding.{Finding}
use Rattle.finding.specs.declared.Finding.TheVariants.{Fine}
use Rattle.finding.proofs.Unique.{meaning_injective}
use Rattle.why_packet.specs.Checks.{checks, packet_checks, ExplainsPacket}
use Rattle.why_rowset.specs.Plain.{padding_lines, padding_at, plain_value_lines, plain_values_lines, plain_rows_lines, plain_lines}
use Rattle.why_rowset.specs.Checks.{rowset_checks, ExplainsRowset}
use Rattle.why_promises.specs.Why.{Names, NamesTheCheck, FoundInPacket, FoundInRowset, number_told, number_in, OnePacketOrder, OneRowsetOrder, WhyNamesTheCheck, WhyTellsTheNumber}

-- what holds of every line, and of what is said last, holds of what is told

abbrev pub Every : (Told → Type 0) → List (Line Told) → Type 0
Every P [] = Unit {0}
Every P ((test ⇒ told) ∷ lines) = P told × Every P lines

pub every_decide : (P : Told → Type 0) (lines : List (Line Told)) (last : Told) → Every P lines → P last → P (decide lines last)
every_decide P [] last every p = p
every_decide P ((true ⇒ told) ∷ lines) last every p = every.0
every_decide P ((false ⇒ told) ∷ lines) last every p = every_decide P lines last every.1 p

pub every_append : (P : Told → Type 0) (xs ys : List (Line Told)) → Every P xs → Every P ys → Every P (xs ++ ys)
every_append P [] ys first second = second
every_append P ((test ⇒ told) ∷ xs) ys first second = (first.0, every_append P xs ys first.1 second)

-- the named check
named : (lines : List (Line Told)) (r : Finding) → Explains lines r → NamesTheCheck lines r
named lines r e =
    ⊎_elim (λ (d : Decides lines (decide lines untold)). inl (record { told = decide lines untold; decides = d; says = e }))
    (λ (quiet : Silent lines × (decide lines untold ≡ untold)). inr (quiet.0, meaning_injective r Fine (e ∙ ap saying quiet.1)))
    (deciding lines untold)

one_packet_order : OnePacketOrder
unfolding order checks
one_packet_order s n limits = refl

one_rowset_order : OneRowsetOrder
unfolding rowset_checks
one_rowset_order s = refl

-- a packet
module _ (s : List ℕ) (mode : Mode) (limit ceiling : ℕ) where
  abbrev InPacket : Told → Type 0
  InPacket told = FoundInPacket s (saying told)

  packet_found : Every InPacket (packet_checks s mode limit ceiling)
  unfolding checks fixed_lines count_lines variable_lines size_lines part_lines
  packet_found =
      (refl, (refl, (refl, (refl, (refl, (refl, (tt, (refl, (refl, (refl, (refl, (refl, (refl, (refl, tt))))))))))))))

-- a rowset
module _ (s : List ℕ) where
  abbrev InRowset : Told → Type 0
  InRowset told = FoundInRowset s (saying told)

  byte_is_word : (at : ℕ) → get_or s at 0 ≡ word 1 s at
  unfolding word
  byte_is_word at = sym (add-zero (get_or s at 0))

  value_found : (at : ℕ) → Every InRowset (value_lines s at)
  value_found at = (refl, (byte_is_word (at + 2), (refl, (refl, tt))))

  values_found : (n at : ℕ) → Every InRowset (values_lines s n at)
  unfolding values_lines
  values_found zero at = tt
  values_found (suc n) at = every_append InRowset (value_lines s at) (values_lines s n (next_value s at)) (value_found at) (values_found n (next_value s at))

  rows_found : (n i at : ℕ) → Every InRowset (rows_lines s n i at)
  unfolding rows_lines
  rows_found zero i at = tt
  rows_found (suc n) i at =
      (refl, (refl, every_append InRowset (values_lines s (values_in (count_at s at)) (at + 8)) (rows_lines s n (i + 1) (next_row s at)) (values_found (values_in (count_at s at)) (at + 8)) (rows_found n (i + 1) (next_row s at))))

  input_found : Every InRowset (input_lines s)
  unfolding input_lines
  input_found = (refl, (refl, every_append InRowset (rows_lines s (count_at s 0) 0 8) (end_lines s) (rows_found (count_at s 0) 0 8) (refl, tt)))

  padding_found : (n at : ℕ) → Every InRowset (padding_lines s n at)
  unfolding padding_lines
  padding_found zero at = tt
  padding_found (suc n) at = (byte_is_word at, padding_found n (at + 1))

  plain_value_found : (at : ℕ) → Every InRowset (plain_value_lines s at)
  unfolding plain_value_lines
  plain_value_found at = (byte_is_word (at + 3), (refl, (refl, padding_found (padding_at s at) (at + 8 + length_at s at))))

  plain_values_found : (n at : ℕ) → Every InRowset (plain_values_lines s n at)
  unfolding plain_values_lines
  plain_values_found zero at = tt
  plain_values_found (suc n) at =
      every_append InRowset (plain_value_lines s at) (plain_values_lines s n (next_value s at)) (plain_value_found at) (plain_values_found n (next_value s at))

  plain_rows_found : (n at : ℕ) → Every InRowset (plain_rows_lines s n at)
  unfolding plain_rows_lines
  plain_rows_found zero at = tt
  plain_rows_found (suc n) at =
      every_append InRowset (plain_values_lines s (values_in (count_at s at)) (at + 8)) (plain_rows_lines s n (next_row s at)) (plain_values_found (values_in (count_at s at)) (at + 8)) (plain_rows_found n (next_row s at))

  rowset_found : Every InRowset (rowset_checks s)
  unfolding rowset_checks
  rowset_found = every_append InRowset (input_lines s) (plain_lines s) input_found (plain_rows_found (count_at s 0) 8)

pub why_names_the_check : WhyNamesTheCheck
why_names_the_check = (
  one_packet_order,
  one_rowset_order,
  (λ s mode limit ceiling r e. (
    named (packet_checks s mode limit ceiling) r e,
    rw e (every_decide (InPacket s mode limit ceiling) (packet_checks s mode limit ceiling) untold (packet_found s mode limit ceiling) tt),
  )),
  (λ s r e. (
    named (rowset_checks s) r e,
    rw e (every_decide (InRowset s) (rowset_checks s) untold (rowset_found s) tt),
  )),
)
