-- The promises of a rowset's text. Assumes nothing.
use mathlib.Core.Path.{◌≡◌, refl, sym, ◌∙◌, ap}
use mathlib.Core.Bool.{Bool, true, false}
use mathlib.Core.List.{List, [], ◌∷◌, ◌++◌}
use mathlib.Core.Logic.{◌⊎◌, inl, inr}
use Prim.Native.Nat.{ℕ, ◌+◌, ◌*◌, ◌/◌, ◌≤◌}
use native.Mathlib.Omega.{arith}
use borrow.Author.Tests.{le-ltb, ltb-false, eqb-true}
use lib.ListN.{length, take, drop, length-append}
use lib.Seq.{take_at}
use Rattle.words.specs.Answer.{Answer, accepted, more, refused, refuse, afterwards}
use Rattle.words.specs.Buffer.{over}
use Rattle.words.specs.Decide.{Line, decide, pick}
use Rattle.words.specs.Paper.{room_line}
use Rattle.words.specs.declared.outcome.Room.TheVariants.{Output}
use Rattle.words.proofs.AnswerLaws.{not_taken_keeps}
use Rattle.words.proofs.DecideLaws.{decide_append, pick_case}
use Rattle.words.proofs.Unique.{means_one}
use lib.Dec.{ltb, eqb}
use Rattle.places.specs.Place.{Place}
use Rattle.places.specs.Machine.{Ending, read, stopped}
use Rattle.wire.specs.Paper.{paper}
use Rattle.wire.specs.Layout.{null_mark, entry_words, values_in}
use Rattle.wire.specs.Content.{Row, row_in, rows_from, rows_in}
use Rattle.wire.specs.declared.error.WireError.{WireError}
use Rattle.wire.specs.declared.error.WireError.TheVariants.{Truncated, TooManyRows, TooManyValues, ValueTooLong, RowsetTooLarge, UnknownValueType, TrailingBytes, NoRoom, BadTable}
use Rattle.wire.proofs.PaperLaws.{paper_injective, paper_never_accepted}
use Rattle.wire_check.specs.Writing.{total, check_lines, rowset_size, measuring, writing}
use Rattle.wire_check.proofs.TableLaws.{by_test}
use Rattle.wire_check.specs.Paper.{paper_measured}
use Rattle.std.specs.declared.result.Result.{Result}
use Rattle.std.specs.declared.result.Result.TheVariants.{Ok, Err}
use Rattle.wire_write.specs.Paper.{paper_encoded}
use Rattle.wire_write.proofs.Unique.{encoded_one}
use Rattle.text_form.specs.Form.{FitsRows, IsText, Accepted, text}
use Rattle.text_form.proofs.Exactly.{text_injective, text_read}
use Rattle.text_form.proofs.LimitedLaws.{within_text, within_place}
use Rattle.text_size.specs.Statement.{tables_text, sizing_text}
use Rattle.text_write.specs.Statement.{writing_text, WritesText}
use Rattle.text_steps.specs.Tables.{cells_of, all_cells, row_word, row_table, value_table, area_bytes}
use Rattle.text_walk.specs.Paper.{text_paper, walked_paper}
use Rattle.text_walk.specs.Statement.{walking, ending_as, counts, counting}
use Rattle.text_walk.proofs.Unique.{walked_of, walked_back}
use Rattle.text_read.specs.Statement.{rows_read, roomed, reading_text, ReadsText}
use Rattle.text_read.proofs.AnswerLaws.{text_not_taken}
use Rattle.text_read.proofs.TextLaws.{length_row_table, length_value_table}
use Rattle.text_promises.specs.Texts.{counted, WithinLimits, HasRoom, CountAcceptsExactly, CountPlace, TextAcceptsExactly, TextPlace, TextRefusalKeeps, TextAndBack, TablesAndBack, WrittenAndBack}
use Rattle.text_promises.specs.Texts.{TextOnce, SizesRefuseAlike, NotForRoom, WritersRefuseAlike, WrittenIsText}
use Rattle.text_form.specs.Walk.{start}
use Rattle.text_promises.proofs.Refusals.{passes_or_not, passes, checks_refuse, silent_where_accepted}
use Rattle.text_promises.proofs.Tables.{sound_tables, tables_fit}
use Rattle.text_promises.proofs.Within.{read_within, within_read}
use Rattle.text_promises.proofs.Filled.{tables_hold, tables_written}
use Rattle.text_promises.proofs.Written.{length_cells, written_within}
use Rattle.text_steps.proofs.LimitNumbers.{ByLimit, limit_number}

-- what a reading's answer tells of it
data Told (s : List ℕ) (taken : List Row → Answer) (a : Answer) : Type 0 where
  whole : (rows : List Row) → walking s ≡ read rows → a ≡ taken rows → Told s taken a
  broken : (place : ℕ) → Place Accepted s place → a ≡ refuse 19 (place ∷ []) → Told s taken a
  limited : (place : ℕ) (refusal : Answer) → walking s ≡ stopped place (inr refusal) → a ≡ refusal → Told s taken a

told : (s : List ℕ) (taken : List Row → Answer) → Told s taken (ending_as taken (walking s))
told s taken = each (walking s) refl
  where
    each : (x : Ending (List Row) (Unit {0} ⊎ Answer)) → walking s ≡ x → Told s taken (ending_as taken (walking s))
    each (read rows) e = whole rows e (ap (ending_as taken) e)
    each (stopped place (inl none)) e = broken place (within_place s place e) (ap (ending_as taken) e)
    each (stopped place (inr refusal)) e = limited place refusal e (ap (ending_as taken) e)

-- the number of a refusal, 0 where there is none
abbrev number_of : Answer → ℕ
number_of (accepted n fields) = 0
number_of more = 0
number_of (refused number values consumed) = number

-- no limit is refused by 19, nor taken
limit_small : (a : Answer) → ByLimit a → number_of a ≤ 13
limit_small (accepted n fields) h = absurd h
limit_small more h = absurd h
limit_small (refused number values consumed) h = h

limit_refuses : (a : Answer) (n : ℕ) (fields : List ℕ) → ByLimit a → accepted n fields ≡ a → ⊥
limit_refuses (accepted m others) n fields h e = h
limit_refuses more n fields h e = h
limit_refuses (refused number others consumed) n fields h e = let z : ◌≡◌ {A = ℕ} 0 1 = cc in omega arith

-- whatever follows, as long as that is not refused by 19
module _ (s : List ℕ) (taken : List Row → Answer) (other : (rows : List Row) → number_of (taken rows) ≡ 19 → ⊥) where
  is_read : (n : ℕ) (fields : List ℕ) → accepted n fields ≡ ending_as taken (walking s) → (rows : List Row) × (walking s ≡ read rows) × (accepted n fields ≡ taken rows)
  is_read n fields f = each (told s taken)
    where
      each : Told s taken (ending_as taken (walking s)) → (rows : List Row) × (walking s ≡ read rows) × (accepted n fields ≡ taken rows)
      each (whole rows is e) = (rows, is, f ∙ e)
      each (broken place is e) = absurd (let z : ◌≡◌ {A = ℕ} 0 19 = ap number_of (f ∙ e) in omega arith)
      each (limited place refusal is e) = absurd (limit_refuses refusal n fields (limit_number s start 0 place refusal is) (f ∙ e))

  is_placed : (place : ℕ) → refuse 19 (place ∷ []) ≡ ending_as taken (walking s) → Place Accepted s place
  is_placed place f = each (told s taken)
    where
      each : Told s taken (ending_as taken (walking s)) → Place Accepted s place
      each (whole rows is e) = absurd (other rows (sym (ap number_of (f ∙ e))))
      each (broken p is e) =
          let same : refuse 19 (place ∷ []) ≡ refuse 19 (p ∷ []) = f ∙ e in
          let place_is : place ≡ p = cc in
          rw place_is is
      each (limited p refusal is e) =
          absurd (let z : 19 ≡ number_of refusal = ap number_of (f ∙ e) in omega (arith, limit_small refusal (limit_number s start 0 p refusal is)))

-- a text of the form within the limits is read
is_taken_lem : (s : List ℕ) (content : List Row) → IsText s content → WithinLimits content → walking s ≡ read content
is_taken_lem s content is within = within_read s content (text_read s content is) within

-- Counting

count_other : (rows : List Row) → number_of (counts rows) ≡ 19 → ⊥
count_other rows e = omega arith

pub count_accepts_exactly : CountAcceptsExactly
unfolding counting
count_accepts_exactly s r means = (
  (λ n m k e.
      let found = is_read s counts count_other k (n ∷ m ∷ []) (sym (ap walked_paper e) ∙ means) in
      let same : accepted k (n ∷ m ∷ []) ≡ accepted (length (area_bytes found.0)) (length found.0 ∷ length (all_cells found.0) ∷ []) = found.2 in
      (found.0, within_text s found.0 found.1, read_within s found.0 found.1, cc, cc, cc)),
  (λ content is within. means_one walked_paper walked_of walked_back (counting s) r (counted (length content) (length (all_cells content)) (length (area_bytes content))) means (sym (ap (ending_as counts) (is_taken_lem s content is within)))),
  (λ place e good. (is_placed s counts count_other place (sym (ap walked_paper e) ∙ means)).refused good),
)

pub count_place : CountPlace
unfolding counting
count_place s r means place e = is_placed s counts count_other place (sym (ap walked_paper e) ∙ means)

-- Reading

passes_with : (test : Bool) (number : ℕ) (carried : List ℕ) (rest : Answer) (n : ℕ) (fields : List ℕ) → accepted n fields ≡ pick test (refused number carried 0) rest → (test ≡ false) × (accepted n fields ≡ rest)
passes_with true number carried rest n fields e = absurd (let z : ◌≡◌ {A = ℕ} 0 1 = cc in omega arith)
passes_with false number carried rest n fields e = (refl, e)

module _ (rows values area : List ℕ) where
  room_other : (content : List Row) → number_of (roomed (length rows) (length values / entry_words) (length area) content) ≡ 19 → ⊥
  room_other content =
      pick_case (ltb (length rows) (length content)) _ _ (λ (a : Answer). number_of a ≡ 19 → ⊥) (λ _ e. omega arith)
      (λ _. pick_case (ltb (length values / entry_words) (length (all_cells content))) _ _ (λ (a : Answer). number_of a ≡ 19 → ⊥) (λ _ e. omega arith)
      (λ _. pick_case (ltb (length area) (length (area_bytes content))) _ _ (λ (a : Answer). number_of a ≡ 19 → ⊥) (λ _ e. omega arith) (λ _ e. omega arith)))

  room_told : (content : List Row) (n : ℕ) (fields : List ℕ) → accepted n fields ≡ roomed (length rows) (length values / entry_words) (length area) content
      → HasRoom content rows values area × (accepted n fields ≡ counts content)
  room_told content n fields e =
      let first = passes_with (ltb (length rows) (length content)) _ _ _ n fields e in
      let second = passes_with (ltb (length values / entry_words) (length (all_cells content))) _ _ _ n fields first.1 in
      let third = passes_with (ltb (length area) (length (area_bytes content))) _ _ _ n fields second.1 in
      ((ltb-false _ _ first.0, ltb-false _ _ second.0, ltb-false _ _ third.0), third.1)

  room_free : (content : List Row) → HasRoom content rows values area → roomed (length rows) (length values / entry_words) (length area) content ≡ counts content
  room_free content room =
      rw (le-ltb (length rows) (length content) room.0, le-ltb (length values / entry_words) (length (all_cells content)) room.1, le-ltb (length area) (length (area_bytes content)) room.2)

-- what was read, and what the tables and the area hold
record Filled (s rows values area : List ℕ) (n m k : ℕ) (rows' values' area' : List ℕ) : Type 0 where
  content : List Row
  is_walked : walking s ≡ read content
  roomy : HasRoom content rows values area
  rows_are : n ≡ length content
  values_are : m ≡ length (all_cells content)
  bytes_are : k ≡ length (area_bytes content)
  rows_hold : rows' ≡ over (row_table content) rows
  values_hold : values' ≡ over (value_table content) values
  area_holds : area' ≡ over (area_bytes content) area

filled : (s rows values area : List ℕ) (n m k : ℕ) (rows' values' area' : List ℕ) → ReadsText s rows values area (counted n m k) rows' values' area' → Filled s rows values area n m k rows' values' area'
unfolding reading_text
filled s rows values area n m k rows' values' area' reads =
    let found = is_read s (roomed (length rows) (length values / entry_words) (length area)) (room_other rows values area) k (n ∷ m ∷ []) reads.means in
    let room = room_told rows values area found.0 k (n ∷ m ∷ []) found.2 in
    let same : accepted k (n ∷ m ∷ []) ≡ accepted (length (area_bytes found.0)) (length found.0 ∷ length (all_cells found.0) ∷ []) = room.1 in
    let is : rows_read (walking s) ≡ found.0 = ap rows_read found.1 in
    let answer : accepted k (n ∷ m ∷ []) ≡ ending_as (roomed (length rows) (length values / entry_words) (length area)) (walking s) = reads.means in
    record {
      content = found.0;
      is_walked = found.1;
      roomy = room.0;
      rows_are = cc;
      values_are = cc;
      bytes_are = cc;
      rows_hold = reads.rows_hold ∙ ap (λ (a : Answer). afterwards a (row_table (rows_read (walking s))) rows) (sym answer) ∙ ap (λ (c : List Row). over (row_table c) rows) is;
      values_hold = reads.values_hold ∙ ap (λ (a : Answer). afterwards a (value_table (rows_read (walking s))) values) (sym answer) ∙ ap (λ (c : List Row). over (value_table c) values) is;
      area_holds = reads.area_holds ∙ ap (λ (a : Answer). afterwards a (area_bytes (rows_read (walking s))) area) (sym answer) ∙ ap (λ (c : List Row). over (area_bytes c) area) is;
    }

pub text_accepts_exactly : TextAcceptsExactly
unfolding reading_text
text_accepts_exactly s rows values area r rows' values' area' reads = (
  (λ n m k e.
      let found = is_read s (roomed (length rows) (length values / entry_words) (length area)) (room_other rows values area) k (n ∷ m ∷ []) (sym (ap walked_paper e) ∙ reads.means) in
      let room = room_told rows values area found.0 k (n ∷ m ∷ []) found.2 in
      let same : accepted k (n ∷ m ∷ []) ≡ accepted (length (area_bytes found.0)) (length found.0 ∷ length (all_cells found.0) ∷ []) = room.1 in
      (found.0, within_text s found.0 found.1, read_within s found.0 found.1, room.0, cc, cc, cc)),
  (λ content is within room. means_one walked_paper walked_of walked_back _ r (counted (length content) (length (all_cells content)) (length (area_bytes content))) reads.means
      (sym (ap (ending_as (roomed (length rows) (length values / entry_words) (length area))) (is_taken_lem s content is within) ∙ room_free rows values area content room))),
  (λ place e good. (is_placed s (roomed (length rows) (length values / entry_words) (length area)) (room_other rows values area) place (sym (ap walked_paper e) ∙ reads.means)).refused good),
)

pub text_place : TextPlace
unfolding reading_text
text_place s rows values area r rows' values' area' reads place e =
    is_placed s (roomed (length rows) (length values / entry_words) (length area)) (room_other rows values area) place (sym (ap walked_paper e) ∙ reads.means)

pub text_refusal_keeps : TextRefusalKeeps
text_refusal_keeps s rows values area refusal rows' values' area' reads = (
  kept (row_table (rows_read (walking s))) rows rows' reads.rows_hold,
  kept (value_table (rows_read (walking s))) values values' reads.values_hold,
  kept (area_bytes (rows_read (walking s))) area area' reads.area_holds,
)
  where
    kept : (ws xs xs' : List ℕ) → xs' ≡ afterwards (reading_text s (length rows) (length values / entry_words) (length area)) ws xs → xs' ≡ xs
    kept ws xs xs' e = e ∙ ap (λ (a : Answer). afterwards a ws xs) (sym reads.means) ∙ not_taken_keeps (text_paper refusal) ws xs (text_not_taken refusal)

pub text_once : TextOnce
text_once s rows rows' is is' = text_injective rows rows' is.0 is'.0 (sym is.1 ∙ is'.1)

-- Refusals: the same lines decide before what follows them

measured_refused : (r : Result ℕ WireError) (refusal : WireError) → paper_measured r ≡ paper refusal → r ≡ Err refusal
measured_refused (Ok n) refusal e = absurd (paper_never_accepted refusal n [] (sym e))
measured_refused (Err other) refusal e = ap Err (paper_injective other refusal e)

encoded_refused : (r : Result ℕ WireError) (refusal : WireError) → paper_encoded r ≡ paper refusal → r ≡ Err refusal
encoded_refused (Ok n) refusal e = absurd (paper_never_accepted refusal n [] (sym e))
encoded_refused (Err other) refusal e = ap Err (paper_injective other refusal e)

-- where a list refuses by this, with something accepted behind it, it refuses so whatever stands behind it
module _ (lines : List (Line Answer)) (refusal : WireError) where
  refuses_whatever : (n : ℕ) → paper refusal ≡ decide lines (accepted n []) → (rest : Answer) → decide lines rest ≡ paper refusal
  refuses_whatever n e rest = each (passes_or_not lines)
    where
      each : ((rest : Answer) → decide lines rest ≡ rest) ⊎ ((answer : Answer) × ((rest : Answer) → decide lines rest ≡ answer)) → decide lines rest ≡ paper refusal
      each (inl silent) = absurd (paper_never_accepted refusal n [] (e ∙ silent _))
      each (inr loud) = loud.1 rest ∙ sym (loud.1 _) ∙ sym e

pub sizes_refuse_alike : SizesRefuseAlike
unfolding sizing_text measuring
sizes_refuse_alike area rows values r r₀ sizes measures refusal = (
  (λ e. measured_refused r₀ refusal (measures ∙ refuses_whatever (check_lines area rows values) refusal _ (sym (ap paper_measured e) ∙ sizes) _)),
  (λ e. measured_refused r refusal (sizes ∙ refuses_whatever (check_lines area rows values) refusal _ (sym (ap paper_measured e) ∙ measures) _)),
)

-- 17 apart: what stands behind the checks is accepted, or refused by 17
abbrev Roomy : Answer → Type 0
Roomy (accepted n fields) = Unit {0}
Roomy more = ⊥
Roomy (refused k carried consumed) = k ≡ 17

roomy_not : (refusal : WireError) (a : Answer) → NotForRoom refusal → Roomy a → paper refusal ≡ a → ⊥
roomy_not refusal (accepted n fields) other h e = paper_never_accepted refusal n fields e
roomy_not refusal more other h e = h
roomy_not (Truncated offset needed) (refused k carried consumed) other h e = let z : ◌≡◌ {A = ℕ} 9 k = ap number_of e in omega arith
roomy_not (TooManyRows count) (refused k carried consumed) other h e = let z : ◌≡◌ {A = ℕ} 10 k = ap number_of e in omega arith
roomy_not (TooManyValues row count) (refused k carried consumed) other h e = let z : ◌≡◌ {A = ℕ} 11 k = ap number_of e in omega arith
roomy_not (ValueTooLong n) (refused k carried consumed) other h e = let z : ◌≡◌ {A = ℕ} 12 k = ap number_of e in omega arith
roomy_not (RowsetTooLarge size) (refused k carried consumed) other h e = let z : ◌≡◌ {A = ℕ} 13 k = ap number_of e in omega arith
roomy_not (UnknownValueType code) (refused k carried consumed) other h e = let z : ◌≡◌ {A = ℕ} 14 k = ap number_of e in omega arith
roomy_not (TrailingBytes n) (refused k carried consumed) other h e = let z : ◌≡◌ {A = ℕ} 15 k = ap number_of e in omega arith
roomy_not (NoRoom short) (refused k carried consumed) other h e = other
roomy_not (BadTable rule position) (refused k carried consumed) other h e = let z : ◌≡◌ {A = ℕ} 18 k = ap number_of e in omega arith

module _ (lines : List (Line Answer)) (refusal : WireError) (other : NotForRoom refusal) where
  refuses_past : (behind : Answer) → Roomy behind → paper refusal ≡ decide lines behind → (rest : Answer) → decide lines rest ≡ paper refusal
  refuses_past behind room e rest = each (passes_or_not lines)
    where
      each : ((rest : Answer) → decide lines rest ≡ rest) ⊎ ((answer : Answer) × ((rest : Answer) → decide lines rest ≡ answer)) → decide lines rest ≡ paper refusal
      each (inl silent) = absurd (roomy_not refusal behind other room (e ∙ silent behind))
      each (inr loud) = loud.1 rest ∙ sym (loud.1 behind) ∙ sym e

module _ (area rows values : List ℕ) where
  text_behind : ℕ → Answer
  text_behind room = decide (room_line Output (length (tables_text area rows values)) room ∷ []) (accepted (length (tables_text area rows values)) [])

  rowset_behind : ℕ → Answer
  rowset_behind room = decide (room_line Output (rowset_size rows values) room ∷ []) (accepted (rowset_size rows values) [])

  text_splits : (room : ℕ) → writing_text area rows values room ≡ decide (check_lines area rows values) (text_behind room)
  unfolding writing_text text_behind
  text_splits room = decide_append (check_lines area rows values) _ _

  rowset_splits : (room : ℕ) → writing area rows values room ≡ decide (check_lines area rows values) (rowset_behind room)
  unfolding writing rowset_behind
  rowset_splits room = decide_append (check_lines area rows values) _ _

  text_roomy : (room : ℕ) → Roomy (text_behind room)
  unfolding text_behind
  text_roomy room = pick_case (ltb room (length (tables_text area rows values))) _ _ Roomy (λ _. refl) (λ _. tt)

  rowset_roomy : (room : ℕ) → Roomy (rowset_behind room)
  unfolding rowset_behind
  rowset_roomy room = pick_case (ltb room (rowset_size rows values)) _ _ Roomy (λ _. refl) (λ _. tt)

pub writers_refuse_alike : WritersRefuseAlike
writers_refuse_alike area rows values before after before₀ after₀ r r₀ writes encodes refusal other = (
  (λ e. encoded_refused r₀ refusal (encodes.0 ∙ rowset_splits area rows values (length before₀)
      ∙ refuses_past (check_lines area rows values) refusal other _ (text_roomy area rows values (length before)) (sym (ap paper_encoded e) ∙ writes.0 ∙ text_splits area rows values (length before)) _)),
  (λ e. encoded_refused r refusal (writes.0 ∙ text_splits area rows values (length before)
      ∙ refuses_past (check_lines area rows values) refusal other _ (rowset_roomy area rows values (length before₀)) (sym (ap paper_encoded e) ∙ encodes.0 ∙ rowset_splits area rows values (length before₀)) _)),
)

-- What was written

module _ (area rows values before after : List ℕ) (n : ℕ) (writes : WritesText area rows values before (Ok n) after) where
  answer_is : writing_text area rows values (length before) ≡ accepted n []
  answer_is = sym writes.0

  after_is : after ≡ tables_text area rows values ++ drop (length (tables_text area rows values)) before
  after_is = writes.1 ∙ ap (λ (a : Answer). afterwards a (tables_text area rows values) before) answer_is

  split_is : decide (check_lines area rows values) (text_behind area rows values (length before)) ≡ accepted n []
  split_is = sym (text_splits area rows values (length before)) ∙ answer_is

  silent : (rest : Answer) → decide (check_lines area rows values) rest ≡ rest
  silent = silent_where_accepted (check_lines area rows values) (checks_refuse area rows values) _ n split_is

  count_is : length (tables_text area rows values) ≡ n
  unfolding text_behind
  count_is =
      let room = passes (ltb (length before) (length (tables_text area rows values))) 17 (4 ∷ length (tables_text area rows values) ∷ length before ∷ []) (accepted (length (tables_text area rows values)) []) n (sym (silent (text_behind area rows values (length before))) ∙ split_is) in
      let same : accepted (length (tables_text area rows values)) [] ≡ accepted n [] = room.1 in
      cc

pub written_is_text : WrittenIsText
unfolding tables_text
written_is_text area rows values before after n all-bytes All-words writes = (
  tables_fit area rows values 0 0 all-bytes All-words (silent area rows values before after n writes (accepted 0 [])),
  ap (take n) (after_is area rows values before after n writes) ∙ take_at (tables_text area rows values) _ n (count_is area rows values before after n writes),
)

-- There and back

front : (ws xs : List ℕ) (n : ℕ) → n ≡ length ws → take n (over ws xs) ≡ ws
front ws xs n e = take_at ws (drop (length ws) xs) n (sym e)

-- the fronts that reading filled
module _ (s rows values area : List ℕ) (n m k : ℕ) (rows' values' area' : List ℕ) (f : Filled s rows values area n m k rows' values' area') where
  rows_front : take n rows' ≡ row_table f.content
  rows_front = ap (take n) f.rows_hold ∙ front (row_table f.content) rows n (omega (arith, f.rows_are, length_row_table f.content))

  values_front : take (entry_words * m) values' ≡ value_table f.content
  values_front = ap (take (entry_words * m)) f.values_hold ∙ front (value_table f.content) values (entry_words * m) (omega (arith, f.values_are, length_value_table f.content))

  area_front : take k area' ≡ area_bytes f.content
  area_front = ap (take k) f.area_holds ∙ front (area_bytes f.content) area k f.bytes_are

  held : FitsRows f.content → WithinLimits f.content → rows_in (take k area') (take n rows') (take (entry_words * m) values') ≡ f.content
  held fit within = rw (rows_front, values_front, area_front) (tables_hold f.content fit within)

pub text_and_back : TextAndBack
unfolding writing_text tables_text
text_and_back s rows values area n m k rows' values' area' reads before r after writes room =
    let f = filled s rows values area n m k rows' values' area' reads in
    let is : IsText s f.content = within_text s f.content f.is_walked in
    let within : WithinLimits f.content = read_within s f.content f.is_walked in
    let holds = held s rows values area n m k rows' values' area' f is.0 within in
    let same : text (rows_in (take k area') (take n rows') (take (entry_words * m) values')) ≡ s = ap text holds ∙ sym is.1 in
    let passes_all : (rest : Answer) → decide (check_lines (take k area') (take n rows') (take (entry_words * m) values')) rest ≡ rest =
    rw (rows_front s rows values area n m k rows' values' area' f, values_front s rows values area n m k rows' values' area' f, area_front s rows values area n m k rows' values' area' f) (tables_written f.content is.0 within) in
    let answer : writing_text (take k area') (take n rows') (take (entry_words * m) values') (length before) ≡ accepted (length s) [] =
    decide_append (check_lines (take k area') (take n rows') (take (entry_words * m) values')) _ _ ∙ passes_all _ ∙ rw (same, le-ltb (length before) (length s) room) in (
      encoded_one r (Ok (length s)) (writes.0 ∙ answer),
      writes.1 ∙ ap (λ (a : Answer). afterwards a (tables_text (take k area') (take n rows') (take (entry_words * m) values')) before) answer ∙ ap (λ (t : List ℕ). over t before) same,
    )

-- the words of rows off tables are those of the row table
row_words : (area table : List ℕ) (rows : List ℕ) (k : ℕ) → row_table (rows_from area rows table k) ≡ rows
unfolding row_table rows_from
row_words area table [] k = refl
row_words area table (count ∷ rows) k = ap (λ (w : ℕ). w ∷ row_table (rows_from area rows table (k + entry_words * values_in count))) mark ∙ ap (◌∷◌ count) (row_words area table rows (k + entry_words * values_in count))
  where
    mark : row_word (row_in area table count k) ≡ count
    mark = by_test (eqb count null_mark) (λ t. rw t (sym (eqb-true count null_mark t))) (λ t. rw t (length_cells area table count k))

all_values : (area table : List ℕ) (rows : List ℕ) (k : ℕ) → length (all_cells (rows_from area rows table k)) ≡ total rows
unfolding rows_from all_cells total
all_values area table [] k = refl
all_values area table (count ∷ rows) k =
    length-append (cells_of (row_in area table count k)) (all_cells (rows_from area rows table (k + entry_words * values_in count)))
    ∙ ap (λ (n : ℕ). n + length (all_cells (rows_from area rows table (k + entry_words * values_in count)))) mine
    ∙ ap (λ (n : ℕ). values_in count + n) (all_values area table rows (k + entry_words * values_in count))
  where
    mine : length (cells_of (row_in area table count k)) ≡ values_in count
    mine = by_test (eqb count null_mark) (λ t. rw t) (λ t. rw t (length_cells area table count k))

pub tables_and_back : TablesAndBack
tables_and_back area rows values before after n all-bytes All-words writes rows₀ values₀ area₀ r rows' values' area' reads room =
    let content : List Row = rows_in area rows values in
    let k : ℕ = length (area_bytes content) in
    let passed = silent area rows values before after n writes (accepted 0 []) in
    let is : IsText (take n after) content = written_is_text area rows values before after n all-bytes All-words writes in
    let within : WithinLimits content = written_within area rows values 0 0 passed in
    let sound = sound_tables area rows values 0 0 passed in
    let count : length content ≡ length rows = sym (length_row_table content) ∙ ap length (row_words area values rows 0) in
    let all : length (all_cells content) ≡ total rows = all_values area values rows 0 in
    let entries : length (all_cells content) ≡ length values / entry_words = omega (arith, all, sound.whole) in
    let answer : r ≡ counted (length content) (length (all_cells content)) k = (text_accepts_exactly (take n after) rows₀ values₀ area₀ r rows' values' area' reads).1 content is within room in
    let f = filled (take n after) rows₀ values₀ area₀ (length content) (length (all_cells content)) k rows' values' area' (rw answer at reads) in
    let same : f.content ≡ content = (let both_read : ◌≡◌ {A = Ending (List Row) (Unit {0} ⊎ Answer)} (read f.content) (read content) = sym f.is_walked ∙ is_taken_lem (take n after) content is within in cc) in
    let words : take (length rows) rows' ≡ rows =
    ap (λ (j : ℕ). take j rows') (sym count) ∙ rows_front (take n after) rows₀ values₀ area₀ _ _ _ rows' values' area' f ∙ ap row_table same ∙ row_words area values rows 0 in
    let holds = held (take n after) rows₀ values₀ area₀ _ _ _ rows' values' area' f (rw same is.0) (rw same within) in
    let width : entry_words * length (all_cells content) ≡ length values = omega (arith, all, sound.whole) in (
      answer ∙ ap (λ (j : ℕ). counted j (length (all_cells content)) k) count ∙ ap (λ (j : ℕ). counted (length rows) j k) entries,
      words,
      rw (← count, ← width) (holds ∙ same),
    )

pub written_and_back : WrittenAndBack
written_and_back area rows values before after n all-bytes All-words writes rows₀ values₀ area₀ r rows' values' area' reads room before₂ r₂ after₂ writes₂ fits =
    let s : List ℕ = take n after in
    let k : ℕ = length (area_bytes (rows_in area rows values)) in
    let read-so = tables_and_back area rows values before after n all-bytes All-words writes rows₀ values₀ area₀ r rows' values' area' reads room in
    let sound = sound_tables area rows values 0 0 (silent area rows values before after n writes (accepted 0 [])) in
    let width : entry_words * (length values / entry_words) ≡ length values = omega (arith, sound.whole) in
    let long : length s ≡ n =
    ap (λ (l : List ℕ). length (take n l)) (after_is area rows values before after n writes) ∙ ap length (take_at (tables_text area rows values) _ n (count_is area rows values before after n writes))
    ∙ count_is area rows values before after n writes in
    let back =
    text_and_back s rows₀ values₀ area₀ (length rows) (length values / entry_words) k rows' values' area' (rw read-so.0 at reads) before₂ r₂ after₂ (rw width writes₂) (omega (arith, long)) in
    (back.0 ∙ ap Ok long, ap (take n) back.1 ∙ front s before₂ n (sym long))
