-- What the line that decides tells is a function of the reader's answer. Assumes nothing.
use mathlib.Core.Path.{◌≡◌, refl, sym, ◌∙◌, ap}
use mathlib.Core.Bool.{Bool, true, false, true≢false}
use mathlib.Core.List.{List, [], ◌∷◌, ◌++◌}
use Prim.Native.Nat.{ℕ, ◌/◌, ◌<◌, ◌≤◌}
use Prim.Native.String.{String}
use borrow.Author.Tests.{lt-ltb, le-ltb, ltb-true}
use lib.ListN.{length}
use Rattle.words.specs.Answer.{Answer, accepted, more, refused, refuse}
use Rattle.words.specs.Paper.{outcome}
use Rattle.words.specs.declared.outcome.Outcome.{Outcome}
use Rattle.words.specs.Decide.{pick, Line, ◌⇒◌, decide, ◌<?◌}
use Rattle.words.specs.Note.{Told, ◌because◌, plainly, answer_of}
use Rattle.words.proofs.DecideLaws.{decide_append, answers_decide}
use Rattle.packet.specs.Layout.{count, whole, fields, fixed_header_size, headers}
use Rattle.packet.specs.Entries.{entry_words}
use Rattle.packet.specs.declared.Mode.{Mode}
use Rattle.packet.specs.Paper.{number_of, values_of}
use Rattle.packet.specs.Statement.{Refuses}
use Rattle.packet.specs.declared.PacketError.{PacketError}
use Rattle.packet.specs.declared.PacketError.TheVariants.{PartTooLarge, PartChecksum}
use Rattle.packet_read.specs.Reading.{limited, order, reading, fixed_lines, count_lines, variable_lines, size_lines, part_lines, room_lines}
use Rattle.packet_answer.specs.Paper.{Decoded, paper}
use Rattle.packet_answer.specs.Statement.{TellsDecoded}
use Rattle.packet_read.specs.Statement.{Decodes}
use Rattle.packet_answer.specs.declared.Read.{Read}
use Rattle.std.specs.declared.option.Option.TheVariants.{Some, None}
use Rattle.std.specs.declared.result.Result.TheVariants.{Ok, Err}
use Rattle.finding.specs.Saying.{Saying, fine, waiting, saying, untold, explain}
use Rattle.why_packet.specs.Checks.{checks, packet_checks}
use Rattle.why_packet.specs.Stages.{length_name, refusal_tells, Inside, more_tells, tells, within, answer_to, Waits}

-- where two orders end in what tells the same, they tell the same
same_end : (lines : List (Line Told)) (a b : Told) → saying a ≡ saying b → saying (decide lines a) ≡ saying (decide lines b)
same_end [] a b e = e
same_end ((true ⇒ told) ∷ lines) a b e = refl
same_end ((false ⇒ told) ∷ lines) a b e = same_end lines a b e

module _ (s : List ℕ) (n : ℕ) (mode : Mode) (limit ceiling : ℕ) (table : List ℕ) where
  abbrev end : Told
  end = accepted (whole s n) (fields s) because plainly

  abbrev told : Told
  told = decide (order s n (limited mode limit ceiling table)) end

  -- of an answer: the length that need-more waits for, and the index that a refusal carries
  abbrev Stands : Answer → Type 0
  Stands (accepted consumed read) = Unit {0}
  Stands more = (table' : List ℕ) → (length s <? fixed_header_size) ≡ false
      → answer_to s n (within s mode ceiling table') ≡ refused 8 (pick (length s <? headers n) (headers n) (whole s n) ∷ length s ∷ []) 0
  Stands (refused code values consumed) = Inside n code values

  abbrev Right : Told → Type 0
  Right t = (saying t ≡ tells s n ceiling (answer_of t)) × Stands (answer_of t)

  -- what each line says is right where its test holds and the tests before it do not; and so what is said last
  abbrev Each : List (Line Told) → Type 0 → Type 0
  Each [] last = last
  Each ((test ⇒ a) ∷ lines) last = (test ≡ true → Right a) × (test ≡ false → Each lines last)

  each_right : (lines : List (Line Told)) (last : Told) → Each lines (Right last) → Right (decide lines last)
  each_right [] last each = each
  each_right ((true ⇒ a) ∷ lines) last each = each.0 refl
  each_right ((false ⇒ a) ∷ lines) last each = each_right lines last (each.1 refl)

  told_right : Right told
  unfolding order fixed_lines count_lines variable_lines size_lines part_lines room_lines tells more_tells refusal_tells
  told_right =
      each_right (order s n (limited mode limit ceiling table)) end (
        (λ e. (rw e, (λ table' f. absurd (true≢false (sym e ∙ f))))),
        (λ e1. (
          (λ e. (refl, refl)),
          (λ e2. (
            (λ e. (refl, refl)),
            (λ e3. (
              (λ e. (refl, refl)),
              (λ e4. (
                (λ e. (refl, refl)),
                (λ e5. (
                  (λ e. (refl, refl)),
                  (λ e6. (
                    (λ e. (refl, tt)),
                    (λ e7. (
                      (λ e. (rw e, refl)),
                      (λ e8. (
                        (λ e. (rw (e1, e), (λ table' f. rw (e1, e2, e3, e4, e5, e6, e7, e)))),
                        (λ e9. (
                          (λ e. (refl, refl)),
                          (λ e10. (
                            (λ e. (refl, e)),
                            (λ e11. (
                              (λ e. (rw e8, refl)),
                              (λ e12. (
                                (λ e. (rw (e1, e9), (λ table' f. rw (e1, e2, e3, e4, e5, e6, e7, e9, e10, e11, e)))),
                                (λ e13. (
                                  (λ e. (refl, e)),
                                  (λ e14. ((λ e. (refl, refl)), (λ e15. (refl, tt)))),
                                )),
                              )),
                            )),
                          )),
                        )),
                      )),
                    )),
                  )),
                )),
              )),
            )),
          )),
        )),
      )

  -- the lent table tells nothing
  room_untold : (room : ℕ) → saying (decide (room_lines n room) end) ≡ fine
  unfolding room_lines
  room_untold room = go (room <? n)
    where
      go : (test : Bool) → saying (pick test (refused 17 (1 ∷ n ∷ room ∷ []) 0 because plainly) end) ≡ fine
      go true = refl
      go false = refl

  told_checks : saying told ≡ explain (checks s n mode limit ceiling)
  unfolding order checks
  told_checks =
      let lines : List (Line Told) = fixed_lines s mode ++ count_lines s n ceiling ++ variable_lines s n limit ++ size_lines s n limit ++ part_lines s n in
      let last : List (Line Told) = room_lines n (length table / entry_words) in
      ap saying (decide_append lines last end) ∙ same_end lines (decide last end) untold (room_untold (length table / entry_words))

-- what the reader answered tells what its order tells, and stands
module _ (s : List ℕ) (mode : Mode) (limit ceiling : ℕ) (table : List ℕ) (r : Decoded) (after : List ℕ) (decodes : Decodes s (limited mode limit ceiling table) table r after) where
  answered : answer_of (told s (count s) mode limit ceiling table) ≡ paper r
  unfolding reading
  answered = sym (answers_decide (order s (count s) (limited mode limit ceiling table)) (end s (count s) mode limit ceiling table)) ∙ sym decodes.answer

  pub answer_tells : tells s (count s) ceiling (paper r) ≡ explain (packet_checks s mode limit ceiling)
  answer_tells =
      ap (tells s (count s) ceiling) (sym answered) ∙ sym (told_right s (count s) mode limit ceiling table).0 ∙ told_checks s (count s) mode limit ceiling table

  pub answer_stands : Stands s (count s) mode limit ceiling table (paper r)
  answer_stands = rw answered at (told_right s (count s) mode limit ceiling table).1

  -- case by case, the count of parts being k
  pub read_fine : (read : Read) → r ≡ Ok (Some read) → fine ≡ explain (packet_checks s mode limit ceiling)
  unfolding tells
  read_fine read e = rw e at answer_tells

  module _ (k : ℕ) (is : k ≡ count s) where
    pub more_waits : r ≡ Ok None → Waits s k mode ceiling
    more_waits e =
        let stands : Stands s (count s) mode limit ceiling table more = rw e at answer_stands in
        rw is (refl, stands)

    pub more_explains : (told-it : Saying) → r ≡ Ok None → told-it ≡ more_tells s k → told-it ≡ explain (packet_checks s mode limit ceiling)
    unfolding tells
    more_explains told-it e Told-more =
        let telling : more_tells s (count s) ≡ explain (packet_checks s mode limit ceiling) = rw e at answer_tells in
        Told-more ∙ ap (more_tells s) is ∙ telling

    pub refusal_inside : (error : PacketError) (consumed : ℕ) → r ≡ Err record { error = error; consumed = consumed } → Inside k (number_of error) (values_of error)
    refusal_inside error consumed e =
        let stands : Inside (count s) (number_of error) (values_of error) = rw e at answer_stands in
        rw is stands

    pub refusal_explains : (error : PacketError) (consumed : ℕ) (told-it : Saying) → r ≡ Err record { error = error; consumed = consumed } → told-it ≡ refusal_tells k ceiling (number_of error) (values_of error)
        → told-it ≡ explain (packet_checks s mode limit ceiling)
    unfolding tells
    refusal_explains error consumed told-it e told-refusal =
        let telling : refusal_tells (count s) ceiling (number_of error) (values_of error) ≡ explain (packet_checks s mode limit ceiling) = rw e at answer_tells in
        told-refusal ∙ ap (λ (n : ℕ). refusal_tells n ceiling (number_of error) (values_of error)) is ∙ telling

-- A refusal, by what it carries

pub number_is : (error : PacketError) (r : Outcome) → Refuses error 0 r → r.number ≡ number_of error
number_is error r e = ap (λ (o : Outcome). o.number) e

-- the part that it names is one of the n
pub part_inside : (n : ℕ) (error : PacketError) (index size : ℕ) → Inside n (number_of error) (values_of error) → error ≡ PartTooLarge index size → index < n
part_inside n error index size inside e = let here : (index <? n) ≡ true = rw e at inside in ltb-true index n here

pub sum_inside : (n : ℕ) (error : PacketError) (index expected actual : ℕ) → Inside n (number_of error) (values_of error) → error ≡ PartChecksum index expected actual → index < n
sum_inside n error index expected actual inside e = let here : (index <? n) ≡ true = rw e at inside in ltb-true index n here

-- Need-more

module _ (s : List ℕ) (n : ℕ) where
  pub more_fixed : length s < fixed_header_size → waiting "fixed-header" fixed_header_size ≡ more_tells s n
  unfolding more_tells
  more_fixed short = rw (lt-ltb (length s) fixed_header_size short)

  module _ (mode : Mode) (ceiling : ℕ) (waits : Waits s n mode ceiling) (long : fixed_header_size ≤ length s) (table : List ℕ) (r : Decoded) (after : List ℕ) (decodes : Decodes s (within s mode ceiling table) table r after) where
    refused_length : paper r ≡ refuse 8 (pick (length s <? headers n) (headers n) (whole s n) ∷ length s ∷ [])
    unfolding reading
    refused_length =
        let there : (length s <? fixed_header_size) ≡ false = le-ltb (length s) fixed_header_size long in
        decodes.answer ∙ ap (λ (k : ℕ). answer_to s k (within s mode ceiling table)) (sym waits.0) ∙ waits.1 table there

    pub more_length : (o : Outcome) (name : String) → TellsDecoded r o → name ≡ length_name n (length s) → waiting name o.v0 ≡ more_tells s n
    unfolding more_tells
    more_length o name tells-it named =
        let size : o.v0 ≡ pick (length s <? headers n) (headers n) (whole s n) = ap (λ (u : Outcome). u.v0) (tells-it ∙ ap outcome refused_length) in
        rw (named, size, le-ltb (length s) fixed_header_size long) (either (length s <? headers n))
      where
        either : (b : Bool) → waiting (pick b "headers" "whole") (pick b (headers n) (whole s n)) ≡ pick b (waiting "headers" (headers n)) (waiting "whole" (whole s n))
        either true = refl
        either false = refl
