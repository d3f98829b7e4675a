-- Document 02, A9. "Proved: each check that 01's order puts earlier passes, the named one doesn't, and the value found
-- is read or counted from the input. For need-more it says which length was being waited for. Any other accepted input
-- prints `ok`". Assumes nothing.
use Rattle.std.specs.Prelude.{ℕ, ◌-◌, ◌≤◌, Bool, true, false, ◌&&◌, ◌||◌, List, [], ◌∷◌, ◌++◌, ◌⊎◌, ◌≡◌, length}
use Prim.Native.String.{String}
use Rattle.words.specs.Answer.{Answer, accepted, more, refused}
use Rattle.words.specs.Decide.{pick, Line, ◌⇒◌, ◌=?◌, Silent, Decides, decide}
use Rattle.words.specs.Note.{Told, answers}
use Rattle.words.specs.Text.{text}
use Rattle.words.specs.Word.{word}
use Rattle.packet.specs.Layout.{count, headers, whole}
use Rattle.packet.specs.declared.Mode.{Mode}
use Rattle.packet_read.specs.Reading.{Limits, limited, order, room_lines}
use Rattle.packet_answer.specs.Paper.{Decoded, paper}
use Rattle.packet_read.specs.Statement.{Decodes}
use Rattle.wire.specs.Layout.{max_size}
use Rattle.wire_read.specs.Reading.{input_lines}
use Rattle.wire_read.specs.Plain.{accepts, plain}
use Rattle.finding.specs.Saying.{Saying, fine, waiting, refusing, breaking, saying}
use Rattle.finding.specs.Meaning.{meaning}
use Rattle.finding.specs.declared.Finding.{Finding}
use Rattle.finding.specs.declared.Finding.TheVariants.{Fine, More, Refused, NotPlain}
use Rattle.why_packet.specs.Checks.{checks, packet_checks, ExplainsPacket}
use Rattle.why_rowset.specs.Plain.{plain_lines}
use Rattle.why_rowset.specs.Checks.{rowset_checks, ExplainsRowset}

-- r is what one line of the order tells: its test holds, and the tests of all lines before it do not
pub record Names (lines : List (Line Told)) (r : Finding) : Type 0 where
  pub told : Told
  pub decides : Decides lines told
  pub says : meaning r ≡ saying told

-- one line is named, or no test holds and nothing is wrong
abbrev pub NamesTheCheck : List (Line Told) → Finding → Type 0
NamesTheCheck lines r = Names lines r ⊎ (Silent lines × (r ≡ Fine))

-- two names are the same
abbrev pub same : List ℕ → List ℕ → Bool
same [] [] = true
same [] (y ∷ ys) = false
same (x ∷ xs) [] = false
same (x ∷ xs) (y ∷ ys) = (x =? y) && same xs ys

abbrev pub is : String → String → Bool
is name other = same (text name) (text other)

-- What stands at a field of a packet: the word there; and a length is counted from the packet's part count and sizes
abbrev pub packet_value : List ℕ → String → ℕ → ℕ
packet_value s name offset =
    decide
    (is name "fixed-header" ⇒ 36
    ∷ is name "headers" ⇒ headers (count s)
    ∷ is name "whole" ⇒ whole s (count s)
    ∷ is name "type" ⇒ word 2 s offset
    ∷ (is name "signature" || is name "part-count" || is name "part-size") ⇒ word 4 s offset
    ∷ [])
    (word 8 s offset)

-- What stands at a field of a rowset
abbrev pub rowset_value : List ℕ → String → ℕ → ℕ
rowset_value s name offset =
    decide
    ((is name "type" || is name "aggregate" || is name "padding") ⇒ word 1 s offset
    ∷ is name "length" ⇒ word 4 s offset
    ∷ [])
    (word 8 s offset)

-- 9 and 15 count the bytes that are there from the offset on
abbrev pub counts : ℕ → Bool
counts code = code =? 9 || code =? 15

-- what is told was found there
abbrev pub FoundInPacket : List ℕ → Saying → Type 0
FoundInPacket s fine = Unit {0}
FoundInPacket s (waiting name n) = n ≡ packet_value s name 0
FoundInPacket s (refusing code name offset value wanted) = value ≡ packet_value s name offset
FoundInPacket s (breaking name offset value wanted) = ⊥

abbrev pub FoundInRowset : List ℕ → Saying → Type 0
FoundInRowset s fine = Unit {0}
FoundInRowset s (waiting name n) = ⊥
FoundInRowset s (refusing code name offset value wanted) =
    value ≡ pick (counts code) (length s - offset) (rowset_value s name offset)
FoundInRowset s (breaking name offset value wanted) = value ≡ rowset_value s name offset

-- a refusal's number, and 0 where there is none
abbrev pub number_told : Saying → ℕ
number_told fine = 0
number_told (waiting name n) = 0
number_told (refusing code name offset value wanted) = code
number_told (breaking name offset value wanted) = 0

abbrev pub number_in : Answer → ℕ
number_in (accepted consumed fields) = 0
number_in more = 0
number_in (refused code values consumed) = code

-- The order of a packet's checks is the reader's own, which asks for room in a table behind them.
abbrev pub OnePacketOrder : Type 0
OnePacketOrder =
    (s : List ℕ) (n : ℕ) (limits : Limits)
    → order s n limits ≡ checks s n limits.mode limits.bytes limits.parts ++ room_lines n limits.room

-- So is that of a rowset's, and behind it stand the lines of the plain form.
abbrev pub OneRowsetOrder : Type 0
OneRowsetOrder = (s : List ℕ) → rowset_checks s ≡ input_lines s ++ plain_lines s

abbrev pub WhyNamesTheCheck : Type 0
WhyNamesTheCheck =
    OnePacketOrder
    × OneRowsetOrder
    × ((s : List ℕ) (mode : Mode) (limit ceiling : ℕ) (r : Finding) → ExplainsPacket s mode limit ceiling r
    → NamesTheCheck (packet_checks s mode limit ceiling) r × FoundInPacket s (meaning r))
    × ((s : List ℕ) (r : Finding) → ExplainsRowset s r → NamesTheCheck (rowset_checks s) r × FoundInRowset s (meaning r))

-- So of what the packet reader answers, with any table: where it accepts, or only a table is short (17), nothing is
-- told; where it asks for more, a length; and else its number. (18 is of tables that are written from.)
abbrev pub is_waiting : Saying → Bool
is_waiting fine = false
is_waiting (waiting name n) = true
is_waiting (refusing code name offset value wanted) = false
is_waiting (breaking name offset value wanted) = false

abbrev pub AgreesWith : Answer → Saying → Type 0
AgreesWith (accepted consumed fields) said = said ≡ fine
AgreesWith more said = is_waiting said ≡ true
AgreesWith (refused code values consumed) said = number_told said ≡ pick (code =? 17 || code =? 18) 0 code

abbrev pub WhyAgreesWithTheReader : Type 0
WhyAgreesWithTheReader =
    (s : List ℕ) (mode : Mode) (limit ceiling : ℕ) (table : List ℕ) (d : Decoded) (after : List ℕ) (r : Finding)
    → Decodes s (limited mode limit ceiling table) table d after
    → ExplainsPacket s mode limit ceiling r
    → AgreesWith (paper d) (meaning r)

-- The number told of a rowset is the reader's, and 0 where it accepts.
abbrev pub WhyTellsTheNumber : Type 0
WhyTellsTheNumber =
    (s : List ℕ) (r : Finding) → ExplainsRowset s r
    → number_told (meaning r) ≡ number_in (decide (answers (input_lines s)) (accepted 0 []))

-- `ok` exactly for a rowset in the plain form, among those that are not too large for it.
abbrev pub WhyFineIsPlain : Type 0
WhyFineIsPlain =
    (s : List ℕ) (r : Finding) → ExplainsRowset s r → length s ≤ max_size → (r ≡ Fine → plain s ≡ true)
    × (plain s ≡ true → r ≡ Fine)
