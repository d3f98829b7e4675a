-- What each exported function on GUIDs promises, by name: its outcome is that of the answer that the library's
-- definitions give, and a lent buffer holds afterwards what they say. An id is lent as its wire bytes. Assumes nothing.
use Rattle.std.specs.Prelude.{ℕ, ◌≡◌, Bool, List, [], ◌∷◌, length, Result}
use Rattle.words.specs.Answer.{Answer, accepted}
use Rattle.words.specs.Decide.{decide}
use Rattle.words.specs.Paper.{Tells, room_line}
use Rattle.words.specs.Statement.{Holds}
use Rattle.words.specs.declared.outcome.Outcome.{Outcome}
use Rattle.words.specs.declared.outcome.Room.TheVariants.{Output}
use Rattle.guid.specs.declared.Guid.{Guid}
use Rattle.guid.specs.Guid.{wire_bytes, guid_at, words_of, first_half, second_half, is_null}
use Rattle.guid_text.specs.Text.{text_of, printing}
use Rattle.guid_text.specs.declared.BadGuid.{BadGuid}
use Rattle.guid_text.specs.Paper.{parsed_paper}
use Rattle.guid_text.specs.Statement.{Parses as ParsesText}

abbrev pub writing_id : ℕ → Answer
writing_id given = decide (room_line Output 16 given ∷ []) (accepted 16 [])

abbrev pub WritesId : Guid → List ℕ → Outcome → List ℕ → Type 0
WritesId g before r after =
    Tells (writing_id (length before)) r × Holds (writing_id (length before)) (wire_bytes g) before after

abbrev pub Prints : List ℕ → List ℕ → Outcome → List ℕ → Type 0
Prints id before r after =
    let answer = printing (guid_at id 0) (length before) in
    Tells answer r × Holds answer (text_of (guid_at id 0)) before after

-- the one answer that the reader's statement allows, in words: the GUID's, or 16 with position and reason
abbrev pub Parses : List ℕ → Outcome → Type 0
Parses text r = (answer : Result Guid BadGuid) × ParsesText text answer × Tells (parsed_paper answer) r

abbrev pub GivesParts : List ℕ → Outcome → Type 0
GivesParts id r = Tells (accepted 0 (words_of (guid_at id 0))) r

abbrev pub GivesHalves : List ℕ → Outcome → Type 0
GivesHalves id r = Tells (accepted 0 (first_half (guid_at id 0) ∷ second_half (guid_at id 0) ∷ [])) r

abbrev pub TellsNull : List ℕ → Bool → Type 0
TellsNull id r = r ≡ is_null (guid_at id 0)
