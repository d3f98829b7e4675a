-- What each public function promises, by name: the statements that the contracts cite, over the inputs, the result and
-- the lent buffer at entry and at exit. Assumes nothing.
use Rattle.std.specs.Prelude.{◌≡◌, List, ℕ, length, Result, Ok, Err}
use Rattle.words.specs.Statement.{Means, Holds}
use Rattle.words.specs.declared.outcome.NoRoom.{NoRoom}
use Rattle.words.specs.Decide.{Decides}
use Rattle.places.specs.Place.{Place}
use Rattle.guid.specs.declared.Guid.{Guid}
use Rattle.guid_text.specs.declared.BadGuid.{BadGuid}
use Rattle.guid_text.specs.Text.{text_of, printing}
use Rattle.guid_text.specs.Form.{IsText, Accepted}
use Rattle.guid_text.specs.Reason.{reasons}
use Rattle.guid_text.specs.Paper.{printed_paper}

abbrev pub SizesText : Guid → ℕ → Type 0
SizesText g r = r ≡ length (text_of g)

-- the answer, and the text over the buffer's front where it has the room
abbrev pub Prints : Guid → List ℕ → Result ℕ NoRoom → List ℕ → Type 0
Prints g before r after =
    let answer = printing g (length before) in
    Means printed_paper answer r × Holds answer (text_of g) before after

-- the GUID that the text spells; or the place where it goes wrong, and why
abbrev pub Parses : List ℕ → Result Guid BadGuid → Type 0
Parses s (Ok g) = IsText s g
Parses s (Err bad) = Place Accepted s bad.position × Decides (reasons s bad.position) bad.reason
