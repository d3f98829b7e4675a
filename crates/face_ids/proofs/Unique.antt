-- One result for each statement: two outcomes, with what the lent buffers hold at exit, that meet an exported function's statement
-- are equal. Assumes nothing.
use Prim.Native.Nat.{ℕ}
use mathlib.Core.Path.{sym, ◌∙◌, ap}
use mathlib.Core.List.{List}
use Rattle.words.specs.Statement.{OneResult}
use Rattle.words.proofs.Unique.{equal_to_one}
use Rattle.guid.specs.Guid.{guid_of, guid_of_halves}
use Rattle.std.specs.declared.result.Result.{Result}
use Rattle.guid.specs.declared.Guid.{Guid}
use Rattle.guid_text.specs.declared.BadGuid.{BadGuid}
use Rattle.guid_text.specs.Paper.{parsed_paper}
use Rattle.guid_text.proofs.Unique.{parse_unique}
use Rattle.words.specs.Paper.{outcome}
use Rattle.words.specs.declared.outcome.Outcome.{Outcome}
use Rattle.face.proofs.Unique.{equal_to_two}
use Rattle.face_ids.specs.Statement.{WritesId, Prints, Parses, GivesParts, GivesHalves, TellsNull}

pub cablefinch_guid_from_parts_unique : (w0 w1 w2 w3 : ℕ) (before : List ℕ) → OneResult (λ (x : Outcome × List ℕ). WritesId (guid_of w0 w1 w2 w3) before x.0 x.1)
cablefinch_guid_from_parts_unique w0 w1 w2 w3 before = equal_to_two _ _

pub cablefinch_guid_from_halves_unique : (first second : ℕ) (before : List ℕ) → OneResult (λ (x : Outcome × List ℕ). WritesId (guid_of_halves first second) before x.0 x.1)
cablefinch_guid_from_halves_unique first second before = equal_to_two _ _

pub cablefinch_guid_print_unique : (id before : List ℕ) → OneResult (λ (x : Outcome × List ℕ). Prints id before x.0 x.1)
cablefinch_guid_print_unique id before = equal_to_two _ _

pub cablefinch_guid_parse_unique : (text : List ℕ) → OneResult (Parses text)
cablefinch_guid_parse_unique text r r' (answer, parsed, tells) (answer', parsed', tells') =
    tells ∙ ap (λ (a : Result Guid BadGuid). outcome (parsed_paper a)) (parse_unique text answer answer' parsed parsed') ∙ sym tells'

pub cablefinch_guid_parts_unique : (id : List ℕ) → OneResult (GivesParts id)
cablefinch_guid_parts_unique id = equal_to_one _

pub cablefinch_guid_halves_unique : (id : List ℕ) → OneResult (GivesHalves id)
cablefinch_guid_halves_unique id = equal_to_one _

pub cablefinch_guid_is_null_unique : (id : List ℕ) → OneResult (TellsNull id)
cablefinch_guid_is_null_unique id = equal_to_one _
