-- What the answers mean in the documents' terms. Assumes nothing.
use Rattle.std.specs.Prelude.{ℕ, [], ◌∷◌, Result, Ok, Err}
use Rattle.words.specs.Answer.{Answer, accepted, refuse}
use Rattle.words.specs.Paper.{no_room_values}
use Rattle.words.specs.declared.outcome.NoRoom.{NoRoom}
use Rattle.guid.specs.declared.Guid.{Guid}
use Rattle.guid_text.specs.declared.BadGuid.{BadGuid}
use Rattle.guid_text.specs.Reason.{reason_number}
use Rattle.guid.specs.Guid.{words_of}

abbrev pub printed_paper : Result ℕ NoRoom → Answer
printed_paper (Ok count) = accepted count []
printed_paper (Err short) = refuse 17 (no_room_values short)

-- "16 now carries position and reason"
abbrev pub parsed_paper : Result Guid BadGuid → Answer
parsed_paper (Ok g) = accepted 0 (words_of g)
parsed_paper (Err bad) = refuse 16 (bad.position ∷ reason_number bad.reason ∷ [])
