-- Document 01's number and values for each case of `WireError`. Assumes nothing.
use Rattle.std.specs.Prelude.{[], ◌∷◌}
use Rattle.words.specs.Answer.{Answer, refuse}
use Rattle.words.specs.Paper.{no_room_values}
use Rattle.wire.specs.declared.error.WireError.{WireError}
use Rattle.wire.specs.declared.error.WireError.TheVariants.{Truncated, TooManyRows, TooManyValues, ValueTooLong, RowsetTooLarge, UnknownValueType, TrailingBytes, NoRoom, BadTable}

abbrev pub paper : WireError → Answer
paper (Truncated offset needed) = refuse 9 (offset ∷ needed ∷ [])
paper (TooManyRows count) = refuse 10 (count ∷ [])
paper (TooManyValues row count) = refuse 11 (row ∷ count ∷ [])
paper (ValueTooLong n) = refuse 12 (n ∷ [])
paper (RowsetTooLarge size) = refuse 13 (size ∷ [])
paper (UnknownValueType code) = refuse 14 (code ∷ [])
paper (TrailingBytes n) = refuse 15 (n ∷ [])
paper (NoRoom short) = refuse 17 (no_room_values short)
paper (BadTable rule position) = refuse 18 (rule ∷ position ∷ [])
