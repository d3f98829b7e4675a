-- The document's examples hold: each is computed from the definitions. Assumes nothing.
use mathlib.Core.Path.{refl}
use mathlib.Core.List.{[], ◌∷◌}
use Rattle.words.specs.Answer.{refuse}
use Rattle.words.specs.Text.{text}
use Rattle.words.specs.Word as Word
use Rattle.words.specs.Decide as Decide
use Rattle.words.specs.Text as Number
use Rattle.crc64.specs.Polynomial as Polynomial
use Rattle.guid_text.specs.Text as Text
use Rattle.std.specs.declared.result.Result.TheVariants.{Err}
use Rattle.guid_text.specs.declared.Reason.TheVariants.{NotHex, FieldCount}
use Rattle.guid_text.proofs.ReasonLaws.{parses}
use Rattle.places.specs.Machine as Machine
use Rattle.packet.specs.Layout as Layout
use Rattle.packet_read.specs.Reading as Packet
use Rattle.wire.specs.Layout as Value
use Rattle.wire_read.specs.Reading as Rowset
use Rattle.promises.specs.Examples.{TextAnswered, Examples}

pub examples : Examples
unfolding Word.bytes_of Word.word Decide.first_from Polynomial.step Polynomial.steps Polynomial.fold_byte Polynomial.fold Number.digit Number.spelled Text.text_of Number.digit_of Machine.run Layout.taken_before Packet.fixed_lines Packet.count_lines Packet.variable_lines Packet.size_lines Packet.part_lines Packet.room_lines Packet.order Packet.reading Value.row_words Rowset.values_lines Rowset.rows_lines Rowset.input_lines Rowset.reading_lines Rowset.reading Value.next_rows Value.next_row Value.next_values Value.value_count
examples =
    let plus : TextAnswered (text "+1-2-3-4") (refuse 16 (0 ∷ 3 ∷ [])) = (Err record { position = 0; reason = NotHex }, parses _ (Err record { position = 0; reason = NotHex }) refl, refl) in
    let three : TextAnswered (text "0-0-0") (refuse 16 (5 ∷ 4 ∷ [])) = (Err record { position = 5; reason = FieldCount }, parses _ (Err record { position = 5; reason = FieldCount }) refl, refl) in
    (refl, refl, refl, refl, refl, refl, plus, three, refl, refl, refl, refl, refl, refl, refl, refl, refl, refl, refl)
