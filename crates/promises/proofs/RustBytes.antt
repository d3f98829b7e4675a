-- What the Rust wrote, computed from the definitions. Assumes nothing.
use mathlib.Core.Path.{refl}
use Rattle.words.specs.Word as Word
use Rattle.words.specs.Decide as Decide
use Rattle.crc64.specs.Polynomial as Polynomial
use Rattle.guid.specs.Guid.{wire_bytes}
use Rattle.packet.specs.Layout as Layout
use Rattle.packet.specs.Entries as Entries
use Rattle.packet.specs.Wire as Wire
use Rattle.packet_read.specs.Reading as Packet
use Rattle.wire.specs.Kind as Kind
use Rattle.wire.specs.Layout as Value
use Rattle.wire_value.specs.ValueOrder as Order
use Rattle.wire_read.specs.Reading as Rowset
use Rattle.promises.specs.RustBytes.{RustBytes}

pub rust_bytes : RustBytes
unfolding Word.bytes_of Word.word Decide.first_from Polynomial.step Polynomial.steps Polynomial.fold_byte Polynomial.fold wire_bytes Layout.taken_before Entries.entries_from Wire.sizes Wire.sums Wire.contents Wire.sealed Wire.fixed_fields Wire.body Wire.packet_bytes Packet.fixed_lines Packet.count_lines Packet.variable_lines Packet.size_lines Packet.part_lines Packet.room_lines Packet.order Packet.reading Kind.kind_of Value.payload Value.next_value Value.fourth Value.fifth Value.entry Value.next_values Value.entries Value.next_row Value.next_rows Value.value_count Value.row_words Value.value_words Value.payload_bytes Value.value_bytes Value.values_bytes Value.row_bytes Value.rows_bytes Value.rowset_bytes Order.value_order Rowset.values_lines Rowset.rows_lines Rowset.input_lines Rowset.reading_lines Rowset.reading
rust_bytes = (refl, refl, refl, refl, refl, refl, refl)
