-- One result for each statement: for every public function the theorem that two results, with the lent buffers at exit, that meet
-- its statement are equal. Each stands in its crate, beside the statement; here they are together. Assumes nothing.
pub use Rattle.words.proofs.Unique.{taken_unique, unfinished_unique, refusal_unique, room_number_unique, no_room_unique}
pub use Rattle.word_read.proofs.Unique.{read_u16_unique, read_u32_unique, read_u64_unique}
pub use Rattle.word_write.proofs.Unique.{write_u16_unique, write_u32_unique, write_u64_unique, write_bytes_unique, write_zeros_unique}
pub use Rattle.numerals.proofs.Unique.{hex_size_unique, write_hex_unique, decimal_size_unique, write_decimal_unique, digit_value_unique}
pub use Rattle.crc64.proofs.Unique.{table_unique, swap_bytes_unique, fold_over_unique, fold_unique}
pub use Rattle.guid.proofs.Unique.{Guid-from-parts-unique, Guid-parts-unique, Guid-from-halves-unique, Guid-halves-unique, Guid-is-null-unique, Guid-from-bytes-unique, Guid-write-unique}
pub use Rattle.guid_text.proofs.Unique.{text_size_unique, print_unique, parse_unique}
pub use Rattle.packet.proofs.Unique.{type_number_unique, type_of_unique, refused_unique, is_retired_unique, has_variable_header_unique, contains_unique, is_null_unique, is_outside_unique, part_unique}
pub use Rattle.packet_sum.proofs.Unique.{part_checksum_unique}
pub use Rattle.packet_answer.proofs.Unique.{outcome_unique as decoded-outcome-unique, refusal_unique as packet-refusal-unique}
pub use Rattle.packet_read.proofs.Unique.{decode_with_unique, decode_unique}
pub use Rattle.packet_check.proofs.Unique.{validate_unique, encoded_size_unique as packet-encoded-size-unique, outcome_unique as packet-measured-outcome-unique}
pub use Rattle.packet_write.proofs.Unique.{encode_unique}
pub use Rattle.wire.proofs.Unique.{values_in_unique, padded_unique, flag_unique, kind_of_unique, need_at_unique, outcome_unique as wire-error-outcome-unique}
pub use Rattle.wire_value.proofs.Unique.{read_header_unique, check_value_unique, read_value_unique, outcome_unique as read-value-outcome-unique}
pub use Rattle.wire_read.proofs.Unique.{decode_rowset_unique, is_plain_unique}
pub use Rattle.wire_reader.proofs.Unique.{read_u64_at_unique, Reader-need-unique, Reader-read-u64-unique, Reader-read-value-unique}
pub use Rattle.wire_check.proofs.Unique.{encoded_size_unique as rowset-encoded-size-unique, outcome_unique as rowset-measured-outcome-unique}
pub use Rattle.wire_write.proofs.Unique.{encode_rowset_unique, outcome_unique as rowset-encoded-outcome-unique}
pub use Rattle.listing.proofs.Unique.{list_unique}
