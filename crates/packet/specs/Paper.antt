-- What the enums of the code mean in document 01's terms: its numbers, and the values each carries, in its order.
-- Assumes nothing.
use Rattle.std.specs.Prelude.{ℕ, List, [], ◌∷◌}
use Rattle.words.specs.Answer.{Answer, refused}
use Rattle.words.specs.Paper.{no_room_values}
use Rattle.packet.specs.declared.PacketType.{PacketType}
use Rattle.packet.specs.declared.PacketType.TheVariants.{Message, Ack, SslAck}
use Rattle.packet.specs.declared.PacketError.{PacketError}
use Rattle.packet.specs.declared.PacketError.TheVariants.{Signature, UnknownType, TooManyParts, PartTooLarge, FixedHeaderChecksum, VariableHeaderChecksum, PartChecksum, MessageTooLarge, NoRoom, BadTable, RetiredType}
use Rattle.packet.specs.declared.Packet.{Packet}

abbrev pub type_number : PacketType → ℕ
type_number Message = 0
type_number Ack = 1
type_number SslAck = 2

abbrev pub number_of : PacketError → ℕ
number_of (Signature found) = 1
number_of (UnknownType found) = 2
number_of (TooManyParts count) = 3
number_of (PartTooLarge index size) = 4
number_of (FixedHeaderChecksum stored computed) = 5
number_of (VariableHeaderChecksum stored computed) = 6
number_of (PartChecksum index stored computed) = 7
number_of (MessageTooLarge size limit) = 8
number_of (NoRoom short) = 17
number_of (BadTable rule position) = 18
number_of (RetiredType found) = 24

abbrev pub values_of : PacketError → List ℕ
values_of (Signature found) = found ∷ []
values_of (UnknownType found) = found ∷ []
values_of (TooManyParts count) = count ∷ []
values_of (PartTooLarge index size) = index ∷ size ∷ []
values_of (FixedHeaderChecksum stored computed) = stored ∷ computed ∷ []
values_of (VariableHeaderChecksum stored computed) = stored ∷ computed ∷ []
values_of (PartChecksum index stored computed) = index ∷ stored ∷ computed ∷ []
values_of (MessageTooLarge size limit) = size ∷ limit ∷ []
values_of (NoRoom short) = no_room_values short
values_of (BadTable rule position) = rule ∷ position ∷ []
values_of (RetiredType found) = found ∷ []

abbrev pub refusal : PacketError → ℕ → Answer
refusal error consumed = refused (number_of error) (values_of error) consumed

-- type, flags, the four words of the id, how many parts
abbrev pub fields_of : Packet → List ℕ
fields_of p = type_number p.packet_type ∷ p.flags.0 ∷ p.id.w0 ∷ p.id.w1 ∷ p.id.w2 ∷ p.id.w3 ∷ p.parts ∷ []
