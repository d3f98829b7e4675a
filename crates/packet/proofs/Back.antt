-- The way back from document 01's terms to the enums, so that the maps to those terms lose nothing. Assumes nothing.
use Prim.Native.Nat.{ℕ, zero, suc, ◌≤◌}
use mathlib.Core.List.{List, [], ◌∷◌}
use mathlib.Core.Path.{◌≡◌, refl, sym, ◌∙◌, ap}
use native.Mathlib.Omega.{arith}
use lib.ListN.{get_or}
use Rattle.words.specs.Answer.{Answer, accepted, more, refused}
use Rattle.words.specs.Decide.{◌=?◌, ◌⇒◌, decide}
use Rattle.words.specs.Paper.{outcome, Tells}
use Rattle.words.specs.declared.outcome.Outcome.{Outcome}
use Rattle.words.proofs.PaperLaws.{no_room_of, no_room_back}
use Rattle.words.specs.declared.outcome.NoRoom.{NoRoom as Short}
use Rattle.packet.specs.declared.PacketType.{PacketType}
use Rattle.packet.specs.declared.PacketType.TheVariants.{Message, Ack, SslAck}
use Rattle.packet.specs.declared.PacketError.{PacketError}
use Rattle.packet.specs.declared.PacketError.TheVariants.{Signature, UnknownType, TooManyParts, PartTooLarge, FixedHeaderChecksum, VariableHeaderChecksum, PartChecksum, MessageTooLarge, NoRoom, BadTable, RetiredType}
use Rattle.packet.specs.declared.Packet.{Packet}
use Rattle.packet.specs.Layout.{last_type}
use Rattle.packet.specs.Paper.{type_number, number_of, values_of, refusal, fields_of}

abbrev pub type_of : ℕ → PacketType
type_of zero = Message
type_of (suc zero) = Ack
type_of (suc (suc n)) = SslAck

pub type_back : (t : PacketType) → type_of (type_number t) ≡ t
type_back Message = refl
type_back Ack = refl
type_back SslAck = refl

pub type_injective : (t t' : PacketType) → type_number t ≡ type_number t' → t ≡ t'
type_injective t t' same = sym (type_back t) ∙ ap type_of same ∙ type_back t'

pub type_known : (t : PacketType) → type_number t ≤ last_type
type_known Message = omega arith
type_known Ack = omega arith
type_known SslAck = omega arith

abbrev pub error_of : ℕ → List ℕ → PacketError
error_of number values =
    decide
    (number =? 1 ⇒ Signature (get_or values 0 0)
    ∷ number =? 2 ⇒ UnknownType (get_or values 0 0)
    ∷ number =? 3 ⇒ TooManyParts (get_or values 0 0)
    ∷ number =? 4 ⇒ PartTooLarge (get_or values 0 0) (get_or values 1 0)
    ∷ number =? 5 ⇒ FixedHeaderChecksum (get_or values 0 0) (get_or values 1 0)
    ∷ number =? 6 ⇒ VariableHeaderChecksum (get_or values 0 0) (get_or values 1 0)
    ∷ number =? 7 ⇒ PartChecksum (get_or values 0 0) (get_or values 1 0) (get_or values 2 0)
    ∷ number =? 8 ⇒ MessageTooLarge (get_or values 0 0) (get_or values 1 0)
    ∷ number =? 17 ⇒ NoRoom (no_room_of values)
    ∷ number =? 18 ⇒ BadTable (get_or values 0 0) (get_or values 1 0)
    ∷ [])
    (RetiredType (get_or values 0 0))

pub error_back : (e : PacketError) → error_of (number_of e) (values_of e) ≡ e
error_back (Signature found) = refl
error_back (UnknownType found) = refl
error_back (TooManyParts count) = refl
error_back (PartTooLarge index size) = refl
error_back (FixedHeaderChecksum stored computed) = refl
error_back (VariableHeaderChecksum stored computed) = refl
error_back (PartChecksum index stored computed) = refl
error_back (MessageTooLarge size limit) = refl
error_back (NoRoom short) = ap (λ (x : Short). NoRoom x) (no_room_back short)
error_back (BadTable rule position) = refl
error_back (RetiredType found) = refl

abbrev pub packet_of : List ℕ → Packet
packet_of fields =
    record {
      packet_type = type_of (get_or fields 0 0);
      flags = record { 0 = get_or fields 1 0 };
      id = record { w0 = get_or fields 2 0; w1 = get_or fields 3 0; w2 = get_or fields 4 0; w3 = get_or fields 5 0 };
      parts = get_or fields 6 0;
    }

pub packet_back : (p : Packet) → packet_of (fields_of p) ≡ p
packet_back p = λ i. record { packet_type = type_back p.packet_type i; flags = p.flags; id = p.id; parts = p.parts }

-- of an answer, by what an acceptance and a refusal are
abbrev pub told : {R : Type 0} → (ℕ → R) → (PacketError → R) → Answer → R
told yes_of no_of (accepted n fields) = yes_of n
told yes_of no_of more = yes_of 0
told yes_of no_of (refused number values consumed) = no_of (error_of number values)

pub told_back : {R : Type 0} (yes_of : ℕ → R) (no_of : PacketError → R) (error : PacketError) (consumed : ℕ)
    → told yes_of no_of (refusal error consumed) ≡ no_of error
told_back yes_of no_of error consumed = ap no_of (error_back error)

-- what is told of a case is told of the enum that is that case
pub case : {E : Type 0} (paper : E → Answer) {e e' : E} {r : Outcome} → e ≡ e' → Tells (paper e') r → Tells (paper e) r
case paper known p = p ∙ sym (ap (λ (x : _). outcome (paper x)) known)
