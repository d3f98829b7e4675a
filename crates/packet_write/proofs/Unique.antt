-- Two answers, with what the output holds after each, that meet `encode`'s statement are equal. Assumes nothing.
use mathlib.Core.Path.{◌≡◌, refl}
use mathlib.Core.List.{List}
use Prim.Native.Nat.{ℕ}
use lib.ListN.{length}
use Rattle.words.specs.Answer.{Answer}
use Rattle.words.specs.Statement.{OneResult}
use Rattle.words.proofs.Unique.{means_one, holds_one}
use Rattle.guid.specs.declared.Guid.{Guid}
use Rattle.packet.specs.declared.Mode.{Mode}
use Rattle.packet.specs.declared.PacketType.{PacketType}
use Rattle.packet.specs.declared.PacketFlags.{PacketFlags}
use Rattle.packet.specs.Paper.{type_number}
use Rattle.packet.proofs.Back.{told, told_back}
use Rattle.std.specs.declared.result.Result.TheVariants.{Ok, Err}
use Rattle.packet_write.specs.Paper.{Encoded, paper}
use Rattle.packet_write.specs.Writing.{writing}
use Rattle.packet_write.specs.Statement.{Encodes, bytes_for}

abbrev encoded_back_lem : Answer → Encoded
encoded_back_lem = told Ok Err

encoded_undone : (r : Encoded) → encoded_back_lem (paper r) ≡ r
encoded_undone (Ok size) = refl
encoded_undone (Err error) = told_back Ok Err error 0

pub encode_unique : (mode : Mode) (type : PacketType) (flags : PacketFlags) (id : Guid) (area table out : List ℕ)
    → OneResult (λ (x : Encoded × List ℕ). Encodes mode type flags id area table out x.0 x.1)
encode_unique mode type flags id area table out x x' p q =
    let answer = writing mode (type_number type) area table (length out) in
    let same = means_one paper encoded_back_lem encoded_undone answer x.0 x'.0 p.answer q.answer in
    let out-same = holds_one answer (bytes_for type flags id area table) out x.1 x'.1 p.output q.output in
    λ i. (same i, out-same i)
