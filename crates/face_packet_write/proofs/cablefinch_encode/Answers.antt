-- `cablefinch_encode` meets its contract: its test of the type, and the library's answer and bytes. Assumes nothing.
use mathlib.Core.Path.{◌∙◌, ap}
use mathlib.Core.List.{List}
use Prim.Native.Nat.{ℕ, ◌≤◌}
use lib.ListN.{length}
use Rattle.words.specs.Answer.{Answer, afterwards}
use Rattle.words.proofs.PaperLaws.{told}
use Rattle.guid.specs.declared.Guid.{Guid}
use Rattle.guid.specs.Guid.{guid_at}
use Rattle.packet.specs.Layout.{last_type}
use Rattle.packet.specs.Wire.{packet_bytes, parts_of}
use Rattle.packet_write.specs.Writing.{writing}
use Rattle.packet.specs.declared.Mode.{Mode}
use Rattle.packet_mode.specs.Statement.{mode_of}
use Rattle.face_parts.proofs.OutcomeLaws.{typed_refused, typed_known, number_known}
use Rattle.face_packet_write.proofs.cablefinch_encode.Goals as goal

pub returns-in_default : goal.returns-in_default
returns-in_default c =
    let a = c.args in
    let above = c.in_default.ensures in
    let so = typed_refused a.kind (writing (mode_of a.mode) a.kind a.area.now a.parts.now (length a.out.now)) above in
    let bytes = packet_bytes a.kind a.flags (guid_at a.id.now 0) (parts_of a.area.now a.parts.now) in
    (told so c.unknown_type.ensures, ap (λ (x : Answer). afterwards x bytes a.out.now) so)

pub returns : goal.returns
returns c =
    let a = c.args in
    let mode : Mode = mode_of a.mode in
    let area : List ℕ = a.area.now in
    let parts : List ℕ = a.parts.now in
    let out : List ℕ = a.out.now in
    let found = c.in-Some in
    let type = found.ensures in
    let id = c.from_bytes-guid.ensures in
    let e = rw c.mode_of-mode.ensures at c.encode.ensures in
    let known : a.kind ≤ last_type = number_known found.packet_type type in
    let so = typed_known a.kind (writing mode a.kind area parts (length out)) known in (
      told (e.answer ∙ ap (λ (k : ℕ). writing mode k area parts (length out)) type ∙ so) c.outcome.ensures,
      e.output
          ∙ ap (λ (k : ℕ). afterwards (writing mode k area parts (length out)) (packet_bytes k a.flags c.from_bytes-guid.result (parts_of area parts)) out) type
          ∙ ap (λ (g : Guid). afterwards (writing mode a.kind area parts (length out)) (packet_bytes a.kind a.flags g (parts_of area parts)) out) id
          ∙ ap (λ (x : Answer). afterwards x (packet_bytes a.kind a.flags (guid_at a.id.now 0) (parts_of area parts)) out) so,
    )
