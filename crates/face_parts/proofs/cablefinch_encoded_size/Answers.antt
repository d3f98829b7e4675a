-- `cablefinch_encoded_size` meets its contract: its test of the type, and the library's answer. Assumes nothing.
use mathlib.Core.Path.{◌∙◌, ap}
use Prim.Native.Nat.{ℕ, ◌≤◌}
use Rattle.words.proofs.PaperLaws.{told}
use Rattle.packet.specs.Layout.{last_type}
use Rattle.packet_check.specs.Checks.{sizing}
use Rattle.packet_mode.specs.Statement.{mode_of}
use Rattle.face_parts.proofs.OutcomeLaws.{typed_refused, typed_known, number_known}
use Rattle.face_parts.proofs.cablefinch_encoded_size.Goals as goal

pub returns-in_default : goal.returns-in_default
returns-in_default c =
    let above = c.in_default.ensures in
    told (typed_refused _ _ above) c.unknown_type.ensures

pub returns : goal.returns
returns c =
    let a = c.args in
    let found = c.in-Some in
    let type = found.ensures in
    let e = rw c.mode_of-mode.ensures at c.encoded_size.ensures in
    let known : a.kind ≤ last_type = number_known found.packet_type type in
    told (e ∙ ap (λ (k : ℕ). sizing (mode_of a.mode) k a.area.now a.parts.now) type ∙ typed_known _ _ known) c.outcome.ensures
