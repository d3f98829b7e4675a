-- `first_outside` meets its contract. The invariant: what is found from `index` on is what is found from the front.
-- Assumes nothing.
use mathlib.Core.Path.{◌≡◌, sym, ◌∙◌}
use mathlib.Core.Bool.{Bool}
use mathlib.Core.List.{List}
use Prim.Native.Nat.{ℕ}
use Rattle.packet.specs.Entries.{room}
use Rattle.packet.specs.Entries.{is_outside, offset_at, size_at}
use Rattle.packet_check.proofs.SearchLaws.{search_starts, search_on, search_hits, search_ends}
use native.Mathlib.Omega.{arith}
use Rattle.packet_check.proofs.first_outside.Goals as goal

abbrev test : ℕ → List ℕ → ℕ → Bool
test given parts i = is_outside given (offset_at parts i) (size_at parts i)

pub loop-index-init : goal.loop-index-init
loop-index-init c = search_starts (test c.args.given c.args.parts.now) (room c.args.parts.now)

pub returns-then-is_outside : goal.returns-then-is_outside
returns-then-is_outside c =
    let start = c.args in
    let at = c.loop-index in
    search_hits (test start.given start.parts.now) (room start.parts.now) at.index at.invariant (omega arith) (sym c.is_outside.ensures ∙ c.if-is_outside.true)

pub loop-index-preserved : goal.loop-index-preserved
loop-index-preserved c =
    let start = c.args in
    let at = c.loop-index in
    search_on (test start.given start.parts.now) (room start.parts.now) at.index at.invariant (omega arith) (sym c.is_outside.ensures ∙ c.if-is_outside.false)

pub returns : goal.returns
returns c =
    let start = c.args in
    let at = c.loop-index in
    let same : room start.parts.now ≡ at.index = omega arith in
    same ∙ search_ends (test start.given start.parts.now) (room start.parts.now) at.index at.invariant (omega arith) (omega arith)
