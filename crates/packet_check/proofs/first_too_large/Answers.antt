-- `first_too_large` meets its contract. The invariant: what is found from `index` on is what is found from the front.
-- Assumes nothing.
use mathlib.Core.Path.{◌≡◌, sym, ◌∙◌}
use Rattle.packet.specs.Entries.{room}
use Rattle.packet.specs.Entries.{too_large_at}
use Rattle.packet_check.proofs.SearchLaws.{search_starts, search_on, search_hits, search_ends}
use native.Mathlib.Omega.{arith}
use Rattle.packet_check.proofs.first_too_large.Goals as goal

pub loop-index-init : goal.loop-index-init
loop-index-init c = search_starts (too_large_at c.args.parts.now) (room c.args.parts.now)

pub returns-then-is_too_large : goal.returns-then-is_too_large
returns-then-is_too_large c =
    let start = c.args in
    let at = c.loop-index in
    search_hits (too_large_at start.parts.now) (room start.parts.now) at.index at.invariant (omega arith) (sym c.is_too_large.ensures ∙ c.if-is_too_large.true)

pub loop-index-preserved : goal.loop-index-preserved
loop-index-preserved c =
    let start = c.args in
    let at = c.loop-index in
    search_on (too_large_at start.parts.now) (room start.parts.now) at.index at.invariant (omega arith) (sym c.is_too_large.ensures ∙ c.if-is_too_large.false)

pub returns : goal.returns
returns c =
    let start = c.args in
    let at = c.loop-index in
    let same : room start.parts.now ≡ at.index = omega arith in
    same ∙ search_ends (too_large_at start.parts.now) (room start.parts.now) at.index at.invariant (omega arith) (omega arith)
