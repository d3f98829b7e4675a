-- `payload` meets its contract. The invariant: what was added up, with what is still to come, is the whole.
-- Assumes nothing.
use mathlib.Core.Path.{◌≡◌}
use mathlib.Core.List.{List}
use Prim.Native.Nat.{ℕ, ◌<◌, ◌≤◌}
use Rattle.packet_check.specs.Checks.{first_too_large}
use native.Mathlib.Nat.{sub-zero, zero-add}
use native.Mathlib.Omega.{arith}
use Rattle.packet.specs.Layout.{largest_part}
use Rattle.packet.specs.Entries.{room, taken}
use Rattle.packet.specs.Entries.{offset_at, size_at}
use Rattle.packet_check.proofs.WireLaws.{taken_most, taken_next, taken_end, small_at}
use Rattle.packet_check.proofs.payload.Goals as goal

pub loop-index-init : goal.loop-index-init
loop-index-init c = (omega arith, rw (zero-add, sub-zero))

-- the part is not too large
taken_here : (table : List ℕ) (i found : ℕ) → found ≡ taken (offset_at table i) (size_at table i) → i < room table → room table ≤ first_too_large table → found ≤ largest_part
taken_here table i found is below small = rw is (taken_most (offset_at table i) (size_at table i) (small_at table i below small))

pub overflow_add-total : goal.overflow_add-total
overflow_add-total c = omega (arith, taken_here c.args.parts.now c.loop-index.index c.taken_by.result c.taken_by.ensures (omega arith) c.requires.1)

pub loop-index-preserved : goal.loop-index-preserved
loop-index-preserved c =
    let table : List ℕ = c.args.parts.now in
    let at = c.loop-index in
    let next = taken_next table at.index (room table) (omega arith) in
    (omega (arith, taken_here c.args.parts.now c.loop-index.index c.taken_by.result c.taken_by.ensures (omega arith) c.requires.1), omega (arith, next, c.taken_by.ensures, at.invariant.1))

pub returns : goal.returns
returns c =
    let table : List ℕ = c.args.parts.now in
    let at = c.loop-index in
    let none = taken_end table at.index (room table) (omega arith) in
    record { value = omega (arith, none, at.invariant.1); upper_bound = omega arith }
