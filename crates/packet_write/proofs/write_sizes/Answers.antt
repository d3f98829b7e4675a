-- `write_sizes` meets its contract. The invariant: the words of the entries from `index` on are still to be written.
-- Assumes nothing.
use mathlib.Core.List.{List}
use Prim.Native.Nat.{ℕ, ◌+◌, ◌*◌, ◌-◌}
use native.Mathlib.Nat.{sub-zero}
use native.Mathlib.Omega.{arith}
use Rattle.packet.specs.Entries.{room}
use Rattle.packet.specs.Entries.{offset_at, size_at}
use Rattle.packet_check.proofs.WireLaws.{small_at}
use Rattle.packet_write.specs.Stages.{entry_size, entry_sizes}
use Rattle.packet_write.proofs.FillingLaws.{begins, place, length_now, word_step, ends}
use Rattle.packet_write.proofs.PieceLaws.{entries_next, entries_end, length_entries}
use Rattle.packet_write.proofs.write_sizes.Goals as goal

pub loop-index-init : goal.loop-index-init
loop-index-init c =
    let table : List ℕ = c.args.parts.now in
    rw (sub-zero (room table)) (begins (entry_sizes table 0 (room table)) c.args.out.now (rw (length_entries table 0 (room table)) c.requires.1))

pub size_word-size-requires : goal.size_word-size-requires
size_word-size-requires c =
    small_at c.args.parts.now c.loop-index.index (omega arith) c.requires.0

pub slice_bounds-write_u32-count : goal.slice_bounds-write_u32-count
slice_bounds-write_u32-count c = omega (arith, place c.loop-index.invariant)

pub slice_bounds-write_u32-start : goal.slice_bounds-write_u32-start
slice_bounds-write_u32-start c = omega (arith, place c.loop-index.invariant)

pub loop-index-preserved : goal.loop-index-preserved
loop-index-preserved c =
    let table : List ℕ = c.args.parts.now in
    let at = c.loop-index in
    let word : ℕ = entry_size (offset_at table at.index) (size_at table at.index) in
    let rest : List ℕ = entry_sizes table (at.index + 1) (room table - (at.index + 1)) in
    let filling = rw (entries_next table at.index (room table) (omega arith)) at at.invariant in
    word_step 4 word rest (4 * (at.index + 1)) filling (omega arith) (rw c.size_word-size.ensures at c.write_u32.ensures)

pub shape_of-out : goal.shape_of-out
shape_of-out c = length_now c.loop-index.invariant

pub returns : goal.returns
returns c =
    let at = c.loop-index in
    ends (rw (entries_end c.args.parts.now at.index (room c.args.parts.now) (omega arith)) at at.invariant)
