-- `fill` meets its contract. The invariant: the next part begins at `at`, and the entries of those before it stand over
-- the table's front. Assumes nothing.
use mathlib.Core.Path.{◌≡◌, refl, ap, ◌∙◌}
use Prim.Native.Nat.{ℕ}
use native.Mathlib.Omega.{arith}
use lib.ListN.{length-set}
use Rattle.words.specs.Buffer.{over}
use Rattle.packet.specs.Entries.{entries_from}
use Rattle.packet_read.proofs.PartLaws.{start_first, start_next, part_inside}
use Rattle.packet_read.proofs.EntryLaws.{entries_step, length_filled}
use Rattle.packet_read.proofs.fill.Goals as goal

pub loop-index-init : goal.loop-index-init
unfolding entries_from
loop-index-init c = (start_first _ _, refl)

pub bounds-parts-index : goal.bounds-parts-index
bounds-parts-index c = let l = c.loop-index in
    let start = c in
    omega (arith, length_filled start.args.input.now start.args.count l.index l.parts start.args.parts.now l.invariant.1 (omega arith))

pub bounds-parts-index-in-loop-index : goal.bounds-parts-index-in-loop-index
bounds-parts-index-in-loop-index c = let l = c.loop-index in
    let start = c in
    simp length-set (omega (arith, length_filled start.args.input.now start.args.count l.index l.parts start.args.parts.now l.invariant.1 (omega arith)))

pub bounds-parts-index-in-loop-index-2 : goal.bounds-parts-index-in-loop-index-2
bounds-parts-index-in-loop-index-2 c = let l = c.loop-index in
    let start = c in
    simp length-set (omega (arith, length_filled start.args.input.now start.args.count l.index l.parts start.args.parts.now l.invariant.1 (omega arith)))

pub overflow_add-at-in-loop-index : goal.overflow_add-at-in-loop-index
overflow_add-at-in-loop-index c = let l = c.loop-index in
    let start = c in
    omega (arith, start.requires, start.well_formed, part_inside _ _ l.index _ _ _ l.invariant.0 c.size_word-size.ensures c.taken-at.ensures c.loop-index-test.true)

pub loop-index-preserved : goal.loop-index-preserved
loop-index-preserved c = let l = c.loop-index in
    let read = c.size_word-size.ensures in
    let stored = c.sum_word-sum.ensures in
    let start = c in
    (start_next _ _ l.index _ _ _ l.invariant.0 read c.taken-at.ensures, entries_step _ _ l.index _ _ _ _ _ _ start.args.parts.now l.invariant.0 read stored c.offset_word.ensures c.length_word.ensures l.invariant.1 (omega (arith, start.requires)))

pub shape_of-parts : goal.shape_of-parts
shape_of-parts c = let l = c.loop-index in
    let start = c in
    length_filled start.args.input.now start.args.count l.index _ _ l.invariant.1 (omega (arith, start.requires))

pub returns : goal.returns
returns c =
    let start = c in
    let same : c.loop-index.index ≡ start.args.count = omega arith in
    c.loop-index.invariant.1 ∙ ap (λ (k : ℕ). over (entries_from start.args.input.now start.args.count 0 k) start.args.parts.now) same
