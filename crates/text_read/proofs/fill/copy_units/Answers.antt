-- `fill::copy_units` meets its contract. The invariant: what was read of the blob lies in the area. Assumes nothing.
use mathlib.Core.Logic.{inl, inr}
use native.Mathlib.Omega.{arith}
use Rattle.text_read.proofs.CopyLaws.{units_begin, unit_there, same_area, units_end, escape_has, escape_room, escape_within, escape_more, plain_room, plain_more}
use Rattle.text_read.proofs.fill.copy_units.Goals as goal
use Rattle.text_read.proofs.fill.copy_units.Goals.{then-byte-eq9-via-then-byte-eq9, then-byte-eq9-via-else-byte-eq9+then-byte-eq10}

pub loop-at-init : goal.loop-at-init
loop-at-init c = units_begin _ _ _ _

pub read_escape-requires : goal.read_escape-requires
read_escape-requires c = let start = c in escape_has start.args.text.now start.args.start start.args.first start.args.area.now start.requires _ _ _ c.loop-at.invariant c.if-byte-eq37.true

pub bounds-area-used : goal.bounds-area-used
bounds-area-used c = let start = c in escape_room start.args.text.now start.args.start start.args.first start.args.area.now start.requires _ _ _ c.loop-at.invariant c.if-byte-eq37.true

pub overflow_add-used : goal.overflow_add-used
overflow_add-used c =
    let turn = c in
    let start = c in omega (arith, escape_room start.args.text.now start.args.start start.args.first start.args.area.now start.requires _ _ _ turn.loop-at.invariant c.if-byte-eq37.true, same_area start.args.text.now start.args.start start.args.first start.args.area.now start.requires _ _ _ turn.loop-at.invariant, start.well_formed)

pub overflow_add-at-then-byte-eq37 : goal.overflow_add-at-then-byte-eq37
overflow_add-at-then-byte-eq37 c = let start = c in omega (arith, escape_within start.args.text.now start.args.start start.args.first start.args.area.now start.requires _ _ _ c.loop-at.invariant c.if-byte-eq37.true, start.well_formed)

pub loop-at-preserved-then-byte-eq37 : goal.loop-at-preserved-then-byte-eq37
loop-at-preserved-then-byte-eq37 c = let start = c in escape_more start.args.text.now start.args.start start.args.first start.args.area.now start.requires _ _ _ c.loop-at.invariant c.if-byte-eq37.true _ c.read_escape.ensures

pub shape_of-area-then-byte-eq9 : goal.shape_of-area-then-byte-eq9
shape_of-area-then-byte-eq9 c = let start = c in same_area start.args.text.now start.args.start start.args.first start.args.area.now start.requires _ _ _ c.loop-at.invariant

pub bounds-area-used-in-loop-at : goal.bounds-area-used-in-loop-at
bounds-area-used-in-loop-at c = let start = c in plain_room start.args.text.now start.args.start start.args.first start.args.area.now start.requires _ _ _ c.loop-at.invariant c.if-byte-eq37.false c.if-byte-eq9.false c.if-byte-eq10.false

pub overflow_add-used-in-loop-at : goal.overflow_add-used-in-loop-at
overflow_add-used-in-loop-at c =
    let turn = c in
    let start = c in omega (arith, plain_room start.args.text.now start.args.start start.args.first start.args.area.now start.requires _ _ _ turn.loop-at.invariant c.if-byte-eq37.false c.if-byte-eq9.false c.if-byte-eq10.false, same_area start.args.text.now start.args.start start.args.first start.args.area.now start.requires _ _ _ turn.loop-at.invariant, start.well_formed)

pub loop-at-preserved : goal.loop-at-preserved
loop-at-preserved c = let start = c in plain_more start.args.text.now start.args.start start.args.first start.args.area.now start.requires _ _ _ c.loop-at.invariant c.if-byte-eq37.false c.if-byte-eq9.false c.if-byte-eq10.false

pub shape_of-area : goal.shape_of-area
shape_of-area c = let start = c in same_area start.args.text.now start.args.start start.args.first start.args.area.now start.requires _ _ _ c.loop-at.invariant

pub returns : goal.returns
returns c = let start = c in absurd (omega (arith, unit_there start.args.text.now start.args.start start.args.first start.args.area.now start.requires _ _ _ c.loop-at.invariant, c.loop-at-test.false))

pub returns-then-byte-eq9 : goal.returns-then-byte-eq9
returns-then-byte-eq9 c =
    let a = c.args in
    let turn = c.loop-at in
    units_end a.text.now a.start a.first a.area.now c.requires _ _ _ turn.invariant (
      c.loop-at-test.true,
      elim c.then-byte-eq9.branch [
        | then-byte-eq9-via-then-byte-eq9 w ↦ inl w.if-byte-eq9.true
        | then-byte-eq9-via-else-byte-eq9+then-byte-eq10 w ↦ inr w.if-byte-eq10.true
      ],
    )
