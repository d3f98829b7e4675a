-- Five words, where the field is an attribute. Assumes nothing.
use Rattle.std.proofs.Common.{arith}
use lib.ListN.{length-set}
use Rattle.error_read.proofs.FillLaws.{entry_skips, entry_room, entry_stored}
use Rattle.error_read.proofs.fill.fill_entry.Goals as goal

pub returns-then-field-ne1 : goal.returns-then-field-ne1
returns-then-field-ne1 c = entry_skips _ _ c.args.field c.requires.0 _ _ _ c.if-field-ne1.true

pub bounds-attributes-k : goal.bounds-attributes-k
bounds-attributes-k c =
    omega (arith, entry_room c.args.input.now _ c.args.field c.requires.0 c.args.index c.args.k c.args.attributes.now c.if-field-ne1.false c.requires.1)

pub bounds-attributes-k-2 : goal.bounds-attributes-k-2
bounds-attributes-k-2 c =
    simp length-set (omega (arith, entry_room c.args.input.now _ c.args.field c.requires.0 c.args.index c.args.k c.args.attributes.now c.if-field-ne1.false c.requires.1))

pub bounds-attributes-k-3 : goal.bounds-attributes-k-3
bounds-attributes-k-3 c =
    simp length-set (omega (arith, entry_room c.args.input.now _ c.args.field c.requires.0 c.args.index c.args.k c.args.attributes.now c.if-field-ne1.false c.requires.1))

pub bounds-attributes-k-4 : goal.bounds-attributes-k-4
bounds-attributes-k-4 c =
    simp length-set (omega (arith, entry_room c.args.input.now _ c.args.field c.requires.0 c.args.index c.args.k c.args.attributes.now c.if-field-ne1.false c.requires.1))

pub bounds-attributes-k-5 : goal.bounds-attributes-k-5
bounds-attributes-k-5 c =
    simp length-set (omega (arith, entry_room c.args.input.now _ c.args.field c.requires.0 c.args.index c.args.k c.args.attributes.now c.if-field-ne1.false c.requires.1))

pub returns : goal.returns
returns c = entry_stored _ _ c.args.field c.requires.0 _ _ _ c.if-field-ne1.false _ c.scan-own.ensures
