-- The cycle of `fill_held` and `fill_inside`. Assumes nothing.
use Rattle.std.proofs.Common.{arith}
use Rattle.error_tree.proofs.MessageLaws.{fields_end}
use Rattle.error_read.proofs.FillLaws.{none_left, one_left, step, field_lies}
use Rattle.error_read.proofs.HeldLaws.{held_begin, held_end, held_room, held_on, inside_skips, inside_no_deeper, inside_words_fit, inside_stores, inside_entry_fits, inside_room, inside_fills}
use Rattle.error_read.proofs.fill.+fill_held_fill_inside.Goals as goal

pub fill_held-loop-at-init : goal.fill_held-loop-at-init
fill_held-loop-at-init t c = held_begin _ _ _ _ _ _ _ _ _ _ c.requires.0

pub fill_held-returns-in_default : goal.fill_held-returns-in_default
fill_held-returns-in_default t c = held_end c.loop-at.invariant (none_left _ _ _ _ (c.in_default.ensures))

pub fill_held-fill_inside-filled-requires : goal.fill_held-fill_inside-filled-requires
fill_held-fill_inside-filled-requires t c = (
  omega arith,
  (
    field_lies _ _ _ _ _ (c.in-Some.ensures) c.requires.1,
    c.requires.2,
    held_room c.loop-at.invariant _ (one_left _ _ _ _ _ (c.in-Some.ensures)) c.requires.3,
  ),
)

pub fill_held-loop-at-smaller : goal.fill_held-loop-at-smaller
fill_held-loop-at-smaller t c = omega (arith, step _ _ _ _ _ (c.in-Some.ensures))

pub fill_held-loop-at-preserved : goal.fill_held-loop-at-preserved
fill_held-loop-at-preserved t c =
    held_on c.loop-at.invariant _ (one_left _ _ _ _ _ (c.in-Some.ensures)) (step _ _ _ _ _ (c.in-Some.ensures)).1 _ _
    c.fill_inside-filled.result c.fill_inside-filled.ensures

pub fill_held-returns : goal.fill_held-returns
fill_held-returns t c = held_end c.loop-at.invariant (fields_end _ _ _ _ c.loop-at-test.false)

pub fill_inside-fill_dictionary-row-requires : goal.fill_inside-fill_dictionary-row-requires
fill_inside-fill_dictionary-row-requires t c = (
  c.requires.0.4,
  c.requires.0.5,
  inside_words_fit _ _ c.args.field c.requires.0 _ c.args.depth _ c.args.first.next _ c.args.errors.now _ c.requires.2 c.in-3.is,
)

pub fill_inside-returns-then-left-eq0 : goal.fill_inside-returns-then-left-eq0
fill_inside-returns-then-left-eq0 t c =
    inside_no_deeper _ _ c.args.field c.requires.0 _ _ _ _ _ _ _ c.in-4.is c.if-left-eq0.true

pub fill_inside-put_error-requires : goal.fill_inside-put_error-requires
fill_inside-put_error-requires t c =
    inside_entry_fits _ _ c.args.field c.requires.0 _ c.args.depth c.args.index _ _ _ _ c.requires.2 c.in-4.is c.if-left-eq0.false

pub fill_inside-fill_held-requires : goal.fill_inside-fill_held-requires
fill_inside-fill_held-requires t c = (
  omega arith,
  (
    c.requires.0.4,
    c.requires.0.5,
    omega arith,
    inside_room _ _ c.args.field c.requires.0 _ _ c.args.index _ _ _ _ c.requires.2 c.in-4.is c.if-left-eq0.false _ c.scan-own.ensures _ c.put_error.ensures,
  ),
)

pub fill_inside-returns-in-3 : goal.fill_inside-returns-in-3
fill_inside-returns-in-3 t c =
    inside_stores _ _ c.args.field c.requires.0 _ _ _ _ _ _ _ c.requires.2 c.in-3.is _ _ c.fill_dictionary-row.ensures

pub fill_inside-returns-else-left-eq0 : goal.fill_inside-returns-else-left-eq0
fill_inside-returns-else-left-eq0 t c =
    inside_fills _ _ c.args.field c.requires.0 _ _ _ _ _ _ _ c.requires.2 c.in-4.is c.if-left-eq0.false _ c.scan-own.ensures _ c.put_error.ensures _ _
    c.fill_held.result c.fill_held.ensures

pub fill_inside-returns-in_default : goal.fill_inside-returns-in_default
fill_inside-returns-in_default t c =
    inside_skips _ _ c.args.field c.requires.0 _ _ _ _ _ _ _ (omega arith) (omega arith)
