-- `pack_plain` meets its contract: 18 by its rules, 17, or the bytes are copied and the offsets moved.
-- Assumes nothing.
use native.Mathlib.Omega.{arith}
use Rattle.pack_answer.proofs.AnswerLaws.{rule_1, rule_3, short, copy_requires, move_requires, filled}
use Rattle.pack_plain.proofs.pack_plain.Goals as goal

pub returns-then-values-ne0 : goal.returns-then-values-ne0
returns-then-values-ne0 c =
    rule_1 c.args.area.now c.args.values.now c.args.out.now c.if-values-ne0.true

pub returns-then-bad-entries : goal.returns-then-bad-entries
returns-then-bad-entries c =
    rule_3 c.args.area.now c.args.values.now c.args.out.now c.if-values-ne0.false _ c.first_bad-bad.ensures c.if-bad-entries.true

pub returns-then-out-sum : goal.returns-then-out-sum
returns-then-out-sum c =
    short c.args.area.now c.args.values.now c.args.out.now c.if-values-ne0.false _ c.first_bad-bad.ensures c.if-bad-entries.false _ c.room_before-sum.ensures c.if-out-sum.true

pub copy_all-requires : goal.copy_all-requires
copy_all-requires c =
    copy_requires c.args.area.now c.args.values.now c.args.out.now c.if-values-ne0.false _ c.first_bad-bad.ensures c.if-bad-entries.false _ c.room_before-sum.ensures c.if-out-sum.false (omega (arith, c.well_formed))

pub move_all-requires : goal.move_all-requires
move_all-requires c =
    move_requires c.args.area.now c.args.values.now c.args.out.now c.if-values-ne0.false _ c.first_bad-bad.ensures c.if-bad-entries.false _ c.room_before-sum.ensures c.if-out-sum.false (omega (arith, c.well_formed))

pub returns : goal.returns
returns c =
    filled c.args.area.now c.args.values.now c.args.out.now c.if-values-ne0.false _ c.first_bad-bad.ensures c.if-bad-entries.false _ c.room_before-sum.ensures c.if-out-sum.false (omega (arith, c.well_formed)) _ _ c.move_all.ensures c.copy_all.ensures
