-- Case by case of the definition. Assumes nothing.
use Rattle.error_table.proofs.TableLaws.{depth_first, depth_low, depth_high, depth_jumps}
use Rattle.error_table.proofs.table.bad_depth.Goals as goal

pub returns-then-i-eq0 : goal.returns-then-i-eq0
returns-then-i-eq0 c = depth_first c.args.errors.now c.args.i c.if-i-eq0.true

pub returns-then-depth-lt2 : goal.returns-then-depth-lt2
returns-then-depth-lt2 c =
    depth_low c.args.errors.now c.args.i c.if-i-eq0.false c.if-depth-lt2.true

pub returns-then-depth-gt16 : goal.returns-then-depth-gt16
returns-then-depth-gt16 c =
    depth_high c.args.errors.now c.args.i c.if-i-eq0.false c.if-depth-lt2.false c.if-depth-gt16.true

pub returns : goal.returns
returns c =
    depth_jumps c.args.errors.now c.args.i c.if-i-eq0.false c.if-depth-lt2.false c.if-depth-gt16.false
