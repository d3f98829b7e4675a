-- `entry::cut` meets its contract. Assumes nothing.
use Rattle.pack_answer.proofs.CutLaws.{cut_past, cut_rest, cut_whole}
use Rattle.pack_answer.proofs.entry.cut.Goals as goal

pub returns-then-area-start : goal.returns-then-area-start
returns-then-area-start c = cut_past c.args.area.now c.args.start c.args.n c.if-area-start.true

pub returns-then-area-from : goal.returns-then-area-from
returns-then-area-from c = cut_rest c.args.area.now c.args.start c.args.n c.if-area-from.true

pub returns : goal.returns
returns c = cut_whole c.args.area.now c.args.start c.args.n
