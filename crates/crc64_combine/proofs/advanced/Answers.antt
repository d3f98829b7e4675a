-- `crc64_combine::advanced` meets its contract, by its loop's invariant. Assumes nothing.
use borrow.Author.Rules.{rules}
use Rattle.crc64_combine.proofs.Loops.{entering, squared, through}
use Rattle.crc64_combine.proofs.advanced.Goals as goal

pub loop-left-init : goal.loop-left-init
loop-left-init c = entering c.args.a c.args.length (search rules)

pub loop-left-preserved : goal.loop-left-preserved
loop-left-preserved c = squared c.loop-left.invariant c.one_turn-next.ensures.0 c.one_turn-next.ensures.1

pub returns : goal.returns
returns c = through (search rules) c.loop-left.invariant
