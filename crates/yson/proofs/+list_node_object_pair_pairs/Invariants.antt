-- The measure: four for each bracket that may still be opened; at one depth the items lie above the pair, the pair above the node,
-- and the node above the object. Each loop's invariant: the items so far are passed. Assumes nothing.
use Rattle.std.proofs.Common.{◌+◌, ◌-◌, ◌*◌, length}
use Rattle.yson_token.specs.Token.{square}
use Rattle.yson.specs.Stages.{keyed}
use Rattle.yson.proofs.ReadLaws.{Passed}
use Rattle.yson.proofs.+list_node_object_pair_pairs.Given as goal

abbrev pub decreases-list : goal.decreases-list
decreases-list l = 4 * l.depth + 3

abbrev pub decreases-node : goal.decreases-node
decreases-node l = 4 * l.depth + 1

abbrev pub decreases-object : goal.decreases-object
decreases-object l = 4 * l.depth

abbrev pub decreases-pair : goal.decreases-pair
decreases-pair l = 4 * l.depth + 2

abbrev pub decreases-pairs : goal.decreases-pairs
decreases-pairs l = 4 * l.depth + 3

abbrev pub invariant-list-loop-start : goal.invariant-list-loop-start
invariant-list-loop-start l = Passed l.s square l.depth l.start l.item 0

abbrev pub decreases-list-loop-start : goal.decreases-list-loop-start
decreases-list-loop-start l = length l.s - l.item

abbrev pub invariant-pairs-loop-start : goal.invariant-pairs-loop-start
invariant-pairs-loop-start l = Passed l.s (keyed l.close) l.depth l.start l.at l.items

abbrev pub decreases-pairs-loop-start : goal.decreases-pairs-loop-start
decreases-pairs-loop-start l = length l.s - l.at
