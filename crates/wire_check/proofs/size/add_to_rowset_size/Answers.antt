-- `size::add_to_rowset_size` meets its contract.
-- Assumes nothing.
use Rattle.wire_check.proofs.WalkLaws.{add_over, add_within}
use Rattle.wire_check.proofs.size.add_to_rowset_size.Goals as goal

pub returns-then-sum-gt-MAX_ROWSET_SIZE : goal.returns-then-sum-gt-MAX_ROWSET_SIZE
returns-then-sum-gt-MAX_ROWSET_SIZE c = add_over _ _ c.if-sum-gt-MAX_ROWSET_SIZE.true

pub returns : goal.returns
returns c = add_within _ _ c.if-sum-gt-MAX_ROWSET_SIZE.false
