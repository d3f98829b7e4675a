-- `check::check_end` meets its contract. Assumes nothing.
use native.Mathlib.Omega.{arith}
use Rattle.text_walk.proofs.CheckLaws.{end_not, end_there, end_over, end_good}
use Rattle.text_walk.proofs.check.check_end.Goals as goal

pub returns-then-not-ends : goal.returns-then-not-ends
returns-then-not-ends c =
    let a = c.args in
    end_not a.text.now a.at a.length a.size _ c.byte_at-byte.ensures _ c.ends_value-ends.ensures
    (c.if-not-ends.true)

pub returns-then-large : goal.returns-then-large
returns-then-large c =
    let a = c.args in
    end_over a.text.now a.at a.length a.size _ c.byte_at-byte.ensures _
    c.ends_value-ends.ensures (c.if-not-ends.false) (c.if-large.true)

pub overflow_add-result : goal.overflow_add-result
overflow_add-result c =
    let start = c in
    let a = start.args in
    omega (
      arith,
      start.well_formed,
      end_there a.text.now a.at a.length a.size _ c.byte_at-byte.ensures _
          c.ends_value-ends.ensures (c.if-not-ends.false),
    )

pub returns : goal.returns
returns c =
    let a = c.args in
    end_good a.text.now a.at a.length a.size _ c.byte_at-byte.ensures _
    c.ends_value-ends.ensures (c.if-not-ends.false) (c.if-large.false)
