-- `walk::count_text` meets its contract. The invariant: what is still to come of the reading is the whole of it. Assumes nothing.
use native.Mathlib.Omega.{arith}
use Rattle.text_walk.proofs.CheckLaws.{goes_up, text_begins, text_done, text_stopped, line_lies, text_goes, sums_fit}
use Rattle.text_walk.proofs.walk.count_text.Goals as goal

pub loop-at-init : goal.loop-at-init
loop-at-init c = text_begins _

pub returns-in_err-next : goal.returns-in_err-next
returns-in_err-next c =
    let turn = c.loop-at in
    let check-line = c.check_line in
    rw (goes_up c.from_residual.result _ c.from_residual.ensures.1) (text_stopped c.args.text.now turn.at turn.rows
    turn.values turn.bytes turn.size turn.invariant check-line.result check-line.ensures _
    c.in_err-next.was)

pub overflow_add-values : goal.overflow_add-values
overflow_add-values c =
    let turn = c.loop-at in
    let check-line = c.check_line in
    let got = c.in_ok-next in
    omega (
      arith,
      (sums_fit c.args.text.now turn.at
          turn.rows turn.values turn.bytes turn.size turn.invariant check-line.result check-line.ensures
          got.field-0 got.was).0,
    )

pub overflow_add-bytes : goal.overflow_add-bytes
overflow_add-bytes c =
    let turn = c.loop-at in
    let check-line = c.check_line in
    let got = c.in_ok-next in
    omega (
      arith,
      (sums_fit c.args.text.now turn.at
          turn.rows turn.values turn.bytes turn.size turn.invariant check-line.result check-line.ensures
          got.field-0 got.was).1,
    )

pub loop-at-smaller : goal.loop-at-smaller
loop-at-smaller c =
    let start = c in
    let a = start.args in
    let turn = c.loop-at in
    let check-line = c.check_line in
    let got = c.in_ok-next in
    omega (
      arith,
      (line_lies a.text.now turn.at turn.rows turn.values turn.bytes turn.size turn.invariant
          check-line.result check-line.ensures got.field-0 got.was).0,
      (line_lies a.text.now turn.at turn.rows turn.values
          turn.bytes turn.size turn.invariant check-line.result check-line.ensures got.field-0 got.was).1,
    )

pub loop-at-preserved : goal.loop-at-preserved
loop-at-preserved c =
    let turn = c.loop-at in
    let check-line = c.check_line in
    let got = c.in_ok-next in
    text_goes c.args.text.now turn.at turn.rows
    turn.values turn.bytes turn.size turn.invariant check-line.result check-line.ensures got.field-0 got.was

pub returns : goal.returns
returns c = text_done _ _ _ _ _ _ c.loop-at.invariant c.loop-at-test.false
