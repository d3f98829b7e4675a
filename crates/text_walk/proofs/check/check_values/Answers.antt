-- `check::check_values` meets its contract. The invariant: what is still to come of the reading is the whole of it. Assumes nothing.
use mathlib.Core.Path.{refl, sym, ◌∙◌}
use native.Mathlib.Omega.{arith}
use lib.ListN.{get_or}
use Rattle.text_steps.proofs.StepLaws.{digit_range}
use Rattle.text_walk.proofs.CheckLaws.{goes_up, values_begin, values_early, values_other, values_many, values_broken, value_lies, whole_fits, counts_small, values_more, values_last}
use Rattle.text_walk.proofs.check.check_values.Goals as goal

pub loop-at-init : goal.loop-at-init
loop-at-init c =
    let start = c in
    values_begin _ _ _ _ start.requires.0 start.requires.3

pub returns-then-not-digit : goal.returns-then-not-digit
returns-then-not-digit c =
    let start = c in
    let a = start.args in
    let turn = c.loop-at in
    values_other a.text.now a.start a.row a.before turn.at turn.count turn.bytes turn.size
    turn.invariant start.requires.1 start.requires.2 start.requires.3 c.loop-at-test.true
    (sym c.is_digit-digit.ensures ∙ c.if-not-digit.true)

pub returns-then-full : goal.returns-then-full
returns-then-full c =
    let start = c in
    let a = start.args in
    let turn = c.loop-at in
    values_many a.text.now a.start a.row a.before turn.at turn.count turn.bytes turn.size
    turn.invariant start.requires.1 start.requires.2 start.requires.3
    c.loop-at-test.true
    (sym c.is_digit-digit.ensures ∙ c.if-not-digit.false) _
    refl (c.if-full.true)

pub overflow_sub-byte : goal.overflow_sub-byte
overflow_sub-byte c = omega (arith, (digit_range (get_or c.args.text.now c.loop-at.at 0) (sym c.is_digit-digit.ensures ∙ c.if-not-digit.false)).0)

pub overflow_cast-byte : goal.overflow_cast-byte
overflow_cast-byte c = omega (arith, (digit_range (get_or c.args.text.now c.loop-at.at 0) (sym c.is_digit-digit.ensures ∙ c.if-not-digit.false)).1)

pub check_value-requires : goal.check_value-requires
check_value-requires c =
    let turn = c.loop-at in (
      omega arith,
      omega (
        arith,
        (digit_range (get_or c.args.text.now turn.at 0)
            (sym c.is_digit-digit.ensures ∙ c.if-not-digit.false)).1,
      ),
      turn.invariant.4,
    )

pub returns-in_err-next : goal.returns-in_err-next
returns-in_err-next c =
    let start = c in
    let a = start.args in
    let turn = c.loop-at in
    let checked = c.check_value in
    rw (goes_up c.from_residual.result _ c.from_residual.ensures.1) (values_broken a.text.now a.start a.row a.before turn.at turn.count turn.bytes turn.size
    turn.invariant start.requires.1 start.requires.2 start.requires.3
    c.loop-at-test.true
    (sym c.is_digit-digit.ensures ∙ c.if-not-digit.false) (c.if-full.false)
    checked.result checked.ensures _ c.in_err-next.was)

pub overflow_add-bytes : goal.overflow_add-bytes
overflow_add-bytes c =
    let start = c in
    let a = start.args in
    let turn = c.loop-at in
    let test = c.loop-at-test in
    let is_digit = c.is_digit-digit in
    let if1 = c.if-not-digit in
    let if2 = c.if-full in
    let checked = c.check_value in
    let got = c.in_ok-next in
    omega (
      arith,
      (counts_small a.text.now a.start a.row a.before turn.at turn.count turn.bytes
          turn.size turn.invariant start.requires.1 start.requires.2 start.requires.3 test.true
          (sym is_digit.ensures ∙ if1.false) (if2.false) checked.result checked.ensures
          got.field-0 got.was).0,
      (value_lies a.text.now a.start a.row a.before turn.at turn.count turn.bytes turn.size
          turn.invariant start.requires.1 start.requires.2 start.requires.3 test.true
          (sym is_digit.ensures ∙ if1.false) (if2.false) checked.result checked.ensures
          got.field-0 got.was).1,
      start.well_formed,
      whole_fits a.text.now a.start a.row a.before turn.at turn.count turn.bytes
          turn.size turn.invariant start.requires.1 start.requires.2 start.requires.3 test.true
          (sym is_digit.ensures ∙ if1.false) (if2.false) checked.result checked.ensures
          got.field-0 got.was,
    )

pub returns-then-last : goal.returns-then-last
returns-then-last c =
    let start = c in
    let a = start.args in
    let turn = c.loop-at in
    let checked = c.check_value in
    let got = c.in_ok-next in
    values_last a.text.now a.start a.row a.before turn.at turn.count turn.bytes turn.size
    turn.invariant start.requires.1 start.requires.2 start.requires.3
    c.loop-at-test.true
    (sym c.is_digit-digit.ensures ∙ c.if-not-digit.false)
    (c.if-full.false) checked.result checked.ensures got.field-0 got.was c.if-last.true

pub loop-at-smaller : goal.loop-at-smaller
loop-at-smaller c =
    let start = c in
    let a = start.args in
    let turn = c.loop-at in
    let test = c.loop-at-test in
    let is_digit = c.is_digit-digit in
    let if1 = c.if-not-digit in
    let if2 = c.if-full in
    let checked = c.check_value in
    let got = c.in_ok-next in
    omega (
      arith,
      (value_lies a.text.now a.start a.row a.before turn.at turn.count turn.bytes
          turn.size turn.invariant start.requires.1 start.requires.2 start.requires.3 test.true
          (sym is_digit.ensures ∙ if1.false) (if2.false) checked.result checked.ensures
          got.field-0 got.was).0,
      (value_lies a.text.now a.start a.row a.before turn.at turn.count turn.bytes turn.size
          turn.invariant start.requires.1 start.requires.2 start.requires.3 test.true
          (sym is_digit.ensures ∙ if1.false) (if2.false) checked.result checked.ensures
          got.field-0 got.was).1,
    )

pub loop-at-preserved : goal.loop-at-preserved
loop-at-preserved c =
    let start = c in
    let a = start.args in
    let turn = c.loop-at in
    let checked = c.check_value in
    let got = c.in_ok-next in
    values_more a.text.now a.start a.row a.before turn.at turn.count turn.bytes turn.size
    turn.invariant start.requires.1 start.requires.2 start.requires.3
    c.loop-at-test.true
    (sym c.is_digit-digit.ensures ∙ c.if-not-digit.false)
    (c.if-full.false) checked.result checked.ensures got.field-0 got.was c.if-last.false

pub returns : goal.returns
returns c =
    let start = c in
    values_early _ _ _ _ _ _ _ _ c.loop-at.invariant start.requires.1 start.requires.2 start.requires.3
    c.loop-at-test.false
