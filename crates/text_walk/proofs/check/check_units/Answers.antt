-- `check::check_units` meets its contract. The invariant: what is still to come of the reading is the whole of it. Assumes nothing.
use mathlib.Core.Path.{sym, ◌∙◌, ap}
use Rattle.std.specs.declared.result.Result.TheVariants.{Err}
use native.Mathlib.Omega.{arith}
use Rattle.text_walk.proofs.CheckLaws.{to_begin, at_most, plain_to, escape_to, units_early, units_over, units_broken, escape_lies, units_escape_over, units_other, tab_or_feed, units_end}
use Rattle.text_walk.proofs.check.check_units.Goals as goal

pub loop-at-init : goal.loop-at-init
loop-at-init c = to_begin _ _ c.requires

pub returns-then-at-limit : goal.returns-then-at-limit
returns-then-at-limit c =
    let turn = c in
    let start = c in let so_far = turn.loop-at.invariant in units_over start.args.text.now start.args.start turn.loop-at.at _ so_far.1 c.loop-at-test.true (sym c.is_escaped.ensures ∙ c.if-not-is_escaped.true) _ (ap Err c.too_long.ensures) (at_most start.args.text.now start.args.start turn.loop-at.at turn.loop-at.limit so_far c.if-at-limit.true)

pub loop-at-preserved-then-not-is_escaped : goal.loop-at-preserved-then-not-is_escaped
loop-at-preserved-then-not-is_escaped c =
    let turn = c in
    let start = c in let so_far = turn.loop-at.invariant in plain_to start.args.text.now start.args.start turn.loop-at.at turn.loop-at.limit so_far c.loop-at-test.true (sym c.is_escaped.ensures ∙ c.if-not-is_escaped.true) c.if-at-limit.false

pub returns-in-Err : goal.returns-in-Err
returns-in-Err c =
    let turn = c in
    let start = c in let so_far = turn.loop-at.invariant in (units_broken start.args.text.now start.args.start turn.loop-at.at _ so_far.1 c.loop-at-test.true (sym c.is_escaped.ensures ∙ c.if-not-is_escaped.false) c.in-37.is _ c.check_escape.ensures _ c.in-Err.is)

pub returns-then-at-limit-2 : goal.returns-then-at-limit-2
returns-then-at-limit-2 c =
    let turn = c in
    let start = c in let so_far = turn.loop-at.invariant in units_escape_over start.args.text.now start.args.start turn.loop-at.at _ so_far.1 c.loop-at-test.true (sym c.is_escaped.ensures ∙ c.if-not-is_escaped.false) c.in-37.is _ c.check_escape.ensures _ c.in-Ok.is _ (ap Err c.too_long-then-at-limit-2.ensures) (at_most start.args.text.now start.args.start turn.loop-at.at turn.loop-at.limit so_far c.if-at-limit-2.true)

pub overflow_sub-limit : goal.overflow_sub-limit
overflow_sub-limit c =
    let turn = c in
    let start = c in let so_far = turn.loop-at.invariant in let lies = escape_lies start.args.text.now start.args.start turn.loop-at.at _ so_far.1 c.loop-at-test.true (sym c.is_escaped.ensures ∙ c.if-not-is_escaped.false) c.in-37.is _ c.check_escape.ensures _ c.in-Ok.is in omega (arith, lies.0, lies.1, so_far.0, start.well_formed)

pub overflow_sub-limit-in-37 : goal.overflow_sub-limit-in-37
overflow_sub-limit-in-37 c =
    let turn = c in
    let start = c in let so_far = turn.loop-at.invariant in let lies = escape_lies start.args.text.now start.args.start turn.loop-at.at _ so_far.1 c.loop-at-test.true (sym c.is_escaped.ensures ∙ c.if-not-is_escaped.false) c.in-37.is _ c.check_escape.ensures _ c.in-Ok.is in omega (arith, lies.0, lies.1, so_far.0, start.well_formed)

pub overflow_add-limit-in-37 : goal.overflow_add-limit-in-37
overflow_add-limit-in-37 c =
    let turn = c in
    let start = c in let so_far = turn.loop-at.invariant in let lies = escape_lies start.args.text.now start.args.start turn.loop-at.at _ so_far.1 c.loop-at-test.true (sym c.is_escaped.ensures ∙ c.if-not-is_escaped.false) c.in-37.is _ c.check_escape.ensures _ c.in-Ok.is in omega (arith, lies.0, lies.1, so_far.0, start.well_formed)

pub loop-at-smaller : goal.loop-at-smaller
loop-at-smaller c =
    let turn = c in
    let start = c in let so_far = turn.loop-at.invariant in let lies = escape_lies start.args.text.now start.args.start turn.loop-at.at _ so_far.1 c.loop-at-test.true (sym c.is_escaped.ensures ∙ c.if-not-is_escaped.false) c.in-37.is _ c.check_escape.ensures _ c.in-Ok.is in omega (arith, lies.0, lies.1, so_far.0, start.well_formed)

pub loop-at-preserved : goal.loop-at-preserved
loop-at-preserved c =
    let turn = c in
    let start = c in let so_far = turn.loop-at.invariant in escape_to start.args.text.now start.args.start turn.loop-at.at turn.loop-at.limit so_far c.loop-at-test.true (sym c.is_escaped.ensures ∙ c.if-not-is_escaped.false) c.in-37.is _ c.check_escape.ensures _ c.in-Ok.is c.if-at-limit-2.false

pub returns : goal.returns
returns c = let start = c in let so_far = c.loop-at.invariant in units_early start.args.text.now start.args.start c.loop-at.at _ so_far.1 c.loop-at-test.false

pub returns-in-9 : goal.returns-in-9
returns-in-9 c =
    let a = c.args in
    let turn = c.loop-at in
    units_end a.text.now a.start turn.at _ turn.invariant.1 c.loop-at-test.true (tab_or_feed _ (omega arith) (omega arith))

pub returns-in_default : goal.returns-in_default
returns-in_default c =
    let a = c.args in
    let turn = c.loop-at in
    units_other a.text.now a.start turn.at _ turn.invariant.1 c.loop-at-test.true
    (sym c.is_escaped.ensures ∙ c.if-not-is_escaped.false) (λ e. omega arith) (λ e. omega arith) (λ e. omega arith)

pub returns-in_default-2 : goal.returns-in_default-2
returns-in_default-2 c =
    let a = c.args in
    let turn = c.loop-at in
    units_other a.text.now a.start turn.at _ turn.invariant.1 c.loop-at-test.true
    (sym c.is_escaped.ensures ∙ c.if-not-is_escaped.false) (λ e. omega arith) (λ e. omega arith) (λ e. omega arith)
