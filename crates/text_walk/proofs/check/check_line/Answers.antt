-- `check::check_line` meets its contract. Assumes nothing.
use native.Mathlib.Omega.{arith}
use Rattle.text_walk.proofs.CheckLaws.{line_other, line_many, line_large, line_empty, line_null, line_digit}
use Rattle.text_walk.proofs.check.check_line.Goals as goal

pub returns-then-not-begins_line : goal.returns-then-not-begins_line
returns-then-not-begins_line c =
    let start = c in
    let a = start.args in
    let begins-line = c.begins_line in
    line_other a.text.now a.at a.row a.size start.requires.0 begins-line.result begins-line.ensures
    (c.if-not-begins_line.true)

pub returns-then-row : goal.returns-then-row
returns-then-row c =
    let start = c in
    let a = start.args in
    let begins-line = c.begins_line in
    line_many a.text.now a.at a.row a.size start.requires.0 begins-line.result begins-line.ensures
    (c.if-not-begins_line.false) c.if-row.true

pub returns-then-sum-gt-MAX_ROWSET_SIZE : goal.returns-then-sum-gt-MAX_ROWSET_SIZE
returns-then-sum-gt-MAX_ROWSET_SIZE c =
    let start = c in
    let a = start.args in
    let begins-line = c.begins_line in
    line_large a.text.now a.at a.row a.size start.requires.0 begins-line.result begins-line.ensures
    (c.if-not-begins_line.false) (omega (arith, start.requires.1, c.if-row.false)) c.if-sum-gt-MAX_ROWSET_SIZE.true

pub returns-in-10 : goal.returns-in-10
returns-in-10 c =
    let start = c in
    let a = start.args in
    let begins-line = c.begins_line in
    line_empty a.text.now a.at a.row a.size start.requires.0 begins-line.result begins-line.ensures
    (c.if-not-begins_line.false) (omega (arith, start.requires.1, c.if-row.false))
    c.if-sum-gt-MAX_ROWSET_SIZE.false c.in-10.is

pub returns-in-35 : goal.returns-in-35
returns-in-35 c =
    let start = c in
    let a = start.args in
    let begins-line = c.begins_line in
    line_null a.text.now a.at a.row a.size start.requires.0 begins-line.result begins-line.ensures
    (c.if-not-begins_line.false)
    (omega (arith, start.requires.1, c.if-row.false)) c.if-sum-gt-MAX_ROWSET_SIZE.false
    c.in-35.is c.check_null.result c.check_null.ensures

pub check_values-requires : goal.check_values-requires
check_values-requires c =
    let start = c in
    let a = start.args in
    let begins-line = c.begins_line in (
      omega (arith, start.requires.0),
      line_digit a.text.now a.at a.row a.size start.requires.0
          begins-line.result begins-line.ensures (c.if-not-begins_line.false)
          (λ e. omega arith) (λ e. omega arith),
      (omega (arith, start.requires.1, c.if-row.false)),
      c.if-sum-gt-MAX_ROWSET_SIZE.false,
    )
