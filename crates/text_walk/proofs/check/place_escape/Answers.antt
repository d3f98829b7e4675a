-- `check::place_escape` meets its contract: two digits, each looked at when its turn comes. Assumes nothing.
use native.Mathlib.Omega.{arith}
use Rattle.text_walk.proofs.CheckLaws.{escape_early, escape_high, high_small, escape_half, escape_low, escape_needless, escape_whole}
use Rattle.text_walk.proofs.check.place_escape.Goals as goal

pub returns-then-text-at : goal.returns-then-text-at
returns-then-text-at c = escape_early _ _ c.if-text-at.true

pub returns-then-not-high_fits : goal.returns-then-not-high_fits
returns-then-not-high_fits c =
    let start = c in
    let a = start.args in
    escape_high a.text.now a.at c.if-text-at.false _
    c.capital_value-high.ensures _ c.high_fits.ensures (c.if-not-high_fits.true)

pub returns-then-text-second : goal.returns-then-text-second
returns-then-text-second c =
    let start = c in
    let a = start.args in
    escape_half a.text.now a.at c.if-text-at.false _
    c.capital_value-high.ensures _ c.high_fits.ensures
    (c.if-not-high_fits.false) c.if-text-second.true

pub returns-then-low-gt15 : goal.returns-then-low-gt15
returns-then-low-gt15 c =
    let start = c in
    let a = start.args in
    escape_low a.text.now a.at c.if-text-at.false _
    c.capital_value-high.ensures _
    c.high_fits.ensures
    (c.if-not-high_fits.false) c.if-text-second.false _
    c.capital_value-low.ensures c.if-low-gt15.true

pub overflow_mul-high : goal.overflow_mul-high
overflow_mul-high c =
    let start = c in
    let a = start.args in
    let capital_value_lem = c.capital_value-high in
    let high_fits = c.high_fits in
    omega (
      arith,
      high_small a.text.now a.at
          c.if-text-at.false capital_value_lem.result
          capital_value_lem.ensures high_fits.result high_fits.ensures
          (c.if-not-high_fits.false),
    )

pub overflow_add-high : goal.overflow_add-high
overflow_add-high c =
    let start = c in
    let a = start.args in
    let capital_value_lem = c.capital_value-high in
    let high_fits = c.high_fits in
    omega (
      arith,
      high_small a.text.now a.at
          c.if-text-at.false capital_value_lem.result
          capital_value_lem.ensures high_fits.result high_fits.ensures
          (c.if-not-high_fits.false),
    )

pub overflow_cast-high : goal.overflow_cast-high
overflow_cast-high c =
    let start = c in
    let a = start.args in
    let capital_value_lem = c.capital_value-high in
    let high_fits = c.high_fits in
    omega (
      arith,
      high_small a.text.now a.at
          c.if-text-at.false capital_value_lem.result
          capital_value_lem.ensures high_fits.result high_fits.ensures
          (c.if-not-high_fits.false),
    )

pub returns-then-not-is_escaped : goal.returns-then-not-is_escaped
returns-then-not-is_escaped c =
    let start = c in
    let a = start.args in
    escape_needless a.text.now a.at
    c.if-text-at.false _
    c.capital_value-high.ensures _
    c.high_fits.ensures
    (c.if-not-high_fits.false)
    c.if-text-second.false _ c.capital_value-low.ensures
    c.if-low-gt15.false _ c.is_escaped.ensures (c.if-not-is_escaped.true)

pub returns : goal.returns
returns c =
    let start = c in
    let a = start.args in
    escape_whole a.text.now a.at
    c.if-text-at.false _
    c.capital_value-high.ensures _
    c.high_fits.ensures
    (c.if-not-high_fits.false)
    c.if-text-second.false _ c.capital_value-low.ensures
    c.if-low-gt15.false _ c.is_escaped.ensures (c.if-not-is_escaped.false)
