-- `fill::read_escape` meets its contract. Assumes nothing.
use mathlib.Core.Path.{refl}
use native.Mathlib.Omega.{arith}
use Rattle.text_read.proofs.CopyLaws.{escape_there, escape_small, escape_read}
use Rattle.text_read.proofs.fill.read_escape.Goals as goal

pub bounds-text-at : goal.bounds-text-at
bounds-text-at c =
    let start = c in
    omega (arith, escape_there start.args.text.now start.args.at start.requires)

pub digit_value-requires : goal.digit_value-requires
digit_value-requires c =
    let start = c in
    (escape_small start.args.text.now start.args.at start.requires _ _ refl refl).0

pub overflow_mul-result : goal.overflow_mul-result
overflow_mul-result c =
    let start = c in
    omega (arith, c.digit_value.ensures, (escape_small start.args.text.now start.args.at start.requires _ _ refl refl).0)

pub overflow_add-at : goal.overflow_add-at
overflow_add-at c =
    let start = c in
    omega (arith, escape_there start.args.text.now start.args.at start.requires, start.well_formed)

pub bounds-text-at-2 : goal.bounds-text-at-2
bounds-text-at-2 c =
    let start = c in
    omega (arith, escape_there start.args.text.now start.args.at start.requires)

pub digit_value-requires-2 : goal.digit_value-requires-2
digit_value-requires-2 c =
    let start = c in
    (escape_small start.args.text.now start.args.at start.requires _ _ refl refl).1

pub overflow_add-result : goal.overflow_add-result
overflow_add-result c =
    let start = c in
    let small = escape_small start.args.text.now start.args.at start.requires _ _ c.digit_value.ensures c.digit_value-2.ensures in
    omega (arith, small.0, small.1)

pub returns : goal.returns
returns c =
    let start = c in
    escape_read start.args.text.now start.args.at start.requires _ _ c.digit_value.ensures c.digit_value-2.ensures
