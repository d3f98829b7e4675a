-- `fill::read_letter` meets its contract. Assumes nothing.
use native.Mathlib.Omega.{arith}
use Rattle.text_read.proofs.FillLaws.{letter_there, letter_read}
use Rattle.text_read.proofs.fill.read_letter.Goals as goal

pub overflow_add-result : goal.overflow_add-result
overflow_add-result c =
    let start = c in
    let a = start.args in
    omega (arith, letter_there a.text.now a.at a.id a.aggregate start.requires, start.well_formed)

pub bounds-text-at : goal.bounds-text-at
bounds-text-at c =
    let start = c in
    let a = start.args in
    letter_there a.text.now a.at a.id a.aggregate start.requires

pub returns : goal.returns
returns c =
    let start = c in
    let a = start.args in
    letter_read a.text.now a.at a.id a.aggregate start.requires _ c.type_of.ensures
