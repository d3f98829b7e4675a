-- `fill::read_head` meets its contract. Assumes nothing.
use native.Mathlib.Omega.{arith}
use Rattle.text_read.proofs.FillLaws.{head_there, sign_letter, head_signed, plain_letter, head_plain}
use Rattle.text_read.proofs.fill.read_head.Goals as goal

pub bounds-text-at : goal.bounds-text-at
bounds-text-at c =
    let start = c in
    let a = start.args in
    let read-id = c.read_id-number in
    head_there a.text.now a.start a.first start.requires read-id.result read-id.ensures

pub overflow_add-at : goal.overflow_add-at
overflow_add-at c =
    let start = c in
    let a = start.args in
    let read-id = c.read_id-number in
    omega (
      arith,
      head_there a.text.now a.start a.first start.requires read-id.result read-id.ensures,
      start.well_formed,
    )

pub read_letter-requires : goal.read_letter-requires
read_letter-requires c =
    let start = c in
    let a = start.args in
    let read-id = c.read_id-number in
    sign_letter a.text.now a.start a.first start.requires read-id.result read-id.ensures c.if-text-at-eq33.true

pub returns-then-text-at-eq33 : goal.returns-then-text-at-eq33
returns-then-text-at-eq33 c =
    let start = c in
    let a = start.args in
    let read-id = c.read_id-number in
    head_signed a.text.now a.start a.first start.requires read-id.result read-id.ensures
    c.if-text-at-eq33.true c.read_letter.result c.read_letter.ensures

pub read_letter-requires-2 : goal.read_letter-requires-2
read_letter-requires-2 c =
    let start = c in
    let a = start.args in
    let read-id = c.read_id-number in
    plain_letter a.text.now a.start a.first start.requires read-id.result read-id.ensures c.if-text-at-eq33.false

pub returns : goal.returns
returns c =
    let start = c in
    let a = start.args in
    let read-id = c.read_id-number in
    head_plain a.text.now a.start a.first start.requires read-id.result read-id.ensures
    c.if-text-at-eq33.false c.read_letter-2.result c.read_letter-2.ensures
