-- `fill::read_id` meets its contract. The invariant: the reading is still in the id. Assumes nothing.
use native.Mathlib.Omega.{arith}
use Rattle.text_read.proofs.FillLaws.{id_there, id_colon, id_low, id_small, id_more}
use Rattle.text_read.proofs.fill.read_id.Goals as goal

pub loop-at-init : goal.loop-at-init
loop-at-init c = (omega arith, λ rows cells final from_start. from_start)

pub returns-then-byte-eq58 : goal.returns-then-byte-eq58
returns-then-byte-eq58 c =
    let start = c in
    let a = start.args in
    let turn = c.loop-at in
    id_colon a.text.now a.start a.first start.requires turn.at turn.id turn.invariant c.if-byte-eq58.true

pub overflow_mul-id : goal.overflow_mul-id
overflow_mul-id c =
    let start = c in
    let a = start.args in
    let turn = c.loop-at in
    omega (
      arith,
      id_small a.text.now a.start a.first start.requires turn.at turn.id turn.invariant
          c.if-byte-eq58.false,
    )

pub overflow_sub-id : goal.overflow_sub-id
overflow_sub-id c =
    let start = c in
    let a = start.args in
    let turn = c.loop-at in
    id_low a.text.now a.start a.first start.requires turn.at turn.id turn.invariant c.if-byte-eq58.false

pub overflow_cast-id : goal.overflow_cast-id
overflow_cast-id c =
    let start = c in
    let a = start.args in
    let turn = c.loop-at in
    omega (
      arith,
      id_small a.text.now a.start a.first start.requires turn.at turn.id turn.invariant
          c.if-byte-eq58.false,
    )

pub overflow_add-id : goal.overflow_add-id
overflow_add-id c =
    let start = c in
    let a = start.args in
    let turn = c.loop-at in
    omega (
      arith,
      id_small a.text.now a.start a.first start.requires turn.at turn.id turn.invariant
          c.if-byte-eq58.false,
    )

pub loop-at-preserved : goal.loop-at-preserved
loop-at-preserved c =
    let start = c in
    let a = start.args in
    let turn = c.loop-at in
    id_more a.text.now a.start a.first start.requires turn.at turn.id turn.invariant c.if-byte-eq58.false

pub returns : goal.returns
returns c =
    let start = c in
    let a = start.args in
    let turn = c.loop-at in
    absurd (omega (
      arith,
      id_there a.text.now a.start a.first start.requires turn.at turn.id turn.invariant,
      c.loop-at-test.false,
    ))
