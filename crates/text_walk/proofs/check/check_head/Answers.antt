-- `check::check_head` meets its contract. Assumes nothing.
use mathlib.Core.Path.{sym, ◌∙◌}
use native.Mathlib.Omega.{arith}
use Rattle.text_walk.proofs.CheckLaws.{goes_up, head_bad, id_inside, sign_inside, head_sign, head_plain}
use Rattle.text_walk.proofs.check.check_head.Goals as goal

pub overflow_add-next : goal.overflow_add-next
overflow_add-next c =
    let start = c in
    let a = start.args in
    let check-id = c.check_id in
    omega (
      arith,
      sign_inside a.text.now a.start a.first check-id.result check-id.ensures _
          c.in_ok-next.was (sym c.byte_at.ensures ∙ c.if-byte_at-eq33.true),
      start.well_formed,
    )

pub check_letter-requires : goal.check_letter-requires
check_letter-requires c =
    let start = c in
    let a = start.args in
    let check-id = c.check_id in
    sign_inside a.text.now a.start a.first check-id.result check-id.ensures _
    c.in_ok-next.was (sym c.byte_at.ensures ∙ c.if-byte_at-eq33.true)

pub returns-then-byte_at-eq33 : goal.returns-then-byte_at-eq33
returns-then-byte_at-eq33 c =
    let start = c in
    let a = start.args in
    let check-id = c.check_id in
    head_sign a.text.now a.start a.first check-id.result check-id.ensures _
    c.in_ok-next.was
    (sym c.byte_at.ensures ∙ c.if-byte_at-eq33.true) c.check_letter.result
    c.check_letter.ensures

pub check_letter-requires-2 : goal.check_letter-requires-2
check_letter-requires-2 c =
    let start = c in
    let a = start.args in
    let check-id = c.check_id in
    id_inside a.text.now a.start a.first check-id.result check-id.ensures _
    c.in_ok-next.was

pub returns-in_err-next : goal.returns-in_err-next
returns-in_err-next c = rw (goes_up c.from_residual.result _ c.from_residual.ensures.1) (head_bad _ _ _ _ c.check_id.ensures _ c.in_err-next.was)

pub returns : goal.returns
returns c =
    let start = c in
    let a = start.args in
    let check-id = c.check_id in
    head_plain a.text.now a.start a.first check-id.result check-id.ensures _
    c.in_ok-next.was
    (λ e. c.if-byte_at-eq33.false (c.byte_at.ensures ∙ e)) c.check_letter-2.result
    c.check_letter-2.ensures
