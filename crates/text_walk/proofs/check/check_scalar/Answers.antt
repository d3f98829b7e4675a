-- `check::check_scalar` meets its contract. Assumes nothing.
use Rattle.text_walk.proofs.CheckLaws.{goes_up, scalar_bad, word_inside, scalar_ends}
use Rattle.text_walk.proofs.check.check_scalar.Goals as goal

pub check_end-requires : goal.check_end-requires
check_end-requires c =
    let start = c in
    let a = start.args in
    let check-word = c.check_word in
    word_inside a.text.now a.at a.kind a.size check-word.result check-word.ensures _
    c.in_ok-next.was

pub returns-in_err-next : goal.returns-in_err-next
returns-in_err-next c =
    let start = c in
    let a = start.args in
    let check-word = c.check_word in
    rw (goes_up c.from_residual.result _ c.from_residual.ensures.1) (scalar_bad a.text.now a.at a.kind a.size check-word.result check-word.ensures _
    c.in_err-next.was)

pub returns : goal.returns
returns c =
    let start = c in
    let a = start.args in
    let check-word = c.check_word in
    scalar_ends a.text.now a.at a.kind a.size check-word.result check-word.ensures _
    c.in_ok-next.was c.check_end.result c.check_end.ensures
