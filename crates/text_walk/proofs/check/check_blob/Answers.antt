-- `check::check_blob` meets its contract. Assumes nothing.
use native.Mathlib.Omega.{arith}
use Rattle.text_walk.proofs.CheckLaws.{goes_up, blob_fails, units_inside, units_short, blob_ends}
use Rattle.text_walk.proofs.check.check_blob.Goals as goal

pub overflow_cast-length : goal.overflow_cast-length
overflow_cast-length c =
    let start = c in
    let a = start.args in
    let check-units = c.check_units in
    omega (
      arith,
      units_short a.text.now a.at a.size check-units.result check-units.ensures _ c.in_ok-next.was,
    )

pub overflow_add-size-2 : goal.overflow_add-size-2
overflow_add-size-2 c =
    let start = c in
    let a = start.args in
    let check-units = c.check_units in
    omega (
      arith,
      start.requires.1,
      c.padded.ensures,
      units_short a.text.now a.at a.size check-units.result
          check-units.ensures _ c.in_ok-next.was,
    )

pub check_end-requires : goal.check_end-requires
check_end-requires c =
    let start = c in
    let a = start.args in
    let check-units = c.check_units in
    units_inside a.text.now a.at a.size check-units.result check-units.ensures _ c.in_ok-next.was

pub returns-in_err-next : goal.returns-in_err-next
returns-in_err-next c =
    let start = c in
    let a = start.args in
    let check-units = c.check_units in
    rw (goes_up c.from_residual.result _ c.from_residual.ensures.1) (blob_fails a.text.now a.at a.size check-units.result check-units.ensures _
    c.in_err-next.was)

pub returns : goal.returns
returns c =
    let start = c in
    let a = start.args in
    let check-units = c.check_units in
    blob_ends a.text.now a.at a.size check-units.result check-units.ensures _ c.in_ok-next.was c.check_end.result
    (rw c.padded.ensures at c.check_end.ensures)
