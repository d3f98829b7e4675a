-- `settle` meets its contract. Assumes nothing.
use native.Mathlib.Omega.{arith}
use lib.ListN.{length-set}
use Rattle.pack.proofs.settle.Goals as goal

pub bounds-values-i-5 : goal.bounds-values-i-5
bounds-values-i-5 c = simp length-set (omega arith)

pub bounds-values-i-6 : goal.bounds-values-i-6
bounds-values-i-6 c = simp length-set (omega arith)

pub bounds-values-i-7 : goal.bounds-values-i-7
bounds-values-i-7 c = simp length-set (omega arith)
