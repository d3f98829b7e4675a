-- `values_size` meets its contract. The invariant: what is still to come makes up the whole. Assumes nothing.
use mathlib.Core.Path.{ap}
use Prim.Native.Nat.{◌-◌}
use native.Mathlib.Nat.{sub-zero}
use native.Mathlib.Omega.{arith}
use lib.ListN.{length}
use Rattle.text_size.proofs.SizeLaws.{values_go, entry_short, values_none}
use Rattle.text_size.proofs.values_size.Goals as goal

pub loop-n-init : goal.loop-n-init
loop-n-init c = rw (sub-zero c.args.count) (c.requires.1, c.requires.2, omega arith)

pub entry_size-requires : goal.entry_size-requires
entry_size-requires c =
    let start = c in (
      omega arith,
      start.requires.0 c.loop-n.k (omega arith) (omega arith),
      omega (arith, entry_short _ _ _ _ _ _ _ c.loop-n.invariant (omega arith), start.requires.3),
    )

pub overflow_add-size : goal.overflow_add-size
overflow_add-size c = omega (arith, c.entry_size.ensures, entry_short _ _ _ _ _ _ _ c.loop-n.invariant (omega arith), c.requires.3)

pub overflow_add-size-in-loop-n : goal.overflow_add-size-in-loop-n
overflow_add-size-in-loop-n c = omega (arith, c.entry_size.ensures, entry_short _ _ _ _ _ _ _ c.loop-n.invariant (omega arith), c.requires.3)

pub loop-n-preserved : goal.loop-n-preserved
loop-n-preserved c = values_go _ _ _ _ _ _ _ c.loop-n.invariant (omega arith) _ c.entry_size.ensures _ (omega arith)

pub returns : goal.returns
returns c =
    let start' = c in
    omega (arith, c.loop-n.invariant.2, ap length (values_none start'.args.area.now start'.args.values.now (c.args.count - c.loop-n._n) c.loop-n.k (omega arith)))
