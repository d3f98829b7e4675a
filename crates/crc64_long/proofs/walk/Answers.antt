-- `crc64_long::walk` meets its contract. Assumes nothing.
use mathlib.Core.Path.{◌≡◌, refl, ◌∙◌}
use mathlib.Core.List.{List}
use Prim.Native.Nat.{ℕ, ◌-◌, ◌≤◌}
use native.Mathlib.Omega.{arith}
use lib.ListN.{length}
use Rattle.crc64_sparse.specs.Stages.{zeros}
use Rattle.crc64_long.proofs.Opened.{opened_window, all_left}
use Rattle.crc64_long.proofs.Copied.{rest_copied}
use Rattle.crc64_long.proofs.walk.Goals as goal

within : (n m o : ℕ) → n ≤ m → o ≡ m → n - 1856 ≤ o
within n m o h e = omega arith

pub put_last-requires : goal.put_last-requires
put_last-requires c =
    let start = c in (
      c.last.ensures.0,
      λ e. within (length start.args.bytes.now) (length start.args.out.now) _ (start.requires.1 e) c.leave_first.ensures.2,
    )

pub returns : goal.returns
unfolding zeros
returns c =
    let start = c in
    let a = start.args in
    let s : List ℕ = a.bytes.now in
    let last = c.last.ensures.1 in
    let left = c.leave_first.ensures in (
      all_left a.register s _ _ _ start.requires.0
          (opened_window a.register _ start.ranges.register.fits (omega arith) refl c.write_u64.ensures)
          left.1 last c.pay_all.ensures.1 c.fold_lanes.ensures,
      λ e. c.put_last.ensures.1 e ∙ rest_copied s a.out.now (length s - 1856) (omega arith) (start.requires.1 e) (left.3 e) last refl,
    )
