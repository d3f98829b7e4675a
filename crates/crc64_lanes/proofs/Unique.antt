-- Two results that meet a function's statement are equal: the statements are those of crc64_fast. Assumes nothing.
use mathlib.Core.Path.{◌≡◌}
use mathlib.Core.List.{List}
use Prim.Native.Nat.{ℕ}
use Rattle.words.specs.Statement.{OneResult}
use Rattle.crc64_fast.specs.Statement.{Copies, FoldHeldIs}
use Rattle.crc64_fast.proofs.Unique.{copy_held_unique, fold_held_unique}

pub copy_lanes_unique : (register : ℕ) (bytes before : List ℕ) → OneResult (λ (x : ℕ × List ℕ). Copies register bytes before x.0 x.1)
copy_lanes_unique register bytes before = copy_held_unique register bytes before

pub fold_lanes_unique : (register : ℕ) (bytes : List ℕ) {r r' : ℕ} → FoldHeldIs register bytes r → FoldHeldIs register bytes r' → r ≡ r'
fold_lanes_unique register bytes p q = fold_held_unique register bytes p q
