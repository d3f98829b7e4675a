-- Two results that meet a function's statement are equal: the statements are those of crc64_fast. Assumes nothing.
use mathlib.Core.Path.{◌≡◌, sym, ◌∙◌}
use mathlib.Core.List.{List}
use Prim.Native.Nat.{ℕ}
use Rattle.words.specs.Statement.{OneResult}
use Rattle.crc64_fast.specs.Statement.{Copies}
use Rattle.crc64_fast.proofs.Unique.{copy_held_unique}
use Rattle.crc64_long.specs.Statement.{FoldLongIs}

pub fold_long_unique : (register : ℕ) (bytes : List ℕ) {r r' : ℕ} → FoldLongIs register bytes r → FoldLongIs register bytes r' → r ≡ r'
fold_long_unique register bytes p q = p ∙ sym q

pub copy_long_unique : (register : ℕ) (bytes before : List ℕ) → OneResult (λ (x : ℕ × List ℕ). Copies register bytes before x.0 x.1)
copy_long_unique register bytes before = copy_held_unique register bytes before
