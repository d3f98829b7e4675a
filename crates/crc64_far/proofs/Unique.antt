-- Two results that meet the function's statement are equal. Assumes nothing.
use mathlib.Core.Path.{◌≡◌, sym, ◌∙◌}
use Prim.Native.Nat.{ℕ}
use Rattle.crc64_far.specs.Statement.{FarIs}

pub far_unique : (x : ℕ) {r r' : ℕ} → FarIs x r → FarIs x r' → r ≡ r'
far_unique x p q = p ∙ sym q
