-- Two results that meet the function's statement are equal. Assumes nothing.
use mathlib.Core.Path.{◌≡◌, sym, ◌∙◌}
use Prim.Native.Nat.{ℕ}
use Rattle.crc64_near.specs.Statement.{NearIs}

pub near_unique : (x : ℕ) {r r' : ℕ} → NearIs x r → NearIs x r' → r ≡ r'
near_unique x p q = p ∙ sym q
