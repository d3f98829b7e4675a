-- Two results that meet the function's statement are equal. Assumes nothing.
use mathlib.Core.Path.{◌≡◌, sym, ◌∙◌}
use Prim.Native.Nat.{ℕ}
use Rattle.crc64_combine.specs.Statement.{CombineIs}

pub combine_unique : (a b length : ℕ) {r r' : ℕ} → CombineIs a b length r → CombineIs a b length r' → r ≡ r'
combine_unique a b length p q = p ∙ sym q
