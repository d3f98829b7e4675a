-- Two results that meet a function's statement are equal. Assumes nothing.
use mathlib.Core.Path.{◌≡◌, sym, ◌∙◌}
use mathlib.Core.List.{List}
use Prim.Native.Nat.{ℕ}
use Rattle.crc64.specs.Statement.{TableIs, SwapIs, FoldOverIs, FoldIs}

pub table_unique : {r r' : List ℕ} → TableIs r → TableIs r' → r ≡ r'
table_unique p q = p ∙ sym q

pub fold_over_unique : (table : List ℕ) (register : ℕ) (bytes : List ℕ) {r r' : ℕ}
    → FoldOverIs table register bytes r → FoldOverIs table register bytes r' → r ≡ r'
fold_over_unique table register bytes p q = p ∙ sym q

pub fold_unique : (register : ℕ) (bytes : List ℕ) {r r' : ℕ} → FoldIs register bytes r → FoldIs register bytes r' → r ≡ r'
fold_unique register bytes p q = p ∙ sym q

pub swap_bytes_unique : (x : ℕ) {r r' : ℕ} → SwapIs x r → SwapIs x r' → r ≡ r'
swap_bytes_unique x p q = p ∙ sym q
