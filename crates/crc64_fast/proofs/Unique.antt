-- Two results that meet a function's statement are equal. Assumes nothing.
use mathlib.Core.Path.{◌≡◌, sym, ◌∙◌}
use mathlib.Core.List.{List}
use Prim.Native.Nat.{ℕ}
use Rattle.words.specs.Statement.{OneResult}
use Rattle.crc64_fast.specs.Statement.{Copies, FoldHeldIs, FoldFastIs}

pub fold_held_unique : (register : ℕ) (bytes : List ℕ) {r r' : ℕ} → FoldHeldIs register bytes r → FoldHeldIs register bytes r' → r ≡ r'
fold_held_unique register bytes p q = p ∙ sym q

pub fold_fast_unique : (register : ℕ) (bytes : List ℕ) {r r' : ℕ} → FoldFastIs register bytes r → FoldFastIs register bytes r' → r ≡ r'
fold_fast_unique register bytes p q = p ∙ sym q

pub copy_held_unique : (register : ℕ) (bytes before : List ℕ) → OneResult (λ (x : ℕ × List ℕ). Copies register bytes before x.0 x.1)
copy_held_unique register bytes before x x' p q =
    let same = p.folded ∙ sym q.folded in
    let out-same = p.copied ∙ sym q.copied in
    λ i. (same i, out-same i)
