-- Two results that meet a function's statement are equal. Assumes nothing.
use mathlib.Core.Path.{◌≡◌, sym, ◌∙◌, subst}
use mathlib.Core.List.{List}
use Prim.Native.Nat.{ℕ, ◌+◌, ◌*◌, ◌/◌, ◌%◌, ◌<◌}
use native.Mathlib.Nat.{mod-lt}
use native.Mathlib.Omega.{arith}
use lib.Dec.{lit<}
use lib.ListN.{get_or}
use lib.Seq.{ext_get_or}
use Rattle.crc64_eight.specs.Statement.{TablesIs, FoldLentIs, ChecksumLentIs, Fold8Is}

-- every number of the tables is one that the rule names
place : (i : ℕ) → 256 * (i / 256) + i % 256 ≡ i
place i = omega arith

pub tables_unique : {r r' : List ℕ} → TablesIs r → TablesIs r' → r ≡ r'
tables_unique {r} {r'} p q = ext_get_or 0 r r' (p.size ∙ sym q.size) (λ i h.
    let k : ℕ = i / 256 in
    let b : ℕ = i % 256 in
    let below : k < 8 = omega (arith, p.size) in
    let byte : b < 256 = mod-lt i (lit< tt) in
    subst (λ (j : ℕ). get_or r j 0 ≡ get_or r' j 0) (place i) (p.rule k b below byte ∙ sym (q.rule k b below byte)))

pub fold_lent_unique : (tables : List ℕ) (register : ℕ) (bytes : List ℕ) {r r' : ℕ}
    → FoldLentIs tables register bytes r → FoldLentIs tables register bytes r' → r ≡ r'
fold_lent_unique tables register bytes p q = p ∙ sym q

pub checksum_lent_unique : (tables bytes : List ℕ) {r r' : ℕ} → ChecksumLentIs tables bytes r → ChecksumLentIs tables bytes r' → r ≡ r'
checksum_lent_unique tables bytes p q = p ∙ sym q

pub fold8_unique : (register : ℕ) (bytes : List ℕ) {r r' : ℕ} → Fold8Is register bytes r → Fold8Is register bytes r' → r ≡ r'
fold8_unique register bytes p q = p ∙ sym q
