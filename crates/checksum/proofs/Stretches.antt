-- Bytes that come in several stretches: two updates are one of the stretches joined, `new`, updates and `finish` make the checksum,
-- and a stretch appended by its checksum is as good as its bytes. Assumes nothing.
use mathlib.Core.Path.{◌≡◌, sym, ap, ◌∙◌}
use mathlib.Core.List.{List, ◌++◌}
use Prim.Native.Nat.{ℕ, ◌*◌, ◌<◌, ◌^◌}
use lib.Bits.{bit_xor, xor_comm}
use lib.Dec.{lit<}
use lib.ListN.{length}
use Rattle.crc64_combine.specs.Combined.{combined}
use Rattle.checksum.specs.declared.Crc64.{Crc64}
use Rattle.crc64.specs.Polynomial.{steps, fold, checksum}
use Rattle.crc64.specs.Table.{swapped}
use Rattle.checksum.specs.Statement.{NewIs, UpdateIs, AppendIs, FinishIs}
use Rattle.crc64.proofs.Folding.{fold_append, fold_apart, fold_lt}
use Rattle.crc64.proofs.Swap.{swapped_lt, swapped_twice}

-- what is held, swapped back, is the register
held : (r : ℕ) (bs : List ℕ) → r < 2 ^ 64 → swapped 8 (swapped 8 (fold r bs)) ≡ fold r bs
held r bs h = swapped_twice 8 (fold r bs) (fold_lt r bs h)

pub update_append : (c d e : Crc64) (a b : List ℕ) → UpdateIs c a d → UpdateIs d b e → UpdateIs c (a ++ b) e
update_append c d e a b p q =
    q
    ∙ ap (λ (r : ℕ). swapped 8 (fold r b)) (ap (swapped 8) p ∙ held (swapped 8 c.register) a (swapped_lt 8 c.register))
    ∙ ap (swapped 8) (sym (fold_append (swapped 8 c.register) a b))

-- from the empty register
pub swapped_back : {x z : ℕ} (bs : List ℕ) → x ≡ swapped 8 (fold (swapped 8 0) bs) → z ≡ swapped 8 x → z ≡ checksum bs
unfolding swapped
swapped_back bs folded e = e ∙ ap (swapped 8) folded ∙ held 0 bs (lit< tt)

pub whole_checksum : (c d : Crc64) {r : ℕ} (bs : List ℕ) → NewIs c → UpdateIs c bs d → FinishIs d r → r ≡ checksum bs
whole_checksum c d bs p q e = swapped_back bs (q ∙ ap (λ (r : ℕ). swapped 8 (fold (swapped 8 r) bs)) p) e

-- a stretch that is appended by its checksum leaves what its bytes leave
pub append_joins : (c d e : Crc64) (bs : List ℕ) {sum : ℕ} → sum ≡ checksum bs → AppendIs c sum (length bs) d → UpdateIs c bs e → d.register ≡ e.register
unfolding combined
append_joins c d e bs of-bs p q =
    p
    ∙ ap (swapped 8)
    (ap (λ (x : ℕ). bit_xor (steps (8 * length bs) (swapped 8 c.register)) x) of-bs
    ∙ xor_comm (steps (8 * length bs) (swapped 8 c.register)) (checksum bs)
    ∙ sym (fold_apart (swapped 8 c.register) bs))
    ∙ sym q
