-- The eight bytes of a number, each asked of its table, are 64 steps and the e more that the tables have gone. Assumes
-- nothing.
use mathlib.Core.Path.{◌≡◌, sym, ap, ap₂, ◌∙◌}
use mathlib.Core.List.{List}
use Prim.Native.Nat.{ℕ, suc, ◌+◌, ◌*◌, ◌/◌, ◌%◌, ◌<◌}
use native.Mathlib.Nat.{mod-lt, zero-add}
use native.Mathlib.Omega.{arith}
use lib.Dec.{lit<}
use lib.ListN.{get_or}
use lib.Bits.{bit_xor, xor_zero_r}
use Rattle.crc64.specs.Polynomial.{steps}
use Rattle.crc64.specs.Table.{swapped, entry}
use Rattle.crc64.proofs.Xor.{xor_assoc}
use Rattle.crc64_eight.specs.Lent.{looked}
use Rattle.crc64_eight.proofs.Rule.{tables_from, tables_from_at}
use Rattle.crc64_eight.proofs.Words.{Ruled, looked_true}

-- the tables of bytes that have m more behind them
abbrev tables : ℕ → List ℕ
tables m = tables_from m 8

ruled : (m : ℕ) → Ruled (tables m) (8 * m)
ruled m k b hk hb = tables_from_at m 8 k b hk hb ∙ ap (λ (n : ℕ). entry n b) (further m k)
  where
    further : (m k : ℕ) → 8 * suc (m + k) ≡ 8 * suc k + 8 * m
    further m k = omega arith

-- a byte is asked for with its top bit turned, as the arms are laid
twice : (b : ℕ) → bit_xor (bit_xor b 128) 128 ≡ b
twice b = xor_assoc b 128 128 ∙ xor_zero_r b

-- what the table of the byte with k behind it answers
answers : (m k x : ℕ) {y : ℕ} → k < 8 → y ≡ entry (8 * suc k + 8 * m) (bit_xor (bit_xor (x % 256) 128) 128) → y ≡ get_or (tables m) (256 * k + x % 256) 0
answers m k x h e = e ∙ ap (entry (8 * suc k + 8 * m)) (twice (x % 256)) ∙ sym (ruled m k (x % 256) h (mod-lt x (lit< tt)))

pub lowest : (m x : ℕ) {y : ℕ} → y ≡ entry (8 + 8 * m) (bit_xor (bit_xor (x % 256) 128) 128) → y ≡ looked (tables m) 0 x
unfolding looked
lowest m x e = answers m 0 x (lit< tt) e ∙ ap (λ (i : ℕ). get_or (tables m) i 0) (zero-add (x % 256))

-- one byte more, in front
pub beside : (m n x : ℕ) {y z : ℕ} → suc n < 8 → y ≡ entry (8 * suc (suc n) + 8 * m) (bit_xor (bit_xor (x % 256) 128) 128) → z ≡ looked (tables m) n (x / 256)
    → bit_xor y z ≡ looked (tables m) (suc n) x
unfolding looked
beside m n x h e rest = ap₂ bit_xor (answers m (suc n) x h e) rest

pub whole : (m x : ℕ) {z : ℕ} → z ≡ looked (tables m) 7 x → z ≡ swapped 8 (steps (64 + 8 * m) (swapped 8 x))
whole m x e = e ∙ looked_true (tables m) (8 * m) x (ruled m)
