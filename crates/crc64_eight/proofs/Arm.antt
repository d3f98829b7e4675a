-- What an arm of a match on a byte tells, and what its last arm does. Assumes nothing.
use mathlib.Core.Path.{◌≡◌, sym, ap, ap₂, ◌∙◌}
use mathlib.Core.List.{List, [], ◌∷◌}
use Prim.Native.Nat.{ℕ, zero, suc, ◌*◌, ◌/◌, ◌%◌, ◌^◌, ◌≤◌, ◌<◌}
use native.Mathlib.Nat.{one-mul, zero-mul, mod-lt, pow-succ', mul_assoc, mul-one}
use native.Mathlib.Omega.{arith}
use lib.Dec.{lit<}
use lib.ListN.{length}
use lib.Bits.{bit_xor, xor_comm, xor_shifted}
use Rattle.crc64.specs.Table.{entry}
use Rattle.crc64.proofs.Xor.{xor_shl}
use Rattle.crc64_eight.proofs.Span.{entry_xor, first_entry}

-- an arm asked for k holds the entry of k xor 128
pub hit : (n : ℕ) {asked k x : ℕ} → asked ≡ k → x ≡ entry n (bit_xor k 128) → x ≡ entry n (bit_xor asked 128)
hit n key rule = rule ∙ ap (λ (b : ℕ). entry n (bit_xor b 128)) (sym key)

-- ---- an entry out of those at the powers of two, where it would take many steps by itself

-- the bits of b, each with what it becomes
unfoldable pub mixed : List ℕ → ℕ → ℕ
mixed [] b = 0
mixed (e ∷ es) b = bit_xor (b % 2 * e) (mixed es (b / 2))

-- what the bit i and those above it become in n steps
abbrev pub Powers : ℕ → ℕ → List ℕ → Type 0
Powers n i [] = Unit {0}
Powers n i (e ∷ es) = (e ≡ entry n (2 ^ i)) × Powers n (suc i) es

bit : (n i c : ℕ) {e : ℕ} → c < 2 → e ≡ entry n (2 ^ i) → c * e ≡ entry n (c * 2 ^ i)
bit n i zero {e} h told = zero-mul e ∙ first_entry n ∙ ap (entry n) (sym (zero-mul (2 ^ i)))
bit n i (suc zero) {e} h told = one-mul e ∙ told ∙ ap (entry n) (sym (one-mul (2 ^ i)))
bit n i (suc (suc c)) h told = absurd (omega arith)

-- a number's lowest bit beside the others
apart : (i b : ℕ) → bit_xor (b % 2 * 2 ^ i) (b / 2 * 2 ^ suc i) ≡ b * 2 ^ i
apart i b =
    let low : b % 2 < 2 = mod-lt b (lit< tt) in
    ap (λ (z : ℕ). bit_xor (b % 2 * 2 ^ i) z) (ap (λ (z : ℕ). b / 2 * z) (pow-succ' 2 i) ∙ sym (mul_assoc (b / 2) 2 (2 ^ i)))
    ∙ sym (xor_shl i (b % 2) (b / 2 * 2))
    ∙ ap (λ (z : ℕ). z * 2 ^ i) (xor_comm (b % 2) (b / 2 * 2) ∙ xor_shifted (b / 2) 1 (b % 2) low ∙ omega arith)

none_left : (b : ℕ) → b < 1 → b ≡ 0
none_left b h = omega arith

fewer : (b m : ℕ) → b < 2 * m → b / 2 < m
fewer b m h = omega arith

mixed_true : (n i : ℕ) (es : List ℕ) (b : ℕ) → Powers n i es → b < 2 ^ length es → mixed es b ≡ entry n (b * 2 ^ i)
unfolding mixed
mixed_true n i [] b told h = first_entry n ∙ ap (entry n) (sym (ap (λ (z : ℕ). z * 2 ^ i) (none_left b h) ∙ zero-mul (2 ^ i)))
mixed_true n i (e ∷ es) b told h =
    ap₂ bit_xor (bit n i (b % 2) (mod-lt b (lit< tt)) told.0)
    (mixed_true n (suc i) es (b / 2) told.1 (fewer b (2 ^ length es) (rw (pow-succ' 2 (length es)) at h)))
    ∙ sym (entry_xor n (b % 2 * 2 ^ i) (b / 2 * 2 ^ suc i))
    ∙ ap (entry n) (apart i b)

-- an arm that holds what the bits of k xor 128 make
pub hit_mixed : (n : ℕ) (es : List ℕ) {asked k x : ℕ} → Powers n 0 es → bit_xor k 128 < 2 ^ length es → asked ≡ k → x ≡ mixed es (bit_xor k 128) → x ≡ entry n (bit_xor asked 128)
hit_mixed n es {asked} {k} told h key rule = hit n key (rule ∙ mixed_true n 0 es (bit_xor k 128) told h ∙ ap (entry n) (mul-one (bit_xor k 128)))

-- a number is none of those below n
unfoldable pub none : ℕ → ℕ → Type 0
none zero b = Unit {0}
none (suc n) b = none n b × (b ≡ n → ⊥)

past : (n b : ℕ) → none n b → n ≤ b
unfolding none
past zero b tells = omega arith
past (suc n) b tells = further (past n b tells.0) tells.1
  where
    further : {n b : ℕ} → n ≤ b → (b ≡ n → ⊥) → suc n ≤ b
    further h differs = omega (arith, differs)

pub last : (b : ℕ) → b < 256 → none 255 b → b ≡ 255
last b h tells = omega (arith, past 255 b tells)
