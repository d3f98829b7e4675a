-- A table is spanned by its eight entries at the powers of two, each other one being the exclusive or of two before it: so that the
-- computed test of the tables takes few steps. Assumes nothing.
use mathlib.Core.Path.{◌≡◌, refl, sym, ap, ap₂, ◌∙◌}
use mathlib.Core.List.{List, [], ◌∷◌, ◌++◌, map}
use Prim.Native.Nat.{ℕ, zero, suc, ◌+◌, ◌*◌, ◌^◌, ◌≤◌, ◌<◌}
use native.Mathlib.Nat.{add-zero, zero-add, one-mul, suc-add, add-suc, pow-succ'}
use native.Mathlib.Omega.{arith}
use lib.Bits.{bit_xor, xor_shifted}
use Rattle.crc64.specs.Polynomial.{steps}
use Rattle.crc64.specs.Table.{swapped, entry, entries_from, entries}
use Rattle.crc64.proofs.Xor.{xor_shl}
use Rattle.crc64.proofs.Register.{steps_xor}
use Rattle.crc64.proofs.Swap.{swapped_xor}
use Rattle.crc64_eight.proofs.Rule.{tables_from, steps_zero}

-- the first 2^i entries
unfoldable pub spanned : ℕ → ℕ → List ℕ
spanned n zero = 0 ∷ []
spanned n (suc i) = spanned n i ++ map (bit_xor (entry n (2 ^ i))) (spanned n i)

unfoldable pub spanned_from : ℕ → ℕ → List ℕ
spanned_from k zero = []
spanned_from k (suc count) = spanned (8 * suc k) 8 ++ spanned_from (suc k) count

pub entry_xor : (n a b : ℕ) → entry n (bit_xor a b) ≡ bit_xor (entry n a) (entry n b)
unfolding entry
entry_xor n a b =
    ap (λ (z : ℕ). swapped 8 (steps n z)) (xor_shl 56 a b)
    ∙ ap (swapped 8) (steps_xor n (a * 2 ^ 56) (b * 2 ^ 56))
    ∙ swapped_xor 8 (steps n (a * 2 ^ 56)) (steps n (b * 2 ^ 56))

beside : (i b : ℕ) → b < 2 ^ i → bit_xor (2 ^ i) b ≡ 2 ^ i + b
beside i b h = ap (λ (z : ℕ). bit_xor z b) (sym (one-mul (2 ^ i))) ∙ xor_shifted 1 i b h ∙ ap (λ (z : ℕ). z + b) (one-mul (2 ^ i))

upper : (n i from count : ℕ) → from + count ≤ 2 ^ i → entries_from n (2 ^ i + from) count ≡ map (bit_xor (entry n (2 ^ i))) (entries_from n from count)
unfolding entries_from
upper n i from zero h = refl
upper n i from (suc count) h =
    ap₂ (λ (x : ℕ) (t : List ℕ). x ∷ t)
    (ap (entry n) (sym (beside i from (omega arith))) ∙ entry_xor n (2 ^ i) from)
    (ap (λ (m : ℕ). entries_from n m count) (sym (add-suc (2 ^ i) from)) ∙ upper n i (suc from) count (omega arith))

cut : (n from j k : ℕ) → entries_from n from (j + k) ≡ entries_from n from j ++ entries_from n (from + j) k
unfolding entries_from
cut n from zero k = ap₂ (λ (m c : ℕ). entries_from n m c) (sym (add-zero from)) (zero-add k)
cut n from (suc j) k =
    ap (entries_from n from) (suc-add j k)
    ∙ ap (λ (t : List ℕ). entry n from ∷ t)
    (cut n (suc from) j k ∙ ap (λ (m : ℕ). entries_from n (suc from) j ++ entries_from n m k) (suc-add from j ∙ sym (add-suc from j)))

double : (i : ℕ) → 2 ^ suc i ≡ 2 ^ i + 2 ^ i
double i = omega (arith, pow-succ' 2 i)

pub first_entry : (n : ℕ) → 0 ≡ entry n 0
unfolding entry swapped
first_entry n = ap (swapped 8) (sym (steps_zero n))

spanned_entries : (n i : ℕ) → spanned n i ≡ entries_from n 0 (2 ^ i)
unfolding spanned entries_from
spanned_entries n zero = ap (λ (x : ℕ). x ∷ []) (first_entry n)
spanned_entries n (suc i) =
    ap₂ (λ (a b : List ℕ). a ++ map (bit_xor (entry n (2 ^ i))) b) (spanned_entries n i) (spanned_entries n i)
    ∙ ap (λ (t : List ℕ). entries_from n 0 (2 ^ i) ++ t) (sym (upper n i 0 (2 ^ i) (omega arith)) ∙ ap (λ (m : ℕ). entries_from n m (2 ^ i)) (add-zero (2 ^ i) ∙ sym (zero-add (2 ^ i))))
    ∙ sym (cut n 0 (2 ^ i) (2 ^ i))
    ∙ ap (entries_from n 0) (sym (double i))

pub spanned_tables : (k count : ℕ) → spanned_from k count ≡ tables_from k count
unfolding spanned_from tables_from entries
spanned_tables k zero = refl
spanned_tables k (suc count) = ap₂ (λ (a b : List ℕ). a ++ b) (spanned_entries (8 * suc k) 8) (spanned_tables (suc k) count)
