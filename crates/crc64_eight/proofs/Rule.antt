-- The rule of the tables at each entry, from the tables laid one behind the other. Assumes nothing.
use mathlib.Core.Path.{◌≡◌, refl, sym, ap, ap₂, ◌∙◌}
use mathlib.Core.List.{List, [], ◌∷◌, ◌++◌}
use Prim.Native.Nat.{ℕ, zero, suc, ◌+◌, ◌*◌, ◌^◌, ◌<◌}
use native.Mathlib.Nat.{add-zero, add_comm, add-suc, suc-add, mul-suc, zero-add, not-suc-le-zero, le_of_suc-le-suc}
use native.Mathlib.Omega.{arith}
use lib.ListN.{length, get_or, replicate, length-append, get_or-append}
use lib.Seq.{get_or-append-add}
use lib.Bits.{bit_xor, xor_zero_r}
use Rattle.crc64.specs.Polynomial.{step, steps, fold_byte, fold}
use Rattle.crc64.specs.Table.{swapped, entry, entries_from, entries}
use Rattle.crc64.proofs.Register.{steps_add}
use Rattle.crc64.proofs.Entries.{entries_at}
use Rattle.crc64_eight.specs.Statement.{TablesIs}

-- ---- the tables, one behind the other

-- `count` tables, from that of the byte with k bytes behind it on
unfoldable pub tables_from : ℕ → ℕ → List ℕ
tables_from k zero = []
tables_from k (suc count) = entries (8 * suc k) ++ tables_from (suc k) count

-- ---- the rule, over the byte and how many bytes stand behind it

length_entries_from : (n from count : ℕ) → length (entries_from n from count) ≡ count
unfolding entries_from
length_entries_from n from zero = refl
length_entries_from n from (suc count) = ap suc (length_entries_from n (suc from) count)

pub length_entries : (n : ℕ) → length (entries n) ≡ 256
unfolding entries
length_entries n = length_entries_from n 0 256

pub tables_from_at : (k count j b : ℕ) → j < count → b < 256 → get_or (tables_from k count) (256 * j + b) 0 ≡ entry (8 * suc (k + j)) b
unfolding tables_from
tables_from_at k zero j b hj hb = absurd (not-suc-le-zero hj)
tables_from_at k (suc count) zero b hj hb =
    ap (λ (n : ℕ). get_or (entries (8 * suc k) ++ tables_from (suc k) count) n 0) (zero-add b)
    ∙ get_or-append (entries (8 * suc k)) (tables_from (suc k) count) 0 b (omega (arith, length_entries (8 * suc k)))
    ∙ entries_at (8 * suc k) b hb
    ∙ ap (λ (n : ℕ). entry (8 * suc n) b) (sym (add-zero k))
tables_from_at k (suc count) (suc j) b hj hb =
    let there : 256 * suc j + b ≡ length (entries (8 * suc k)) + (256 * j + b) = omega (arith, length_entries (8 * suc k)) in
    ap (λ (n : ℕ). get_or (entries (8 * suc k) ++ tables_from (suc k) count) n 0) there
    ∙ get_or-append-add (entries (8 * suc k)) (tables_from (suc k) count) (256 * j + b) 0
    ∙ tables_from_at (suc k) count j b (le_of_suc-le-suc hj) hb
    ∙ ap (λ (n : ℕ). entry (8 * suc n) b) (suc-add k j ∙ sym (add-suc k j))

-- ---- the rule, as it is stated: k zero bytes are 8k steps

pub steps_zero : (n : ℕ) → steps n 0 ≡ 0
unfolding steps step
steps_zero zero = refl
steps_zero (suc n) = steps_zero n

fold_zeros : (k r : ℕ) → fold r (replicate k 0) ≡ steps (8 * k) r
unfolding fold fold_byte steps
fold_zeros zero r = refl
fold_zeros (suc k) r =
    fold_zeros k (steps 8 r) ∙ sym (steps_add 8 (8 * k) r) ∙ ap (λ (n : ℕ). steps n r) (add_comm 8 (8 * k) ∙ sym (mul-suc 8 k))

pub behind : (k b : ℕ) → entry (8 * suc k) b ≡ swapped 8 (fold 0 (b ∷ replicate k 0))
unfolding entry fold fold_byte
behind k b =
    ap (swapped 8)
    (ap (λ (n : ℕ). steps n (b * 2 ^ 56)) (mul-suc 8 k ∙ add_comm (8 * k) 8)
    ∙ steps_add 8 (8 * k) (b * 2 ^ 56)
    ∙ ap (λ (z : ℕ). steps (8 * k) (steps 8 z)) (sym (xor_zero_r (b * 2 ^ 56)))
    ∙ sym (fold_zeros k (steps 8 (bit_xor (b * 2 ^ 56) 0))))

length_tables : (k count : ℕ) → length (tables_from k count) ≡ 256 * count
unfolding tables_from
length_tables k zero = refl
length_tables k (suc count) =
    length-append (entries (8 * suc k)) (tables_from (suc k) count)
    ∙ ap₂ (λ (m n : ℕ). m + n) (length_entries (8 * suc k)) (length_tables (suc k) count)
    ∙ add_comm 256 (256 * count)
    ∙ sym (mul-suc 256 count)

pub follow_the_rule : {t : List ℕ} → t ≡ tables_from 0 8 → TablesIs t
follow_the_rule e = record {
  size = ap length e ∙ length_tables 0 8;
  rule = λ k b hk hb.
      ap (λ (u : List ℕ). get_or u (256 * k + b) 0) e
      ∙ tables_from_at 0 8 k b hk hb
      ∙ ap (λ (n : ℕ). entry (8 * suc n) b) (zero-add k)
      ∙ behind k b;
}
