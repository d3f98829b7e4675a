-- The table's rule at each entry, and that the fold over the true table is the polynomial's. Assumes nothing.
use mathlib.Core.Path.{◌≡◌, refl, sym, ap, ap₂, ◌∙◌}
use mathlib.Core.List.{List, [], ◌∷◌}
use Prim.Native.Nat.{ℕ, zero, suc, ◌+◌, ◌*◌, ◌/◌, ◌%◌, ◌^◌, ◌<◌}
use native.Mathlib.Nat.{add-zero, zero-add, add-suc, suc-add, le_of_suc-le-suc, not-suc-le-zero, mod-lt, mod-eq_of_lt}
use lib.Dec.{lit<}
use lib.ListN.{get_or}
use lib.Arith.{digits_div, digits_mod}
use lib.Pow.{shl_lt, shr_lt, split}
use lib.Bits.{bit_xor, xor_mod, xor_lt, xor_comm, xor_shifted}
use Rattle.words.specs.Word.{Bytes}
use Rattle.crc64.specs.Polynomial.{steps, fold_byte, fold}
use Rattle.crc64.specs.Table.{swapped, entry, entries_from, entries, turn, fold_over}
use Rattle.crc64.proofs.Xor.{xor_assoc, xor_shl}
use Rattle.crc64.proofs.Register.{steps_xor, steps_shift}
use Rattle.crc64.proofs.Folding.{byte_lt, fold_lt, tail_bytes}
use Rattle.crc64.proofs.Swap.{swapped_xor, swapped_top, swapped_twice, swapped_shifted, swapped_lt}

entries_from_at : (n from count k : ℕ) → k < count → get_or (entries_from n from count) k 0 ≡ entry n (from + k)
unfolding entries_from
entries_from_at n from zero k h = absurd (not-suc-le-zero h)
entries_from_at n from (suc count) zero h = ap (entry n) (sym (add-zero from))
entries_from_at n from (suc count) (suc k) h =
    entries_from_at n (suc from) count k (le_of_suc-le-suc h) ∙ ap (entry n) (suc-add from k ∙ sym (add-suc from k))

-- the rule, over the number of steps
pub entries_at : (n k : ℕ) → k < 256 → get_or (entries n) k 0 ≡ entry n k
unfolding entries
entries_at n k h = entries_from_at n 0 256 k h ∙ ap (entry n) (zero-add k)

-- one byte; h is the register's highest byte, l the rest
module _ (r b : ℕ) (hr : r < 2 ^ 64) (hb : b < 256) where
  h : ℕ
  h = r / 2 ^ 56

  l : ℕ
  l = r % 2 ^ 56

  h_lt : h < 256
  unfolding h
  h_lt = shr_lt 8 56 hr

  l_lt : l < 2 ^ 56
  unfolding l
  l_lt = mod-lt r (lit< tt)

  joined : h * 2 ^ 56 + l ≡ r
  unfolding h l
  joined = split r 56

  swapped_whole : swapped 8 r ≡ swapped 7 l * 256 + h
  swapped_whole = ap (swapped 8) (sym joined) ∙ swapped_top 7 h l h_lt l_lt

  low : swapped 8 r % 256 ≡ h
  low = ap (λ (x : ℕ). x % 256) swapped_whole ∙ digits_mod (swapped 7 l) h_lt

  index : bit_xor (swapped 8 r) b % 256 ≡ bit_xor b h
  index = xor_mod (swapped 8 r) b 8 ∙ ap₂ bit_xor low (mod-eq_of_lt hb) ∙ xor_comm h b

  rest : swapped 8 r / 256 ≡ swapped 7 l
  rest = ap (λ (x : ℕ). x / 256) swapped_whole ∙ digits_div (swapped 7 l) h_lt

  turned : turn (entries 8) (swapped 8 r) b ≡ bit_xor (entry 8 (bit_xor b h)) (swapped 7 l)
  unfolding turn
  turned = ap₂ (λ (i x : ℕ). bit_xor (get_or (entries 8) i 0) x) index rest ∙ ap (λ (x : ℕ). bit_xor x (swapped 7 l)) (entries_at 8 (bit_xor b h) (xor_lt 8 b h hb h_lt))

  entered : bit_xor (b * 2 ^ 56) r ≡ bit_xor (bit_xor b h * 2 ^ 56) l
  entered =
      ap (λ (x : ℕ). bit_xor (b * 2 ^ 56) x) (sym joined ∙ sym (xor_shifted h 56 l l_lt))
      ∙ sym (xor_assoc (b * 2 ^ 56) (h * 2 ^ 56) l)
      ∙ ap (λ (x : ℕ). bit_xor x l) (sym (xor_shl 56 b h))

  folded : fold_byte r b ≡ bit_xor (steps 8 (bit_xor b h * 2 ^ 56)) (l * 256)
  unfolding fold_byte
  folded =
      ap (steps 8) entered
      ∙ steps_xor 8 (bit_xor b h * 2 ^ 56) l
      ∙ ap (λ (x : ℕ). bit_xor (steps 8 (bit_xor b h * 2 ^ 56)) x) (steps_shift 8 l (shl_lt 56 8 l_lt))

  pub turn_true : turn (entries 8) (swapped 8 r) b ≡ swapped 8 (fold_byte r b)
  unfolding entry
  turn_true =
      turned
      ∙ ap (λ (x : ℕ). bit_xor (entry 8 (bit_xor b h)) x) (sym (swapped_shifted 7 l))
      ∙ sym (swapped_xor 8 (steps 8 (bit_xor b h * 2 ^ 56)) (l * 256))
      ∙ ap (swapped 8) (sym folded)

-- the fold over the true table, with the register byte-swapped, is the polynomial's
pub fold_over_true : (r : ℕ) (bs : List ℕ) → r < 2 ^ 64 → Bytes bs → fold_over (entries 8) (swapped 8 r) bs ≡ swapped 8 (fold r bs)
unfolding fold fold_over
fold_over_true r [] hr hs = refl
fold_over_true r (b ∷ bs) hr hs =
    ap (λ (x : ℕ). fold_over (entries 8) x bs) (turn_true r b hr (hs 0))
    ∙ fold_over_true (fold_byte r b) bs (byte_lt r b) (tail_bytes b bs hs)

-- the same from a register that is held byte-swapped
pub fold_over_held : (r : ℕ) (bs : List ℕ) → r < 2 ^ 64 → Bytes bs → fold_over (entries 8) r bs ≡ swapped 8 (fold (swapped 8 r) bs)
fold_over_held r bs hr hs =
    ap (λ (x : ℕ). fold_over (entries 8) x bs) (sym (swapped_twice 8 r hr))
    ∙ fold_over_true (swapped 8 r) bs (swapped_lt 8 r) hs

-- the same for a caller that bound the table once
pub fold_over_is : {t : List ℕ} {z : ℕ} (r : ℕ) (bs : List ℕ) → t ≡ entries 8 → z ≡ fold_over t r bs → r < 2 ^ 64 → Bytes bs → z ≡ swapped 8 (fold (swapped 8 r) bs)
fold_over_is r bs known e hr hs = e ∙ ap (λ (t : List ℕ). fold_over t r bs) known ∙ fold_over_held r bs hr hs

-- the same for a caller that takes and gives the register as it is: swapped, folded, swapped back
pub fold_is : {t : List ℕ} {x y z : ℕ} (r : ℕ) (bs : List ℕ)
    → t ≡ entries 8 → x ≡ swapped 8 r → y ≡ fold_over t x bs → z ≡ swapped 8 y → r < 2 ^ 64 → Bytes bs → z ≡ fold r bs
fold_is r bs known held e back hr hs =
    back
    ∙ ap (swapped 8) (e ∙ ap₂ (λ (t : List ℕ) (x : ℕ). fold_over t x bs) known held ∙ fold_over_true r bs hr hs)
    ∙ swapped_twice 8 (fold r bs) (fold_lt r bs hr)
