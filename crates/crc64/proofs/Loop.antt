-- One turn of the loop over a lent table, and its end. Assumes nothing.
use mathlib.Core.Path.{◌≡◌, sym, ap, ap₂, ◌∙◌}
use mathlib.Core.List.{List}
use Prim.Native.Nat.{ℕ, ◌+◌, ◌/◌, ◌≤◌, ◌<◌}
use native.Mathlib.Numerals.{add-one}
use lib.ListN.{length, get_or, drop, drop_of_length-le}
use lib.Seq.{drop-cons}
use lib.Bits.{bit_xor, bit_and, and_mask, mask_lt}
use Rattle.crc64.specs.Table.{turn, fold_over}

-- what the code does with a byte
abbrev pub turned : List ℕ → ℕ → ℕ → ℕ
turned t r b = bit_xor (get_or t (bit_and (bit_xor r b) 255) 0) (r / 256)

pub index_lt : (r b : ℕ) → bit_and (bit_xor r b) 255 < 256
index_lt r b = mask_lt (bit_xor r b) 8

turned_is : (t : List ℕ) (r b : ℕ) → turned t r b ≡ turn t r b
unfolding turn
turned_is t r b = ap (λ (i : ℕ). bit_xor (get_or t i 0) (r / 256)) (and_mask (bit_xor r b) 8)

pub again : (t : List ℕ) (r : ℕ) (s : List ℕ) (i : ℕ) {z : ℕ} → i < length s → fold_over t r (drop i s) ≡ z → fold_over t (turned t r (get_or s i 0)) (drop (i + 1) s) ≡ z
unfolding fold_over
again t r s i h e =
    ap₂ (λ (x : ℕ) (n : ℕ). fold_over t x (drop n s)) (turned_is t r (get_or s i 0)) (add-one i)
    ∙ ap (fold_over t r) (sym (drop-cons s i 0 h)) ∙ e

pub ended : (t : List ℕ) (r : ℕ) (s : List ℕ) (i : ℕ) {z : ℕ} → length s ≤ i → fold_over t r (drop i s) ≡ z → r ≡ z
unfolding fold_over
ended t r s i h e = ap (fold_over t r) (sym (drop_of_length-le s h)) ∙ e
