-- One turn of the loop over words, and its end, over any tables. Assumes nothing.
use mathlib.Core.Path.{◌≡◌, sym, ap, ap₂, ◌∙◌}
use mathlib.Core.List.{List}
use Prim.Native.Nat.{ℕ, suc, ◌+◌, ◌-◌, ◌/◌, ◌≤◌, ◌<◌}
use native.Mathlib.Nat.{add-zero, sub-zero}
use native.Mathlib.Omega.{arith}
use lib.ListN.{length, drop}
use lib.Seq.{drop-drop}
use lib.Bits.{bit_xor}
use Rattle.words.specs.Word.{word}
use Rattle.words.proofs.WordLaws.{word_drop}
use Rattle.crc64_eight.specs.Lent.{looked, fold_words}

-- what is still to come, from i on
abbrev pub left : List ℕ → ℕ → List ℕ → ℕ → ℕ
left t r s i = fold_words t ((length s - i) / 8) r (drop i s)

pub start : (t : List ℕ) (r : ℕ) (s : List ℕ) → left t r s 0 ≡ fold_words t (length s / 8) r s
start t r s = ap (λ (n : ℕ). fold_words t (n / 8) r s) (sub-zero (length s))

one_word : (n i : ℕ) → 8 ≤ n - i → (n - i) / 8 ≡ suc ((n - (i + 8)) / 8)
one_word n i h = omega arith

pub again : (t : List ℕ) (r : ℕ) (s : List ℕ) (i : ℕ) {x w z : ℕ} → w ≡ word 8 s i → x ≡ looked t 7 (bit_xor r w) → 8 ≤ length s - i → left t r s i ≡ z → left t x s (i + 8) ≡ z
unfolding fold_words
again t r s i {x} {w} known looks h e =
    ap₂ (λ (y : ℕ) (u : List ℕ). fold_words t ((length s - (i + 8)) / 8) y u)
    (looks ∙ ap (λ (y : ℕ). looked t 7 (bit_xor r y)) (known ∙ ap (word 8 s) (sym (add-zero i)) ∙ sym (word_drop 8 i s 0)))
    (sym (drop-drop 8 i s))
    ∙ ap (λ (n : ℕ). fold_words t n r (drop i s)) (sym (one_word (length s) i h))
    ∙ e

few : (n i : ℕ) → n - i < 8 → (n - i) / 8 ≡ 0
few n i h = omega arith

pub ended : (t : List ℕ) (r : ℕ) (s : List ℕ) (i : ℕ) {z : ℕ} → length s - i < 8 → left t r s i ≡ z → r ≡ z
unfolding fold_words
ended t r s i h e = ap (λ (n : ℕ). fold_words t n r (drop i s)) (sym (few (length s) i h)) ∙ e
