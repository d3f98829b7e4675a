-- The loop over whole words: no bytes at all, how it starts, one turn of it and its end; and the engine by value. Assumes nothing.
use mathlib.Core.Path.{◌≡◌, refl, sym, ap, ap₂, ◌∙◌, subst}
use mathlib.Core.List.{List, [], ◌∷◌}
use Prim.Native.Nat.{ℕ, ◌+◌, ◌-◌, ◌*◌, ◌/◌, ◌%◌, ◌^◌, ◌≤◌, ◌<◌}
use native.Mathlib.Nat.{add-zero, mul-one, suc-ne-zero, lt_of_le_of_lt, div-le_self, mod-eq_of_lt, div-eq_of_lt}
use native.Mathlib.Omega.{arith}
use lib.ListN.{length, take, drop, length-drop, take-append-drop, drop_of_length-le}
use lib.Seq.{drop-drop}
use lib.Pow.{shr-shr}
use lib.Bits.{bit_xor, xor_lt}
use Rattle.words.specs.Word.{word, Bytes}
use Rattle.words.proofs.WordLaws.{word_drop, word_lt}
use Rattle.crc64.specs.Polynomial.{steps, fold}
use Rattle.crc64.specs.Table.{swapped}
use Rattle.crc64.proofs.Register.{steps_lt}
use Rattle.crc64.proofs.Folding.{fold_append, fold_lt}
use Rattle.crc64.proofs.Burst.{bytes_drop}
use Rattle.crc64.proofs.Swap.{swapped_xor, swapped_lt, swapped_twice}
use Rattle.crc64_fast.proofs.Stretch.{after, stretch}

pub nothing : (q : ℕ) (s : List ℕ) → length s ≡ 0 → q < 2 ^ 64 → q ≡ swapped 8 (fold (swapped 8 q) s)
unfolding fold
nothing q [] e hq = sym (swapped_twice 8 q hq)
nothing q (b ∷ s) e hq = absurd (suc-ne-zero _ e)

-- n bytes and what follows them
joined : (n r : ℕ) (s : List ℕ) → fold (fold r (take n s)) (drop n s) ≡ fold r s
joined n r s = sym (fold_append r (take n s) (drop n s)) ∙ ap (fold r) (take-append-drop n s)

-- the first stretch is one byte and `more`
pub start : (q : ℕ) (s : List ℕ) (more : ℕ) {w : ℕ} → w ≡ word 8 s 0 → q < 2 ^ 64 → Bytes s → more < 8 → more + 1 ≤ length s
    → fold (after (bit_xor q w * 2 ^ (56 - 8 * more) % 2 ^ 64) (q / 2 ^ 8 / 2 ^ (8 * more))) (drop (more + 1) s) ≡ fold (swapped 8 q) s
start q s more known hq hs few there =
    let free : more + 1 + (7 - more) ≡ 8 = omega arith in
    let up : 56 - 8 * more ≡ 8 * (7 - more) = omega arith in
    let down : 8 + 8 * more ≡ 8 * (more + 1) = omega arith in
    ap₂ (λ (x kept : ℕ). fold (after x kept) (drop (more + 1) s))
    (ap₂ (λ (v e : ℕ). bit_xor q v * 2 ^ e % 2 ^ 64) known up)
    (shr-shr q 8 (8 * more) ∙ ap (λ (e : ℕ). q / 2 ^ e) down)
    ∙ ap (λ (r : ℕ). fold r (drop (more + 1) s)) (stretch (more + 1) (7 - more) q s free hq hs there)
    ∙ joined (more + 1) (swapped 8 q) s

pub kept_lt : (q a b : ℕ) → q < 2 ^ 64 → q / a / b < 2 ^ 64
kept_lt q a b h = lt_of_le_of_lt (div-le_self (q / a) b) (lt_of_le_of_lt (div-le_self q a) h)

-- whole words are left behind the first stretch, and behind each word; where they are fewer than one, none
pub first_there : (n : ℕ) → (n ≡ 0 → ⊥) → (n - 1) % 8 + 1 ≤ n
first_there n some = omega (arith, some)

pub first_whole : (n : ℕ) → (n ≡ 0 → ⊥) → (n - ((n - 1) % 8 + 1)) % 8 ≡ 0
first_whole n some = omega (arith, some)

pub next_whole : (n i : ℕ) → 8 ≤ n - i → (n - i) % 8 ≡ 0 → (n - (i + 8)) % 8 ≡ 0
next_whole n i h e = omega arith

pub none_left : (n i : ℕ) → n - i < 8 → (n - i) % 8 ≡ 0 → n ≤ i
none_left n i h e = omega arith

-- one turn; y is what the 64 steps gave
module _ (s : List ℕ) (i x kept : ℕ) {y z : ℕ} (near : y ≡ swapped 8 (steps 64 (swapped 8 x))) (narrow : kept < 2 ^ 64)
    (comes : fold (after x kept) (drop i s) ≡ z) where
  abbrev folded : ℕ
  folded = bit_xor y kept

  folded_lt : folded < 2 ^ 64
  folded_lt = xor_lt 64 y kept (subst (λ (v : ℕ). v < 2 ^ 64) (sym near) (swapped_lt 8 (steps 64 (swapped 8 x)))) narrow

  held : swapped 8 folded ≡ after x kept
  held =
      swapped_xor 8 y kept
      ∙ ap (λ (v : ℕ). bit_xor v (swapped 8 kept)) (ap (swapped 8) near ∙ swapped_twice 8 (steps 64 (swapped 8 x)) (steps_lt 64 (swapped 8 x) (swapped_lt 8 x)))

  pub again : {w : ℕ} → w ≡ word 8 s i → Bytes s → 8 ≤ length s - i → fold (after (bit_xor folded w) 0) (drop (i + 8) s) ≡ z
  again {w} known hs h =
      let u : List ℕ = drop i s in
      let bytes : Bytes u = bytes_drop i s hs in
      let there : 8 ≤ length u = omega (arith, length-drop i s) in
      let v : ℕ = word 8 u 0 in
      let loaded : w ≡ v = known ∙ ap (word 8 s) (sym (add-zero i)) ∙ sym (word_drop 8 i s 0) in
      let unmoved : bit_xor folded v * 1 % 2 ^ 64 ≡ bit_xor folded v =
      ap (λ (n : ℕ). n % 2 ^ 64) (mul-one (bit_xor folded v)) ∙ mod-eq_of_lt (xor_lt 64 folded v folded_lt (word_lt 8 u 0 bytes)) in
      ap₂ (λ (a b : ℕ). fold (after a b) (drop (i + 8) s)) (ap (λ (n : ℕ). bit_xor folded n) loaded ∙ sym unmoved) (sym (div-eq_of_lt folded_lt))
      ∙ ap₂ fold (stretch 8 0 folded u refl folded_lt bytes there) (sym (drop-drop 8 i s))
      ∙ joined 8 (swapped 8 folded) u
      ∙ ap (λ (r : ℕ). fold r u) held
      ∙ comes

  pub ended : length s ≤ i → folded ≡ swapped 8 z
  unfolding fold
  ended h =
      sym (swapped_twice 8 folded folded_lt)
      ∙ ap (swapped 8) (held ∙ ap (fold (after x kept)) (sym (drop_of_length-le s h)) ∙ comes)

pub by_value : (r : ℕ) (s : List ℕ) {x y z : ℕ} → x ≡ swapped 8 r → y ≡ swapped 8 (fold (swapped 8 x) s) → z ≡ swapped 8 y → r < 2 ^ 64 → z ≡ fold r s
by_value r s held e back hr =
    back
    ∙ ap (swapped 8) e
    ∙ swapped_twice 8 (fold (swapped 8 _) s) (fold_lt (swapped 8 _) s (swapped_lt 8 _))
    ∙ ap (λ (x : ℕ). fold x s) (ap (swapped 8) held ∙ swapped_twice 8 r hr)
