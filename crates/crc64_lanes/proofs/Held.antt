-- The registers as the code holds them, byte-swapped: a word that is taken, and the end. Assumes nothing.
use mathlib.Core.Path.{◌≡◌, refl, sym, ap, ap₂, ◌∙◌}
use mathlib.Core.List.{List, [], ◌∷◌, ◌++◌}
use Prim.Native.Nat.{ℕ, zero, suc, ◌+◌, ◌-◌, ◌*◌, ◌/◌, ◌%◌, ◌^◌, ◌≤◌}
use native.Mathlib.Nat.{add-zero, le_of_eq}
use native.Mathlib.Omega.{arith}
use lib.ListN.{length, take, drop, replicate, length-drop}
use lib.Seq.{take_all, drop-drop}
use lib.Bits.{bit_xor, xor_comm, xor_zero_r}
use borrow.Rule.Slice.PartMut.{mid_of, put_mid}
use Rattle.words.specs.Word.{word, bytes_of, Bytes}
use Rattle.words.specs.Buffer.{fitted}
use Rattle.words.proofs.WordLaws.{word_drop, length_bytes_of, bytes_bytes_of}
use Rattle.crc64.specs.Polynomial.{steps, fold}
use Rattle.crc64.specs.Table.{swapped}
use Rattle.crc64.proofs.Register.{steps_lt}
use Rattle.crc64.proofs.Swap.{swapped_xor, swapped_lt, swapped_twice}
use Rattle.crc64.proofs.Xor.{xor_assoc}
use Rattle.crc64.proofs.Digits.{spelled}
use Rattle.crc64.proofs.Folding.{big_endian, fold_lt, fold_append}
use Rattle.crc64.proofs.Burst.{bytes_drop}
use Rattle.crc64_eight.proofs.Words.{swapped_word}
use Rattle.crc64_fast.specs.Statement.{FoldHeldIs}
use Rattle.crc64_far.specs.Statement.{FarIs}
use Rattle.crc64_lanes.specs.Stages.{entering}
use Rattle.crc64_lanes.proofs.Queue.{front, last_three}

-- the word at i, turned round
word_spelt : (s : List ℕ) (i : ℕ) {w : ℕ} → Bytes s → i + 8 ≤ length s → w ≡ word 8 s i → swapped 8 w ≡ big_endian (take 8 (drop i s))
word_spelt s i hs h known =
    ap (swapped 8) (known ∙ ap (word 8 s) (sym (add-zero i)) ∙ sym (word_drop 8 i s 0))
    ∙ swapped_word 8 (drop i s) (bytes_drop i s hs) (omega (arith, length-drop i s))

-- a register that takes the word at i
pub taken : (r : ℕ) (s : List ℕ) (i : ℕ) {w x : ℕ} → Bytes s → i + 8 ≤ length s → w ≡ word 8 s i → FarIs (bit_xor r w) x
    → swapped 8 x ≡ steps 256 (bit_xor (big_endian (take 8 (drop i s))) (swapped 8 r))
taken r s i {w} hs h known far =
    let v : ℕ = swapped 8 (bit_xor r w) in
    ap (swapped 8) far
    ∙ swapped_twice 8 (steps 256 v) (steps_lt 256 v (swapped_lt 8 (bit_xor r w)))
    ∙ ap (steps 256) (swapped_xor 8 r w ∙ ap (λ (z : ℕ). bit_xor (swapped 8 r) z) (word_spelt s i hs h known) ∙ xor_comm (swapped 8 r) (big_endian (take 8 (drop i s))))

-- ---- the end

-- a register that is folded on, turned back
back : (r : ℕ) (s : List ℕ) {x v : ℕ} → swapped 8 r ≡ v → FoldHeldIs r s x → swapped 8 x ≡ fold v s
back r s was folded =
    ap (swapped 8) folded
    ∙ swapped_twice 8 (fold (swapped 8 r) s) (fold_lt (swapped 8 r) s (swapped_lt 8 r))
    ∙ ap (λ (z : ℕ). fold z s) was

-- the one that waited is xored in before the rest
beside : (r q : ℕ) {v : ℕ} → swapped 8 r ≡ v → swapped 8 (bit_xor r q) ≡ bit_xor v (swapped 8 q)
beside r q was = swapped_xor 8 r q ∙ ap (λ (z : ℕ). bit_xor z (swapped 8 q)) was

-- a number's bytes spell it turned round
spelt : (k x : ℕ) → big_endian (bytes_of k x) ≡ swapped k x
unfolding bytes_of swapped spelled
spelt zero x = refl
spelt (suc k) x = ap₂ (λ (n y : ℕ). x % 256 * 2 ^ (8 * n) + y) (length_bytes_of k (x / 256)) (spelt k (x / 256))

-- a register that waited, xored into its word's bytes
enters : (r q : ℕ) (s : List ℕ) (i : ℕ) {w : ℕ} → Bytes s → i + 8 ≤ length s → w ≡ word 8 s i
    → fold r (bytes_of 8 (bit_xor q w)) ≡ fold (bit_xor r (swapped 8 q)) (take 8 (drop i s))
unfolding bytes_of
enters r q s i {w} hs h known =
    let e : ℕ = big_endian (take 8 (drop i s)) in
    front r (bytes_of 8 (bit_xor q w)) (bytes_bytes_of 8 (bit_xor q w)) (omega (arith, length_bytes_of 8 (bit_xor q w)))
    ∙ ap (λ (z : ℕ). steps 64 (bit_xor z r)) (spelt 8 (bit_xor q w) ∙ swapped_xor 8 q w ∙ ap (bit_xor (swapped 8 q)) (word_spelt s i hs h known))
    ∙ ap (steps 64) (ap (λ (z : ℕ). bit_xor z r) (xor_comm (swapped 8 q) e) ∙ xor_assoc e (swapped 8 q) r ∙ ap (bit_xor e) (xor_comm (swapped 8 q) r))
    ∙ sym (front (bit_xor r (swapped 8 q)) (drop i s) (bytes_drop i s hs) (omega (arith, length-drop i s)))

-- three words, each with the register that waited for it, and the rest
module _ (s : List ℕ) (i : ℕ) where
  rest_part : take (length s - (i + 24)) (drop (i + 24) s) ≡ drop 24 (drop i s)
  rest_part = take_all (length s - (i + 24)) (drop (i + 24) s) (le_of_eq (length-drop (i + 24) s)) ∙ sym (drop-drop 24 i s)

  pub ended : (a b c d : ℕ) {ws : List ℕ} {w₁ w₂ w₃ x y : ℕ} → Bytes s → i + 24 ≤ length s
      → w₁ ≡ word 8 s i → w₂ ≡ word 8 s (i + 8) → w₃ ≡ word 8 s (i + 16)
      → ws ≡ bytes_of 8 (bit_xor a w₁) ++ (bytes_of 8 (bit_xor b w₂) ++ bytes_of 8 (bit_xor c w₃))
      → FoldHeldIs 0 ws x
      → FoldHeldIs (bit_xor x d) (take (length s - (i + 24)) (drop (i + 24) s)) y
      → y ≡ swapped 8 (entering 0 (swapped 8 a ∷ swapped 8 b ∷ swapped 8 c ∷ swapped 8 d ∷ []) (drop i s))
  unfolding swapped
  ended a b c d {ws} {w₁} {w₂} {w₃} {x} hs h k₁ k₂ k₃ laid e₃ e =
      let t : List ℕ = drop i s in
      let v₁ : ℕ = fold (swapped 8 a) (take 8 t) in
      let v₂ : ℕ = fold (bit_xor v₁ (swapped 8 b)) (take 8 (drop 8 t)) in
      let v₃ : ℕ = fold (bit_xor v₂ (swapped 8 c)) (take 8 (drop 16 t)) in
      let s₁ : fold 0 (bytes_of 8 (bit_xor a w₁)) ≡ v₁ =
      enters 0 a s i hs (omega arith) k₁ ∙ ap (λ (z : ℕ). fold z (take 8 t)) (xor_comm 0 (swapped 8 a) ∙ xor_zero_r (swapped 8 a)) in
      let s₂ : fold v₁ (bytes_of 8 (bit_xor b w₂)) ≡ v₂ =
      enters v₁ b s (i + 8) hs (omega arith) k₂ ∙ ap (λ (u : List ℕ). fold (bit_xor v₁ (swapped 8 b)) (take 8 u)) (sym (drop-drop 8 i s)) in
      let s₃ : fold v₂ (bytes_of 8 (bit_xor c w₃)) ≡ v₃ =
      enters v₂ c s (i + 16) hs (omega arith) k₃ ∙ ap (λ (u : List ℕ). fold (bit_xor v₂ (swapped 8 c)) (take 8 u)) (sym (drop-drop 16 i s)) in
      let three : swapped 8 x ≡ v₃ =
      back 0 ws refl e₃
      ∙ ap (fold 0) laid
      ∙ fold_append 0 (bytes_of 8 (bit_xor a w₁)) (bytes_of 8 (bit_xor b w₂) ++ bytes_of 8 (bit_xor c w₃))
      ∙ ap (λ (z : ℕ). fold z (bytes_of 8 (bit_xor b w₂) ++ bytes_of 8 (bit_xor c w₃))) s₁
      ∙ fold_append v₁ (bytes_of 8 (bit_xor b w₂)) (bytes_of 8 (bit_xor c w₃))
      ∙ ap (λ (z : ℕ). fold z (bytes_of 8 (bit_xor c w₃))) s₂
      ∙ s₃ in
      e
      ∙ ap₂ (λ (z : ℕ) (u : List ℕ). swapped 8 (fold z u)) (beside x d three) rest_part
      ∙ ap (swapped 8) (sym (last_three (swapped 8 a) (swapped 8 b) (swapped 8 c) (swapped 8 d) t))

-- three words laid one behind the other into a blank of 24 bytes
abbrev blank : List ℕ
blank = replicate 24 0

module _ (x : ℕ) {l₀ : List ℕ} (e₀ : l₀ ≡ fitted (bytes_of 8 x) (mid_of 0 8 blank)) where
  one_laid : put_mid 0 8 blank l₀ ≡ bytes_of 8 x ++ replicate 16 0
  unfolding bytes_of fitted
  one_laid = ap (put_mid 0 8 blank) e₀

  pub one_length : length (put_mid 0 8 blank l₀) ≡ 24
  unfolding bytes_of
  one_length = ap length one_laid

  module _ (y : ℕ) {l₁ : List ℕ} (e₁ : l₁ ≡ fitted (bytes_of 8 y) (mid_of 8 8 (put_mid 0 8 blank l₀))) where
    two_laid : put_mid 8 8 (put_mid 0 8 blank l₀) l₁ ≡ bytes_of 8 x ++ (bytes_of 8 y ++ replicate 8 0)
    unfolding bytes_of fitted
    two_laid =
        ap (put_mid 8 8 (put_mid 0 8 blank l₀)) e₁
        ∙ ap (λ (u : List ℕ). put_mid 8 8 u (fitted (bytes_of 8 y) (mid_of 8 8 u))) one_laid

    pub two_length : length (put_mid 8 8 (put_mid 0 8 blank l₀) l₁) ≡ 24
    unfolding bytes_of
    two_length = ap length two_laid

    module _ (z : ℕ) {l₂ : List ℕ} (e₂ : l₂ ≡ fitted (bytes_of 8 z) (mid_of 16 8 (put_mid 8 8 (put_mid 0 8 blank l₀) l₁))) where
      pub three_laid : put_mid 16 8 (put_mid 8 8 (put_mid 0 8 blank l₀) l₁) l₂ ≡ bytes_of 8 x ++ (bytes_of 8 y ++ bytes_of 8 z)
      unfolding bytes_of fitted
      three_laid =
          ap (put_mid 16 8 (put_mid 8 8 (put_mid 0 8 blank l₀) l₁)) e₂
          ∙ ap (λ (u : List ℕ). put_mid 16 8 u (fitted (bytes_of 8 z) (mid_of 16 8 u))) two_laid

      pub three_length : length (put_mid 16 8 (put_mid 8 8 (put_mid 0 8 blank l₀) l₁) l₂) ≡ 24
      unfolding bytes_of
      three_length = ap length three_laid
