-- Many bytes leave; and the register enters as bytes that left. Assumes nothing.
use mathlib.Core.Path.{◌≡◌, refl, sym, ap, ap₂, ◌∙◌, subst}
use mathlib.Core.List.{List, [], ◌∷◌, ◌++◌}
use Prim.Native.Nat.{ℕ, zero, suc, ◌+◌, ◌-◌, ◌*◌, ◌^◌, ◌%◌, ◌≤◌, ◌<◌}
use native.Mathlib.Nat.{suc-ne-zero, mod-eq_of_lt, mul-suc, add_comm, mul-one, sub-zero}
use native.Mathlib.Numerals.{add-one}
use native.Mathlib.Omega.{arith}
use lib.Dec.{lit<}
use lib.ListN.{length, take, drop, get_or, length-drop}
use lib.Seq.{drop-cons, drop-drop, take_all}
use lib.Bits.{bit_xor, xor_comm, xor_zero_r}
use Rattle.words.specs.Word.{bytes_of, Bytes}
use Rattle.words.proofs.WordLaws.{word_bytes_of, length_bytes_of, bytes_bytes_of}
use Rattle.crc64.specs.Polynomial.{step, steps, fold_byte, fold}
use Rattle.crc64.specs.Table.{swapped}
use Rattle.crc64.proofs.Register.{steps_add}
use Rattle.crc64.proofs.Folding.{big_endian, fold_append, fold_apart, at_once}
use Rattle.crc64.proofs.Swap.{swapped_lt, swapped_twice}
use Rattle.crc64_eight.proofs.Words.{swapped_word}
use Rattle.crc64_combine.proofs.Ring.{steps_zero}
use Rattle.crc64_sparse.specs.Stages.{span, places, xor_front, owed, leaving, filled, zeros, opened}
use Rattle.crc64_sparse.proofs.Leave.{leaves, drop_last, length_last, paid, fold_owed}

-- ---- many bytes

leaves_one : (h : List ℕ) (b : ℕ) (s : List ℕ) → length h ≡ span → span ≤ length s
    → fold 0 (owed places h (b ∷ s)) ≡ fold 0 (owed places (drop 1 (h ++ (leaving places h b ∷ []))) s)
leaves_one [] b s full room = absurd (omega arith)
leaves_one (y ∷ h) b s full room = leaves y h b s full room

pub length_filled : (k : ℕ) (h s : List ℕ) → length (filled k h s) ≡ k + length h
unfolding filled
length_filled zero h s = omega arith
length_filled (suc k) h s = length_last _ (filled k h s) ∙ omega (arith, length_filled k h s)

pub left : (k : ℕ) (h s : List ℕ) → length h ≡ span → k + span ≤ length s
    → fold 0 (owed places h s) ≡ fold 0 (owed places (drop k (filled k h s)) (drop k s))
unfolding filled
left zero h s full room = refl
left (suc k) h s full room =
    let f : List ℕ = filled k h s in
    let x : ℕ = leaving places (drop k f) (get_or s k 0) in
    let next : drop 1 (drop k f ++ (x ∷ [])) ≡ drop (suc k) (f ++ (x ∷ [])) =
    ap (drop 1) (sym (drop_last k x f (omega (arith, length_filled k h s)))) ∙ drop-drop 1 k (f ++ (x ∷ [])) ∙ ap (λ (n : ℕ). drop n (f ++ (x ∷ []))) (add-one k) in
    left k h s full (omega arith)
    ∙ ap (λ (t : List ℕ). fold 0 (owed places (drop k f) t)) (drop-cons s k 0 (omega arith))
    ∙ leaves_one (drop k f) (get_or s k 0) (drop (suc k) s) (omega (arith, length-drop k f, length_filled k h s)) (omega (arith, length-drop (suc k) s))
    ∙ ap (λ (t : List ℕ). fold 0 (owed places t (drop (suc k) s))) next

-- ---- the register

fold_zeros : (n r : ℕ) → fold r (zeros n) ≡ steps (8 * n) r
unfolding fold fold_byte zeros steps
fold_zeros zero r = refl
fold_zeros (suc n) r = fold_zeros n (steps 8 r) ∙ sym (steps_add 8 (8 * n) r) ∙ ap (λ (k : ℕ). steps k r) (add_comm 8 (8 * n) ∙ sym (mul-suc 8 n))

none : (n m : ℕ) → steps m (fold 0 (zeros n)) ≡ 0
none n m = ap (steps m) (fold_zeros n 0 ∙ steps_zero (8 * n)) ∙ steps_zero m

register_spelt : (r : ℕ) → r < 2 ^ 64 → big_endian (bytes_of 8 (swapped 8 r)) ≡ r
unfolding bytes_of
register_spelt r hr =
    let x : ℕ = swapped 8 r in
    sym (swapped_word 8 (bytes_of 8 x) (bytes_bytes_of 8 x) (omega (arith, length_bytes_of 8 x)))
    ∙ ap (swapped 8) (word_bytes_of 8 x [] ∙ mod-eq_of_lt (swapped_lt 8 r))
    ∙ swapped_twice 8 r hr

register_bytes : (r : ℕ) → r < 2 ^ 64 → fold 0 (bytes_of 8 (swapped 8 r)) ≡ steps 64 r
register_bytes r hr =
    let b : List ℕ = bytes_of 8 (swapped 8 r) in
    at_once 0 0 b (ap (λ (n : ℕ). 8 * n + 0) (length_bytes_of 8 (swapped 8 r))) (bytes_bytes_of 8 (swapped 8 r))
    ∙ ap₂ (λ (n z : ℕ). steps (8 * n) (bit_xor z 0)) (length_bytes_of 8 (swapped 8 r)) (mul-one (big_endian b) ∙ register_spelt r hr)
    ∙ ap (steps 64) (xor_zero_r r)

whole : (r : ℕ) → r < 2 ^ 64 → fold 0 (opened r) ≡ steps (8 * span) r
unfolding opened
whole r hr =
    fold_append 0 (bytes_of 8 (swapped 8 r)) (zeros 1848)
    ∙ fold_zeros 1848 (fold 0 (bytes_of 8 (swapped 8 r)))
    ∙ ap (steps (8 * 1848)) (register_bytes r hr)
    ∙ sym (steps_add 64 (8 * 1848) r)

nothing : (e m n : ℕ) (es h : List ℕ) → drop e h ≡ zeros m → paid es h n ≡ 0 → paid (e ∷ es) h n ≡ 0
unfolding paid
nothing e m n es h empty rest =
    ap₂ (λ (t : List ℕ) (z : ℕ). bit_xor (steps (8 * (n - length t)) (fold 0 t)) z) empty rest
    ∙ ap (λ (z : ℕ). bit_xor z 0) (none m (8 * (n - length (zeros m))))

no_more : (h : List ℕ) (n : ℕ) → paid [] h n ≡ 0
unfolding paid
no_more h n = refl

-- the register owes nothing beyond the first place
only_first : (r n : ℕ) → paid (236 ∷ 256 ∷ 753 ∷ 1180 ∷ 1310 ∷ 1556 ∷ []) (opened r) n ≡ 0
unfolding opened bytes_of zeros
only_first r n =
    nothing 236 1620 n _ (opened r) refl (nothing 256 1600 n _ (opened r) refl (nothing 753 1103 n _ (opened r) refl
    (nothing 1180 676 n _ (opened r) refl (nothing 1310 546 n _ (opened r) refl (nothing 1556 300 n _ (opened r) refl (no_more (opened r) n))))))

length_opened : (r : ℕ) → length (opened r) ≡ span
unfolding opened bytes_of zeros
length_opened r = refl

pub enters : (r : ℕ) (s : List ℕ) → r < 2 ^ 64 → span ≤ length s → fold 0 (owed places (opened r) s) ≡ fold r s
unfolding paid
enters r s hr room =
    let n : ℕ = length s in
    fold_owed places (opened r) s (omega (arith, length_opened r))
    ∙ ap₂ (λ (m z : ℕ). bit_xor (bit_xor (steps (8 * (n - m)) (fold 0 (opened r))) z) (fold 0 s)) (length_opened r) (only_first r n)
    ∙ ap (λ (z : ℕ). bit_xor z (fold 0 s))
    (xor_zero_r (steps (8 * (n - span)) (fold 0 (opened r)))
    ∙ ap (steps (8 * (n - span))) (whole r hr)
    ∙ sym (steps_add (8 * span) (8 * (n - span)) r)
    ∙ counted (omega arith))
    ∙ xor_comm (steps (8 * n) r) (fold 0 s)
    ∙ sym (fold_apart r s)
  where
    counted : 8 * span + 8 * (length s - span) ≡ 8 * length s → steps (8 * span + 8 * (length s - span)) r ≡ steps (8 * length s) r
    counted e = ap (λ (k : ℕ). steps k r) e

-- the whole engine on lists: all but the last 1,856 bytes leave, and what they owe is paid there
pub sparse : (r : ℕ) (s : List ℕ) → r < 2 ^ 64 → span ≤ length s
    → fold 0 (owed places (drop (length s - span) (filled (length s - span) (opened r) s)) (drop (length s - span) s)) ≡ fold r s
sparse r s hr room = sym (left (length s - span) (opened r) s (length_opened r) (omega arith)) ∙ enters r s hr room
