-- A byte may leave in front: what is owed afterwards gives the same fold. Assumes nothing.
use mathlib.Core.Path.{◌≡◌, refl, sym, ap, ap₂, ◌∙◌, subst}
use mathlib.Core.List.{List, [], ◌∷◌, ◌++◌}
use Prim.Native.Nat.{ℕ, zero, suc, ◌+◌, ◌-◌, ◌*◌, ◌^◌, ◌≤◌, ◌<◌}
use native.Mathlib.Nat.{sub-zero, suc-sub-suc, not-suc-le-zero, le_of_suc-le-suc, suc_inj, suc-ne-zero}
use native.Mathlib.Numerals.{add-one}
use native.Mathlib.Omega.{arith}
use lib.Dec.{lit<}
use lib.ListN.{length, drop, get_or, length-drop}
use lib.Seq.{drop-cons}
use lib.Bits.{bit_xor, xor_comm, xor_zero_r}
use Rattle.crc64.specs.Polynomial.{steps, fold_byte, fold}
use Rattle.crc64.proofs.Xor.{xor_assoc, xor_swap}
use Rattle.crc64.proofs.Register.{steps_xor, steps_add}
use Rattle.crc64.proofs.Folding.{fold_append, fold_apart, byte_lt}
use Rattle.crc64_sparse.specs.Stages.{span, places, xor_front, owed, leaving, spread}
use Rattle.crc64_sparse.proofs.Front.{fold_more, fold_front, length_front}
use Rattle.crc64_combine.proofs.Ring.{steps_zero}
use Rattle.crc64_sparse.proofs.Identity.{identity}

-- each place lies within n
abbrev pub Within : List ℕ → ℕ → Type 0
Within [] n = Unit {0}
Within (e ∷ es) n = (e ≤ n) × Within es n

-- ---- what is owed, as a number

unfoldable pub paid : List ℕ → List ℕ → ℕ → ℕ
paid [] h n = 0
paid (e ∷ es) h n = bit_xor (steps (8 * (n - length (drop e h))) (fold 0 (drop e h))) (paid es h n)

pub length_owed : (es h s : List ℕ) → length (owed es h s) ≡ length s
unfolding owed
length_owed [] h s = refl
length_owed (e ∷ es) h s = length_front (drop e h) (owed es h s) ∙ length_owed es h s

pub fold_owed : (es h s : List ℕ) → length h ≤ length s → fold 0 (owed es h s) ≡ bit_xor (paid es h (length s)) (fold 0 s)
unfolding owed paid
fold_owed [] h s le = refl
fold_owed (e ∷ es) h s le =
    let p : List ℕ = drop e h in
    fold_front 0 0 p (owed es h s) (omega (arith, length-drop e h, length_owed es h s))
    ∙ ap₂ (λ (n z : ℕ). bit_xor (steps (8 * (n - length p)) (fold 0 p)) z) (length_owed es h s) (fold_owed es h s le)
    ∙ sym (xor_assoc (steps (8 * (length s - length p)) (fold 0 p)) (paid es h (length s)) (fold 0 s))

-- ---- the byte in front

front : (es : List ℕ) (y : ℕ) (h : List ℕ) (b : ℕ) (s : List ℕ) → Within es (length h) → owed es (y ∷ h) (b ∷ s) ≡ leaving es (y ∷ h) b ∷ owed es h s
unfolding owed leaving
front [] y h b s w = refl
front (e ∷ es) y h b s w =
    ap₂ xor_front (drop-cons (y ∷ h) e 0 (omega (arith, w.0))) (front es y h b s w.1)
    ∙ joins (get_or (y ∷ h) e 0) (leaving es (y ∷ h) b)
  where
    joins : (x z : ℕ) → xor_front (x ∷ drop e h) (z ∷ owed es h s) ≡ bit_xor x z ∷ xor_front (drop e h) (owed es h s)
    joins x z = unfold xor_front in refl

-- ---- one byte more in what left

pub drop_last : (e x : ℕ) (h : List ℕ) → e ≤ length h → drop e (h ++ (x ∷ [])) ≡ drop e h ++ (x ∷ [])
drop_last zero x h le = refl
drop_last (suc e) x [] le = absurd (not-suc-le-zero le)
drop_last (suc e) x (y ∷ h) le = drop_last e x h (le_of_suc-le-suc le)

pub length_last : (x : ℕ) (h : List ℕ) → length (h ++ (x ∷ [])) ≡ suc (length h)
length_last x [] = refl
length_last x (y ∷ h) = ap suc (length_last x h)

fold_last : (x : ℕ) (h : List ℕ) → fold 0 (h ++ (x ∷ [])) ≡ bit_xor (fold_byte 0 x) (steps 8 (fold 0 h))
unfolding fold
fold_last x h = fold_append 0 h (x ∷ []) ∙ fold_apart (fold 0 h) (x ∷ [])

-- one place
place : (e x n : ℕ) (h : List ℕ) → e ≤ length h → suc (length h) ≤ n
    → steps (8 * (n - length (drop e (h ++ (x ∷ []))))) (fold 0 (drop e (h ++ (x ∷ []))))
    ≡ bit_xor (steps (8 * (n - length (drop e h))) (fold 0 (drop e h))) (steps (8 * (n - suc (length h))) (steps (8 * e) (fold_byte 0 x)))
place e x n h le room =
    let p : List ℕ = drop e h in
    let c : ℕ = fold_byte 0 x in
    let k : ℕ = 8 * (n - suc (length p)) in
    ap (λ (t : List ℕ). steps (8 * (n - length t)) (fold 0 t)) (drop_last e x h le)
    ∙ ap₂ (λ (m z : ℕ). steps (8 * (n - m)) z) (length_last x p) (fold_last x p)
    ∙ steps_xor k c (steps 8 (fold 0 p))
    ∙ xor_comm (steps k c) (steps k (steps 8 (fold 0 p)))
    ∙ ap₂ bit_xor
    (sym (steps_add 8 k (fold 0 p)) ∙ ap (λ (m : ℕ). steps m (fold 0 p)) (omega (arith, length-drop e h)))
    (ap (λ (m : ℕ). steps m c) (omega (arith, length-drop e h)) ∙ steps_add (8 * e) (8 * (n - suc (length h))) c)

paid_last : (es : List ℕ) (x n : ℕ) (h : List ℕ) → Within es (length h) → suc (length h) ≤ n
    → paid es (h ++ (x ∷ [])) n ≡ bit_xor (paid es h n) (steps (8 * (n - suc (length h))) (spread es (fold_byte 0 x)))
unfolding paid spread
paid_last [] x n h w room = sym (steps_zero (8 * (n - suc (length h))))
paid_last (e ∷ es) x n h w room =
    let k : ℕ = 8 * (n - suc (length h)) in
    let c : ℕ = fold_byte 0 x in
    let q : ℕ = steps (8 * (n - length (drop e h))) (fold 0 (drop e h)) in
    ap₂ bit_xor (place e x n h w.0 room) (paid_last es x n h w.1 room)
    ∙ xor_swap q (steps k (steps (8 * e) c)) (paid es h n) (steps k (spread es c))
    ∙ ap (λ (z : ℕ). bit_xor (bit_xor q (paid es h n)) z) (sym (steps_xor k (steps (8 * e) c) (spread es c)))

-- ---- the law

within : (n : ℕ) → 1556 ≤ n → Within places n
within n h = (omega arith, (omega arith, (omega arith, (omega arith, (omega arith, (omega arith, (omega arith, tt)))))))

-- the byte that leaves in front of a string is owed behind those that left before it
pub leaves : (y : ℕ) (h : List ℕ) (b : ℕ) (s : List ℕ) → length (y ∷ h) ≡ span → span ≤ length s
    → fold 0 (owed places (y ∷ h) (b ∷ s)) ≡ fold 0 (owed places (h ++ (leaving places (y ∷ h) b ∷ [])) s)
unfolding fold
leaves y h b s full room =
    let x : ℕ = leaving places (y ∷ h) b in
    let c : ℕ = fold_byte 0 x in
    let n : ℕ = length s in
    let inside : Within places (length h) = within (length h) (omega arith) in
    let left : fold c (owed places h s) ≡ bit_xor (steps (8 * n) c) (bit_xor (paid places h n) (fold 0 s)) =
    ap (λ (z : ℕ). fold z (owed places h s)) (sym (xor_zero_r c)) ∙ fold_more c 0 (owed places h s)
    ∙ ap₂ (λ (m z : ℕ). bit_xor (steps (8 * m) c) z) (length_owed places h s) (fold_owed places h s (omega arith)) in
    let debt : steps (8 * (n - suc (length h))) (spread places c) ≡ steps (8 * n) c =
    ap (steps (8 * (n - suc (length h)))) (identity c (byte_lt 0 x))
    ∙ sym (steps_add (8 * span) (8 * (n - suc (length h))) c)
    ∙ ap (λ (m : ℕ). steps m c) (omega arith) in
    ap (fold 0) (front places y h b s inside)
    ∙ left
    ∙ sym (xor_assoc (steps (8 * n) c) (paid places h n) (fold 0 s))
    ∙ ap (λ (z : ℕ). bit_xor z (fold 0 s)) (xor_comm (steps (8 * n) c) (paid places h n) ∙ ap (λ (z : ℕ). bit_xor (paid places h n) z) (sym debt) ∙ sym (paid_last places x n h inside (omega arith)))
    ∙ sym (fold_owed places (h ++ (x ∷ [])) s (omega (arith, length_last x h)))
