-- A register that leaves in front comes back behind the others, so many steps further. Assumes nothing.
use mathlib.Core.Path.{◌≡◌, refl, sym, ap, ap₂, ◌∙◌}
use mathlib.Core.List.{List, [], ◌∷◌, ◌++◌}
use Prim.Native.Nat.{ℕ, ◌+◌, ◌-◌, ◌*◌, ◌≤◌}
use native.Mathlib.Nat.{mul-one, mul-suc, sub-zero}
use native.Mathlib.Omega.{arith}
use lib.ListN.{length, take, drop, length-take, length-drop, take-append-drop}
use lib.Seq.{length-take-le, drop-drop}
use lib.Bits.{bit_xor, xor_comm, xor_zero_r}
use Rattle.words.specs.Word.{Bytes}
use Rattle.crc64.specs.Polynomial.{steps, fold}
use Rattle.crc64.proofs.Xor.{xor_assoc}
use Rattle.crc64.proofs.Register.{steps_xor, steps_add}
use Rattle.crc64.proofs.Folding.{big_endian, fold_append, fold_apart, at_once}
use Rattle.crc64.proofs.Burst.{bytes_take}
use Rattle.crc64_lanes.specs.Stages.{entering}

-- ---- what a register adds

pub fold_more : (r q : ℕ) (s : List ℕ) → fold (bit_xor r q) s ≡ bit_xor (fold r s) (steps (8 * length s) q)
fold_more r q s =
    fold_apart (bit_xor r q) s
    ∙ ap (λ (z : ℕ). bit_xor (fold 0 s) z) (steps_xor (8 * length s) r q)
    ∙ sym (xor_assoc (fold 0 s) (steps (8 * length s) r) (steps (8 * length s) q))
    ∙ ap (λ (z : ℕ). bit_xor z (steps (8 * length s) q)) (sym (fold_apart r s))

exchange : (r q p : ℕ) → bit_xor (bit_xor r q) p ≡ bit_xor (bit_xor r p) q
exchange r q p = xor_assoc r q p ∙ ap (λ (z : ℕ). bit_xor r z) (xor_comm q p) ∙ sym (xor_assoc r p q)

parts_length : (s : List ℕ) → 8 * length (take 8 s) + 8 * length (drop 8 s) ≡ 8 * length s
parts_length s = omega (arith, length-take 8 s, length-drop 8 s)

entering_more : (r q : ℕ) (qs s : List ℕ) → entering (bit_xor r q) qs s ≡ bit_xor (entering r qs s) (steps (8 * length s) q)
unfolding entering
entering_more r q [] s = fold_more r q s
entering_more r q (p ∷ qs) s =
    ap (λ (z : ℕ). entering (fold z (take 8 s)) qs (drop 8 s)) (exchange r q p)
    ∙ ap (λ (z : ℕ). entering z qs (drop 8 s)) (fold_more (bit_xor r p) q (take 8 s))
    ∙ entering_more (fold (bit_xor r p) (take 8 s)) (steps (8 * length (take 8 s)) q) qs (drop 8 s)
    ∙ ap (λ (z : ℕ). bit_xor (entering (fold (bit_xor r p) (take 8 s)) qs (drop 8 s)) z)
    (sym (steps_add (8 * length (take 8 s)) (8 * length (drop 8 s)) q) ∙ ap (λ (n : ℕ). steps n q) (parts_length s))

-- the last of a queue
entering_last : (r x : ℕ) (qs s : List ℕ) → entering r (qs ++ (x ∷ [])) s ≡ bit_xor (entering r qs s) (steps (8 * (length s - 8 * length qs)) x)
unfolding entering
entering_last r x [] s =
    sym (fold_append (bit_xor r x) (take 8 s) (drop 8 s))
    ∙ ap (fold (bit_xor r x)) (take-append-drop 8 s)
    ∙ fold_more r x s
    ∙ ap (λ (n : ℕ). bit_xor (fold r s) (steps (8 * n) x)) (sym (sub-zero (length s)))
entering_last r x (q ∷ qs) s =
    entering_last (fold (bit_xor r q) (take 8 s)) x qs (drop 8 s)
    ∙ ap (λ (n : ℕ). bit_xor (entering r (q ∷ qs) s) (steps (8 * n) x)) (omega (arith, length-drop 8 s, mul-suc 8 (length qs)))

-- ---- eight bytes in front

pub front : (r : ℕ) (s : List ℕ) → Bytes s → 8 ≤ length s → fold r (take 8 s) ≡ steps 64 (bit_xor (big_endian (take 8 s)) r)
front r s hs h =
    at_once 0 r (take 8 s) (ap (λ (n : ℕ). 8 * n + 0) (length-take-le 8 s h)) (bytes_take 8 s hs)
    ∙ ap₂ (λ (n z : ℕ). steps (8 * n) (bit_xor z r)) (length-take-le 8 s h) (mul-one (big_endian (take 8 s)))

-- the register in front takes its word and comes back behind the last
pub comes_back : (a : ℕ) (qs s : List ℕ) → Bytes s → 8 + 8 * length qs ≤ length s
    → entering 0 (a ∷ qs) s ≡ entering 0 (qs ++ (steps (64 + 64 * length qs) (bit_xor (big_endian (take 8 s)) a) ∷ [])) (drop 8 s)
unfolding entering
comes_back a qs s hs h =
    let n : ℕ = length qs in
    let x : ℕ = bit_xor (big_endian (take 8 s)) a in
    let left : ℕ = length (drop 8 s) in
    ap (λ (z : ℕ). entering z qs (drop 8 s)) (front a s hs (omega arith))
    ∙ entering_more 0 (steps 64 x) qs (drop 8 s)
    ∙ ap (λ (z : ℕ). bit_xor (entering 0 qs (drop 8 s)) z)
    (sym (steps_add 64 (8 * left) x)
    ∙ ap (λ (k : ℕ). steps k x) (omega (arith, length-drop 8 s))
    ∙ steps_add (64 + 64 * n) (8 * (left - 8 * n)) x)
    ∙ sym (entering_last 0 (steps (64 + 64 * n) x) qs (drop 8 s))

-- where none waits it is the fold
whole : (r : ℕ) (s : List ℕ) → fold (fold r (take 8 s)) (drop 8 s) ≡ fold r s
whole r s = sym (fold_append r (take 8 s) (drop 8 s)) ∙ ap (fold r) (take-append-drop 8 s)

idle : (qs : List ℕ) → ((r : ℕ) (s : List ℕ) → entering r qs s ≡ fold r s) → (r : ℕ) (s : List ℕ) → entering r (0 ∷ qs) s ≡ fold r s
unfolding entering
idle qs same r s =
    ap (λ (z : ℕ). entering (fold z (take 8 s)) qs (drop 8 s)) (xor_zero_r r)
    ∙ same (fold r (take 8 s)) (drop 8 s)
    ∙ whole r s

alone : (r : ℕ) (s : List ℕ) → entering r [] s ≡ fold r s
unfolding entering
alone r s = refl

pub none_waits : (r : ℕ) (s : List ℕ) → entering 0 (r ∷ 0 ∷ 0 ∷ 0 ∷ []) s ≡ fold r s
unfolding entering
none_waits r s = idle (0 ∷ 0 ∷ []) (idle (0 ∷ []) (idle [] alone)) (fold r (take 8 s)) (drop 8 s) ∙ whole r s

-- the end, where each has its place
pub last_three : (a b c d : ℕ) (s : List ℕ)
    → entering 0 (a ∷ b ∷ c ∷ d ∷ []) s
    ≡ fold (bit_xor (fold (bit_xor (fold (bit_xor (fold a (take 8 s)) b) (take 8 (drop 8 s))) c) (take 8 (drop 16 s))) d) (drop 24 s)
unfolding entering
last_three a b c d s =
    whole (bit_xor (fold (bit_xor (fold (bit_xor (fold a (take 8 s)) b) (take 8 (drop 8 s))) c) (take 8 (drop 8 (drop 8 s)))) d) (drop 8 (drop 8 (drop 8 s)))
    ∙ ap₂ (λ (t u : List ℕ). fold (bit_xor (fold (bit_xor (fold (bit_xor (fold a (take 8 s)) b) (take 8 (drop 8 s))) c) (take 8 t)) d) u)
    (drop-drop 8 8 s) (drop-drop 8 8 (drop 8 s) ∙ drop-drop 16 8 s)
