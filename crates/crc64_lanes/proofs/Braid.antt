-- A block of four words over an array of registers: after l of them the queue is the array from l on, and then its first l. Assumes nothing.
use mathlib.Core.Path.{◌≡◌, refl, sym, ap, ap₂, ◌∙◌}
use mathlib.Core.List.{List, [], ◌∷◌, ◌++◌, map, append-nil, append_assoc}
use Prim.Native.Nat.{ℕ, zero, suc, ◌+◌, ◌*◌, ◌≤◌, ◌<◌}
use native.Mathlib.Nat.{add-zero, not-suc-le-zero, le_of_suc-le-suc}
use native.Mathlib.Numerals.{add-one}
use native.Mathlib.Omega.{arith}
use lib.ListN.{length, get_or, set, take, drop, length-drop, length-take, length-append, drop_of_length-le}
use lib.Seq.{drop-drop, drop-cons, drop-set-lt, take_all}
use lib.Bits.{bit_xor}
use Rattle.words.specs.Word.{word, Bytes}
use Rattle.crc64.specs.Polynomial.{steps, fold}
use Rattle.crc64.proofs.Folding.{big_endian}
use Rattle.crc64.specs.Table.{swapped}
use Rattle.crc64.proofs.Burst.{bytes_drop}
use Rattle.crc64_far.specs.Statement.{FarIs}
use Rattle.crc64_lanes.specs.Stages.{entering, waits}
use Rattle.crc64_lanes.proofs.Queue.{comes_back, none_waits}
use Rattle.crc64_lanes.proofs.Held.{taken}

length_map : (f : ℕ → ℕ) (xs : List ℕ) → length (map f xs) ≡ length xs
length_map f [] = refl
length_map f (x ∷ xs) = ap suc (length_map f xs)

map_last : (f : ℕ → ℕ) (xs : List ℕ) (x : ℕ) → map f (xs ++ (x ∷ [])) ≡ map f xs ++ (f x ∷ [])
map_last f [] x = refl
map_last f (y ∷ xs) x = ap (λ (t : List ℕ). f y ∷ t) (map_last f xs x)

-- the first of a queue of four takes the word at i
takes : (a : ℕ) (qs s : List ℕ) (i : ℕ) {w x : ℕ} → length qs ≡ 3 → Bytes s → i + 32 ≤ length s → w ≡ word 8 s i → FarIs (bit_xor a w) x
    → waits (qs ++ (x ∷ [])) (drop (i + 8) s) ≡ waits (a ∷ qs) (drop i s)
unfolding waits
takes a qs s i {w} {x} three hs h known far =
    let m : List ℕ = map (swapped 8) qs in
    let count : length m ≡ 3 = length_map (swapped 8) qs ∙ three in
    ap₂ (λ (u v : List ℕ). entering 0 u v) (map_last (swapped 8) qs x) (sym (drop-drop 8 i s))
    ∙ ap (λ (q : ℕ). entering 0 (m ++ (q ∷ [])) (drop 8 (drop i s)))
    (taken a s i hs (omega arith) known far ∙ ap (λ (n : ℕ). steps (64 + 64 * n) (bit_xor (big_endian (take 8 (drop i s))) (swapped 8 a))) (sym count))
    ∙ sym (comes_back (swapped 8 a) m (drop i s) (bytes_drop i s hs) (omega (arith, length-drop i s, count)))

-- after l words
abbrev pub queue : ℕ → List ℕ → List ℕ
queue l lanes = drop l lanes ++ take l lanes

take_store : (n : ℕ) (w : List ℕ) (v : ℕ) → n < length w → take (suc n) (set w n v) ≡ take n w ++ (v ∷ [])
take_store n [] v h = absurd (not-suc-le-zero h)
take_store zero (x ∷ w) v h = refl
take_store (suc n) (x ∷ w) v h = ap (λ (t : List ℕ). x ∷ t) (take_store n w v (le_of_suc-le-suc h))

pub begun : (lanes s : List ℕ) (i : ℕ) → waits (queue 0 lanes) (drop (i + 8 * 0) s) ≡ waits lanes (drop i s)
begun lanes s i = ap₂ (λ (q t : List ℕ). waits q t) (append-nil lanes) (ap (λ (n : ℕ). drop n s) (add-zero i))

pub one_lane : (lanes s : List ℕ) (i l : ℕ) {w x z : ℕ} → length lanes ≡ 4 → l < 4 → Bytes s → i + 56 ≤ length s
    → w ≡ word 8 s (i + 8 * l) → FarIs (bit_xor (get_or lanes l 0) w) x
    → waits (queue l lanes) (drop (i + 8 * l) s) ≡ z → waits (queue (l + 1) (set lanes l x)) (drop (i + 8 * (l + 1)) s) ≡ z
one_lane lanes s i l {w} {x} four hl hs room known far e =
    let rest : List ℕ = drop (suc l) lanes ++ take l lanes in
    let shape : queue (l + 1) (set lanes l x) ≡ rest ++ (x ∷ []) =
    ap (λ (n : ℕ). queue n (set lanes l x)) (add-one l)
    ∙ ap₂ (λ (a b : List ℕ). a ++ b) (drop-set-lt (suc l) lanes l x (omega arith)) (take_store l lanes x (omega arith))
    ∙ sym (append_assoc (drop (suc l) lanes) (take l lanes) (x ∷ [])) in
    let three : length rest ≡ 3 = length-append (drop (suc l) lanes) (take l lanes) ∙ omega (arith, length-drop (suc l) lanes, length-take l lanes) in
    ap₂ (λ (q u : List ℕ). waits q u) shape (ap (λ (n : ℕ). drop n s) (on i l))
    ∙ takes (get_or lanes l 0) rest s (i + 8 * l) three hs (omega arith) known far
    ∙ ap (λ (q : List ℕ). waits q (drop (i + 8 * l) s)) (sym (ap (λ (u : List ℕ). u ++ take l lanes) (drop-cons lanes l 0 (omega arith))))
    ∙ e
  where
    on : (i l : ℕ) → i + 8 * (l + 1) ≡ i + 8 * l + 8
    on i l = omega arith

pub all_four : (lanes s : List ℕ) (i l : ℕ) {z : ℕ} → length lanes ≡ 4 → l ≡ 4 → waits (queue l lanes) (drop (i + 8 * l) s) ≡ z → waits lanes (drop (i + 32) s) ≡ z
all_four lanes s i l four e known =
    ap (λ (q : List ℕ). waits q (drop (i + 32) s)) (sym (ap₂ (λ (a b : List ℕ). a ++ b) (drop_of_length-le lanes {i = 4} (omega arith)) (take_all 4 lanes (omega arith))))
    ∙ ap (λ (n : ℕ). waits (queue n lanes) (drop (i + 8 * n) s)) (sym e) ∙ known

-- the first register, and none that waits
pub starts : (r : ℕ) (s : List ℕ) → waits (r ∷ 0 ∷ 0 ∷ 0 ∷ []) s ≡ fold (swapped 8 r) s
unfolding waits swapped
starts r s = none_waits (swapped 8 r) s

-- the array, register by register
pub by_name : (lanes : List ℕ) → length lanes ≡ 4 → lanes ≡ get_or lanes 0 0 ∷ get_or lanes 1 0 ∷ get_or lanes 2 0 ∷ get_or lanes 3 0 ∷ []
by_name [] e = absurd (omega arith)
by_name (a ∷ []) e = absurd (omega arith)
by_name (a ∷ b ∷ []) e = absurd (omega arith)
by_name (a ∷ b ∷ c ∷ []) e = absurd (omega arith)
by_name (a ∷ b ∷ c ∷ d ∷ []) e = refl
by_name (a ∷ b ∷ c ∷ d ∷ x ∷ rest) e = absurd (omega arith)

pub finished : (lanes s : List ℕ) {y z : ℕ} → length lanes ≡ 4
    → y ≡ swapped 8 (entering 0 (swapped 8 (get_or lanes 0 0) ∷ swapped 8 (get_or lanes 1 0) ∷ swapped 8 (get_or lanes 2 0) ∷ swapped 8 (get_or lanes 3 0) ∷ []) s)
    → waits lanes s ≡ z → y ≡ swapped 8 z
unfolding waits
finished lanes s four e known = e ∙ ap (swapped 8) (ap (λ (q : List ℕ). entering 0 (map (swapped 8) q) s) (sym (by_name lanes four)) ∙ known)
