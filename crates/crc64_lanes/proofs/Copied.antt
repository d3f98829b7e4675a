-- What an output holds to which bytes are copied: one word more, and all. Assumes nothing.
use mathlib.Core.Path.{◌≡◌, refl, sym, ap, ◌∙◌, subst}
use mathlib.Core.List.{List, [], ◌++◌, append-nil, append_assoc}
use Prim.Native.Nat.{ℕ, ◌+◌, ◌-◌, ◌*◌, ◌≤◌}
use native.Mathlib.Nat.{le_of_eq}
use native.Mathlib.Omega.{arith}
use lib.ListN.{length, take, drop, length-drop, take-append-drop}
use lib.Seq.{take_all, drop-append-le, length-take-le}
use borrow.Rule.Slice.PartMut.{mid_of, put_mid}
use Rattle.words.specs.Word.{word, bytes_of, Bytes}
use Rattle.words.specs.Buffer.{over, fitted}
use Rattle.words.specs.Stages.{Filling}
use Rattle.words.proofs.WordLaws.{length_bytes_of}
use Rattle.words.proofs.BufferLaws.{fitted_fits}
use Rattle.words.proofs.FillingLaws.{closes, leaves}
use Rattle.crc64_fast.proofs.Walk.{word_copied}

-- what a writer leaves of a part that has the room, put back: the same whichever part was lent
part_put : (ws xs : List ℕ) (to k : ℕ) → length ws ≤ length (mid_of to k xs) → put_mid to k xs (fitted ws (mid_of to k xs)) ≡ take to xs ++ over ws (drop to xs)
part_put ws xs to k room =
    let ys : List ℕ = drop to xs in
    ap (λ (u : List ℕ). take to xs ++ u)
    (ap (λ (u : List ℕ). u ++ drop k ys) (fitted_fits ws (take k ys) room)
    ∙ append_assoc ws (drop (length ws) (take k ys)) (drop k ys)
    ∙ ap (λ (u : List ℕ). ws ++ u)
    (sym (drop-append-le (length ws) (take k ys) (drop k ys) room) ∙ ap (drop (length ws)) (take-append-drop k ys)))

-- eight bytes put into a part of eight are put into the rest
pub eight_put : (w : ℕ) (xs : List ℕ) (to : ℕ) → to + 8 ≤ length xs
    → put_mid to (to + 8 - to) xs (fitted (bytes_of 8 w) (mid_of to (to + 8 - to) xs))
    ≡ put_mid to (length xs - to) xs (fitted (bytes_of 8 w) (mid_of to (length xs - to) xs))
eight_put w xs to room =
    part_put (bytes_of 8 w) xs to (to + 8 - to) (has (to + 8 - to) (omega arith) (omega arith))
    ∙ sym (part_put (bytes_of 8 w) xs to (length xs - to) (has (length xs - to) (omega arith) (omega arith)))
  where
    has : (k : ℕ) → 8 ≤ k → k ≤ length xs - to → length (bytes_of 8 w) ≤ length (mid_of to k xs)
    has k some there =
        let left : length (drop to xs) ≡ length xs - to = length-drop to xs in
        let all : length (take k (drop to xs)) ≡ k = length-take-le k (drop to xs) (omega arith) in
        let eight : length (bytes_of 8 w) ≡ 8 = length_bytes_of 8 w in
        omega arith

-- the word of the next lane, put where it came from
pub next_put : (s : List ℕ) (i l to : ℕ) (before now : List ℕ) → to ≡ i + 8 * l → Filling s (drop (i + 8 * l) s) before now (i + 8 * l)
    → {w : ℕ} {after : List ℕ} → w ≡ word 8 s (i + 8 * l) → Bytes s → 8 ≤ length s - (i + 8 * l) → to + 8 ≤ length now
    → after ≡ put_mid to (to + 8 - to) now (fitted (bytes_of 8 w) (mid_of to (to + 8 - to) now))
    → Filling s (drop (i + 8 * (l + 1)) s) before after (i + 8 * (l + 1))
next_put s i l to before now place f {w} {after} known hs h room e =
    let at : ℕ = i + 8 * l in
    let there : after ≡ put_mid at (length now - at) now (fitted (bytes_of 8 w) (mid_of at (length now - at) now)) =
    e ∙ eight_put w now to room
    ∙ ap (λ (n : ℕ). put_mid n (length now - n) now (fitted (bytes_of 8 w) (mid_of n (length now - n) now))) place in
    subst (λ (n : ℕ). Filling s (drop n s) before after n) (next i l) (rw there (word_copied s at f known hs h refl))
  where
    next : (i l : ℕ) → i + 8 * l + 8 ≡ i + 8 * (l + 1)
    next i l = omega arith

-- what is left, put behind the rest
pub rest_put : (s : List ℕ) (i : ℕ) (before now : List ℕ) {after : List ℕ} → Filling s (drop i s) before now i
    → after ≡ put_mid i (length now - i) now (fitted (take (length s - i) (drop i s)) (mid_of i (length now - i) now)) → after ≡ over s before
rest_put s i before now f e =
    let mid : List ℕ = mid_of i (length now - i) now in
    let last : Filling s (drop i s ++ []) before now i = rw (append-nil (drop i s)) f in
    e
    ∙ ap (λ (u : List ℕ). put_mid i (length now - i) now (fitted u mid)) (take_all (length s - i) (drop i s) (le_of_eq (length-drop i s)))
    ∙ closes (drop i s) f (leaves (drop i s) [] last refl)
