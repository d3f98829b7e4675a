-- A tail of a buffer lent to a writer and come back: what was written so far, and what the writer laid over the tail's front.
-- Assumes nothing.
use mathlib.Core.Path.{◌≡◌, ◌∙◌, ap}
use mathlib.Core.List.{List, [], ◌++◌, append-nil}
use Prim.Native.Nat.{ℕ, ◌+◌, ◌-◌, ◌≤◌}
use native.Mathlib.Omega.{arith}
use lib.ListN.{length, take, drop, length-drop, drop_of_length-le}
use lib.Seq.{take_all}
use Rattle.words.specs.Buffer.{over, fitted}
use Rattle.words.proofs.BufferLaws.{over_tail, length_over, fitted_fits}

-- the tail of xs from `at` on, and xs with `last` in its place
abbrev pub tail : List ℕ → ℕ → List ℕ
tail xs at = take (length xs - at) (drop at xs)

abbrev pub back : List ℕ → ℕ → List ℕ → List ℕ
back xs at last = take at xs ++ (last ++ drop (length xs - at) (drop at xs))

pub tail_is_drop : (xs : List ℕ) (at : ℕ) → tail xs at ≡ drop at xs
tail_is_drop xs at = take_all (length xs - at) (drop at xs) (simp length-drop (omega arith))

pub lent_over : (done ws before xs last : List ℕ) (at : ℕ) → xs ≡ over done before → length done ≡ at → at + length ws ≤ length before
    → last ≡ over ws (tail xs at) → back xs at last ≡ over (done ++ ws) before
lent_over done ws before xs last at so_far e room wrote =
    let nothing : drop (length xs - at) (drop at xs) ≡ [] = drop_of_length-le (drop at xs) {i = length xs - at} (simp length-drop (omega arith)) in
    rw (nothing, append-nil last, wrote, tail_is_drop xs at, so_far) (over_tail done ws before at e room)

pub lent_fitted : (done ws before xs last : List ℕ) (at : ℕ) → xs ≡ over done before → length done ≡ at → at + length ws ≤ length before
    → last ≡ fitted ws (tail xs at) → back xs at last ≡ over (done ++ ws) before
lent_fitted done ws before xs last at so_far e room wrote =
    let long : length xs ≡ length before = ap length so_far ∙ length_over done before (omega arith) in
    let fits : length ws ≤ length (tail xs at) = rw (tail_is_drop xs at) (simp length-drop (omega arith)) in
    lent_over done ws before xs last at so_far e room (wrote ∙ fitted_fits ws (tail xs at) fits)
