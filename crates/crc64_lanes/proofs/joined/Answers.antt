-- `joined` meets its contract: three words, each with the register that waited for it, and the rest. Assumes nothing.
use mathlib.Core.Path.{◌≡◌, sym}
use mathlib.Core.List.{List}
use Prim.Native.Nat.{ℕ, ◌+◌, ◌≤◌}
use native.Mathlib.Omega.{arith}
use Rattle.words.proofs.WordLaws.{word_lent}
use Rattle.crc64_lanes.proofs.Held.{ended, one_length, two_length, three_laid, three_length}
use Rattle.crc64_lanes.proofs.joined.Goals as goal

within : (n : ℕ) {m : ℕ} → m ≡ 24 → n ≤ 24 → n ≤ m
within n e h = omega arith

pub slice_bounds-words-end-2 : goal.slice_bounds-words-end-2
slice_bounds-words-end-2 c =
    within 16 (one_length _ c.write_u64.ensures) (omega arith)

pub slice_bounds-words-end-3 : goal.slice_bounds-words-end-3
slice_bounds-words-end-3 c =
    within 24 (two_length _ c.write_u64.ensures _ c.write_u64-2.ensures) (omega arith)

pub slice_bounds-fold_held-end : goal.slice_bounds-fold_held-end
slice_bounds-fold_held-end c =
    sym (three_length _ c.write_u64.ensures _ c.write_u64-2.ensures _ c.write_u64-3.ensures)

pub returns : goal.returns
returns c =
    let known = c in
    let first = known in
    let a = first.args in
    let s : List ℕ = a.bytes.now in
    ended s a.i a.a a.b a.c a.d (λ n. (known.shared_slice_known-1.given n).fits) first.requires
    (word_lent 8 s a.i c.read_u64.ensures)
    (word_lent 8 s (a.i + 8) c.read_u64-2.ensures)
    (word_lent 8 s (a.i + 16) c.read_u64-3.ensures)
    (three_laid _ c.write_u64.ensures _ c.write_u64-2.ensures _ c.write_u64-3.ensures)
    c.fold_held-before.ensures
    c.fold_held.ensures
