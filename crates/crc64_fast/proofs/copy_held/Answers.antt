-- `copy_held` meets its contract. The loop's invariant: whole words are left; what is still to come, from the register that 64
-- steps of x make beside what is kept, gives what all gives from the first; and what is to be copied so far is copied. The measure
-- is what is left of the length. Assumes nothing.
use mathlib.Core.Bool.{Bool, false}
use mathlib.Core.Path.{◌≡◌, ◌∙◌}
use mathlib.Core.List.{List}
use Prim.Native.Nat.{ℕ, ◌+◌, ◌-◌, ◌%◌, ◌≤◌, ◌<◌}
use native.Mathlib.Nat.{mod-lt, le_trans}
use native.Mathlib.Omega.{arith}
use lib.Dec.{lit<, ltb}
use lib.ListN.{length}
use borrow.Author.Rules.{rules}
use borrow.Author.Tests.{ltb-true, ltb-false}
use Rattle.words.specs.Word.{Bytes}
use Rattle.crc64_fast.proofs.Turn.{nothing, kept_lt, first_there, first_whole, next_whole, none_left, again, ended}
use Rattle.crc64_fast.proofs.Walk.{none_copied, started, first_so_far, next_so_far, length_so_far, place_so_far, all_so_far, first_kept}
use Rattle.crc64_fast.proofs.copy_held.Goals as goal

pub returns-then-bytes-eq0 : goal.returns-then-bytes-eq0
returns-then-bytes-eq0 c =
    let first = c in
    record {
      folded = nothing first.args.register first.args.bytes.now c.if-bytes-eq0.true first.ranges.register.fits;
      copied = none_copied first.args.bytes.now first.args.out.now c.if-bytes-eq0.true;
    }

-- where the output is not too short for all, it has room for what there is
room : (s out : List ℕ) (n : ℕ) → n ≤ length s → ltb (length out) (length s) ≡ false → n ≤ length out
room s out n h e = le_trans h (ltb-false (length out) (length s) e)

pub first_word-first-requires : goal.first_word-first-requires
first_word-first-requires c =
    let first = c in
    let s : List ℕ = first.args.bytes.now in
    let there : (length s - 1) % 8 + 1 ≤ length s = first_there (length s) c.if-bytes-eq0.false in
    let few : (length s - 1) % 8 < 8 = mod-lt (length s - 1) (lit< tt) in
    (omega arith, there, room s first.args.out.now _ there)

pub loop-i-init : goal.loop-i-init
loop-i-init c =
    let known = c in
    let first = known in
    let some = c.if-bytes-eq0.false in
    let q : ℕ = first.args.register in
    let s : List ℕ = first.args.bytes.now in
    let out : List ℕ = first.args.out.now in
    let n : ℕ = length s in
    let there : (n - 1) % 8 + 1 ≤ n = first_there n some in
    let bytes : Bytes s = λ i. (known.shared_slice_known-1.given i).fits in
    let few : (n - 1) % 8 < 8 = mod-lt (n - 1) (lit< tt) in
    let loaded = c.first_word-first.ensures in (
      there,
      first_whole n some,
      kept_lt q _ _ first.ranges.register.fits,
      started (ltb (length out) n) s ((n - 1) % 8) bytes few there loaded.0 q first.ranges.register.fits,
      first_so_far (ltb (length out) n) s ((n - 1) % 8) bytes few there loaded.0 out (ltb-false (length out) n) loaded.1,
    )

pub shape_of-out-then-bytes-i-lt8 : goal.shape_of-out-then-bytes-i-lt8
shape_of-out-then-bytes-i-lt8 c =
    let first = c in
    let s : List ℕ = first.args.bytes.now in
    let out : List ℕ = first.args.out.now in
    let there : (length s - 1) % 8 + 1 ≤ length s = first_there (length s) c.if-bytes-eq0.false in
    let at = c.loop-i in
    length_so_far (ltb (length out) (length s)) s at.i _ _ at.invariant.4
    ∙ first_kept (ltb (length out) (length s)) _ _ out (room s out _ there) c.first_word-first.ensures.1

pub returns-then-bytes-i-lt8 : goal.returns-then-bytes-i-lt8
returns-then-bytes-i-lt8 c =
    let at = c.loop-i in
    let known = c in
    let first = known in
    let s : List ℕ = first.args.bytes.now in
    let out : List ℕ = first.args.out.now in
    let n : ℕ = length s in
    let there : (n - 1) % 8 + 1 ≤ n = first_there n c.if-bytes-eq0.false in
    let bytes : Bytes s = λ i. (known.shared_slice_known-1.given i).fits in
    let loaded = c.first_word-first.ensures in
    let all = none_left n at.i c.if-bytes-i-lt8.true at.invariant.1 in
    record {
      folded = ended s at.i at.x at.kept c.near.ensures at.invariant.2 at.invariant.3 all;
      copied =
          all_so_far (ltb (length out) n) s ((n - 1) % 8) bytes (mod-lt (n - 1) (lit< tt)) there loaded.0 out
          (ltb-false (length out) n) (ltb-true (length out) n) loaded.1 at.i at.invariant.4 all;
    }

pub next_word-requires : goal.next_word-requires
next_word-requires c =
    let at = c.loop-i in
    place_so_far _ c.args.bytes.now at.i _ _ at.invariant.4

pub loop-i-preserved : goal.loop-i-preserved
loop-i-preserved c =
    let at = c.loop-i in
    let known = c in
    let first = known in
    let s : List ℕ = first.args.bytes.now in
    let bytes : Bytes s = λ i. (known.shared_slice_known-1.given i).fits in
    let short : Bool = ltb (length first.args.out.now) (length s) in
    let more = c.if-bytes-i-lt8.false in
    let loaded = c.next_word.ensures in (
      search rules,
      next_whole (length s) at.i more at.invariant.1,
      lit< tt,
      again s at.i at.x at.kept c.near.ensures at.invariant.2 at.invariant.3 loaded.0 bytes more,
      next_so_far short s at.i _ at.out at.invariant.4 loaded.0 bytes more loaded.1,
    )
