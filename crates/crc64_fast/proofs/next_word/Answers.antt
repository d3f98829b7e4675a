-- `next_word` meets its contract: the word read, and put at its place. Assumes nothing.
use mathlib.Core.Path.{refl, ap}
use mathlib.Core.List.{List}
use Prim.Native.Nat.{ℕ, ◌-◌}
use lib.ListN.{length}
use borrow.Rule.Slice.PartMut.{put_mid}
use Rattle.crc64_fast.proofs.Walk.{only_read, also_put}
use Rattle.crc64_fast.proofs.next_word.Goals as goal

pub returns-then-short : goal.returns-then-short
returns-then-short c = (c.read_u64-word.ensures, only_read _ _ c.if-short.true refl)

pub slice_bounds-write_u64-count : goal.slice_bounds-write_u64-count
slice_bounds-write_u64-count c = c.requires c.if-short.false

pub slice_bounds-write_u64-start : goal.slice_bounds-write_u64-start
slice_bounds-write_u64-start c = c.requires c.if-short.false

pub returns : goal.returns
returns c =
    let start = c in
    let at : ℕ = start.args.i in
    let out : List ℕ = start.args.out.now in (
      c.read_u64-word.ensures,
      also_put _ _ c.if-short.false (ap (put_mid at (length out - at) out) c.write_u64.ensures),
    )
