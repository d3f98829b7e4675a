-- `crc64_long::put_last` meets its contract: the bytes, put at their place where they are copied. Assumes nothing.
use mathlib.Core.Path.{refl, sym, ap, ◌∙◌}
use mathlib.Core.Bool.{true≢false}
use mathlib.Core.List.{List}
use Prim.Native.Nat.{ℕ, ◌-◌}
use lib.ListN.{length}
use borrow.Rule.Slice.PartMut.{put_mid}
use borrow.Author.Rules.{rules}
use Rattle.crc64_long.proofs.put_last.Goals as goal

pub slice_bounds-write_bytes-count : goal.slice_bounds-write_bytes-count
slice_bounds-write_bytes-count c = c.requires.1 c.if-copies.true

pub slice_bounds-write_bytes-start : goal.slice_bounds-write_bytes-start
slice_bounds-write_bytes-start c = c.requires.1 c.if-copies.true

pub returns-then-copies : goal.returns-then-copies
returns-then-copies c =
    let start = c in
    let at : ℕ = start.args.at in
    let out : List ℕ = start.args.out.now in
    (search rules, λ e. ap (put_mid at (length out - at) out) c.write_bytes.ensures)

pub returns-else-copies : goal.returns-else-copies
returns-else-copies c = (refl, λ e. absurd (true≢false (sym e ∙ c.if-copies.false)))
