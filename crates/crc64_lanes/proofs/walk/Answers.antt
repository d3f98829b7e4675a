-- `walk` meets its contract. The loop's invariant: the registers, each at its place in what is still to come, give what the first
-- gives over all; and where the bytes are copied, those so far are. The measure is what is left of the length. Assumes nothing.
use mathlib.Core.Path.{◌≡◌, refl, sym, ◌∙◌}
use mathlib.Core.Bool.{Bool, true, false, true≢false}
use mathlib.Core.List.{List}
use Prim.Native.Nat.{ℕ, ◌+◌, ◌-◌, ◌≤◌}
use native.Mathlib.Omega.{arith}
use lib.ListN.{length}
use borrow.Author.Rules.{rules}
use Rattle.words.specs.Decide.{pick}
use Rattle.words.proofs.FillingLaws.{begins}
use Rattle.crc64_lanes.proofs.Braid.{starts, finished}
use Rattle.crc64_lanes.proofs.Copied.{rest_put}
use Rattle.crc64_lanes.proofs.walk.Goals as goal

-- the place in the output: where the bytes are copied it is theirs, else the front
copying : (copies : Bool) (i at : ℕ) → at ≡ pick copies i 0 → copies ≡ true → at ≡ i
copying true i at e told = e
copying false i at e told = absurd (true≢false (sym told))

room : (copies : Bool) (i at n m o : ℕ) → at ≡ pick copies i 0 → i + 56 ≤ n → (copies ≡ true → n ≤ m) → 32 ≤ m → o ≡ m → at + 32 ≤ o
room true i at n m o e there fits some same = let all : n ≤ m = fits refl in omega arith
room false i at n m o e there fits some same = omega arith

within : (i n m o : ℕ) → i + 24 ≤ n → n ≤ m → o ≡ m → i ≤ o
within i n m o there fits same = omega arith

pub loop-i-init : goal.loop-i-init
loop-i-init c =
    let first = c in
    let a = first.args in
    let s : List ℕ = a.bytes.now in (
      search rules,
      refl,
      starts a.register s,
      refl,
      λ e. begins s a.out.now (first.requires.2 e),
    )

pub block-requires : goal.block-requires
block-requires c =
    let first = c in
    let a = first.args in
    let at = c.loop-i in (
      at.invariant.1,
      search rules,
      room a.copies at.i _ (length a.bytes.now) (length a.out.now) _ c.place.ensures (search rules) first.requires.2 first.requires.1 at.invariant.3,
    )

pub loop-i-preserved : goal.loop-i-preserved
loop-i-preserved c =
    let a = c.args in
    let at = c.loop-i in
    let done = c.block.ensures in (
      search rules,
      done.0,
      done.1 ∙ at.invariant.2,
      done.2 ∙ at.invariant.3,
      λ e. done.3 (copying a.copies at.i _ c.place.ensures e) a.out.now (at.invariant.4 e),
    )

pub put_rest-requires : goal.put_rest-requires
put_rest-requires c =
    let first = c in
    let a = first.args in
    let at = c.loop-i in
    (search rules, λ e. within at.i (length a.bytes.now) (length a.out.now) _ at.invariant.0 (first.requires.2 e) at.invariant.3)

pub joined-requires : goal.joined-requires
joined-requires c = c.loop-i.invariant.0

pub shape_of-out : goal.shape_of-out
shape_of-out c = c.put_rest.ensures.0 ∙ c.loop-i.invariant.3

pub returns : goal.returns
returns c =
    let a = c.args in
    let at = c.loop-i in (
      finished at.lanes _ at.invariant.1 c.joined.ensures at.invariant.2,
      λ e. rest_put a.bytes.now at.i a.out.now at.out (at.invariant.4 e) (c.put_rest.ensures.1 e),
    )
