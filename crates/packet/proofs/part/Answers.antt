-- `part` meets its contract: the index is past the table, the entry null, outside, or lent. Assumes nothing.
use mathlib.Core.Path.{◌≡◌, refl, sym, ◌∙◌, ap}
use mathlib.Core.Bool.{false}
use mathlib.Core.List.{List}
use Prim.Native.Nat.{ℕ, ◌+◌, ◌-◌, ◌≤◌}
use native.Mathlib.Omega.{arith}
use lib.ListN.{length, take, drop}
use Rattle.packet.specs.Entries.{offset_at, size_at, null_at, outside_at}
use Rattle.packet.proofs.EntryLaws.{inside, none_past, none_null, none_outside, some_inside, lent_none, lent_some, from_none, from_some}
use Rattle.packet.proofs.part.Goals as goal

pub returns-then-parts-index : goal.returns-then-parts-index
returns-then-parts-index c =
    let none = none_past _ _ _ c.if-parts-index.true in
    record { bytes = lent_none _ _ _ none; block = refl; offset = from_none _ _ _ _ none }

pub returns-then-is_null : goal.returns-then-is_null
returns-then-is_null c =
    let none = none_null _ _ _ (sym c.is_null.ensures ∙ c.if-is_null.true) in
    record { bytes = lent_none _ _ _ none; block = refl; offset = from_none _ _ _ _ none }

pub returns-then-is_outside : goal.returns-then-is_outside
returns-then-is_outside c =
    let none = none_outside _ _ _ (sym c.is_outside.ensures ∙ c.if-is_outside.true) in
    record { bytes = lent_none _ _ _ none; block = refl; offset = from_none _ _ _ _ none }

-- past the tests, the entry lies in the input
within : (input table : List ℕ) (i : ℕ) → null_at table i ≡ false → outside_at input table i ≡ false → offset_at table i + size_at table i ≤ length input
within input table i null out = inside (length input) (offset_at table i) (size_at table i) null out

pub overflow_add-end : goal.overflow_add-end
overflow_add-end c =
    omega (arith, within c.args.input.now c.args.parts.now c.args.index (sym c.is_null.ensures ∙ c.if-is_null.false) (sym c.is_outside.ensures ∙ c.if-is_outside.false))

pub slice_bounds-result-end-2 : goal.slice_bounds-result-end-2
slice_bounds-result-end-2 c =
    within c.args.input.now c.args.parts.now c.args.index (sym c.is_null.ensures ∙ c.if-is_null.false) (sym c.is_outside.ensures ∙ c.if-is_outside.false)

pub returns : goal.returns
returns c =
    let start = c.args in
    let input : List ℕ = start.input.now in
    let table : List ℕ = start.parts.now in
    let offset : ℕ = offset_at table start.index in
    let size : ℕ = size_at table start.index in
    let null = c in
    let whole : offset + size - offset ≡ size = omega arith in
    let present = sym null.is_null.ensures ∙ c.if-is_null.false in
    let inner = sym c.is_outside.ensures ∙ c.if-is_outside.false in
    let some = some_inside input table start.index null.if-parts-index.false present inner in
    record {
      bytes = ap (λ (n : ℕ). take n (drop offset input)) whole ∙ lent_some input table start.index some;
      block = refl;
      offset = from_some input table start.index start.input.ref_ptr.1 some;
    }
