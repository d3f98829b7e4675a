-- `text::put_name` meets its contract: the name over the tail's front, and a space behind it. Assumes nothing.
use mathlib.Core.Path.{ap}
use Prim.Native.Nat.{ℕ, ◌+◌}
use native.Mathlib.Omega.{arith}
use Rattle.words.specs.Text.{text}
use Rattle.finding.specs.Meaning.{name_of}
use Rattle.finding_name.proofs.NameLaws.{name_short}
use Rattle.listing.specs.Stages.{Wrote}
use Rattle.listing.proofs.TextLaws.{wrote_tail, wrote_behind}
use Rattle.why_text.proofs.text.put_name.Goals as goal

pub overflow_add-last : goal.overflow_add-last
overflow_add-last c = omega (arith, c.write_name.ensures.0, name_short c.args.field)

pub bounds-out-last : goal.bounds-out-last
bounds-out-last c = omega (arith, c.write_name.ensures.0, name_short c.args.field)

pub overflow_add-result : goal.overflow_add-result
overflow_add-result c = omega (arith, c.write_name.ensures.0, name_short c.args.field)

pub returns : goal.returns
returns c =
    let start = c in
    let field = start.args.field in
    let name = c.write_name in
    let short = name_short field in
    let first : Wrote (text (name_of field)) start.args.at start.args.out.now _ _ =
    record { ends = ap (λ (k : ℕ). start.args.at + k) name.ensures.0; holds = wrote_tail (text (name_of field)) start.args.out.now name.new.out start.args.at (omega arith) name.ensures.1 } in
    (wrote_behind 32 (omega arith) first, omega (arith, name.ensures.0))
