-- `text::put_id` meets its contract: the text over the tail's front, and a byte behind it. Assumes nothing.
use mathlib.Core.Path.{ap}
use Prim.Native.Nat.{ℕ, ◌+◌}
use native.Mathlib.Omega.{arith}
use Rattle.guid_text.specs.Text.{text_of}
use Rattle.listing.proofs.TextLaws.{printed_fits, fits_tail}
use Rattle.listing.specs.Stages.{Wrote}
use Rattle.listing.proofs.TextLaws.{wrote_tail, wrote_behind, id_short}
use Rattle.listing.proofs.text.put_id.Goals as goal

pub overflow_add-last : goal.overflow_add-last
overflow_add-last c = omega (arith, c.text_size.ensures, id_short c.args.id)

pub bounds-out-last : goal.bounds-out-last
bounds-out-last c = omega (arith, c.text_size.ensures, id_short c.args.id)

pub overflow_add-result : goal.overflow_add-result
overflow_add-result c = omega (arith, c.text_size.ensures, id_short c.args.id)

pub returns : goal.returns
returns c =
    let start = c in
    let size = c.text_size.ensures in
    let short = id_short start.args.id in
    let first : Wrote (text_of start.args.id) start.args.at start.args.out.now _ _ =
    record { ends = ap (λ (k : ℕ). start.args.at + k) size; holds = wrote_tail (text_of start.args.id) start.args.out.now c.print.new.out start.args.at (omega arith) (printed_fits start.args.id _ _ (fits_tail (text_of start.args.id) start.args.out.now start.args.at (omega arith)) c.print.ensures.1) } in
    (wrote_behind 32 (omega arith) first, omega (arith, size))
