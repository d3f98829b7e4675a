-- `fill::fill_value` meets its contract: the five words of the entry, stored one after the other.
-- Assumes nothing.
use native.Mathlib.Omega.{arith}
use lib.ListN.{length-set}
use Rattle.wire_read.proofs.FillLaws.{entry_words_lem, stored_entry}
use Rattle.wire_read.proofs.fill.fill_value.Goals as goal

pub bounds-values-k-2 : goal.bounds-values-k-2
bounds-values-k-2 c = simp length-set (omega arith)

pub bounds-values-k-3 : goal.bounds-values-k-3
bounds-values-k-3 c = simp length-set (omega arith)

pub bounds-values-k-4 : goal.bounds-values-k-4
bounds-values-k-4 c = simp length-set (omega arith)

pub bounds-values-k-5 : goal.bounds-values-k-5
bounds-values-k-5 c = simp length-set (omega arith)

pub returns : goal.returns
returns c =
    let payload = c.read_payload-payload.ensures in
    (payload.2, stored_entry _ _ _ _ _ _ _ _ _ (entry_words_lem c.args.input.now c.args.at _ c.read_header-header.ensures _ _ _ _ payload c.flag.ensures))
