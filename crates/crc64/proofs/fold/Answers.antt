-- `crc64::fold` meets its contract: the register is swapped, folded over the true table, and swapped back. Assumes nothing.
use Rattle.crc64.proofs.Entries.{fold_is}
use borrow.Author.Rules.{rules}
use Rattle.crc64.proofs.fold.Goals as goal

pub returns : goal.returns
returns c =
    fold_is _ _ c.table-table.ensures c.swap_bytes.ensures c.fold_over.ensures
    c.swap_bytes-2.ensures (search rules) (λ i. (c.shared_slice_known-1.given i).fits)
