-- `crc64_eight::fold8` meets its contract: the register is swapped, folded over the true tables, and swapped back. Assumes nothing.
use Rattle.crc64_eight.proofs.Lending.{eight_engine, fold_lent_is}
use borrow.Author.Rules.{rules}
use Rattle.crc64_eight.proofs.fold8.Goals as goal

pub returns : goal.returns
returns c =
    fold_lent_is _ _ _ (eight_engine c.tables-tables.ensures) c.swap_bytes.ensures c.fold_lent.ensures
    c.swap_bytes-2.ensures (search rules) (λ i. (c.shared_slice_known-1.given i).fits)
