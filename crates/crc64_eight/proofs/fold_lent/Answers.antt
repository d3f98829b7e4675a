-- `crc64_eight::fold_lent` meets its contract, by the count of the lent numbers. Assumes nothing.
use Rattle.crc64_eight.proofs.Lending.{lent_none, lent_one, lent_eight}
use borrow.Author.Rules.{rules}
use Rattle.crc64_eight.proofs.fold_lent.Goals as goal

pub returns-then-tables-lt-ONE_TABLE : goal.returns-then-tables-lt-ONE_TABLE
returns-then-tables-lt-ONE_TABLE c = lent_none _ _ _ (search rules)

pub returns-then-tables-lt-EIGHT_TABLES : goal.returns-then-tables-lt-EIGHT_TABLES
returns-then-tables-lt-EIGHT_TABLES c = lent_one _ _ _ (search rules) (search rules) c.fold_bytes.ensures

pub returns : goal.returns
returns c = lent_eight _ _ _ (search rules) c.fold_eight.ensures
