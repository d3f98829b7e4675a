-- `crc64_far::far` meets its contract: each table answers with what its byte becomes, and together they are 256 steps. Assumes
-- nothing.
use Prim.Native.Nat.{ℕ}
use lib.Dec.{lit<}
use Rattle.crc64_eight.proofs.EightBytes.{lowest, beside, whole}
use Rattle.crc64_far.proofs.far.Goals as goal

pub returns : goal.returns
returns c =
    let x : ℕ = c.args.x in
    whole 24 x
    (beside 24 6 _ (lit< tt) c.table_7.ensures
    (beside 24 5 _ (lit< tt) c.table_6.ensures
    (beside 24 4 _ (lit< tt) c.table_5.ensures
    (beside 24 3 _ (lit< tt) c.table_4.ensures
    (beside 24 2 _ (lit< tt) c.table_3.ensures
    (beside 24 1 _ (lit< tt) c.table_2.ensures
    (beside 24 0 _ (lit< tt) c.table_1.ensures
    (lowest 24 _ c.table_0.ensures))))))))
