-- `crc64_near::near` meets its contract: each table answers with what its byte becomes, and together they are 64 steps. Assumes
-- nothing.
use Prim.Native.Nat.{ℕ}
use lib.Dec.{lit<}
use Rattle.crc64_eight.proofs.EightBytes.{lowest, beside, whole}
use Rattle.crc64_near.proofs.near.Goals as goal

pub returns : goal.returns
returns c =
    let x : ℕ = c.args.x in
    whole 0 x
    (beside 0 6 _ (lit< tt) c.table_7.ensures
    (beside 0 5 _ (lit< tt) c.table_6.ensures
    (beside 0 4 _ (lit< tt) c.table_5.ensures
    (beside 0 3 _ (lit< tt) c.table_4.ensures
    (beside 0 2 _ (lit< tt) c.table_3.ensures
    (beside 0 1 _ (lit< tt) c.table_2.ensures
    (beside 0 0 _ (lit< tt) c.table_1.ensures
    (lowest 0 _ c.table_0.ensures))))))))
