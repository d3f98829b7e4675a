-- `crc64_eight::fold_bytes` meets its contract: the first table is lent. Assumes nothing.
use Rattle.std.proofs.Common.{◌∙◌, ap, List, ℕ, length-take-le}
use Rattle.crc64.specs.Table.{fold_over}
use Rattle.crc64_eight.proofs.FrontTable.{front_table}
use Rattle.crc64_eight.proofs.fold_bytes.Goals as goal

pub returns : goal.returns
returns c =
    let lent = (rw c.unwrap.ensures at c.try_into.ensures).1.same in
    c.fold_over.ensures ∙ ap (λ (table : List ℕ). fold_over table c.args.register c.args.bytes.now) lent ∙ front_table c.args.tables.now c.args.register c.args.bytes.now

pub unwrap-requires : goal.unwrap-requires
unwrap-requires c = c.try_into.ensures.0 (length-take-le 256 _ c.requires)
