-- One result: two exits of a table that meet the statement of `unlink_all` are equal. Assumes nothing.
use mathlib.Core.List.{List}
use Prim.Native.Nat.{ℕ}
use Rattle.words.specs.Statement.{OneResult}
use Rattle.words.proofs.Unique.{equal_to_one}
use Rattle.pack_links.specs.Statement.{plain, Unlinks}

pub unlink_all_unique : (t : List ℕ) → OneResult (Unlinks t)
unlink_all_unique t = equal_to_one (plain t)
