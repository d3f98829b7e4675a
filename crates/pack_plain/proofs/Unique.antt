-- One result: two results, and two exits of the table and the second area, that meet the statement of `pack_plain`
-- are equal. Assumes nothing.
use mathlib.Core.List.{List}
use Prim.Native.Nat.{ℕ}
use Rattle.words.specs.Statement.{OneResult}
use Rattle.pack_answer.specs.Statement.{Packs}
use Rattle.wire.specs.declared.error.WireError.{WireError}
use Rattle.std.specs.declared.result.Result.{Result}
use Rattle.pack_answer.proofs.Unique.{packs_unique}

pub pack_plain_unique : (area values out : List ℕ) → OneResult (λ (x : Result ℕ WireError × List ℕ × List ℕ). Packs area values out x.0 x.1 x.2)
pack_plain_unique = packs_unique
