-- `crc64_eight::tables` meets its contract: the rule of all 2,048 entries is one computed test. Assumes nothing.
use mathlib.Core.Path.{◌≡◌, refl, ◌∙◌}
use mathlib.Core.List.{List}
use Prim.Native.Nat.{ℕ}
use Rattle.crc64.specs.Polynomial.{step, steps}
use Rattle.crc64.specs.Table.{swapped, entry}
use Rattle.crc64_eight.specs.Statement.{TablesIs}
use Rattle.crc64_eight.proofs.Rule.{follow_the_rule}
use Rattle.crc64_eight.proofs.Span.{spanned, spanned_from, spanned_tables}
use Rattle.crc64_eight.proofs.tables.Goals as goal

spans : (t : List ℕ) → t ≡ spanned_from 0 8 → TablesIs t
spans t e = follow_the_rule (e ∙ spanned_tables 0 8)

pub returns : goal.returns
unfolding step steps swapped entry spanned spanned_from
returns c = spans _ refl
