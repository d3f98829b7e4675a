-- `crc64::swap_bytes` meets its contract: what std turns round is the definition's sum. Assumes nothing.
use Rattle.std.proofs.Common.{◌≡◌, ℕ, ◌∙◌, arith}
use native.Mathlib.Nat.{div-div-eq-div-mul}
use Rattle.std.specs.Int.{w64, swap_bytes}
use Rattle.crc64.specs.Table.{swapped}
use Rattle.crc64.proofs.swap_bytes.Goals as goal

turned_round : (x : ℕ) → swap_bytes w64 x ≡ swapped 8 x
unfolding swapped
turned_round x = simp div-div-eq-div-mul (omega arith)

pub returns : goal.returns
returns c = c.swap_bytes.ensures ∙ turned_round c.args.x
