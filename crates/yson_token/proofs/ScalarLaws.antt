-- Where a string and an entity end, by their first byte. Assumes nothing.
use mathlib.Core.Path.{◌≡◌}
use mathlib.Core.List.{List}
use Prim.Native.Nat.{ℕ, ◌+◌}
use lib.ListN.{get_or}
use Rattle.yson_token.specs.Token.{end, text_end, scalar_end}

module _ (s : List ℕ) (at : ℕ) where
  pub scalar_text : get_or s at 0 ≡ 1 → scalar_end s at ≡ text_end s (at + 1)
  unfolding scalar_end
  scalar_text b = rw b

  pub scalar_entity : get_or s at 0 ≡ 35 → scalar_end s at ≡ end (at + 1)
  unfolding scalar_end
  scalar_entity b = rw b
