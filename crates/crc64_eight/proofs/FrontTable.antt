-- A fold over more numbers than a table has asks the first 256 alone. Assumes nothing.
use mathlib.Core.Path.{◌≡◌, refl}
use mathlib.Core.List.{List, [], ◌∷◌}
use Prim.Native.Nat.{ℕ, ◌%◌}
use native.Mathlib.Nat.{mod-lt}
use lib.Dec.{lit<}
use lib.ListN.{take}
use lib.Seq.{get_or-take}
use lib.Bits.{bit_xor}
use Rattle.crc64.specs.Table.{turn, fold_over}

one_turn : (t : List ℕ) (r b : ℕ) → turn (take 256 t) r b ≡ turn t r b
unfolding turn
one_turn t r b = rw (get_or-take 256 t (bit_xor r b % 256) 0 (mod-lt (bit_xor r b) (lit< tt)))

pub front_table : (t : List ℕ) (r : ℕ) (s : List ℕ) → fold_over (take 256 t) r s ≡ fold_over t r s
unfolding fold_over
front_table t r [] = refl
front_table t r (b ∷ s) = rw (one_turn t r b, front_table t (turn t r b) s)
