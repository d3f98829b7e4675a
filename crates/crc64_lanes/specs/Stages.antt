-- Registers that wait for their place in a string: the first is xored in at its start, each next one eight bytes later.
-- Private contracts cite it: nobody has to believe it. Assumes nothing.
use Rattle.std.specs.Prelude.{ℕ, List, [], ◌∷◌, map, take, drop}
use Rattle.std.specs.Int.Bits.{bit_xor}
use Rattle.crc64.specs.Polynomial.{fold}
use Rattle.crc64.specs.Table.{swapped}

-- the register r and those that wait, folded over s
unfoldable pub entering : ℕ → List ℕ → List ℕ → ℕ
entering r [] s = fold r s
entering r (q ∷ qs) s = entering (fold (bit_xor r q) (take 8 s)) qs (drop 8 s)

-- the registers of a queue, held byte-swapped
unfoldable pub waits : List ℕ → List ℕ → ℕ
waits qs s = entering 0 (map (swapped 8) qs) s
