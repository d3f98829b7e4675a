-- A sparse multiple of the polynomial: x^1856 = x^1556 + x^1310 + x^1180 + x^753 + x^256 + x^236 + 1 holds in bytes
-- too. So a byte that leaves in front is paid by xoring it in again at seven later places. Assumes nothing.
use Rattle.std.specs.Prelude.{ℕ, zero, suc, ◌*◌, List, [], ◌∷◌, ◌++◌, drop, get_or}
use Rattle.std.specs.Int.Bits.{bit_xor}
use Rattle.crc64.specs.Polynomial.{steps}
use Rattle.crc64.specs.Table.{swapped}
use Rattle.words.specs.Word.{bytes_of}

abbrev pub span : ℕ
span = 1856

abbrev pub places : List ℕ
places = 0 ∷ 236 ∷ 256 ∷ 753 ∷ 1180 ∷ 1310 ∷ 1556 ∷ []

-- p xored into the front of s
unfoldable pub xor_front : List ℕ → List ℕ → List ℕ
xor_front [] s = s
xor_front (x ∷ p) [] = []
xor_front (x ∷ p) (y ∷ s) = bit_xor x y ∷ xor_front p s

-- what the bytes h that left last, the oldest first, owe to the string s that follows them: h from each place on
unfoldable pub owed : List ℕ → List ℕ → List ℕ → List ℕ
owed [] h s = s
owed (e ∷ es) h s = xor_front (drop e h) (owed es h s)

-- the byte that leaves next
unfoldable pub leaving : List ℕ → List ℕ → ℕ → ℕ
leaving [] h b = b
leaving (e ∷ es) h b = bit_xor (get_or h e 0) (leaving es h b)

-- the sum of c at the places, in bytes
unfoldable pub spread : List ℕ → ℕ → ℕ
spread [] c = 0
spread (e ∷ es) c = bit_xor (steps (8 * e) c) (spread es c)

-- what left, and k bytes of s behind it, each as it leaves
unfoldable pub filled : ℕ → List ℕ → List ℕ → List ℕ
filled zero h s = h
filled (suc k) h s = filled k h s ++ (leaving places (drop k (filled k h s)) (get_or s k 0) ∷ [])

unfoldable pub zeros : ℕ → List ℕ
zeros zero = []
zeros (suc n) = 0 ∷ zeros n

-- a register as bytes that left: its own, the highest first, which are owed to the next eight, and nothing else
unfoldable pub opened : ℕ → List ℕ
opened r = bytes_of 8 (swapped 8 r) ++ zeros 1848
