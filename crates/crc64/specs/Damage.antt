-- What the laws of the checksum speak of: damage to a byte string, and two strings joined byte by byte. Assumes
-- nothing.
use Rattle.std.specs.Prelude.{ℕ, ◌+◌, ◌≡◌, List, [], ◌∷◌, length, take, drop}
use Rattle.std.specs.Int.Bits.{bit_xor}

-- two strings of one length that differ, and differ only inside the n bytes from `at` on
pub record Damaged (at n : ℕ) (a b : List ℕ) : Type 0 where
  pub same_length : length a ≡ length b
  pub same_front : take at a ≡ take at b
  pub same_rest : drop (at + n) a ≡ drop (at + n) b
  pub differ : a ≡ b → ⊥

-- the byte-wise exclusive or, as far as both go
unfoldable pub xor_bytes : List ℕ → List ℕ → List ℕ
xor_bytes [] b = []
xor_bytes (x ∷ a) [] = []
xor_bytes (x ∷ a) (y ∷ b) = bit_xor x y ∷ xor_bytes a b
