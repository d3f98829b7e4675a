-- What std reads out of the bytes of a word is the word that stands on the wire. Assumes nothing.
use mathlib.Core.Path.{◌≡◌}
use mathlib.Core.List.{List}
use Prim.Native.Nat.{ℕ}
use native.Mathlib.Omega.{arith}
use Rattle.std.specs.Int.{w16, w32, w64, from_le_bytes}
use Rattle.words.specs.Word.{word}

pub two : (bytes : List ℕ) → from_le_bytes w16 bytes ≡ word 2 bytes 0
unfolding word
two bytes = omega arith

pub four : (bytes : List ℕ) → from_le_bytes w32 bytes ≡ word 4 bytes 0
unfolding word
four bytes = omega arith

pub eight : (bytes : List ℕ) → from_le_bytes w64 bytes ≡ word 8 bytes 0
unfolding word
eight bytes = omega arith
