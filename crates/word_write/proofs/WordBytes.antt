-- What std takes for the bytes of a word is what stands on the wire. Assumes nothing.
use mathlib.Core.Path.{◌≡◌, refl, sym, ◌∙◌, ap}
use Prim.Native.Nat.{ℕ, zero, suc, ◌/◌, ◌%◌, ◌^◌, ◌≤◌}
use native.Mathlib.Omega.{arith}
use mathlib.Core.List.{List}
use lib.ListN.{take}
use native.Mathlib.Nat.{div-one, div-div-eq-div-mul, mul_comm, pow-succ'}
use Rattle.std.specs.Int.{w16, w32, w64, to_le_bytes, bytes_low_first, byte_at}
use Rattle.words.specs.Word.{bytes_of}
use Rattle.words.specs.Statement.{Leaves}

one_byte : (i n : ℕ) → byte_at i n ≡ n / 256 ^ i % 256
one_byte zero n = ap (λ (m : ℕ). m % 256) (sym (div-one n))
one_byte (suc i) n = refl

low_first : (i k n : ℕ) → bytes_low_first i k n ≡ bytes_of k (n / 256 ^ i)
unfolding bytes_of
low_first i zero n = refl
low_first i (suc k) n =
    let up : n / 256 ^ suc i ≡ n / 256 ^ i / 256 = ap (λ (m : ℕ). n / m) (pow-succ' 256 i ∙ mul_comm 256 (256 ^ i)) ∙ sym (div-div-eq-div-mul n (256 ^ i) 256) in
    rw (one_byte i n, low_first (suc i) k n, up)

bytes_are : (k n : ℕ) → bytes_low_first 0 k n ≡ bytes_of k n
bytes_are k n = low_first 0 k n ∙ ap (bytes_of k) (div-one n)

pub two : (n : ℕ) → to_le_bytes w16 n ≡ bytes_of 2 n
two n = bytes_are 2 n

pub four : (n : ℕ) → to_le_bytes w32 n ≡ bytes_of 4 n
four n = bytes_are 4 n

pub eight : (n : ℕ) → to_le_bytes w64 n ≡ bytes_of 8 n
eight n = bytes_are 8 n

-- bytes that are written are those of an equal word
pub word_left : (k n word : ℕ) (bytes before after : List ℕ) → bytes ≡ bytes_of k n → n ≡ word
    → Leaves bytes before after → Leaves (bytes_of k word) before after
word_left k n word bytes before after these same left = rw (← same, ← these) left

-- the first bytes of a word are its lowest
pub take_bytes_of : (j k n : ℕ) → j ≤ k → take j (bytes_of k n) ≡ bytes_of j n
unfolding bytes_of
take_bytes_of zero k n h = refl
take_bytes_of (suc j) zero n h = absurd (omega arith)
take_bytes_of (suc j) (suc k) n h = rw (take_bytes_of j k (n / 256) (omega arith))
