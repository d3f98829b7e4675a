-- One to eight bytes through 64 steps: they are moved up by the j bytes that they lack of a word, and what they leave of the
-- register is kept beside. The register is held byte-swapped. Assumes nothing.
use mathlib.Core.Path.{◌≡◌, sym, ap, ap₂, ◌∙◌, subst}
use mathlib.Core.List.{List}
use Prim.Native.Nat.{ℕ, ◌+◌, ◌*◌, ◌/◌, ◌%◌, ◌^◌, ◌≤◌, ◌<◌}
use native.Mathlib.Nat.{add_comm}
use native.Mathlib.Omega.{arith}
use lib.ListN.{length, take}
use lib.Seq.{length-take-le}
use lib.Pow.{shl_lt, shr_lt}
use lib.Bits.{bit_xor, xor_comm, xor_shifted}
use Rattle.words.specs.Word.{word, Bytes}
use Rattle.crc64.specs.Polynomial.{steps, fold}
use Rattle.crc64.specs.Table.{swapped}
use Rattle.crc64.proofs.Xor.{xor_assoc, xor_shl}
use Rattle.crc64.proofs.Register.{steps_xor, steps_add, steps_shift}
use Rattle.crc64.proofs.Folding.{big_endian, at_once}
use Rattle.crc64.proofs.Burst.{bytes_take}
use Rattle.crc64.proofs.Swap.{swapped_xor, swapped_lt}
use Rattle.crc64_eight.proofs.Words.{swapped_word}
use Rattle.crc64_fast.proofs.Parts.{parts, moved, lifted, longer}

-- what 64 steps make of x, beside what was kept
abbrev pub after : ℕ → ℕ → ℕ
after x kept = bit_xor (steps 64 (swapped 8 x)) (swapped 8 kept)

-- n bytes of s, which leave j of a word free; q is the register as it is held
module _ (n j q : ℕ) (s : List ℕ) (free : n + j ≡ 8) (hq : q < 2 ^ 64) (hs : Bytes s) (there : n ≤ length s) where
  abbrev y : ℕ
  y = bit_xor q (word 8 s 0)

  abbrev top : ℕ
  top = 2 ^ (8 * j)

  -- the register's part that the bytes meet, and the part that they do not
  abbrev met : ℕ
  met = swapped n q

  abbrev left : ℕ
  left = swapped j (q / 2 ^ (8 * n))

  bits : 8 * n + 8 * j ≡ 64
  bits = omega arith

  left_lt : left < top
  left_lt = swapped_lt j (q / 2 ^ (8 * n))

  -- both parts, in the register
  both : swapped 8 q ≡ bit_xor (met * top) left
  both = ap (λ (k : ℕ). swapped k q) (sym free) ∙ parts n j q ∙ sym (xor_shifted met (8 * j) left left_lt)

  -- the bytes, the first highest
  spelt : swapped n (word 8 s 0) ≡ big_endian (take n s)
  spelt = ap (λ (k : ℕ). swapped n (word k s 0)) (sym free) ∙ longer n j s 0 hs ∙ swapped_word n s hs there

  -- what goes through the steps
  through : steps 64 (swapped 8 (y * top % 2 ^ 64)) ≡ steps (8 * n) (swapped n y * top)
  through =
      ap₂ (λ (k e : ℕ). steps 64 (swapped k (y * top % 2 ^ e))) (sym free ∙ add_comm n j) (sym bits)
      ∙ ap (steps 64) (moved n j y)
      ∙ ap (λ (e : ℕ). steps e (swapped n y)) (sym bits ∙ add_comm (8 * n) (8 * j))
      ∙ steps_add (8 * j) (8 * n) (swapped n y)
      ∙ ap (steps (8 * n)) (steps_shift (8 * j) (swapped n y) (subst (λ (e : ℕ). swapped n y * top < 2 ^ e) bits (shl_lt (8 * n) (8 * j) (swapped_lt n y))))

  -- what is kept
  beside : swapped 8 (q / 2 ^ (8 * n)) ≡ steps (8 * n) left
  beside =
      let turned : 8 * j + 8 * n ≡ 64 = add_comm (8 * j) (8 * n) ∙ bits in
      ap (λ (k : ℕ). swapped k (q / 2 ^ (8 * n))) (sym free ∙ add_comm n j)
      ∙ lifted n j (q / 2 ^ (8 * n)) (shr_lt (8 * j) (8 * n) (subst (λ (e : ℕ). q < 2 ^ e) (sym turned) hq))
      ∙ sym (steps_shift (8 * n) left (subst (λ (e : ℕ). left * 2 ^ (8 * n) < 2 ^ e) turned (shl_lt (8 * j) (8 * n) left_lt)))

  -- the bytes are xored in at the top of the register
  entered : bit_xor (swapped n y * top) left ≡ bit_xor (big_endian (take n s) * top) (swapped 8 q)
  entered =
      ap (λ (z : ℕ). bit_xor (z * top) left) (swapped_xor n q (word 8 s 0) ∙ ap (λ (z : ℕ). bit_xor met z) spelt ∙ xor_comm met (big_endian (take n s)))
      ∙ ap (λ (z : ℕ). bit_xor z left) (xor_shl (8 * j) (big_endian (take n s)) met)
      ∙ xor_assoc (big_endian (take n s) * top) (met * top) left
      ∙ ap (λ (z : ℕ). bit_xor (big_endian (take n s) * top) z) (sym both)

  pub stretch : after (y * top % 2 ^ 64) (q / 2 ^ (8 * n)) ≡ fold (swapped 8 q) (take n s)
  stretch =
      let count : length (take n s) ≡ n = length-take-le n s there in
      ap₂ bit_xor through beside
      ∙ sym (steps_xor (8 * n) (swapped n y * top) left)
      ∙ ap (steps (8 * n)) entered
      ∙ ap (λ (k : ℕ). steps (8 * k) (bit_xor (big_endian (take n s) * top) (swapped 8 q))) (sym count)
      ∙ sym (at_once (8 * j) (swapped 8 q) (take n s) (ap (λ (k : ℕ). 8 * k + 8 * j) count ∙ bits) (bytes_take n s hs))
