-- The checksum of strings joined, two and three of them, as laws over numbers: no length is bounded. Assumes nothing.
use mathlib.Core.Path.{◌≡◌, sym, ap, ◌∙◌}
use mathlib.Core.List.{List, ◌++◌}
use Prim.Native.Nat.{ℕ, ◌+◌, ◌*◌}
use native.Mathlib.Nat.{mul-add}
use lib.ListN.{length}
use lib.Bits.{bit_xor, xor_comm}
use Rattle.crc64.specs.Polynomial.{steps, fold, checksum}
use Rattle.crc64.proofs.Xor.{xor_assoc}
use Rattle.crc64.proofs.Register.{steps_xor, steps_add}
use Rattle.crc64.proofs.Folding.{fold_append, fold_apart}
use Rattle.crc64_combine.specs.Combined.{combined}

pub joined : (a b : List ℕ) → combined (checksum a) (checksum b) (length b) ≡ checksum (a ++ b)
unfolding combined
joined a b =
    xor_comm (steps (8 * length b) (fold 0 a)) (fold 0 b) ∙ sym (fold_apart (fold 0 a) b) ∙ sym (fold_append 0 a b)

-- three stretches, either way
pub grouped : (a b c m n : ℕ) → combined (combined a b m) c n ≡ combined a (combined b c n) (m + n)
unfolding combined
grouped a b c m n =
    ap (λ (z : ℕ). bit_xor z c) (steps_xor (8 * n) (steps (8 * m) a) b)
    ∙ xor_assoc (steps (8 * n) (steps (8 * m) a)) (steps (8 * n) b) c
    ∙ ap (λ (z : ℕ). bit_xor z (combined b c n)) (sym (steps_add (8 * m) (8 * n) a) ∙ ap (λ (k : ℕ). steps k a) (sym (mul-add 8 m n)))
