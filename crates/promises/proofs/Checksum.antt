-- The checksum's promises hold. Assumes nothing.
use Prim.Native.Nat.{ℕ, zero, suc, ◌+◌}
use mathlib.Core.Path.{◌≡◌, refl, sym, ap, ap₂, ◌∙◌}
use lib.Bits.{bit_xor}
use lib.ListN.{length, replicate}
use Rattle.crc64.specs.Polynomial.{step, steps, fold_byte, fold, checksum}
use Rattle.crc64.proofs.Folding.{fold_xor}
use Rattle.crc64.proofs.Entries.{fold_over_is}
use Rattle.crc64_combine.specs.Combined.{combined}
use Rattle.crc64_combine.proofs.Joined.{joined, grouped}
use Rattle.crc64_eight.proofs.Lending.{eight_engine, fold_lent_held}
use Rattle.checksum.proofs.Unique.{same_register}
use Rattle.checksum.proofs.Stretches.{update_append, whole_checksum, append_joins}
use Rattle.promises.specs.Checksum.{ChecksumOfZeros, UpdatesJoin, UpdateIsChecksum, ChecksumXor, CombineJoins, CombineGroups, AppendIsUpdate, EightIsPlain, LentIsPlain}

zeros : (count : ℕ) → checksum (replicate count 0) ≡ 0
unfolding fold fold_byte steps step
zeros zero = refl
zeros (suc count) = zeros count

pub checksum_of_zeros : ChecksumOfZeros
checksum_of_zeros count r told = told ∙ zeros count

pub updates_join : UpdatesJoin
updates_join = update_append

pub update_is_checksum : UpdateIsChecksum
update_is_checksum first last bytes r new updated finished = whole_checksum first last bytes new updated finished

pub checksum_xor : ChecksumXor
checksum_xor a b sumA sumB sum even of-a of-b told = told ∙ fold_xor 0 0 a b even ∙ sym (ap₂ bit_xor of-a of-b)

pub combine_joins : CombineJoins
combine_joins a b sumA sumB sum of-a of-b told =
    told ∙ ap₂ (λ (x y : ℕ). combined x y (length b)) of-a of-b ∙ joined a b

pub combine_groups : CombineGroups
combine_groups a b c m n ab left bc right of-ab of_left of-bc of_right =
    of_left
    ∙ ap (λ (x : ℕ). combined x c n) of-ab
    ∙ grouped a b c m n
    ∙ ap (λ (x : ℕ). combined a x (m + n)) (sym of-bc)
    ∙ sym of_right

pub append_is_update : AppendIsUpdate
append_is_update before appended updated bytes sum of-bytes told-append told-update =
    same_register (append_joins before appended updated bytes of-bytes told-append told-update)

pub eight_is_plain : EightIsPlain
eight_is_plain register bytes plain r told-plain told = told ∙ sym told-plain

pub lent_is_plain : LentIsPlain
lent_is_plain tables table register bytes plain r fits are_bytes eight one told-plain told =
    fold_lent_held tables register bytes (eight_engine eight) told fits are_bytes
    ∙ sym (fold_over_is register bytes one told-plain fits are_bytes)
