-- The fold over lent tables, whatever they hold. The register is held byte-swapped, as in the plain engine. Assumes
-- nothing.
use Rattle.std.specs.Prelude.{ℕ, zero, suc, ◌+◌, ◌*◌, ◌/◌, ◌%◌, List, [], ◌∷◌, length, get_or, drop}
use Rattle.std.specs.Int.Bits.{bit_xor}
use Rattle.words.specs.Word.{word}
use Rattle.words.specs.Decide.{◌<?◌, ◌⇒◌, decide}
use Rattle.crc64.specs.Table.{fold_over}

-- the numbers of one table, and of eight
abbrev pub one_table : ℕ
one_table = 256

abbrev pub eight_tables : ℕ
eight_tables = 2048

-- the n + 1 low bytes of x, each asked of its table; the lowest came first, so it has the most bytes behind it
unfoldable pub looked : List ℕ → ℕ → ℕ → ℕ
looked t zero x = get_or t (x % 256) 0
looked t (suc n) x = bit_xor (get_or t (256 * suc n + x % 256) 0) (looked t n (x / 256))

-- n words of eight bytes, from the front: each is xored into the register at once
unfoldable pub fold_words : List ℕ → ℕ → ℕ → List ℕ → ℕ
fold_words t zero r s = r
fold_words t (suc n) r s = fold_words t n (looked t 7 (bit_xor r (word 8 s 0))) (drop 8 s)

-- as many words as there are
abbrev pub fold_whole : List ℕ → ℕ → List ℕ → ℕ
fold_whole t r s = fold_words t (length s / 8) r s

-- document 02, A7: "folds eight bytes at once with eight tables of 256 numbers, the tail by the old loop"
unfoldable pub fold_eight : List ℕ → ℕ → List ℕ → ℕ
fold_eight t r s = fold_over t (fold_whole t r s) (drop (8 * (length s / 8)) s)

-- eight tables are taken eight bytes at a step, and one a byte at a time; fewer numbers are no table, and leave the
-- register
unfoldable pub fold_lent : List ℕ → ℕ → List ℕ → ℕ
fold_lent t r s = decide (length t <? one_table ⇒ r ∷ length t <? eight_tables ⇒ fold_over t r s ∷ []) (fold_eight t r s)
