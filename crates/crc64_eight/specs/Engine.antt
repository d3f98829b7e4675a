-- What the private contracts of callers cite of tables that they are lent; nobody has to believe it. Assumes nothing.
use Rattle.std.specs.Prelude.{ℕ, ◌^◌, ◌<◌, ◌≡◌, List}
use Rattle.words.specs.Word.{Bytes}
use Rattle.crc64.specs.Polynomial.{fold}
use Rattle.crc64.specs.Table.{swapped}
use Rattle.crc64_eight.specs.Lent.{fold_lent}

-- tables over which the fold is the polynomial's
abbrev pub Engine : List ℕ → Type 0
Engine t = (r : ℕ) (s : List ℕ) → r < 2 ^ 64 → Bytes s → fold_lent t (swapped 8 r) s ≡ swapped 8 (fold r s)
