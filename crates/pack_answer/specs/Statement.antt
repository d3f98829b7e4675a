-- What the public functions of packing promise, by name. (The map of answers promises words' `Tells` of
-- `paper_packed`.) Assumes nothing.
use Rattle.std.specs.Prelude.{ℕ, ◌+◌, ◌≡◌, Bool, ◌&&◌, List, length, Result}
use Rattle.words.specs.Buffer.{stretch}
use Rattle.words.specs.Decide.{◌<?◌}
use Rattle.words.specs.Statement.{Means, Holds}
use Rattle.wire.specs.Layout.{blob}
use Rattle.pack_pairs.specs.Packing.{capped, packing, packed_table, packed_area}
use Rattle.pack_answer.specs.Paper.{paper_packed}
use Rattle.wire.specs.declared.error.WireError.{WireError}

-- lent a table that held `values` and holds `values'`, and a second area that held `out` and holds `out'`
abbrev pub Packs : List ℕ → List ℕ → List ℕ → Result ℕ WireError → List ℕ → List ℕ → Type 0
Packs area values out r values' out' =
    let answer = packing area values (length out) in
    Means paper_packed answer r × Holds answer (packed_table values) values values'
    × Holds answer (packed_area area values) out out'

abbrev pub IsBlob : ℕ → Bool → Type 0
IsBlob type r = r ≡ blob type

abbrev pub IsStored : ℕ → ℕ → Bool → Type 0
IsStored type n r = r ≡ (blob type && 0 <? n)

abbrev pub CutIs : List ℕ → ℕ → ℕ → List ℕ → Type 0
CutIs area start n r = r ≡ stretch area start n

abbrev pub AddsCapped : ℕ → ℕ → ℕ → Type 0
AddsCapped sum more r = r ≡ capped (sum + more)
