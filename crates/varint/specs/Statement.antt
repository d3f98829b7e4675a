-- What each public function promises, by name, over the inputs, the result and the lent part at entry and at exit.
-- Assumes nothing.
use Rattle.std.specs.Prelude.{ℕ, ◌≡◌, true, false, List, length, Option, Some, None}
use Rattle.words.specs.Statement.{Leaves}
use Rattle.varint.specs.Varint.{varint_at, varint_end, whole_varint, varint}
use Rattle.varint.specs.declared.read.Varint.{Varint}

-- the varint at `at`, and where it ends; or none that ends by `end`
abbrev pub ReadsVarint : List ℕ → ℕ → ℕ → Option Varint → Type 0
ReadsVarint s at end (Some v) =
    (whole_varint s at end ≡ true) × (v.value ≡ varint_at s at) × (v.next ≡ varint_end s at)
ReadsVarint s at end None = whole_varint s at end ≡ false

-- how many bytes the shortest varint of n has
abbrev pub SizesVarint : ℕ → ℕ → Type 0
SizesVarint n r = r ≡ length (varint n)

-- the shortest varint over the front of the part, or the part as it was; and how many bytes it has
abbrev pub WritesVarint : ℕ → List ℕ → ℕ → List ℕ → Type 0
WritesVarint n before r after = SizesVarint n r × Leaves (varint n) before after
