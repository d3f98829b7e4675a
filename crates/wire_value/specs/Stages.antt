-- What the private stages hand on: nobody has to believe it. Assumes nothing.
use Rattle.std.specs.Prelude.{ℕ, ◌≡◌, true, false, ◌&&◌, not, List, [], ◌∷◌, Result, Ok, Err}
use Rattle.words.specs.Answer.{Answer, refuse}
use Rattle.words.specs.Decide.{Line, ◌⇒◌, decide, ◌<?◌}
use Rattle.wire.specs.Layout.{max_length, blob, known, payload, type_at, length_at, null_type, int64, uint64, double, boolean, string, any, composite}
use Rattle.wire.specs.Paper.{paper}
use Rattle.wire.specs.declared.error.WireError.{WireError}
use Rattle.wire_value.specs.declared.value.Value.{Value}
use Rattle.wire_value.specs.declared.value.Value.TheVariants.{Null, Int64, Uint64, Double, Boolean, String, Any, Composite}

-- the checks that a header of this type and length word fails by itself
abbrev pub header_order : ℕ → ℕ → List (Line Answer)
header_order type n = not (known type) ⇒ refuse 14 (type ∷ []) ∷ (blob type && max_length <? n) ⇒ refuse 12 (n ∷ []) ∷ []

-- the type is known, a blob's length is allowed, and the payload is to have so many bytes; or the refusal, whatever
-- follows
abbrev pub Expects : ℕ → ℕ → Result ℕ WireError → Type 0
Expects type n (Ok size) = (known type ≡ true) × ((blob type && max_length <? n) ≡ false) × (payload type n ≡ size)
Expects type n (Err refusal) = (rest : Answer) → decide (header_order type n) rest ≡ paper refusal

-- so of the value at `at`
abbrev pub Looks : List ℕ → ℕ → ℕ → Type 0
Looks s at size = Expects (type_at s at) (length_at s at) (Ok size)

-- a value's type, and the fourth and the fifth word of its entry, by themselves

abbrev pub type_of : Value → ℕ
type_of Null = null_type
type_of (Int64 n) = int64
type_of (Uint64 n) = uint64
type_of (Double x) = double
type_of (Boolean b) = boolean
type_of (String offset n) = string
type_of (Any offset n) = any
type_of (Composite offset n) = composite

abbrev pub offset_or : Value → ℕ → ℕ
offset_or Null bits = bits
offset_or (Int64 x) bits = bits
offset_or (Uint64 x) bits = bits
offset_or (Double x) bits = bits
offset_or (Boolean b) bits = bits
offset_or (String offset n) bits = offset
offset_or (Any offset n) bits = offset
offset_or (Composite offset n) bits = offset

abbrev pub length_of : Value → ℕ
length_of Null = 0
length_of (Int64 x) = 0
length_of (Uint64 x) = 0
length_of (Double x) = 0
length_of (Boolean b) = 0
length_of (String offset n) = n
length_of (Any offset n) = n
length_of (Composite offset n) = n
