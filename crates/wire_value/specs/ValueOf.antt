-- The Rust's value of what stands on the wire: document 01, "A single value read answers the Rust's `Value`, its Double
-- carrying an f64 with its bits kept, its blobs an offset and a length; id, aggregate flag and next offset stand beside
-- it". Assumes nothing.
use Rattle.std.specs.Prelude.{ℕ, suc, ◌+◌, ◌-◌, ◌^◌, [], ◌∷◌, List, ℤ, pos, negsuc}
use Rattle.std.specs.Float.{binary64}
use Rattle.std.specs.Float.Ieee.{of_bits}
use Rattle.words.specs.Decide.{pick, ◌⇒◌, decide, ◌<?◌, ◌=?◌, ◌≠?◌}
use Rattle.wire.specs.Layout.{int64, uint64, double, boolean, string, any, composite, scalar, bits_of, id_at, type_at, aggregate_at, length_at, scalar_at, next_value}
use Rattle.wire_value.specs.declared.value.Value.{Value}
use Rattle.wire_value.specs.declared.value.Value.TheVariants.{Null, Int64, Uint64, Double, Boolean, String, Any, Composite}
use Rattle.wire_value.specs.declared.value.Header.{Header}
use Rattle.wire_value.specs.declared.value.UnversionedValue.{UnversionedValue}

-- a word of 64 bits as two's complement
unfoldable pub signed : ℕ → ℤ
signed bits = pick (bits <? (2 ^ 63)) (pos bits) (negsuc (2 ^ 64 - suc bits))

-- the value of a type, from a scalar's bits or a blob's offset and length
unfoldable pub value_of : ℕ → ℕ → ℕ → ℕ → Value
value_of type bits offset n =
    decide
    (type =? int64 ⇒ Int64 (signed bits)
    ∷ type =? uint64 ⇒ Uint64 bits
    ∷ type =? double ⇒ Double (of_bits binary64 bits)
    ∷ type =? boolean ⇒ Boolean (bits ≠? 0)
    ∷ type =? string ⇒ String offset n
    ∷ type =? any ⇒ Any offset n
    ∷ type =? composite ⇒ Composite offset n
    ∷ [])
    Null

-- the bits that stand beside the value
unfoldable pub bits_at : List ℕ → ℕ → ℕ
bits_at s at = pick (scalar (type_at s at)) (bits_of (type_at s at) (scalar_at s at)) 0

unfoldable pub header_at : List ℕ → ℕ → Header
header_at s at = record { id = id_at s at; kind = type_at s at; aggregate = aggregate_at s at; length = length_at s at }

unfoldable pub value_at : List ℕ → ℕ → UnversionedValue
value_at s at =
    record {
      id = id_at s at;
      aggregate = aggregate_at s at ≠? 0;
      value =
          value_of (type_at s at) (bits_at s at) (at + 8) (length_at s at);
      bits = bits_at s at;
      next = next_value s at;
    }
