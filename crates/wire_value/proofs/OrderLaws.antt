-- What a value's checks decide, by the check that decides. Assumes nothing.
use mathlib.Core.Path.{◌≡◌, sym, ◌∙◌}
use mathlib.Core.Bool.{false}
use mathlib.Core.List.{List}
use Prim.Native.Nat.{ℕ, ◌+◌, ◌-◌, ◌<◌, ◌≤◌}
use native.Mathlib.Omega.{arith}
use lib.ListN.{length}
use borrow.Author.Tests.{lt-ltb, le-ltb}
use Rattle.wire.specs.Layout.{null_type, max_length, blob, known, padded, type_at, length_at, next_value}
use Rattle.wire.specs.Need.{lacks, Needs}
use Rattle.wire.specs.declared.error.WireError.{WireError}
use Rattle.wire.specs.declared.error.WireError.TheVariants.{ValueTooLong, UnknownValueType}
use Rattle.std.specs.declared.result.Result.{Result}
use Rattle.std.specs.declared.result.Result.TheVariants.{Ok, Err}
use Rattle.wire.proofs.NeedLaws.{enough_room, short_stops}
use Rattle.wire.proofs.TypeLaws.{scalar_low, blob_low, known_null, known_scalar, known_blob, payload_none, payload_scalar, payload_blob, blob_yes}
use Rattle.wire_value.specs.ValueOrder.{value_order}
use Rattle.wire_value.specs.ValueOf.{header_at}
use Rattle.wire_value.specs.Statement.{ChecksValue, Lies}
use Rattle.wire_value.specs.Stages.{Expects, Looks}
use Rattle.wire_value.specs.declared.value.Header.{Header}
use Rattle.wire_value.specs.declared.value.Checked.{Checked}
use Rattle.wire_value.proofs.HeaderLaws.{header_kind, header_length}

-- what a header of this type and length word asks for
module _ (type n : ℕ) where
  pub expects_unknown : known type ≡ false → Expects type n (Err (UnknownValueType type))
  expects_unknown h = λ rest. rw h

  pub expects_null : type ≡ null_type → Expects type n (Ok 0)
  expects_null h =
      let none : blob type ≡ false = blob_low type (omega arith) in
      (known_null type h, rw none, payload_none type n (scalar_low type (omega arith)) none)

  pub expects_scalar : 2 < type → type < 7 → Expects type n (Ok 8)
  expects_scalar low high = (known_scalar type low high, rw (blob_low type (omega arith)), payload_scalar type n low high)

  module _ (low : 15 < type) (high : type < 19) where
    pub expects_long : max_length < n → Expects type n (Err (ValueTooLong n))
    expects_long h = λ rest. rw (known_blob type low high, blob_yes type low high, lt-ltb max_length n h)

    pub expects_blob : n ≤ max_length → (size : ℕ) → size ≡ padded n → Expects type n (Ok size)
    expects_blob allowed size is = (known_blob type low high, rw (blob_yes type low high, le-ltb max_length n allowed), payload_blob type n low high ∙ sym is)

-- a result of the checks, and where it lies
abbrev pub Checks : List ℕ → ℕ → Result Checked WireError → Type 0
Checks s at r = ChecksValue s at r × Lies s r

-- the header is not there
pub header_short : (s : List ℕ) (at : ℕ) (r : Result (Unit {0}) WireError) → Needs s at 8 r → (e : WireError) → r ≡ Err e → Checks s at (Err e)
unfolding value_order
header_short s at r needs e is = ((λ rest. short_stops s at 8 r needs e is _), tt)

-- the header is there, and its fields are given
module _ (s : List ℕ) (at : ℕ) (header : Header) (is : header ≡ header_at s at) (room : at + 8 ≤ length s) where
  kind_is : header.kind ≡ type_at s at
  kind_is = header_kind s at header is

  length_is : header.length ≡ length_at s at
  length_is = header_length s at header is

  there : lacks s at 8 ≡ false
  there = le-ltb (length s - at) 8 (omega arith)

  -- what the header asks for is refused, or is looked for
  module _ (r : Result ℕ WireError) (expects : Expects header.kind header.length r) where
    pub header_fails : (e : WireError) → r ≡ Err e → Checks s at (Err e)
    unfolding value_order
    header_fails e refuses =
        let told : Expects (type_at s at) (length_at s at) (Err e) = rw (kind_is, length_is, refuses) at expects in
        ((λ rest. rw there (told _)), tt)

    pub header_looks : (n : ℕ) → r ≡ Ok n → Looks s at n
    header_looks n asks = rw (kind_is, length_is, asks) at expects

  -- the type is known and the length allowed: the payload of so many bytes is there, or it is not
  module _ (n : ℕ) (looks : Looks s at n) (r : Result (Unit {0}) WireError) (needs : Needs s (at + 8) n r) where
    pub payload_lacks : (e : WireError) → r ≡ Err e → Checks s at (Err e)
    unfolding value_order
    payload_lacks e short = ((λ rest. rw (there, looks.0, looks.1, looks.2) (short_stops s (at + 8) n r needs e short rest)), tt)

    pub payload_there : r ≡ Ok tt → at + 8 + n ≤ length s
    payload_there enough = omega (arith, enough_room s (at + 8) n r needs enough)

    pub payload_passes : r ≡ Ok tt → Checks s at (Ok record { header = header; next = at + 8 + n })
    unfolding value_order next_value
    payload_passes enough =
        let size : n ≤ length s - (at + 8) = enough_room s (at + 8) n r needs enough in
        ((is, rw looks.2, (λ rest. rw (there, looks.0, looks.1, looks.2, le-ltb (length s - (at + 8)) n size))), omega arith)
