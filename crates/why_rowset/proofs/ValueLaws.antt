-- What a value's checks tell, by the check that decides. Assumes nothing.
use Prim.Native.Nat.{ℕ, ◌+◌, ◌-◌, ◌<◌, ◌≤◌}
use mathlib.Core.Path.{◌≡◌}
use mathlib.Core.Bool.{true, false, ◌&&◌}
use mathlib.Core.List.{List}
use native.Mathlib.Omega.{arith}
use lib.ListN.{length}
use borrow.Author.Tests.{lt-ltb, le-ltb}
use Rattle.words.specs.Decide.{◌<?◌}
use Rattle.words.specs.Note.{number, one_of}
use Rattle.wire.specs.Layout.{null_type, max_length, known, blob, padded, payload, type_at, length_at, next_value}
use Rattle.wire.specs.Need.{lacks}
use Rattle.wire.proofs.TypeLaws.{blob_yes, blob_low, known_blob}
use Rattle.wire_value.specs.ValueOf.{header_at}
use Rattle.wire_value.specs.ValueOrder.{payload_name}
use Rattle.wire_value.specs.declared.value.Header.{Header}
use Rattle.wire_value.proofs.HeaderLaws.{header_kind, header_length}
use Rattle.wire_value.proofs.OrderLaws.{expects_null, expects_scalar, expects_blob}
use Rattle.finding.specs.Saying.{refusing}
use Rattle.finding.specs.Meaning.{name_of, meaning}
use Rattle.finding.specs.declared.Field.{Field}
use Rattle.finding.specs.declared.Finding.{Finding}
use Rattle.why_rowset.specs.Stages.{Asks, Checks}
use Rattle.std.specs.declared.result.Result.TheVariants.{Ok, Err}

-- the header is not there
pub header_short : (s : List ℕ) (at : ℕ) (f : Finding) → length s - at < 8 → meaning f ≡ refusing 9 "value-header" at (length s - at) (number 8) → Checks s at (Err f)
header_short s at f short told rest = rw (lt-ltb (length s - at) 8 short) told

-- it is, and its fields are given
module _ (s : List ℕ) (at : ℕ) (header : Header) (is : header ≡ header_at s at) (room : at + 8 ≤ length s) where
  kind_is : header.kind ≡ type_at s at
  kind_is = header_kind s at header is

  length_is : header.length ≡ length_at s at
  length_is = header_length s at header is

  there : lacks s at 8 ≡ false
  there = le-ltb (length s - at) 8 (omega arith)

  pub type_unknown : (f : Finding) → known header.kind ≡ false → meaning f ≡ refusing 14 "type" (at + 2) header.kind (one_of "2-6,16-18") → Checks s at (Err f)
  type_unknown f unknown told rest = rw (there, ← kind_is, unknown) told

  pub blob_long : (f : Finding) → 15 < header.kind → header.kind < 19 → max_length < header.length
      → meaning f ≡ refusing 12 "length" (at + 4) header.length (number max_length) → Checks s at (Err f)
  blob_long f low high long told rest =
      rw (there, ← kind_is, known_blob header.kind low high, blob_yes header.kind low high, ← length_is, lt-ltb max_length header.length long) told

  -- what is to stand behind it
  asks_as : (size : ℕ) → (known header.kind ≡ true) × ((blob header.kind && max_length <? header.length) ≡ false) × (payload header.kind header.length ≡ size) → Asks s at size
  asks_as size expects = rw (kind_is, length_is) at expects

  pub null_asks : header.kind ≡ null_type → Asks s at 0 × ("word" ≡ payload_name (type_at s at))
  null_asks h = (asks_as 0 (expects_null header.kind header.length h), rw (← kind_is, blob_low header.kind (omega arith)))

  pub scalar_asks : 2 < header.kind → header.kind < 7 → Asks s at 8 × ("word" ≡ payload_name (type_at s at))
  scalar_asks low high = (asks_as 8 (expects_scalar header.kind header.length low high), rw (← kind_is, blob_low header.kind (omega arith)))

  pub blob_asks : 15 < header.kind → header.kind < 19 → header.length ≤ max_length → (size : ℕ) → size ≡ padded header.length
      → Asks s at size × ("blob" ≡ payload_name (type_at s at))
  blob_asks low high allowed size e =
      (asks_as size (expects_blob header.kind header.length low high allowed size e), rw (← kind_is, blob_yes header.kind low high))

  -- it is not there, or it is
  module _ (field : Field) (size : ℕ) (asks : Asks s at size) (named : name_of field ≡ payload_name (type_at s at)) where
    pub payload_short : (f : Finding) → length s - (at + 8) < size → meaning f ≡ refusing 9 (name_of field) (at + 8) (length s - (at + 8)) (number size) → Checks s at (Err f)
    payload_short f short told rest =
        rw (there, asks.0, asks.1, asks.2, ← named, lt-ltb (length s - (at + 8)) size short) told

    pub payload_passes : size ≤ length s - (at + 8) → Checks s at (Ok record { header = header; next = at + 8 + size })
    unfolding next_value
    payload_passes enough =
        (is, rw asks.2, omega arith, (λ rest. rw (there, asks.0, asks.1, asks.2, le-ltb (length s - (at + 8)) size enough)))
