-- Two inputs that differ only where reading does not look, after document 01: "any non-zero aggregate byte or boolean
-- word is true; padding and the length words of types 2 to 6 are ignored, so two inputs that differ only there read
-- alike". Nothing is said of padding, of a length word but a blob's, or of which non-zero number a flag is. Assumes
-- nothing.
use Prim.Native.Nat.{ℕ, zero, suc, ◌+◌}
use mathlib.Core.Path.{◌≡◌}
use mathlib.Core.Bool.{true}
use mathlib.Core.List.{List}
use lib.ListN.{length}
use Rattle.wire.specs.Layout.{scalar, blob, flag, bits_of, values_in, id_at, type_at, aggregate_at, length_at, scalar_at, count_at, next_value, next_row}

pub record AlikeValue (s t : List ℕ) (at : ℕ) : Type 0 where
  pub id : id_at s at ≡ id_at t at
  pub type : type_at s at ≡ type_at t at
  pub aggregate : flag (aggregate_at s at) ≡ flag (aggregate_at t at)
  pub blob_length : blob (type_at s at) ≡ true → length_at s at ≡ length_at t at
  pub scalar_bits : scalar (type_at s at) ≡ true
      → bits_of (type_at s at) (scalar_at s at) ≡ bits_of (type_at s at) (scalar_at t at)

abbrev pub AlikeValues : List ℕ → List ℕ → ℕ → ℕ → Type 0
AlikeValues s t zero at = Unit {0}
AlikeValues s t (suc n) at = AlikeValue s t at × AlikeValues s t n (next_value s at)

abbrev pub AlikeRows : List ℕ → List ℕ → ℕ → ℕ → Type 0
AlikeRows s t zero at = Unit {0}
AlikeRows s t (suc n) at =
    (count_at s at ≡ count_at t at) × AlikeValues s t (values_in (count_at s at)) (at + 8) × AlikeRows s t n (next_row s at)

pub record Alike (s t : List ℕ) : Type 0 where
  pub size : length s ≡ length t
  pub count : count_at s 0 ≡ count_at t 0
  pub rows : AlikeRows s t (count_at s 0) 8
