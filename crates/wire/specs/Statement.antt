-- What each public function promises, by name. (The map of refusals promises words' `Tells` of `paper`, a read
-- `Needs`.) Assumes nothing.
use Rattle.std.specs.Prelude.{ℕ, ◌≡◌}
use Rattle.wire.specs.Layout.{values_in, padded, flag, bits_of}
use Rattle.wire.specs.Kind.{kind_of}
use Rattle.wire.specs.declared.kind.Kind.{Kind}

-- how many values a row's word stands for
abbrev pub CountsValues : ℕ → ℕ → Type 0
CountsValues count r = r ≡ values_in count

-- the length with its padding
abbrev pub Pads : ℕ → ℕ → Type 0
Pads n r = r ≡ padded n

-- the kind of a type
abbrev pub IsKind : ℕ → Kind → Type 0
IsKind type r = r ≡ kind_of type

-- a scalar's bits: its word, and of a boolean whether the word is 0
abbrev pub IsBits : ℕ → ℕ → ℕ → Type 0
IsBits type n r = r ≡ bits_of type n

-- 1 for any number but 0
abbrev pub Flags : ℕ → ℕ → Type 0
Flags n r = r ≡ flag n
