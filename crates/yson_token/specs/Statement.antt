-- What each function promises, by name, over the input and the result. Assumes nothing.
use Rattle.std.specs.Prelude.{ℕ, ◌≡◌, List, get_or, Option, Some, None}
use Rattle.yson_token.specs.Token.{End, end, none, scalar_end, key_end}

abbrev pub end_of : Option ℕ → End
end_of (Some e) = end e
end_of None = none

-- r is this end
abbrev pub Finds : End → Option ℕ → Type 0
Finds e r = end_of r ≡ e

abbrev pub ReadsByte : List ℕ → ℕ → ℕ → Type 0
ReadsByte s at r = r ≡ get_or s at 0

abbrev pub FindsScalar : List ℕ → ℕ → Option ℕ → Type 0
FindsScalar s at r = Finds (scalar_end s at) r

abbrev pub FindsKey : List ℕ → ℕ → Option ℕ → Type 0
FindsKey s at r = Finds (key_end s at) r
