-- One result for each statement. Assumes nothing.
use mathlib.Core.Path.{◌≡◌, refl, sym, ◌∙◌, ap}
use mathlib.Core.List.{List}
use Prim.Native.Nat.{ℕ}
use lib.ListN.{get_or}
use Rattle.words.specs.Statement.{OneResult}
use Rattle.words.proofs.Unique.{equal_to_one}
use Rattle.yson_token.specs.Token.{End, end, none, scalar_end, key_end}
use Rattle.yson_token.specs.Statement.{end_of, Finds, ReadsByte, FindsScalar, FindsKey}
use Rattle.std.specs.declared.option.Option.{Option}
use Rattle.std.specs.declared.option.Option.TheVariants.{Some, None}

-- back from an end to the option
found_of : End → Option ℕ
found_of (end e) = Some e
found_of none = None

found_back : (r : Option ℕ) → found_of (end_of r) ≡ r
unfolding found_of
found_back (Some e) = refl
found_back None = refl

pub finds_one : (e : End) → OneResult (Finds e)
finds_one e r r' p q = sym (found_back r) ∙ ap found_of (p ∙ sym q) ∙ found_back r'

pub byte_at_unique : (s : List ℕ) (at : ℕ) → OneResult (ReadsByte s at)
byte_at_unique s at = equal_to_one (get_or s at 0)

pub scalar_unique : (s : List ℕ) (at : ℕ) → OneResult (FindsScalar s at)
scalar_unique s at = finds_one (scalar_end s at)

pub key_unique : (s : List ℕ) (at : ℕ) → OneResult (FindsKey s at)
key_unique s at = finds_one (key_end s at)
