-- An outer map's items have four words each. Assumes nothing.
use mathlib.Core.Path.{◌≡◌, refl}
use mathlib.Core.List.{List}
use Prim.Native.Nat.{ℕ, ◌+◌, ◌*◌, ◌/◌}
use native.Mathlib.Omega.{arith}
use lib.ListN.{length, length-append}
use Rattle.yson_token.specs.Token.{Bracket}
use Rattle.yson_grammar.specs.Grammar.{Node, plain, attributed, Object, single, list, map, Items, more, last, Item, listed, mapped, named, Pair, pair}
use Rattle.yson_grammar.specs.Grammar as Grammar
use Rattle.yson_grammar.specs.Items.{places, entry, entries, of_object, outer}

abbrev Fours : List ℕ → Type 0
Fours ws = (n : ℕ) × (length ws ≡ 4 * n)

module _ (s : List ℕ) where
  pair_four : {room a b : ℕ} (p : Pair s room a b) → Fours (places p)
  unfolding places
  pair_four (pair t e v) = (1, refl)

  item_four : {k : Bracket} {room a b : ℕ} (i : Item s k room a b) → Fours (entry i)
  unfolding entry
  item_four (listed x) = (0, refl)
  item_four (mapped p) = pair_four p
  item_four (named p) = pair_four p

  items_four : {k : Bracket} {room a b : ℕ} (i : Items s k room a b) → Fours (entries i)
  unfolding entries
  items_four (Grammar.none t) = (0, refl)
  items_four (last x t) = item_four x
  items_four (more x t xs) =
      let one = item_four x in
      let rest = items_four xs in
      (one.0 + rest.0, omega (arith, one.1, rest.1, length-append (entry x) (entries xs)))

  object_four : {room a b : ℕ} (o : Object s room a b) → Fours (of_object o)
  unfolding of_object
  object_four (single t e) = (0, refl)
  object_four (list t i) = (0, refl)
  object_four (map t i) = items_four i

  node_four : {room a b : ℕ} (d : Node s room a b) → Fours (outer d)
  unfolding outer
  node_four (plain o) = object_four o
  node_four (attributed t i o) = object_four o

  -- so the words are four times the items
  pub four_words : {room a b : ℕ} (d : Node s room a b) → length (outer d) ≡ 4 * (length (outer d) / 4)
  four_words d = let x = node_four d in omega (arith, x.1)
