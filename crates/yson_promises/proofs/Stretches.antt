-- The words of an outer map's items are stretches: strings, and nodes. Assumes nothing.
use mathlib.Core.Path.{◌≡◌, refl, subst}
use mathlib.Core.List.{List, ◌++◌}
use Prim.Native.Nat.{ℕ, suc}
use native.Mathlib.Omega.{arith}
use Rattle.yson_token.specs.Token.{curly}
use Rattle.yson_grammar.specs.Grammar.{Node, plain, attributed, Object, single, list, map, Items, more, last, mapped, Pair, pair, Yson}
use Rattle.yson_grammar.specs.Grammar as Grammar
use Rattle.yson_grammar.specs.Items.{places, entry, entries, of_object, outer}
use Rattle.yson_promises.specs.Yson.{Stretches, none, item}

module _ (s : List ℕ) where
  pair_stretches : {room a b : ℕ} (p : Pair s room a b) (ws : List ℕ) → Stretches s room ws → Stretches s room (places p ++ ws)
  unfolding places
  pair_stretches (pair t e v) ws rest = item t e v rest

  alone : {room a b : ℕ} (p : Pair s room a b) → Stretches s room (places p)
  unfolding places
  alone (pair t e v) = item t e v none

  items_stretches : {room a b : ℕ} (i : Items s curly room a b) → Stretches s room (entries i)
  unfolding entries entry
  items_stretches (Grammar.none t) = none
  items_stretches (last (mapped p) t) = alone p
  items_stretches (more (mapped p) t is) = pair_stretches p (entries is) (items_stretches is)

  object_stretches : {r a b : ℕ} (o : Object s r a b) (below : ℕ) → r ≡ suc below → Stretches s below (of_object o)
  unfolding of_object
  object_stretches (single t e) below deep = none
  object_stretches (list t i) below deep = none
  object_stretches (map {room} t i) below deep =
      let same : room ≡ below = omega arith in
      subst (λ (n : ℕ). Stretches s n (entries i)) same (items_stretches i)

  node_stretches : {r a b : ℕ} (d : Node s r a b) (below : ℕ) → r ≡ suc below → Stretches s below (outer d)
  unfolding outer
  node_stretches (plain o) below deep = object_stretches o below deep
  node_stretches (attributed t i o) below deep = object_stretches o below deep

  pub yson_stretches : (d : Yson s) → Stretches s 63 (outer d)
  yson_stretches d = node_stretches d 63 refl
