-- The items of the outer map, read off a derivation: where each key and each value begins and ends. Assumes nothing.
use Rattle.std.specs.Prelude.{List, [], ◌∷◌, ◌++◌, ℕ}
use Rattle.yson_token.specs.Token.{Bracket}
use Rattle.yson_grammar.specs.Grammar.{Node, plain, attributed, Object, single, list, map, Items, more, last, Item, listed, mapped, named, Pair, pair}
use Rattle.yson_grammar.specs.Grammar as Grammar

-- a pair's four places: its key begins and ends, its value begins and ends
unfoldable pub places : {s : List ℕ} {room a b : ℕ} → Pair s room a b → List ℕ
places (pair {room} {a} {b} {c} {d} key equals value) = a ∷ b ∷ c ∷ d ∷ []

-- a list has no pairs
unfoldable pub entry : {s : List ℕ} {k : Bracket} {room a b : ℕ} → Item s k room a b → List ℕ
entry (listed n) = []
entry (mapped p) = places p
entry (named p) = places p

unfoldable pub entries : {s : List ℕ} {k : Bracket} {room a b : ℕ} → Items s k room a b → List ℕ
entries (Grammar.none close) = []
entries (last i close) = entry i
entries (more i separator rest) = entry i ++ entries rest

unfoldable pub of_object : {s : List ℕ} {room a b : ℕ} → Object s room a b → List ℕ
of_object (single first whole) = []
of_object (list bracket items) = []
of_object (map bracket items) = entries items

-- the items of a node whose object is a map; its attributes are none
unfoldable pub outer : {s : List ℕ} {room a b : ℕ} → Node s room a b → List ℕ
outer (plain o) = of_object o
outer (attributed bracket attributes o) = of_object o
