-- What the private functions promise each other; nothing here need be believed. Assumes nothing.
use Rattle.std.specs.Prelude.{◌≡◌, List, [], ◌∷◌, ◌⊎◌, Result, Ok, Err, ℕ, suc, ◌+◌, ◌*◌, ◌<◌, ◌≤◌, length, get_or, set}
use Rattle.words.specs.Buffer.{over}
use Rattle.words.specs.Decide.{pick, ◌=?◌}
use Rattle.yson_token.specs.Token.{Bracket, square, curly, angle, closing}
use Rattle.yson_grammar.specs.Grammar.{Node, plain, attributed, Object, single, list, map, Items, Pair, Yson}
use Rattle.yson_grammar.specs.Items.{places, entries, of_object, outer}
use Rattle.yson_grammar.specs.Stages.{Due, Verdict, bad, deep, next, object, node, item, equals, from, verdict, behind}
use Rattle.yson.specs.declared.Fault.{Fault}
use Rattle.yson.specs.declared.Fault.TheVariants.{BadYson, TooDeep}
use Rattle.yson.specs.declared.Read.{Read}
use Rattle.yson.specs.declared.PairRead.{PairRead}

abbrev pub faulty : Fault → Verdict
faulty (BadYson place) = bad place
faulty (TooDeep place) = deep place

-- what was read up to e, with n pairs of a map from b on
abbrev pub ended : ℕ → ℕ → ℕ → Result Read Fault
ended e b n = Ok record { end = e; start = b; items = n }

-- a pair up to e, whose key ends at m
abbrev pub keyed_to : ℕ → ℕ → Result PairRead Fault
keyed_to m e = Ok record { middle = m; end = e }

-- where a reading ended, the machine goes on from there
abbrev pub onward : (ℕ → Verdict) → Result Read Fault → Verdict
onward on (Ok r) = on r.end
onward on (Err f) = faulty f

abbrev pub onward_pair : (ℕ → Verdict) → Result PairRead Fault → Verdict
onward_pair on (Ok r) = on r.end
onward_pair on (Err f) = faulty f

-- what was read is not empty and lies in the input
abbrev pub Grows : List ℕ → ℕ → Result Read Fault → Type 0
Grows s at (Ok r) = (at < r.end) × (r.end ≤ length s)
Grows s at (Err f) = Unit {0}

-- where the pairs of a map begin; 0 where there is no map
unfoldable pub map_at : {s : List ℕ} {room a b : ℕ} → Object s room a b → ℕ
map_at (single first whole) = 0
map_at (list bracket items) = 0
map_at (map {room} {a} {b} {c} bracket items) = b

unfoldable pub map_in : {s : List ℕ} {room a b : ℕ} → Node s room a b → ℕ
map_in (plain o) = map_at o
map_in (attributed bracket attributes o) = map_at o

-- what was read is a node, or an object, and this is its map
abbrev pub Shape : List ℕ → ℕ → Due → ℕ → ℕ → ℕ → ℕ → Type 0
Shape s room node at e b n = (d : Node s room at e) × (map_in d ≡ b) × (length (outer d) ≡ 4 * n)
Shape s room object at e b n = (o : Object s room at e) × (map_at o ≡ b) × (length (of_object o) ≡ 4 * n)
Shape s room item at e b n = Unit {0}
Shape s room next at e b n = Unit {0}
Shape s room equals at e b n = Unit {0}

abbrev pub Derived : (ℕ → ℕ → ℕ → Type 0) → Result Read Fault → Type 0
Derived shape (Ok r) = shape r.end r.start r.items
Derived shape (Err f) = Unit {0}

-- reading what is due from `at` on, whatever is open around it
pub record Reads (s : List ℕ) (room : ℕ) (due : Due) (at : ℕ) (r : Result Read Fault) : Type 0 where
  pub grows : Grows s at r
  pub runs : (around : List Bracket) → from s room due around at ≡ onward (λ e. from s room next around e) r
  pub derived : Derived (Shape s room due at) r

-- where the pairs behind a bracket begin; a list has none
abbrev pub pairs_at : Bracket → ℕ → ℕ
pairs_at square at = 0
pairs_at curly at = at
pairs_at angle at = at

-- reading the items of a bracket, up to and with its end
pub record ReadsItems (s : List ℕ) (k : Bracket) (room at : ℕ) (r : Result Read Fault) : Type 0 where
  pub grows : Grows s at r
  pub runs : (around : List Bracket)
      → from s room item (k ∷ around) at ≡ onward (λ e. from s (suc room) (behind k) around e) r
  pub derived : Derived (λ e b n. (i : Items s k room at e) × (pairs_at k at ≡ b) × (length (entries i) ≡ 4 * n)) r

-- the bracket of pairs that ends with this byte
abbrev pub keyed : ℕ → Bracket
keyed close = pick (close =? closing angle) angle curly

abbrev pub PairGrows : List ℕ → ℕ → Result PairRead Fault → Type 0
PairGrows s at (Ok r) = (at < r.middle) × (r.middle + 1 < r.end) × (r.end ≤ length s)
PairGrows s at (Err f) = Unit {0}

-- the four words of a pair
abbrev pub four : ℕ → ℕ → ℕ → List ℕ
four at m e = at ∷ m ∷ (m + 1) ∷ e ∷ []

abbrev pub PairDerived : List ℕ → ℕ → ℕ → Result PairRead Fault → Type 0
PairDerived s room at (Ok r) = (p : Pair s room at r.end) × (places p ≡ four at r.middle r.end)
PairDerived s room at (Err f) = Unit {0}

-- reading one pair of a map or of attributes that do not end here
pub record ReadsPair (s : List ℕ) (room at : ℕ) (r : Result PairRead Fault) : Type 0 where
  pub grows : PairGrows s at r
  pub runs : (k : Bracket) → (k ≡ square → ⊥) → (get_or s at 0 ≡ closing k → ⊥) → (around : List Bracket)
      → from s room item (k ∷ around) at ≡ onward_pair (λ e. from s room next (k ∷ around) e) r
  pub derived : PairDerived s room at r

-- these four words are stored, one behind the other
abbrev pub Stores : ℕ → ℕ → ℕ → ℕ → List ℕ → List ℕ → Type 0
Stores n at m e before after = after ≡ set (set (set (set before n at) (n + 1) m) (n + 2) (m + 1)) (n + 3) e

-- reading the whole input
abbrev pub ReadsWhole : List ℕ → Result Read Fault → Type 0
ReadsWhole s (Ok r) = (d : Yson s) × (map_in d ≡ r.start) × (length (outer d) ≡ 4 * r.items)
ReadsWhole s (Err f) = faulty f ≡ verdict s

-- these are the words of the pairs from `at` to the input's end, if any are still to come
abbrev pub Coming : List ℕ → ℕ → List ℕ → Type 0
Coming s at ws = (ws ≡ []) ⊎ ((i : Items s curly 63 at (length s)) × (entries i ≡ ws))

-- so many pairs are to come, and a table of so many words has the room
pub record Ready (s : List ℕ) (start items room : ℕ) : Type 0 where
  pub words : List ℕ
  pub coming : Coming s start words
  pub sized : length words ≡ 4 * items
  pub fits : 4 * items ≤ room

pub record Fills (s : List ℕ) (start items : ℕ) (before after : List ℕ) : Type 0 where
  pub words : List ℕ
  pub coming : Coming s start words
  pub sized : length words ≡ 4 * items
  pub filled : after ≡ over words before
