-- The promises of document 02's A4, over the statements of `check` and `items`. Assumes nothing.
use Rattle.std.specs.Prelude.{◌≡◌, List, [], ◌∷◌, ℕ, ◌-◌, ◌*◌, ◌≤◌, length, Result, Ok, Err}
use Rattle.words.specs.Buffer.{over}
use Rattle.yson_token.specs.Token.{string_mark, equals_sign}
use Rattle.yson_grammar.specs.Grammar.{Token, Node, most_open, Yson}
use Rattle.yson_grammar.specs.Items.{outer}
use Rattle.yson.specs.Statement.{Checks, Lists}
use Rattle.yson.specs.declared.YsonError.{YsonError}
use Rattle.yson.specs.declared.YsonError.TheVariants.{Broken, Short}
use Rattle.yson.specs.declared.Fault.TheVariants.{BadYson, TooDeep}
use Rattle.yson_grammar.specs.Place.{BadAt, DeepAt, Fails}

-- accepted, room aside
abbrev pub Accepted : Result ℕ YsonError → Type 0
Accepted (Ok n) = Unit {0}
Accepted (Err (Broken fault)) = ⊥
Accepted (Err (Short short)) = Unit {0}

-- "It accepts exactly that grammar": both functions accept what the grammar derives within 64 brackets, nothing else
abbrev pub AcceptsExactly : Type 0
AcceptsExactly =
    (s : List ℕ)
    → ((r : Result ℕ YsonError) → Checks s r → (Accepted r → Yson s) × (Yson s → Accepted r))
    × ((before after : List ℕ) (r : Result ℕ YsonError) → Lists s before r after → (Accepted r → Yson s) × (Yson s → Accepted r))

-- no input has two readings: nodes that begin at one place end at one place, within however many brackets
abbrev pub OneExtent : Type 0
OneExtent = (s : List ℕ) (m n a b c : ℕ) → Node s m a b → Node s n a c → b ≡ c

-- what is accepted is accepted whole: its node leaves no byte over
abbrev pub AcceptedWhole : Type 0
AcceptedWhole = (s : List ℕ) (r : Result ℕ YsonError) → Checks s r → Accepted r → (room e : ℕ) → Node s room 0 e → e ≡ length s

-- the table holds the items of the outer map in their order, none left out and none added, however the input is derived
abbrev pub ItemsOfOuterMap : Type 0
ItemsOfOuterMap =
    (s before after : List ℕ) (n : ℕ)
    → Lists s before (Ok n) after
    → (d : Yson s)
    → (length (outer d) ≡ 4 * n) × (4 * n ≤ length before) × (after ≡ over (outer d) before)

-- four words of a table for each item: a string's begin and end, the equals sign behind it, a node's begin and end
pub data Stretches (s : List ℕ) (room : ℕ) : List ℕ → Type 0 where
  none : Stretches s room []
  item : {a b c e : ℕ} {ws : List ℕ} → Token s string_mark a b → Token s equals_sign b c → Node s room c e
      → Stretches s room ws → Stretches s room (a ∷ b ∷ c ∷ e ∷ ws)

-- "where key and value, attributes included, begin and end": each key is a whole string, each value a whole node
abbrev pub KeysAndValues : Type 0
KeysAndValues =
    (s before after : List ℕ) (n : ℕ)
    → Lists s before (Ok n) after
    → (ws : List ℕ) × (length ws ≡ 4 * n) × (after ≡ over ws before) × Stretches s (most_open - 1) ws

-- a refusal leaves the table as it was
abbrev pub RefusalKeeps : Type 0
RefusalKeeps =
    (s before after : List ℕ) (r : Result ℕ YsonError) → Lists s before r after → ((n : ℕ) → r ≡ Ok n → ⊥) → after ≡ before

-- "place: the failing token's start, or the input's length where one is missing": 20 and 21 are told exactly by the
-- grammar, and an input fails at one place
abbrev pub Place : Type 0
Place =
    (s : List ℕ)
    → ((p : ℕ) → (Checks s (Err (Broken (BadYson p))) → BadAt s p) × (BadAt s p → Checks s (Err (Broken (BadYson p)))))
    × ((p : ℕ) → (Checks s (Err (Broken (TooDeep p))) → DeepAt s p) × (DeepAt s p → Checks s (Err (Broken (TooDeep p)))))
    × ((p q : ℕ) → Fails s p → Fails s q → p ≡ q)
