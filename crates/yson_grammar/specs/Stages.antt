-- A machine over tokens, which the private functions of `yson` follow: what is due, and the brackets that are open,
-- innermost first; the first token that cannot be taken is the failing one. It need not be believed: what it says of a
-- place is proved of `Place.antt`, which knows no machine. Assumes nothing.
use Rattle.std.specs.Prelude.{ℕ, zero, suc, ◌-◌, Bool, true, false, ◌&&◌, List, [], ◌∷◌, length, get_or}
use Rattle.yson_grammar.specs.Grammar.{most_open}
use Rattle.words.specs.Decide.{decide, ◌⇒◌, ◌=?◌}
use Rattle.yson_token.specs.Token.{Bracket, square, curly, angle, opening, closing, string_mark, separator, equals_sign, End, end, none, scalar, token_end}

pub data Due : Type 0 where
  -- a node, and the object of one whose attributes are closed
  node : Due
  object : Due
  -- in a bracket: an item, or the bracket's end
  item : Due
  -- behind an item: a separator, or the bracket's end; with no bracket open, the input's end
  next : Due
  -- behind a key: the equals sign
  equals : Due

pub data Step : Type 0 where
  -- the token cannot be taken
  stop : Step
  -- it is taken, and this is due
  go : Due → Step
  -- it opens a bracket
  enter : Bracket → Step
  -- it closes the innermost bracket, and this is due
  leave : Due → Step

-- what a bracket's end leaves due: behind attributes stands their object
abbrev pub behind : Bracket → Due
behind square = next
behind curly = next
behind angle = object

unfoldable pub as_object : ℕ → Step
as_object b =
    decide (b =? opening square ⇒ enter square ∷ b =? opening curly ⇒ enter curly ∷ scalar b ⇒ go next ∷ []) stop

unfoldable pub as_node : ℕ → Step
as_node b = decide (b =? opening angle ⇒ enter angle ∷ []) (as_object b)

unfoldable pub as_key : Bracket → ℕ → Step
as_key k b = decide (b =? closing k ⇒ leave (behind k) ∷ b =? string_mark ⇒ go equals ∷ []) stop

-- what a token that begins with b does
unfoldable pub step : Due → List Bracket → ℕ → Step
step node around b = as_node b
step object around b = as_object b
step item [] b = stop
step item (square ∷ around) b = decide (b =? closing square ⇒ leave next ∷ []) (as_node b)
step item (curly ∷ around) b = as_key curly b
step item (angle ∷ around) b = as_key angle b
step next [] b = stop
step next (k ∷ around) b = decide (b =? closing k ⇒ leave (behind k) ∷ b =? separator ⇒ go item ∷ []) stop
step equals around b = decide (b =? equals_sign ⇒ go node ∷ []) stop

pub data Verdict : Type 0 where
  good : Verdict
  -- 20 and 21, with the place
  bad : ℕ → Verdict
  deep : ℕ → Verdict

-- no bracket is open and nothing is due
unfoldable pub complete : Due → List Bracket → Bool
complete next [] = true
complete next (k ∷ around) = false
complete node around = false
complete object around = false
complete item around = false
complete equals around = false

abbrev pub outer : List Bracket → List Bracket
outer [] = []
outer (k ∷ around) = around

-- how it goes on from a token at `at` that ends so and does this, with room for so many more brackets; `on` is the rest
unfoldable pub taken : (ℕ → Due → List Bracket → ℕ → Verdict) → ℕ → List Bracket → ℕ → ℕ → Step → Verdict
taken on room around at e stop = bad at
taken on room around at e (go due) = on room due around e
taken on zero around at e (enter k) = deep at
taken on (suc room) around at e (enter k) = on room item (k ∷ around) e
taken on room around at e (leave due) = on (suc room) due (outer around) e

unfoldable pub after : (ℕ → Due → List Bracket → ℕ → Verdict) → List ℕ → ℕ → Due → List Bracket → ℕ → End → Verdict
after on s room due around at none = decide ((complete due around && (at =? length s)) ⇒ good ∷ []) (bad at)
after on s room due around at (end e) = taken on room around at e (step due around (get_or s at 0))

-- at most so many tokens from `at` on
unfoldable pub run : ℕ → List ℕ → ℕ → Due → List Bracket → ℕ → Verdict
run zero s room due around at = bad at
run (suc most) s room due around at = after (run most s) s room due around at (token_end s at)

-- a token has at least one byte
abbrev pub from : List ℕ → ℕ → Due → List Bracket → ℕ → Verdict
from s room due around at = run (suc (length s - at)) s room due around at

-- one node within the brackets that may be open, and nothing behind it
abbrev pub verdict : List ℕ → Verdict
verdict s = from s most_open node [] 0
