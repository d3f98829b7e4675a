-- The grammar of YSON's binary form, in the order of the public documentation, over the bytes s: which stretches, from
-- an offset to an offset, are a node with so many brackets open inside it at most. Nothing else is a node.
-- Assumes nothing.
use Rattle.std.specs.Prelude.{◌≡◌, true, List, ℕ, suc, length, get_or}
use Rattle.yson_token.specs.Token.{Bracket, square, curly, angle, opening, closing, string_mark, separator, equals_sign, end, scalar, token_end}

-- a whole token whose first byte is b
pub record Token (s : List ℕ) (b from to : ℕ) : Type 0 where
  pub first : get_or s from 0 ≡ b
  pub whole : token_end s from ≡ end to

mutual
  -- node = object | attributes object
  pub data Node (s : List ℕ) : ℕ → ℕ → ℕ → Type 0 where
    plain : {room a b : ℕ} → Object s room a b → Node s room a b
    attributed : {room a b c d : ℕ} → Token s (opening angle) a b
        → Items s angle room b c → Object s (suc room) c d → Node s (suc room) a d

  -- object = scalar | "[" items | "{" items
  pub data Object (s : List ℕ) : ℕ → ℕ → ℕ → Type 0 where
    single : {room a b : ℕ} → scalar (get_or s a 0) ≡ true → token_end s a ≡ end b → Object s room a b
    list : {room a b c : ℕ} → Token s (opening square) a b → Items s square room b c → Object s (suc room) a c
    map : {room a b c : ℕ} → Token s (opening curly) a b → Items s curly room b c → Object s (suc room) a c

  -- items, up to and with the closing bracket = (item ";")* item? close
  pub data Items (s : List ℕ) : Bracket → ℕ → ℕ → ℕ → Type 0 where
    none : {k : Bracket} {room a b : ℕ} → Token s (closing k) a b → Items s k room a b
    last : {k : Bracket} {room a b c : ℕ} → Item s k room a b → Token s (closing k) b c → Items s k room a c
    more : {k : Bracket} {room a b c d : ℕ} → Item s k room a b
        → Token s separator b c → Items s k room c d → Items s k room a d

  -- item = node, in a list; pair, in a map and in attributes
  pub data Item (s : List ℕ) : Bracket → ℕ → ℕ → ℕ → Type 0 where
    listed : {room a b : ℕ} → Node s room a b → Item s square room a b
    mapped : {room a b : ℕ} → Pair s room a b → Item s curly room a b
    named : {room a b : ℕ} → Pair s room a b → Item s angle room a b

  -- pair = string "=" node
  pub data Pair (s : List ℕ) : ℕ → ℕ → ℕ → Type 0 where
    pair : {room a b c d : ℕ} → Token s string_mark a b → Token s equals_sign b c → Node s room c d → Pair s room a d

-- "down to 64 open brackets of all three kinds"
abbrev pub most_open : ℕ
most_open = 64

-- the input is one node within so many brackets, and nothing else
abbrev pub Yson : List ℕ → Type 0
Yson s = Node s most_open 0 (length s)
