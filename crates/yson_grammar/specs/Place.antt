-- The place where an input fails, without the machine: up to it stand whole tokens that begin a good input, and with
-- the token that stands there none begins. Assumes nothing.
use Rattle.std.specs.Prelude.{◌≡◌, List, ◌++◌, ℕ, suc, length, take}
use Rattle.words.specs.Word.{Bytes}
use Rattle.yson_token.specs.Token.{end, token_end}
use Rattle.yson_grammar.specs.Grammar.{Node, most_open, Yson}

-- the input's tokens from its front up to here are whole
pub data Reached (s : List ℕ) : ℕ → Type 0 where
  start : Reached s 0
  on : {a b : ℕ} → Reached s a → token_end s a ≡ end b → Reached s b

-- with something behind them these are one node within so many brackets
abbrev pub Begins : ℕ → List ℕ → Type 0
Begins room xs = (ys : List ℕ) × Node (xs ++ ys) room 0 (length (xs ++ ys))

-- with bytes behind them
abbrev pub BeginsInBytes : ℕ → List ℕ → Type 0
BeginsInBytes room xs = (ys : List ℕ) × Bytes ys × Node (xs ++ ys) room 0 (length (xs ++ ys))

-- Where no whole token stands at the place, it is a broken one that is there, or the input's end.
pub record Fails (s : List ℕ) (place : ℕ) : Type 0 where
  pub broken : Yson s → ⊥
  pub reached : Reached s place
  pub begins : BeginsInBytes most_open (take place s)
  pub stops : (e : ℕ) → token_end s place ≡ end e → Begins most_open (take e s) → ⊥

-- 20: however deep brackets might stand
abbrev pub BadAt : List ℕ → ℕ → Type 0
BadAt s place = Fails s place × ((room e : ℕ) → token_end s place ≡ end e → Begins room (take e s) → ⊥)

-- 21: with one bracket more it could go on
abbrev pub DeepAt : List ℕ → ℕ → Type 0
DeepAt s place = Fails s place × ((e : ℕ) × (token_end s place ≡ end e) × BeginsInBytes (suc most_open) (take e s))
