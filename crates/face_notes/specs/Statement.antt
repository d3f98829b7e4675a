-- What each exported function on YSON promises, by name: the answer of the input's reading; four words are room for an
-- item. Assumes nothing.
use Rattle.std.specs.Prelude.{ℕ, ◌/◌, List, length}
use Rattle.words.specs.Paper.{Tells}
use Rattle.words.specs.Statement.{Holds}
use Rattle.words.specs.declared.outcome.Outcome.{Outcome}
use Rattle.yson.specs.Reading as yson

abbrev pub ChecksYson : List ℕ → Outcome → Type 0
ChecksYson s r = (x : yson.Reading s) × Tells (yson.checking x) r

abbrev pub ListsYson : List ℕ → List ℕ → Outcome → List ℕ → Type 0
ListsYson s before r after =
    (x : yson.Reading s)
    × Tells (yson.listing x (length before / 4)) r
    × Holds (yson.listing x (length before / 4)) (yson.words_of x) before after
