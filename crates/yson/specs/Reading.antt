-- How an input is read, and what is answered (document 02, A4): 20 or 21 as met, else the items of the outer map, then
-- 17. Assumes nothing.
use Rattle.std.specs.Prelude.{ℕ, ◌/◌, List, [], ◌∷◌, length}
use Rattle.words.specs.Answer.{Answer, accepted, refuse}
use Rattle.words.specs.Decide.{decide}
use Rattle.words.specs.Paper.{room_line}
use Rattle.words.specs.declared.outcome.Room.TheVariants.{Items}
use Rattle.yson_grammar.specs.Grammar.{Yson}
use Rattle.yson_grammar.specs.Items.{outer}
use Rattle.yson_grammar.specs.Place.{BadAt, DeepAt}

-- one node, by its derivation, or the place of a failing token
pub data Reading (s : List ℕ) : Type 0 where
  good : Yson s → Reading s
  bad : (place : ℕ) → BadAt s place → Reading s
  deep : (place : ℕ) → DeepAt s place → Reading s

-- an item has four words
abbrev pub words_of : {s : List ℕ} → Reading s → List ℕ
words_of (good d) = outer d
words_of (bad place e) = []
words_of (deep place e) = []

-- how many items a node's outer map has
abbrev pub count : {s : List ℕ} → Yson s → ℕ
count d = length (outer d) / 4

-- without a table: "20 BadYson, 21 TooDeep (place)", else how many items there are
abbrev pub checking : {s : List ℕ} → Reading s → Answer
checking (good d) = accepted 0 (count d ∷ [])
checking (bad place e) = refuse 20 (place ∷ [])
checking (deep place e) = refuse 21 (place ∷ [])

-- "then 17 (5 items)": with room for so many items
abbrev pub listing : {s : List ℕ} → Reading s → ℕ → Answer
listing (good d) room = decide (room_line Items (count d) room ∷ []) (accepted 0 (count d ∷ []))
listing (bad place e) room = refuse 20 (place ∷ [])
listing (deep place e) room = refuse 21 (place ∷ [])
