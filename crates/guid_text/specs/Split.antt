-- A text taken apart at its dashes, for A5's reasons. Assumes nothing.
use Rattle.std.specs.Prelude.{ℕ, List, [], ◌∷◌}
use Rattle.words.specs.Decide.{pick, ◌=?◌}
use Rattle.guid_text.specs.Fields.{dash}

-- b in front of the first field
abbrev pub into : ℕ → List (List ℕ) → List (List ℕ)
into b [] = (b ∷ []) ∷ []
into b (f ∷ fs) = (b ∷ f) ∷ fs

-- the fields between the dashes of any text; the text of no bytes is one field of none
unfoldable pub fields : List ℕ → List (List ℕ)
fields [] = [] ∷ []
fields (b ∷ s) = pick (b =? dash) ([] ∷ fields s) (into b (fields s))

-- the last of some fields
abbrev pub last_of : List (List ℕ) → List ℕ
last_of [] = []
last_of (f ∷ []) = f
last_of (f ∷ g ∷ fs) = last_of (g ∷ fs)
