-- A text in its plain form: what is left of it without the freedoms that a reader gives, case and leading zeros.
-- Assumes nothing.
use Rattle.std.specs.Prelude.{ℕ, ◌+◌, List, [], ◌∷◌, map}
use Rattle.words.specs.Decide.{pick, decide, ◌⇒◌, ◌<?◌, ◌=?◌}
use Rattle.guid_text.specs.Fields.{between}
use Rattle.guid_text.specs.Split.{fields}

-- a letter A to F in lower case
unfoldable pub lower : ℕ → ℕ
lower b = decide (b <? 65 ⇒ b ∷ b <? 71 ⇒ (b + 32) ∷ []) b

-- digits without leading zeros; "0" where nothing else is left
unfoldable pub shorn : List ℕ → List ℕ
shorn [] = 48 ∷ []
shorn (b ∷ s) = pick (b =? 48) (shorn s) (map lower (b ∷ s))

-- each field in its plain form
abbrev pub normal : List ℕ → List ℕ
normal s = between (map shorn (fields s))
