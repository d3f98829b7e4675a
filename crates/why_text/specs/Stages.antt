-- What the private writers of text hand on. Nobody has to believe it. Assumes nothing.
use Rattle.std.specs.Prelude.{ℕ, List, [], ◌∷◌}
use Prim.Native.String.{String}
use Rattle.words.specs.Note.{Wanted}
use Rattle.words.specs.Text.{text}
use Rattle.numerals.specs.Statement.{decimal}
use Rattle.listing.specs.Text.{line}
use Rattle.why_text.specs.Text.{wanted_text}

-- the last four words of a line: the field's name, its offset, what was found and what was wanted
abbrev pub place_text : String → ℕ → ℕ → Wanted → List ℕ
place_text name offset value wanted = line (text name ∷ decimal offset ∷ decimal value ∷ wanted_text wanted ∷ [])
