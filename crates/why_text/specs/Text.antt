-- The line that `why` prints, by what is told, after document 02, A9: it "prints the number, the field's name, its
-- offset, the value found and the bound or value wanted"; "For need-more it says which length was being waited for. Any
-- other accepted input prints `ok`". Words have one space between, and numbers are decimal. Assumes nothing.
use Rattle.std.specs.Prelude.{ℕ, List, [], ◌∷◌}
use Rattle.words.specs.Note.{Wanted, number, one_of}
use Rattle.words.specs.Text.{text}
use Rattle.numerals.specs.Statement.{decimal}
use Rattle.listing.specs.Text.{line}
use Rattle.finding.specs.Saying.{Saying, fine, waiting, refusing, breaking}

abbrev pub wanted_text : Wanted → List ℕ
wanted_text (number n) = decimal n
wanted_text (one_of names) = text names

unfoldable pub line_of : Saying → List ℕ
line_of fine = line (text "ok" ∷ [])
line_of (waiting name n) = line (text "more" ∷ text name ∷ decimal n ∷ [])
line_of (refusing code name offset value wanted) =
    line (text "refused" ∷ decimal code ∷ text name ∷ decimal offset ∷ decimal value ∷ wanted_text wanted ∷ [])
line_of (breaking name offset value wanted) =
    line (text "not-plain" ∷ text name ∷ decimal offset ∷ decimal value ∷ wanted_text wanted ∷ [])

-- a buffer of so many bytes takes every line
abbrev pub line_room : ℕ
line_room = 128
