-- The lines that `list` prints, from document 01: "Fields: offset, type, flags, id, parts (decimal but for the id);
-- then `part I LENGTH` or `part I null` per part, I from 0. Last line: `end` (no bytes left), `more` or `refused`, with
-- the offset where the next, unfinished or refused packet begins, and for `refused` the number." Assumes nothing.
use Rattle.std.specs.Prelude.{ℕ, zero, suc, List, [], ◌∷◌, ◌++◌, get_or}
use Rattle.words.specs.Decide.{pick, ◌=?◌}
use Rattle.words.specs.Text.{text}
use Rattle.numerals.specs.Statement.{decimal}
use Rattle.guid.specs.Guid.{guid_of}
use Rattle.guid_text.specs.Text.{text_of}
use Rattle.packet.specs.Entries.{null_length, size_at, sum_at}

-- words with a space between, and the line's end
abbrev pub line : List (List ℕ) → List ℕ
line [] = 10 ∷ []
line (word ∷ []) = word ++ 10 ∷ []
line (word ∷ next ∷ words) = word ++ 32 ∷ line (next ∷ words)

-- the id of a packet's fields: type, flags, the four words of the id, how many parts
abbrev pub id_of : List ℕ → List ℕ
id_of fields = text_of (guid_of (get_or fields 2 0) (get_or fields 3 0) (get_or fields 4 0) (get_or fields 5 0))

unfoldable pub packet_line : ℕ → List ℕ → List ℕ
packet_line offset fields =
    line (text "packet" ∷ decimal offset ∷ decimal (get_or fields 0 0) ∷ decimal (get_or fields 1 0) ∷ id_of fields
    ∷ decimal (get_or fields 6 0) ∷ [])

-- document 02, A6: "`list` prints `guarded` (word not 0) or `bare` at the end of each non-null part line"
abbrev pub guard_text : ℕ → List ℕ
guard_text word = pick (word =? 0) (text "bare") (text "guarded")

-- by the second and third word of its entry
unfoldable pub part_line : ℕ → ℕ → ℕ → List ℕ
part_line index length word =
    pick (length =? null_length)
    (line (text "part" ∷ decimal index ∷ text "null" ∷ []))
    (line (text "part" ∷ decimal index ∷ decimal length ∷ guard_text word ∷ []))

-- the lines of the parts before part n, by the entries of a part table
unfoldable pub part_lines : List ℕ → ℕ → List ℕ
part_lines entries zero = []
part_lines entries (suc n) = part_lines entries n ++ part_line n (size_at entries n) (sum_at entries n)

unfoldable pub end_line : ℕ → List ℕ
end_line offset = line (text "end" ∷ decimal offset ∷ [])

unfoldable pub more_line : ℕ → List ℕ
more_line offset = line (text "more" ∷ decimal offset ∷ [])

unfoldable pub refused_line : ℕ → ℕ → List ℕ
refused_line offset number = line (text "refused" ∷ decimal offset ∷ decimal number ∷ [])
