-- The whole output of `why` for an input, after document 02, A9: it "reads a line `packet` or `rowset` and then the
-- bytes, at most 65,536, with `list`'s limits and no tables, so 17 can't arise"; "another first line or more bytes `bad
-- input`". It reads in archive mode, as `list` does. Assumes nothing.
use Rattle.std.specs.Prelude.{ℕ, ◌+◌, Bool, true, false, ◌&&◌, List, [], ◌∷◌, length, drop}
use Rattle.words.specs.Decide.{◌⇒◌, ◌<?◌, ◌=?◌, decide}
use Rattle.words.specs.Text.{text}
use Rattle.packet.specs.declared.Mode.TheVariants.{Archive}
use Rattle.listing.specs.Output.{most_bytes, byte_limit, part_ceiling}
use Rattle.finding.specs.Saying.{explain}
use Rattle.why_packet.specs.Checks.{packet_checks}
use Rattle.why_rowset.specs.Checks.{rowset_checks}
use Rattle.why_text.specs.Text.{line_of}

-- of the bytes behind the first line
abbrev pub packet_line : List ℕ → List ℕ
packet_line s = line_of (explain (packet_checks s Archive byte_limit part_ceiling))

abbrev pub rowset_line : List ℕ → List ℕ
rowset_line s = line_of (explain (rowset_checks s))

-- s begins with these bytes
abbrev pub starts : List ℕ → List ℕ → Bool
starts [] s = true
starts (b ∷ word) [] = false
starts (b ∷ word) (c ∷ s) = (c =? b) && starts word s

-- the first line with its line feed
abbrev pub first_line : ℕ
first_line = 7

unfoldable pub output : List ℕ → List ℕ
output s =
    decide
    ((first_line + most_bytes) <? length s ⇒ text "bad input\n"
    ∷ starts (text "packet\n") s ⇒ packet_line (drop first_line s)
    ∷ starts (text "rowset\n") s ⇒ rowset_line (drop first_line s)
    ∷ [])
    (text "bad input\n")
