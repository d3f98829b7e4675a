-- What the private writers of text hand on. Nobody has to believe it: contracts of private functions cite it. Assumes
-- nothing.
use Rattle.std.specs.Prelude.{ℕ, ◌+◌, ◌*◌, ◌<◌, ◌≤◌, List, [], ◌∷◌, ◌++◌, ◌≡◌, length, take, drop, Result, Ok, Err}
use Rattle.listing.specs.declared.Stepped.{Stepped}
use Rattle.listing.specs.declared.Stepped.TheVariants.{Packet, Last}
use Rattle.words.specs.declared.outcome.NoRoom.{NoRoom}
use Rattle.words.specs.Decide.{pick, ◌=?◌}
use Rattle.words.specs.Text.{text}
use Rattle.numerals.specs.Statement.{decimal}
use Rattle.packet.specs.Entries.{null_length}
use Rattle.listing.specs.Text.{line, guard_text}
use Rattle.listing.specs.Output.{lines_then}

-- ws in the place of as many elements of xs from `at` on
unfoldable pub placed : ℕ → List ℕ → List ℕ → List ℕ
placed at ws xs = take at xs ++ ws ++ drop (at + length ws) xs

-- ws was written at `at`, and ends at r
pub record Wrote (ws : List ℕ) (at : ℕ) (before : List ℕ) (r : ℕ) (after : List ℕ) : Type 0 where
  pub ends : r ≡ at + length ws
  pub holds : after ≡ placed at ws before

-- what a part's line has behind its index, by the second and third word of its entry
unfoldable pub entry_text : ℕ → ℕ → List ℕ
entry_text length word =
    pick (length =? null_length) (line (text "null" ∷ [])) (line (decimal length ∷ guard_text word ∷ []))

-- the last line, whatever is behind it
pub record LastLine (s : List ℕ) (offset at : ℕ) (before : List ℕ) (end : ℕ) (after : List ℕ) : Type 0 where
  pub lines : List ℕ
  pub are : (later : ℕ → List ℕ) → lines_then s offset later ≡ lines
  pub wrote : Wrote lines at before end after

-- a packet's lines, and behind them those from `next` on
pub record PacketLines (s : List ℕ) (offset at : ℕ) (before : List ℕ) (next end : ℕ) (after : List ℕ) : Type 0 where
  pub lines : List ℕ
  pub are : (later : ℕ → List ℕ) → lines_then s offset later ≡ lines ++ later next
  pub wrote : Wrote lines at before end after
  pub behind : offset < next
  pub inside : next ≤ length s
  pub short : end ≤ 5 * next

abbrev pub Steps : List ℕ → ℕ → ℕ → List ℕ → Stepped → List ℕ → Type 0
Steps s offset at before (Last end) after = LastLine s offset at before end after
Steps s offset at before (Packet next end) after = PacketLines s offset at before next end after

-- what a caller of `list` goes by: the text lies in its buffer
abbrev pub Fits : List ℕ → Result ℕ NoRoom → Type 0
Fits before (Ok count) = count ≤ length before
Fits before (Err short) = Unit {0}
