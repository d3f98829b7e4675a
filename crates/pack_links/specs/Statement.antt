-- What `unlink_all` promises, by name. Packing keeps links above 16 bits of each entry's words id, type and aggregate
-- while it runs. Assumes nothing.
use Rattle.std.specs.Prelude.{ℕ, ◌%◌, ◌≡◌, List, length, get_or}
use Rattle.words.specs.Decide.{pick, ◌<?◌}
use Rattle.wire.specs.Layout.{entry_words}
use Rattle.pack_pairs.specs.Packing.{table}

-- a table without its links
abbrev pub plain_word : List ℕ → ℕ → ℕ
plain_word t k = pick ((k % entry_words) <? 3) (get_or t k 0 % 65_536) (get_or t k 0)

unfoldable pub plain : List ℕ → List ℕ
plain t = table (plain_word t) 0 (length t)

-- a table that held t holds it without its links
abbrev pub Unlinks : List ℕ → List ℕ → Type 0
Unlinks t after = after ≡ plain t
