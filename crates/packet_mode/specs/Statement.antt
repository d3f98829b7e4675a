-- A packet's mode by its number, for callers in other languages. Assumes nothing.
use Rattle.std.specs.Prelude.{ℕ, ◌≡◌}
use Rattle.words.specs.Decide.{pick, ◌=?◌}
use Rattle.packet.specs.declared.Mode.{Mode}
use Rattle.packet.specs.declared.Mode.TheVariants.{Archive, Live}

-- 0 is archive, any other is live
abbrev pub mode_of : ℕ → Mode
mode_of n = pick (n =? 0) Archive Live

abbrev pub GivesMode : ℕ → Mode → Type 0
GivesMode n r = r ≡ mode_of n
