-- One result for each statement: two modes of one number are equal. Assumes nothing.
use Prim.Native.Nat.{ℕ}
use Rattle.words.specs.Statement.{OneResult}
use Rattle.words.proofs.Unique.{equal_to_one}
use Rattle.packet_mode.specs.Statement.{GivesMode}

pub mode_of_unique : (number : ℕ) → OneResult (GivesMode number)
mode_of_unique number = equal_to_one _
