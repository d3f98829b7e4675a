-- The version of the interface that `face.h` declares. It rises when a function, a struct or a table changes its form.
-- Assumes nothing.
use Rattle.std.specs.Prelude.{ℕ, ◌≡◌}

abbrev pub interface : ℕ
interface = 6

abbrev pub InterfaceIs : ℕ → Type 0
InterfaceIs r = r ≡ interface
