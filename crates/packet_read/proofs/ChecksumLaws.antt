-- When a stretch fails the checksum stored for it. Assumes nothing.
use mathlib.Core.Path.{◌≡◌, refl, sym, ◌∙◌}
use mathlib.Core.Bool.{Bool, true, false, ◌&&◌}
use mathlib.Core.List.{List}
use Prim.Native.Nat.{ℕ}
use borrow.Author.Tests.{eq-eqb, ne_eqb}
use Rattle.words.specs.Decide.{◌≠?◌}
use Rattle.crc64.specs.Polynomial.{checksum}
use Rattle.std.specs.declared.result.Result.{Result}
use Rattle.std.specs.declared.result.Result.TheVariants.{Ok, Err}
use Rattle.packet.specs.Layout.{null_size}
use Rattle.packet_read.specs.Reading.{fails}
use Rattle.packet_read.specs.Stages.{Verifies, PartVerifies}

pub matches : (stored : ℕ) (bytes : List ℕ) (actual : ℕ) → actual ≡ checksum bytes → actual ≡ stored → fails stored bytes ≡ false
matches stored bytes actual is same = rw (eq-eqb stored (checksum bytes) (sym same ∙ is)) (go (stored ≠? 0))
  where
    go : (b : Bool) → (b && false) ≡ false
    go true = refl
    go false = refl

pub differs : (stored : ℕ) (bytes : List ℕ) (actual : ℕ) → (stored ≡ 0 → ⊥) → actual ≡ checksum bytes → (actual ≡ stored → ⊥) → fails stored bytes ≡ true
differs stored bytes actual kept is other = rw (ne_eqb stored 0 kept, ne_eqb stored (checksum bytes) (λ e. other (is ∙ sym e)))

-- of a part that is not null the same is asked
pub part_verdict : (size stored : ℕ) (bytes : List ℕ) (v : Result (Unit {0}) ℕ) → (size ≡ null_size → ⊥) → Verifies stored bytes v → PartVerifies size stored bytes v
part_verdict size stored bytes (Ok done) present told = rw (ne_eqb size null_size present) told
part_verdict size stored bytes (Err actual) present told = (rw (ne_eqb size null_size present) told.0, told.1)
