-- An id written. Assumes nothing.
use Prim.Native.Nat.{ℕ, ◌≤◌}
use mathlib.Core.Path.{◌≡◌, ◌∙◌}
use mathlib.Core.List.{List, []}
use lib.ListN.{length}
use borrow.Author.Tests.{le-ltb}
use Rattle.words.specs.Answer.{accepted}
use Rattle.words.specs.Buffer.{fitted}
use Rattle.words.specs.Paper.{outcome}
use Rattle.words.specs.declared.outcome.Outcome.{Outcome}
use Rattle.words.proofs.BufferLaws.{fitted_fits}
use Rattle.guid.specs.declared.Guid.{Guid}
use Rattle.guid.specs.Guid.{wire_bytes}
use Rattle.guid.proofs.WireLaws.{length_wire}
use Rattle.face_ids.specs.Statement.{WritesId}

module _ (g : Guid) (before : List ℕ) where
  pub id_fits : {r : Outcome} {after : List ℕ} → 16 ≤ length before → r ≡ outcome (accepted 16 []) → after ≡ fitted (wire_bytes g) before → WritesId g before r after
  id_fits fits p written =
      let so = le-ltb (length before) 16 fits in
      (rw so p, rw so (written ∙ fitted_fits (wire_bytes g) before (rw (length_wire g) fits)))
