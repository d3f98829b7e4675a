-- `copy_lanes` meets its contract: that of the engine for short strings; nothing copied where there is no room; else the walk.
-- Assumes nothing.
use mathlib.Core.Path.{refl, sym, ◌∙◌}
use Rattle.words.proofs.BufferLaws.{fitted_fits, fitted_short}
use Rattle.crc64_lanes.proofs.copy_lanes.Goals as goal

pub returns-then-out-bytes : goal.returns-then-out-bytes
returns-then-out-bytes c =
    let a = c.args in
    record {
      folded = c.fold_lanes.ensures;
      copied = sym (fitted_short a.bytes.now a.out.now c.if-out-bytes.true);
    }

pub returns : goal.returns
returns c =
    let a = c.args in
    let done = c.walk.ensures in
    record {
      folded = done.0;
      copied = done.1 refl ∙ sym (fitted_fits a.bytes.now a.out.now c.if-out-bytes.false);
    }
