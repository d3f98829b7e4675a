-- What `units_size` keeps true in its loop. Assumes nothing.
use Rattle.std.proofs.Common.{◌≡◌, ◌+◌}
use lib.ListN.{length, drop}
use Rattle.text_form.specs.Form.{units}
use Rattle.text_size.proofs.units_size.Given as goal

abbrev pub invariant-loop-byte : goal.invariant-loop-byte
invariant-loop-byte l = l.size + length (units (drop l.byte-index l.bytes)) ≡ length (units l.bytes)
