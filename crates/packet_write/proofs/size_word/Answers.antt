-- `size_word` meets its contract: a length that is not too large fits the word. Assumes nothing.
use mathlib.Core.Path.{sym, ◌∙◌}
use native.Mathlib.Omega.{arith}
use Rattle.packet_check.proofs.WireLaws.{taken_most}
use Rattle.packet_write.proofs.size_word.Goals as goal

pub overflow_cast-result : goal.overflow_cast-result
overflow_cast-result c =
    let small = taken_most c.args.offset c.args.length c.requires in
    omega (arith, rw (sym c.is_null.ensures ∙ c.if-is_null.false) at small)
