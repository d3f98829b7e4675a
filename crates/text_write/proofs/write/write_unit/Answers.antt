-- `write::write_unit` meets its contract: an escape, or the byte itself. Assumes nothing.
use mathlib.Core.Path.{sym, ◌∙◌}
use Rattle.text_form.specs.Form.{capital}
use native.Mathlib.Omega.{arith}
use lib.ListN.{length-set}
use Rattle.text_write.proofs.PutLaws.{escape_within, escape_puts, itself_within, itself_puts}
use Rattle.text_write.proofs.write.write_unit.Goals as goal

pub bounds-out-0 : goal.bounds-out-0
bounds-out-0 c =
    let start = c in
    omega (arith, escape_within start.args.byte start.args.out.now start.requires (sym c.is_escaped.ensures ∙ c.if-is_escaped.true))

pub bounds-out-1 : goal.bounds-out-1
bounds-out-1 c =
    let start = c in
    simp length-set (omega (arith, escape_within start.args.byte start.args.out.now start.requires (sym c.is_escaped.ensures ∙ c.if-is_escaped.true)))

pub bounds-out-2 : goal.bounds-out-2
bounds-out-2 c =
    let start = c in
    simp length-set (omega (arith, escape_within start.args.byte start.args.out.now start.requires (sym c.is_escaped.ensures ∙ c.if-is_escaped.true)))

pub returns-then-is_escaped : goal.returns-then-is_escaped
unfolding capital
returns-then-is_escaped c =
    let start = c in
    escape_puts start.args.byte start.args.out.now start.requires (sym c.is_escaped.ensures ∙ c.if-is_escaped.true) _ _ c.hex_digit.ensures c.hex_digit-then-is_escaped.ensures

pub bounds-out-0-2 : goal.bounds-out-0-2
bounds-out-0-2 c =
    let start = c in
    omega (arith, itself_within start.args.byte start.args.out.now start.requires (sym c.is_escaped.ensures ∙ c.if-is_escaped.false))

pub returns : goal.returns
returns c =
    let start = c in
    itself_puts start.args.byte start.args.out.now start.requires (sym c.is_escaped.ensures ∙ c.if-is_escaped.false)
