-- `next_at` meets its contract. Assumes nothing.
use mathlib.Core.Path.{sym, ◌∙◌}
use native.Mathlib.Omega.{arith}
use Rattle.pack_links.proofs.MoveLaws.{room_for_none, room_for_new, room_for_used, goes_none, goes_on_lem, goes_back}
use Rattle.pack.proofs.next_at.Goals as goal

pub returns-then-not-is_stored : goal.returns-then-not-is_stored
returns-then-not-is_stored c =
    room_for_none c.args.values.now c.args.i c.args.at (sym c.is_stored.ensures ∙ c.if-not-is_stored.true)

pub overflow_add-result-then-link-eq0 : goal.overflow_add-result-then-link-eq0
overflow_add-result-then-link-eq0 c =
    omega (arith, c.requires.1, room_for_new c.args.values.now c.args.i c.args.at (sym c.is_stored.ensures ∙ c.if-not-is_stored.false) (goes_none c.args.values.now c.args.i c.args.at c.if-link-eq0.true))

pub returns-then-link-eq0 : goal.returns-then-link-eq0
returns-then-link-eq0 c =
    room_for_new c.args.values.now c.args.i c.args.at (sym c.is_stored.ensures ∙ c.if-not-is_stored.false) (goes_none c.args.values.now c.args.i c.args.at c.if-link-eq0.true)

pub overflow_add-result-then-i-link-2 : goal.overflow_add-result-then-i-link-2
overflow_add-result-then-i-link-2 c =
    omega (arith, c.requires.1, room_for_new c.args.values.now c.args.i c.args.at (sym c.is_stored.ensures ∙ c.if-not-is_stored.false) (goes_on_lem c.args.values.now c.args.i c.args.at c.if-link-eq0.false c.if-i-link.true))

pub returns-then-i-link : goal.returns-then-i-link
returns-then-i-link c =
    room_for_new c.args.values.now c.args.i c.args.at (sym c.is_stored.ensures ∙ c.if-not-is_stored.false) (goes_on_lem c.args.values.now c.args.i c.args.at c.if-link-eq0.false c.if-i-link.true)

pub returns : goal.returns
returns c =
    room_for_used c.args.values.now c.args.i c.args.at (sym c.is_stored.ensures ∙ c.if-not-is_stored.false) (goes_back c.args.values.now c.args.i c.args.at c.if-link-eq0.false c.if-i-link.false)
