-- `room_of` meets its contract. Assumes nothing.
use mathlib.Core.Path.{sym, ◌∙◌}
use Rattle.pack_plain.proofs.PlainLaws.{room_none, room_used, room_new}
use Rattle.pack_plain.proofs.room_of.Goals as goal

pub returns-then-not-is_stored : goal.returns-then-not-is_stored
returns-then-not-is_stored c =
    room_none c.args.values.now c.args.i (sym c.is_stored.ensures ∙ c.if-not-is_stored.true)

pub returns-then-first_use-i : goal.returns-then-first_use-i
returns-then-first_use-i c =
    room_used c.args.values.now c.args.i (sym c.is_stored.ensures ∙ c.if-not-is_stored.false) _ c.first_use.ensures c.if-first_use-i.true

pub returns : goal.returns
returns c =
    room_new c.args.values.now c.args.i (sym c.is_stored.ensures ∙ c.if-not-is_stored.false) _ c.first_use.ensures c.if-first_use-i.false
