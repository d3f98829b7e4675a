-- `new_word` meets its contract. Assumes nothing.
use mathlib.Core.Path.{sym, ◌∙◌}
use Rattle.pack_plain.proofs.PlainLaws.{use_within, word_other, word_empty, word_stored}
use Rattle.pack_plain.proofs.new_word.Goals as goal

pub returns-then-not-is_blob : goal.returns-then-not-is_blob
returns-then-not-is_blob c =
    word_other c.args.values.now c.args.i (sym c.is_blob.ensures ∙ c.if-not-is_blob.true)

pub returns-then-values-i-eq0 : goal.returns-then-values-i-eq0
returns-then-values-i-eq0 c =
    word_empty c.args.values.now c.args.i (sym c.is_blob.ensures ∙ c.if-not-is_blob.false) c.if-values-i-eq0.true

pub room_before-requires : goal.room_before-requires
room_before-requires c =
    use_within c.args.values.now c.args.i _ c.first_use.ensures c.requires.0

pub returns : goal.returns
returns c =
    word_stored c.args.values.now c.args.i (sym c.is_blob.ensures ∙ c.if-not-is_blob.false) c.if-values-i-eq0.false c.requires.1 _ _ c.first_use.ensures c.room_before.ensures
