-- `new_word` meets its contract. Assumes nothing.
use mathlib.Core.Path.{sym, ◌∙◌}
use Rattle.pack_links.proofs.MoveLaws.{word_other, word_empty, word_new, word_used, goes_none, goes_on_lem, goes_back}
use Rattle.pack.proofs.new_word.Goals as goal

pub returns-then-not-is_blob : goal.returns-then-not-is_blob
returns-then-not-is_blob c =
    word_other c.args.values.now c.args.i c.args.at (sym c.is_blob.ensures ∙ c.if-not-is_blob.true)

pub returns-then-values-i-eq0 : goal.returns-then-values-i-eq0
returns-then-values-i-eq0 c =
    word_empty c.args.values.now c.args.i c.args.at (sym c.is_blob.ensures ∙ c.if-not-is_blob.false) c.if-values-i-eq0.true

pub returns-then-link-eq0 : goal.returns-then-link-eq0
returns-then-link-eq0 c =
    word_new c.args.values.now c.args.i c.args.at (sym c.is_blob.ensures ∙ c.if-not-is_blob.false) c.if-values-i-eq0.false (goes_none c.args.values.now c.args.i c.args.at c.if-link-eq0.true)

pub returns-then-i-link : goal.returns-then-i-link
returns-then-i-link c =
    word_new c.args.values.now c.args.i c.args.at (sym c.is_blob.ensures ∙ c.if-not-is_blob.false) c.if-values-i-eq0.false (goes_on_lem c.args.values.now c.args.i c.args.at c.if-link-eq0.false c.if-i-link.true)

pub returns : goal.returns
returns c =
    word_used c.args.values.now c.args.i c.args.at (sym c.is_blob.ensures ∙ c.if-not-is_blob.false) c.if-values-i-eq0.false (goes_back c.args.values.now c.args.i c.args.at c.if-link-eq0.false c.if-i-link.false)
