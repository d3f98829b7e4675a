-- `plain::words` meets its contract: the length word, then a boolean's. Assumes nothing.
use Rattle.why_rowset.proofs.PlainLaws.{words_length, words_other, words_boolean, words_plain}
use Rattle.why_rowset.proofs.plain.words.Goals as goal

pub returns-then-header-ne0 : goal.returns-then-header-ne0
returns-then-header-ne0 c =
    words_length c.args.input.now c.args.at c.args.header c.requires.0 c.if-header-ne0.true

pub returns-then-header-ne-BOOLEAN : goal.returns-then-header-ne-BOOLEAN
returns-then-header-ne-BOOLEAN c =
    words_other c.args.input.now c.args.at c.args.header c.requires.0 c.if-header-ne0.false c.if-header-ne-BOOLEAN.true

pub returns-then-word-gt1 : goal.returns-then-word-gt1
returns-then-word-gt1 c =
    words_boolean c.args.input.now c.args.at c.args.header c.requires.0 c.if-header-ne0.false c.if-header-ne-BOOLEAN.false _ c.read_u64-word.ensures c.if-word-gt1.true

pub returns : goal.returns
returns c =
    words_plain c.args.input.now c.args.at c.args.header c.requires.0 c.if-header-ne0.false c.if-header-ne-BOOLEAN.false _ c.read_u64-word.ensures c.if-word-gt1.false
