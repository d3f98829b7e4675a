-- The fields of a dictionary, one by one. Assumes nothing.
use Rattle.std.proofs.Common.{arith}
use Rattle.error_tree.specs.Message.{fields, dictionary_fields}
use Rattle.error_tree.proofs.MessageLaws.{fields_end}
use Rattle.error_read.specs.Stages.{entry_words, dictionary_words}
use Rattle.error_read.proofs.FillLaws.{none_left, one_left, step, field_lies, storing, stored_all, has_room, stored_on, dictionary_next, dictionary_done}
use Rattle.error_read.proofs.fill.fill_dictionary.Goals as goal

pub loop-at-init : goal.loop-at-init
loop-at-init c = (c.requires.0, storing _ _ _)

pub returns-in_default : goal.returns-in_default
returns-in_default c =
    stored_all c.loop-at.invariant.1 (dictionary_done _ _ _ _ (none_left _ _ _ _ (c.in_default.ensures)))

pub fill_entry-k-requires : goal.fill_entry-k-requires
fill_entry-k-requires c =
    let s = c.args.input.now in
    let rest = dictionary_words c.args.index s (fields dictionary_fields s c.in-Some.field.stop c.args.end) in
    let next = dictionary_next c.args.index s c.loop-at.at c.args.end c.in-Some.field.stop (one_left _ _ _ _ _ (c.in-Some.ensures)) in
    (field_lies _ _ _ _ _ (c.in-Some.ensures) c.requires.1, has_room c.loop-at.invariant.1 (entry_words c.args.index s c.loop-at.at) rest next c.requires.2)

pub loop-at-smaller : goal.loop-at-smaller
loop-at-smaller c = omega (arith, step _ _ _ _ _ (c.in-Some.ensures))

pub loop-at-preserved : goal.loop-at-preserved
loop-at-preserved c =
    let s = c.args.input.now in
    let rest = dictionary_words c.args.index s (fields dictionary_fields s c.in-Some.field.stop c.args.end) in
    let next = dictionary_next c.args.index s c.loop-at.at c.args.end c.in-Some.field.stop (one_left _ _ _ _ _ (c.in-Some.ensures)) in
    ((step _ _ _ _ _ (c.in-Some.ensures)).1, stored_on c.loop-at.invariant.1 (entry_words c.args.index s c.loop-at.at) rest next _ _ c.fill_entry-k.ensures.0 c.fill_entry-k.ensures.1)

pub returns : goal.returns
returns c = stored_all c.loop-at.invariant.1 (dictionary_done _ _ _ _ (fields_end _ _ _ _ c.loop-at-test.false))
