-- `small_value` meets its contract. Assumes nothing.
use mathlib.Core.Path.{refl}
use Rattle.text_spell.proofs.DigitLaws.{too_much, another, the_digit}
use Rattle.text_spell.proofs.small_value.Goals as goal

pub returns-then-value-gt15 : goal.returns-then-value-gt15
returns-then-value-gt15 c = too_much _ _ refl c.if-value-gt15.true

pub returns-then-spelled-byte : goal.returns-then-spelled-byte
returns-then-spelled-byte c = another _ _ refl _ c.spelled.ensures c.if-value-gt15.false c.if-spelled-byte.true

pub returns : goal.returns
returns c = the_digit _ _ refl _ c.spelled.ensures c.if-value-gt15.false c.if-spelled-byte.false
