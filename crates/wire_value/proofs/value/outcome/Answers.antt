-- `value::outcome` meets its contract. Assumes nothing.
use mathlib.Core.Path.{◌≡◌, refl, sym, ◌∙◌, ap}
use mathlib.Core.Bool.{Bool, true, false}
use mathlib.Core.List.{List}
use Prim.Native.Nat.{ℕ}
use mir.Val.{bool_byte as from_bool}
use Rattle.words.specs.Answer.{accepted}
use Rattle.words.specs.Paper.{outcome as told}
use Rattle.wire.proofs.PaperLaws.{case}
use Rattle.wire_value.specs.Paper.{bit, paper_value}
use Rattle.wire_value.proofs.ValueLaws.{entry_words_lem}
use Rattle.wire_value.proofs.value.outcome.Goals as goal

bit_is : (b : Bool) → from_bool b ≡ bit b
bit_is true = refl
bit_is false = refl

pub returns-in-Err : goal.returns-in-Err
returns-in-Err c = case paper_value c.in-Err.is c.from.ensures

pub returns-in-Ok : goal.returns-in-Ok
returns-in-Ok c =
    let known = c.in-Ok in
    case paper_value known.is
    ((λ i. record { kind = 0; number = 0; count = known.read.next; v0 = known.read.id; v1 = c.value_type.ensures i; v2 = (c.from-in-Ok.ensures ∙ bit_is known.read.aggregate) i; v3 = c.value_word.ensures i; v4 = c.value_length.ensures i; v5 = 0; v6 = 0 })
    ∙ ap (λ (words : List ℕ). told (accepted known.read.next words)) (sym (entry_words_lem known.read.id (bit known.read.aggregate) known.read.bits known.read.value)))
