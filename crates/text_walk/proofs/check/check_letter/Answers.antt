-- `check::check_letter` meets its contract. Assumes nothing.
use mathlib.Core.Logic.{inl, inr}
use Rattle.wire.proofs.KindLaws.{kind_null, kind_scalar, kind_blob, kind_unknown}
use Rattle.wire.proofs.TypeLaws.{known_scalar, known_blob}
use Rattle.text_walk.proofs.CheckLaws.{letter_early, letter_null, letter_scalar, letter_blob, letter_other}
use Rattle.text_walk.proofs.check.check_letter.Goals as goal

pub returns-then-text-at : goal.returns-then-text-at
returns-then-text-at c = letter_early _ _ c.if-text-at.true

pub returns-in-Unknown : goal.returns-in-Unknown
returns-in-Unknown c = let unknown = kind_unknown _ _ c.kind_of.ensures c.in-Unknown.is in letter_other _ _ c.if-text-at.false _ c.type_of-kind.ensures unknown.0 unknown.1 unknown.2

pub returns-in-Null : goal.returns-in-Null
returns-in-Null c =
    elim c.in-Null.is [
      | inl e ↦ letter_null _ _ c.if-text-at.false _ c.type_of-kind.ensures (kind_null _ _ c.kind_of.ensures e)
      | inr rest ↦ elim rest [
        | inl e ↦
            let scalar = kind_scalar _ _ c.kind_of.ensures e in
            letter_scalar _ _ c.if-text-at.false _ c.type_of-kind.ensures (known_scalar _ scalar.0 scalar.1) scalar.0 scalar.1
        | inr e ↦
            let blob = kind_blob _ _ c.kind_of.ensures e in
            letter_blob _ _ c.if-text-at.false _ c.type_of-kind.ensures (known_blob _ blob.0 blob.1) blob.0 blob.1
      ]
    ]
