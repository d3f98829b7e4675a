-- What is equal to given things is one thing, for the statements of exported functions: an outcome, with what one, two or
-- three lent buffers hold at exit. And two results that meet the version's statement are equal. Assumes nothing.
use mathlib.Core.Path.{◌≡◌, sym, ◌∙◌}
use Rattle.words.specs.Statement.{OneResult}
use Rattle.words.proofs.Unique.{equal_to_one}
use Rattle.face.specs.Version.{InterfaceIs}

pub equal_to_two : {A B : Type 0} (a : A) (b : B) → OneResult (λ (x : A × B). (x.0 ≡ a) × (x.1 ≡ b))
equal_to_two a b x x' p q = λ i. ((p.0 ∙ sym q.0) i, (p.1 ∙ sym q.1) i)

pub equal_to_three : {A B C : Type 0} (a : A) (b : B) (c : C) → OneResult (λ (x : A × B × C). (x.0 ≡ a) × (x.1 ≡ b) × (x.2 ≡ c))
equal_to_three a b c x x' p q = λ i. ((p.0 ∙ sym q.0) i, (p.1 ∙ sym q.1) i, (p.2 ∙ sym q.2) i)

pub equal_to_four : {A B C D : Type 0} (a : A) (b : B) (c : C) (d : D) → OneResult (λ (x : A × B × C × D). (x.0 ≡ a) × (x.1 ≡ b) × (x.2 ≡ c) × (x.3 ≡ d))
equal_to_four a b c d x x' p q =
    λ i. ((p.0 ∙ sym q.0) i, (p.1 ∙ sym q.1) i, (p.2 ∙ sym q.2) i, (p.3 ∙ sym q.3) i)

pub cablefinch_face_6_unique : OneResult InterfaceIs
cablefinch_face_6_unique = equal_to_one _
