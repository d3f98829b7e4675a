-- One result for each statement. The refusals' map to their numbers is one-to-one, since it has a left inverse. Assumes nothing.
use mathlib.Core.Path.{◌≡◌, refl, sym, ◌∙◌, ap}
use mathlib.Core.Bool.{true≢false}
use mathlib.Core.List.{List, [], ◌∷◌}
use Prim.Native.Nat.{ℕ}
use lib.ListN.{get_or}
use Rattle.words.specs.Answer.{Answer, accepted, more, refused}
use Rattle.words.specs.Decide.{decide, ◌⇒◌, ◌=?◌}
use Rattle.words.specs.Statement.{OneResult}
use Rattle.words.specs.Paper.{Tells, outcome}
use Rattle.words.proofs.Unique.{equal_to_one}
use Rattle.words.proofs.AnswerLaws.{refused_not_accepted}
use Rattle.words.proofs.PaperLaws.{no_room_of, no_room_back}
use Rattle.std.specs.declared.option.Option.TheVariants.{Some, None}
use Rattle.field.proofs.FieldLaws.{type_one}
use Rattle.error_tree.specs.Paper.{paper}
use Rattle.error_tree.specs.Statement.{ReadsKnown}
use Rattle.error_tree.specs.declared.refusal.ErrorRefusal.{ErrorRefusal}
use Rattle.error_tree.specs.declared.refusal.ErrorRefusal.TheVariants.{BadMessage, ErrorsTooDeep, BadTable, NoRoom}

-- the case of a number and its values; back from an answer
abbrev pub numbered : ℕ → List ℕ → ErrorRefusal
numbered number values =
    decide
    (number =? 22 ⇒ BadMessage (get_or values 0 0)
    ∷ number =? 23 ⇒ ErrorsTooDeep (get_or values 0 0)
    ∷ number =? 18 ⇒ BadTable (get_or values 0 0) (get_or values 1 0)
    ∷ [])
    (NoRoom (no_room_of values))

abbrev pub paper_back : Answer → ErrorRefusal
paper_back (accepted count fields) = BadMessage 0
paper_back more = BadMessage 0
paper_back (refused number values consumed) = numbered number values

pub paper_back_lem : (r : ErrorRefusal) → paper_back (paper r) ≡ r
paper_back_lem (BadMessage place) = refl
paper_back_lem (ErrorsTooDeep place) = refl
paper_back_lem (BadTable rule position) = refl
paper_back_lem (NoRoom short) = ap NoRoom (no_room_back short)

-- two refusals with one number and the same values are one
pub paper_told : (r r' : ErrorRefusal) → paper r ≡ paper r' → r ≡ r'
paper_told r r' e = sym (paper_back_lem r) ∙ ap paper_back e ∙ paper_back_lem r'

-- no refusal lets what follows decide
pub passes_or_stops : (checks : Answer → Answer) (refusal : ErrorRefusal) → ((rest : Answer) → checks rest ≡ rest) → ((rest : Answer) → checks rest ≡ paper refusal) → ⊥
passes_or_stops checks (BadMessage place) passes stops = refused_not_accepted _ _ _ _ _ (sym (stops (accepted 0 [])) ∙ passes (accepted 0 []))
passes_or_stops checks (ErrorsTooDeep place) passes stops = refused_not_accepted _ _ _ _ _ (sym (stops (accepted 0 [])) ∙ passes (accepted 0 []))
passes_or_stops checks (BadTable rule position) passes stops = refused_not_accepted _ _ _ _ _ (sym (stops (accepted 0 [])) ∙ passes (accepted 0 []))
passes_or_stops checks (NoRoom short) passes stops = refused_not_accepted _ _ _ _ _ (sym (stops (accepted 0 [])) ∙ passes (accepted 0 []))

pub refusal_outcome_unique : (answer : ErrorRefusal) → OneResult (Tells (paper answer))
refusal_outcome_unique answer = equal_to_one (outcome (paper answer))

pub read_known_unique : (known : ℕ) (s : List ℕ) (at end : ℕ) → OneResult (ReadsKnown known s at end)
read_known_unique known s at end (Some f) (Some g) p q =
    λ i. Some record {
      number = (p.1 ∙ sym q.1) i;
      wire = type_one f.wire g.wire (p.2 ∙ sym q.2) i;
      value = (p.3 ∙ sym q.3) i;
      content = (p.4 ∙ sym q.4) i;
      stop = (p.5 ∙ sym q.5) i;
    }
read_known_unique known s at end (Some f) None p q = absurd (true≢false (sym p.0 ∙ q))
read_known_unique known s at end None (Some g) p q = absurd (true≢false (sym q.0 ∙ p))
read_known_unique known s at end None None p q = λ i. None
