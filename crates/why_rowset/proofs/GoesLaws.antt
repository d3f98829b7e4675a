-- Stretches of the walk, one behind the other. Assumes nothing.
use Prim.Native.Nat.{ℕ}
use mathlib.Core.Path.{◌≡◌, refl, sym, ◌∙◌, ap}
use mathlib.Core.List.{List, ◌++◌}
use Rattle.words.specs.Decide.{Line, decide}
use Rattle.words.specs.Note.{Told}
use Rattle.words.proofs.DecideLaws.{decide_append}
use Rattle.finding.specs.Saying.{Saying, fine, waiting, refusing, breaking, saying}
use Rattle.finding.specs.Meaning.{meaning}
use Rattle.finding.specs.declared.Finding.{Finding}
use Rattle.why_rowset.specs.Stages.{firstly, Keeps, Quiet, Tell, Goes}
use Rattle.why_rowset.specs.declared.walk.Walked.{Walked}
use Rattle.std.specs.declared.result.Result.{Result}
use Rattle.std.specs.declared.result.Result.TheVariants.{Ok, Err}

-- nothing to be told behind
pub firstly_fine : (a : Saying) → firstly a fine ≡ a
firstly_fine fine = refl
firstly_fine (waiting name n) = refl
firstly_fine (refusing code field offset value wanted) = refl
firstly_fine (breaking field offset value wanted) = refl

module _ (xs ys : List (Line Told)) where
  pub quiet_then : Quiet xs → Quiet ys → Quiet (xs ++ ys)
  quiet_then first second rest = decide_append xs ys rest ∙ first (decide ys rest) ∙ second rest

  pub tell_then : (finding : Finding) → Quiet xs → Tell ys finding → Tell (xs ++ ys) finding
  tell_then finding first second rest = second rest ∙ ap saying (sym (decide_append xs ys rest ∙ first (decide ys rest)))

  pub tell_first : (finding : Finding) → Tell xs finding → Tell (xs ++ ys) finding
  tell_first finding tells rest = tells (decide ys rest) ∙ ap saying (sym (decide_append xs ys rest))

  pub keeps_then : (before between after : Finding) → Keeps xs before between → Keeps ys between after → Keeps (xs ++ ys) before after
  keeps_then before between after first second rest =
      second rest ∙ first (decide ys rest) ∙ ap (λ (t : Told). firstly (meaning before) (saying t)) (sym (decide_append xs ys rest))

module _ (s : List ℕ) (xs ys ps qs : List (Line Told)) (mid next : ℕ) (before : Finding) where
  pub goes_stop : (finding : Finding) → Goes s xs ps mid before (Err finding) → Goes s (xs ++ ys) (ps ++ qs) next before (Err finding)
  goes_stop finding tells = tell_first xs ys finding tells

  pub goes_then : (at : ℕ) (between : Finding) (r : Result Walked Finding) → Goes s xs ps mid before (Ok record { next = at; plain = between }) → Goes s ys qs next between r → Goes s (xs ++ ys) (ps ++ qs) next before r
  goes_then at between (Ok w) first second =
      (second.0, second.1, quiet_then xs ys first.2 second.2, keeps_then ps qs before between w.plain first.3 second.3)
  goes_then at between (Err finding) first second = tell_then xs ys finding first.2 second
