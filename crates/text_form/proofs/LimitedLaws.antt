-- The limits leave the form alone: what is read within them is read without, and a byte that does not fit stops both at one
-- place. Assumes nothing.
use mathlib.Core.Path.{◌≡◌, refl}
use mathlib.Core.List.{List, [], ◌∷◌}
use mathlib.Core.Logic.{◌⊎◌, inl, inr}
use Prim.Native.Nat.{ℕ, ◌+◌}
use Rattle.places.specs.Place.{Place}
use Rattle.places.specs.Machine.{Move, on, off, Machine, Ending, read, stopped, behind, run}
use Rattle.words.specs.Answer.{Answer}
use Rattle.wire.specs.Content.{Row}
use Rattle.text_form.specs.Form.{IsText, Accepted}
use Rattle.text_form.specs.Walk.{start, walk}
use Rattle.text_form.specs.Limits.{passed, asked, limited, over, walk_within}
use Rattle.text_form.proofs.Exactly.{read_text, walk_place}

-- but for a limit, the same
abbrev Agrees : {A R L : Type 0} → Ending A R → Ending A (R ⊎ L) → Type 0
Agrees o (read a) = o ≡ read a
Agrees o (stopped p (inl r)) = o ≡ stopped p r
Agrees o (stopped p (inr l)) = Unit {0}

module _ {S A R L : Type 0} (m : Machine S A R) (ask : S → ℕ → Move (Unit {0}) L) where
  limited_agrees : (s : List ℕ) (q : S) (at : ℕ) → Agrees (run m q at s) (run (limited m ask) q at s)
  unfolding run
  limited_agrees [] q at = ends (m.close q)
    where
      ends : (x : Move A R) → Agrees (behind at x read) (behind at (asked {L = L} x (on tt)) read)
      ends (on a) = refl
      ends (off r) = refl
  limited_agrees (b ∷ s) q at = steps (λ next. limited_agrees s next (at + 1)) (m.step q b) (ask q b)
    where
      asks : (next : S) → Agrees (run m next (at + 1) s) (run (limited m ask) next (at + 1) s) → (x : Move (Unit {0}) L)
          → Agrees (run m next (at + 1) s) (behind at (passed {R = R} next x) (λ next. run (limited m ask) next (at + 1) s))
      asks next more (on u) = more
      asks next more (off l) = tt

      steps : ((next : S) → Agrees (run m next (at + 1) s) (run (limited m ask) next (at + 1) s)) → (x : Move S R) (y : Move (Unit {0}) L)
          → Agrees (behind at x (λ next. run m next (at + 1) s)) (behind at (asked x y) (λ next. run (limited m ask) next (at + 1) s))
      steps more (on next) y = asks next (more next) y
      steps more (off r) y = refl

-- what is read is the form's
pub within_text : (s : List ℕ) (rows : List Row) → run walk_within start 0 s ≡ read rows → IsText s rows
within_text s rows e = read_text s rows (rw e at (limited_agrees walk over s start 0))

-- and where a byte does not fit, or the text ends too soon, it goes wrong
pub within_place : (s : List ℕ) (p : ℕ) → run walk_within start 0 s ≡ stopped p (inl tt) → Place Accepted s p
within_place s p e = walk_place s p tt (rw e at (limited_agrees walk over s start 0))
