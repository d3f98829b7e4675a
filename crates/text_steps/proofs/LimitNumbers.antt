-- A limit that stops the walk is refused by a number up to 13. Assumes nothing.
use mathlib.Core.Path.{◌≡◌, refl, sym, ◌∙◌, ap}
use mathlib.Core.Bool.{Bool, true, false, ◌||◌, ◌&&◌}
use mathlib.Core.List.{List, [], ◌∷◌, ◌++◌}
use mathlib.Core.Logic.{◌⊎◌, inl, inr}
use Prim.Native.Nat.{ℕ, ◌+◌, ◌≤◌}
use native.Mathlib.Omega.{arith}
use lib.ListN.{length}
use Rattle.words.specs.Answer.{Answer, accepted, more, refused}
use Rattle.words.specs.Decide.{pick, ◌<?◌, ◌=?◌}
use Rattle.words.proofs.DecideLaws.{pick_case}
use Rattle.places.specs.Machine.{Move, on, off, Ending, read, stopped, behind, run}
use Rattle.places.proofs.MachineLaws.{read_not_stopped}
use Rattle.wire.specs.Layout.{max_rows, max_values, max_length, max_size}
use Rattle.wire.specs.Content.{Content, nothing, word, bytes, Cell, Row}
use Rattle.text_form.specs.Form.{tab, line_feed, percent_sign}
use Rattle.text_form.specs.Walk.{Phase, fresh, number, letter, digits, full, percent, second, State, hash, at, Go, is_empty, step, close}
use Rattle.text_form.specs.Limits.{Ask, asking, beginning, ending, lengthening, size_with, further, over, asked, passed, walk_within}

-- a refusal by a number up to 13
abbrev pub ByLimit : Answer → Type 0
ByLimit (accepted n fields) = ⊥
ByLimit more = ⊥
ByLimit (refused k carried consumed) = k ≤ 13

abbrev Asks : Ask → Type 0
Asks (on u) = Unit {0}
Asks (off refusal) = ByLimit refusal

one : (test : Bool) (x y : Ask) → Asks x → Asks y → Asks (pick test x y)
one test x y a b = pick_case test x y Asks (λ _. a) (λ _. b)

over_asks : (q : State) (b : ℕ) → Asks (over q b)
unfolding over
over_asks (hash rows) b = tt
over_asks (at rows cells fresh) b =
    one (is_empty cells && max_rows <? (length rows + 1)) _ _ (omega arith)
    (one (is_empty cells && max_size <? size_with rows []) _ _ (omega arith) (one (max_values <? (length cells + 1)) _ _ (omega arith) tt))
over_asks (at rows cells (number n)) b = tt
over_asks (at rows cells (letter id aggregate)) b = tt
over_asks (at rows cells (digits id aggregate type k w)) b = tt
over_asks (at rows cells (full c)) b =
    one (b =? tab || b =? line_feed) _ _ (one (max_size <? size_with rows (cells ++ c ∷ [])) _ _ (omega arith) tt) (each c.content)
  where
    each : (content : Content) → Asks (further content b)
    each nothing = tt
    each (word w) = tt
    each (bytes t) = one (b =? percent_sign) _ _ tt (one (max_length <? (length t + 1)) _ _ (omega arith) tt)
over_asks (at rows cells (percent id aggregate type t)) b = tt
over_asks (at rows cells (second id aggregate type t h)) b = one (max_length <? (length t + 1)) _ _ (omega arith) tt

abbrev Stops : Move State (Unit {0} ⊎ Answer) → Type 0
Stops (on q) = Unit {0}
Stops (off (inl none)) = Unit {0}
Stops (off (inr refusal)) = ByLimit refusal

step_stops : (x : Go) (y : Ask) → Asks y → Stops (asked x y)
step_stops (on q) (on u) h = tt
step_stops (on q) (off l) h = h
step_stops (off r) y h = tt

abbrev Ends : Move (List Row) (Unit {0} ⊎ Answer) → Type 0
Ends (on rows) = Unit {0}
Ends (off (inl none)) = Unit {0}
Ends (off (inr refusal)) = ⊥

close_ends : (x : Move (List Row) (Unit {0})) → Ends (asked x (on tt))
close_ends (on rows) = tt
close_ends (off r) = tt

pub limit_number : (s : List ℕ) (q : State) (i place : ℕ) (refusal : Answer) → run walk_within q i s ≡ stopped place (inr refusal) → ByLimit refusal
unfolding run
limit_number [] q i place refusal e = each (walk_within.close q) (close_ends (close q)) e
  where
    each : (x : Move (List Row) (Unit {0} ⊎ Answer)) → Ends x → behind i x read ≡ stopped place (inr refusal) → ByLimit refusal
    each (on rows) h f = absurd (read_not_stopped rows place (inr refusal) f)
    each (off (inl none)) h f = absurd (let z : ◌≡◌ {A = ℕ} 0 1 = cc in omega arith)
    each (off (inr l)) h f = absurd h
limit_number (b ∷ s) q i place refusal e =
    each (λ next. limit_number s next (i + 1) place refusal) (walk_within.step q b) (step_stops (step q b) (over q b) (over_asks q b)) e
  where
    each : ((next : State) → run walk_within next (i + 1) s ≡ stopped place (inr refusal) → ByLimit refusal) → (x : Move State (Unit {0} ⊎ Answer)) → Stops x
        → behind i x (λ next. run walk_within next (i + 1) s) ≡ stopped place (inr refusal) → ByLimit refusal
    each rest (on next) h f = rest next f
    each rest (off (inl none)) h f = absurd (let z : ◌≡◌ {A = ℕ} 0 1 = cc in omega arith)
    each rest (off (inr l)) h f = let same : l ≡ refusal = cc in rw (← same) h
