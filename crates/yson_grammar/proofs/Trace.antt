-- How the machine came to where it is, and that it comes there in every input with the same bytes up to there, with however much more
-- room. Assumes nothing.
use mathlib.Core.Path.{◌≡◌, refl, sym, ◌∙◌, ap, subst}
use mathlib.Core.List.{List, [], ◌∷◌, ◌++◌}
use Prim.Native.Nat.{ℕ, suc, ◌+◌, ◌<◌, ◌≤◌}
use native.Mathlib.Omega.{arith}
use lib.ListN.{length, get_or, take, length-append, get_or-append}
use lib.Seq.{get_or-take, length-take-le}
use Rattle.words.specs.Decide.{◌⇒◌, ◌=?◌}
use Rattle.yson_token.specs.Token.{Bracket, square, curly, angle, opening, closing, string_mark, separator, equals_sign, end, scalar, token_end}
use Rattle.yson_token.proofs.TokenLaws.{Lines, decide_all, Bounded, token_bounded}
use Rattle.yson_token.proofs.LocalLaws.{Alike, shorter, token_same}
use Rattle.yson_grammar.specs.Stages.{Due, node, object, item, next, equals, Step, stop, go, enter, leave, behind, as_object, as_node, as_key, step, outer, taken, from}
use Rattle.yson_grammar.proofs.RunLaws.{token_taken}
use Rattle.yson_grammar.specs.Place.{Reached, start, on}

-- from a node due at 0, with so much room, to this state
pub data Trace (s : List ℕ) (whole : ℕ) : ℕ → Due → List Bracket → ℕ → Type 0 where
  begin : Trace s whole whole node [] 0
  goes : {room at e : ℕ} {due due' : Due} {around : List Bracket}
      → Trace s whole room due around at → token_end s at ≡ end e → step due around (get_or s at 0) ≡ go due' → Trace s whole room due' around e
  enters : {room at e : ℕ} {due : Due} {around : List Bracket} {b : Bracket}
      → Trace s whole (suc room) due around at → token_end s at ≡ end e → step due around (get_or s at 0) ≡ enter b → Trace s whole room item (b ∷ around) e
  leaves : {room at e : ℕ} {due due' : Due} {around : List Bracket}
      → Trace s whole room due around at → token_end s at ≡ end e → step due around (get_or s at 0) ≡ leave due' → Trace s whole (suc room) due' (outer around) e

pub trace_reached : {s : List ℕ} {whole room at : ℕ} {due : Due} {around : List Bracket} → Trace s whole room due around at → Reached s at
trace_reached begin = start
trace_reached (goes t e x) = on (trace_reached t) e
trace_reached (enters t e x) = on (trace_reached t) e
trace_reached (leaves t e x) = on (trace_reached t) e

-- the machine goes on from there
pub trace_runs : {s : List ℕ} {whole room at : ℕ} {due : Due} {around : List Bracket} → Trace s whole room due around at
    → from s whole node [] 0 ≡ from s room due around at
unfolding taken
trace_runs begin = refl
trace_runs {s} (goes {room} {at} {e} {due} {due'} {around} t whole x) =
    trace_runs t ∙ token_taken s at room due around (get_or s at 0) e refl whole ∙ ap (λ (y : Step). taken (from s) room around at e y) x
trace_runs {s} (enters {room} {at} {e} {due} {around} {b} t whole x) =
    trace_runs t ∙ token_taken s at (suc room) due around (get_or s at 0) e refl whole ∙ ap (λ (y : Step). taken (from s) (suc room) around at e y) x
trace_runs {s} (leaves {room} {at} {e} {due} {due'} {around} t whole x) =
    trace_runs t ∙ token_taken s at room due around (get_or s at 0) e refl whole ∙ ap (λ (y : Step). taken (from s) room around at e y) x

-- the same way in another input, with more room
module _ (s t : List ℕ) (k : ℕ) where
  earlier : {at e : ℕ} → token_end s at ≡ end e → at < e
  earlier {at} {e} whole = let bounds : Bounded s at (end e) = rw whole at (token_bounded s at) in bounds.0

  byte : (at e : ℕ) → token_end s at ≡ end e → Alike s t e → get_or s at 0 ≡ get_or t at 0
  byte at e whole a = a.same at (earlier whole)

  pub trace_moved : {whole room at : ℕ} {due : Due} {around : List Bracket} → Trace s whole room due around at → Alike s t at
      → Trace t (k + whole) (k + room) due around at
  trace_moved begin a = begin
  trace_moved (goes {room} {at} {e} {due} {due'} {around} r ends x) a =
      goes (trace_moved r (shorter at (omega (arith, earlier ends)) a)) (token_same s t e a at e ends (omega arith)) (ap (step due around) (sym (byte at e ends a)) ∙ x)
  trace_moved {whole} (enters {room} {at} {e} {due} {around} {b} r ends x) a =
      let one : k + suc room ≡ suc (k + room) = omega arith in
      enters (subst (λ (n : ℕ). Trace t (k + whole) n due around at) one (trace_moved r (shorter at (omega (arith, earlier ends)) a)))
      (token_same s t e a at e ends (omega arith)) (ap (step due around) (sym (byte at e ends a)) ∙ x)
  trace_moved {whole} (leaves {room} {at} {e} {due} {due'} {around} r ends x) a =
      let one : suc (k + room) ≡ k + suc room = omega arith in
      subst (λ (n : ℕ). Trace t (k + whole) n due' (outer around) e) one
      (leaves (trace_moved r (shorter at (omega (arith, earlier ends)) a)) (token_same s t e a at e ends (omega arith)) (ap (step due around) (sym (byte at e ends a)) ∙ x))

-- the front of an input, with other bytes behind it
pub front_alike : (s ys : List ℕ) (n : ℕ) → n ≤ length s → Alike s (take n s ++ ys) n
front_alike s ys n h =
    let size : length (take n s) ≡ n = length-take-le n s h in
    record {
      same = λ i below. sym (get_or-append (take n s) ys 0 i (omega arith) ∙ get_or-take n s i 0 below);
      reaches = omega (arith, size, length-append (take n s) ys);
    }

-- An item is due in a bracket only.

abbrev pub Held : Due → List Bracket → Type 0
Held node around = Unit {0}
Held object around = Unit {0}
Held item [] = ⊥
Held item (k ∷ around) = Unit {0}
Held next around = Unit {0}
Held equals around = Unit {0}

abbrev StepHeld : List Bracket → Step → Type 0
StepHeld around stop = Unit {0}
StepHeld around (go due) = Held due around
StepHeld around (enter k) = Unit {0}
StepHeld around (leave due) = Held due (outer around)

object_held : (around : List Bracket) (b : ℕ) → StepHeld around (as_object b)
unfolding as_object Lines
object_held around b =
    decide_all (StepHeld around) (b =? opening square ⇒ enter square ∷ b =? opening curly ⇒ enter curly ∷ scalar b ⇒ go next ∷ []) stop
    ((λ _. tt), ((λ _. tt), ((λ _. tt), tt))) tt

node_held : (around : List Bracket) (b : ℕ) → StepHeld around (as_node b)
unfolding as_node Lines
node_held around b = decide_all (StepHeld around) (b =? opening angle ⇒ enter angle ∷ []) (as_object b) ((λ _. tt), tt) (object_held around b)

behind_held : (k : Bracket) (around : List Bracket) → Held (behind k) around
behind_held square around = tt
behind_held curly around = tt
behind_held angle around = tt

key_held : (k : Bracket) (around : List Bracket) (b : ℕ) → StepHeld (k ∷ around) (as_key k b)
unfolding as_key Lines
key_held k around b =
    decide_all (StepHeld (k ∷ around)) (b =? closing k ⇒ leave (behind k) ∷ b =? string_mark ⇒ go equals ∷ []) stop
    ((λ _. behind_held k around), ((λ _. tt), tt)) tt

step_held : (due : Due) (around : List Bracket) (b : ℕ) → StepHeld around (step due around b)
unfolding step Lines
step_held node around b = node_held around b
step_held object around b = object_held around b
step_held item [] b = tt
step_held item (square ∷ around) b =
    decide_all (StepHeld (square ∷ around)) (b =? closing square ⇒ leave next ∷ []) (as_node b) ((λ _. tt), tt) (node_held (square ∷ around) b)
step_held item (curly ∷ around) b = key_held curly around b
step_held item (angle ∷ around) b = key_held angle around b
step_held next [] b = tt
step_held next (k ∷ around) b =
    decide_all (StepHeld (k ∷ around)) (b =? closing k ⇒ leave (behind k) ∷ b =? separator ⇒ go item ∷ []) stop
    ((λ _. behind_held k around), ((λ _. tt), tt)) tt
step_held equals around b = decide_all (StepHeld around) (b =? equals_sign ⇒ go node ∷ []) stop ((λ _. tt), tt) tt

pub trace_held : {s : List ℕ} {whole room at : ℕ} {due : Due} {around : List Bracket} → Trace s whole room due around at → Held due around
trace_held begin = tt
trace_held {s} (goes {room} {at} {e} {due} {due'} {around} t whole x) = subst (StepHeld around) x (step_held due around (get_or s at 0))
trace_held (enters t whole x) = tt
trace_held {s} (leaves {room} {at} {e} {due} {due'} {around} t whole x) = subst (StepHeld around) x (step_held due around (get_or s at 0))
