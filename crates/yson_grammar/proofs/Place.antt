-- Where the machine fails is where the input fails, without the machine. Assumes nothing.
use mathlib.Core.Path.{◌≡◌, refl, sym, ◌∙◌, ap, subst}
use mathlib.Core.Bool.{◌&&◌}
use mathlib.Core.List.{List, [], ◌∷◌, ◌++◌, append_assoc}
use mathlib.Core.Logic.{⊎_elim}
use Prim.Native.Nat.{ℕ, zero, suc, ◌+◌, ◌-◌, ◌<◌, ◌≤◌}
use native.Mathlib.Omega.{arith}
use lib.ListN.{length, get_or, take, drop, take-append-drop}
use lib.Seq.{take-take}
use Rattle.words.specs.Decide.{◌=?◌}
use Rattle.words.proofs.DecideLaws.{pick_case, le_or_gt}
use Rattle.yson_token.specs.Token.{Bracket, End, end, none, token_end}
use Rattle.yson_token.proofs.TokenLaws.{Bounded, token_bounded}
use Rattle.yson_token.proofs.LocalLaws.{Alike, shorter, token_same}
use Rattle.yson_grammar.specs.Grammar.{Node}
use Rattle.yson_grammar.specs.Stages.{Due, node, item, Step, stop, go, enter, leave, step, Verdict, good, bad, deep, complete, outer, taken, after, run, from, verdict}
use Rattle.yson_grammar.proofs.RunLaws.{token_taken, end_good, none_not_end}
use Rattle.yson_grammar.proofs.Complete.{node_passes, deeper, derived_good}
use Rattle.yson_grammar.proofs.Sound.{bad_good, deep_good}
use Rattle.yson_grammar.specs.Place.{Reached, start, on, Begins, BeginsInBytes, Fails, BadAt, DeepAt}
use Rattle.yson_grammar.proofs.Trace.{Trace, begin, goes, enters, leaves, trace_reached, trace_runs, trace_moved, front_alike}
use Rattle.yson_grammar.proofs.Finish.{trace_begins}

module _ (s : List ℕ) where
  -- why the machine stops in a state: no whole token stands there, or one that cannot be taken
  pub data Stopped (due : Due) (around : List Bracket) (p : ℕ) : Type 0 where
    cut : token_end s p ≡ none → Stopped due around p
    wrong : (e : ℕ) → token_end s p ≡ end e → step due around (get_or s p 0) ≡ stop → Stopped due around p

  -- or one that opens a bracket too many
  pub record Full (room : ℕ) (due : Due) (around : List Bracket) (p : ℕ) : Type 0 where
    pub full : room ≡ 0
    pub e : ℕ
    pub k : Bracket
    pub whole : token_end s p ≡ end e
    pub opens : step due around (get_or s p 0) ≡ enter k

  -- the state in which it fails
  pub data Failed : Verdict → Type 0 where
    fails : (room : ℕ) (due : Due) (around : List Bracket) (p : ℕ) → Trace s 64 room due around p → p ≤ length s → Stopped due around p → Failed (bad p)
    overflows : (room : ℕ) (due : Due) (around : List Bracket) (p : ℕ) → Trace s 64 room due around p → p ≤ length s → Full room due around p → Failed (deep p)
    passes : Failed good

  module _ (n : ℕ) (ih : (room : ℕ) (due : Due) (around : List Bracket) (at : ℕ) → length s < at + n → at ≤ length s → Trace s 64 room due around at → Failed (run n s room due around at))
      (due : Due) (around : List Bracket) (at : ℕ) (near : length s < at + suc n) (inside : at ≤ length s) where
    token_fails : (room e : ℕ) → Trace s 64 room due around at → token_end s at ≡ end e → (x : Step) → step due around (get_or s at 0) ≡ x → Failed (taken (run n s) room around at e x)
    unfolding taken
    token_fails room e trace whole stop is = fails room due around at trace inside (wrong e whole is)
    token_fails room e trace whole (go due') is =
        let bounds : Bounded s at (end e) = rw whole at (token_bounded s at) in
        ih room due' around e (omega (arith, bounds.0)) bounds.1 (goes trace whole is)
    token_fails zero e trace whole (enter k) is = overflows 0 due around at trace inside (record { full = refl; e = e; k = k; whole = whole; opens = is })
    token_fails (suc room) e trace whole (enter k) is =
        let bounds : Bounded s at (end e) = rw whole at (token_bounded s at) in
        ih room item (k ∷ around) e (omega (arith, bounds.0)) bounds.1 (enters trace whole is)
    token_fails room e trace whole (leave due') is =
        let bounds : Bounded s at (end e) = rw whole at (token_bounded s at) in
        ih (suc room) due' (outer around) e (omega (arith, bounds.0)) bounds.1 (leaves trace whole is)

    end_fails : (room : ℕ) → Trace s 64 room due around at → (t : End) → token_end s at ≡ t → Failed (after (run n s) s room due around at t)
    unfolding after
    end_fails room trace (end e) whole = token_fails room e trace whole (step due around (get_or s at 0)) refl
    end_fails room trace none whole =
        pick_case (complete due around && (at =? length s)) good (bad at) Failed (λ _. passes) (λ _. fails room due around at trace inside (cut whole))

  run_fails : (n room : ℕ) (due : Due) (around : List Bracket) (at : ℕ) → length s < at + n → at ≤ length s → Trace s 64 room due around at → Failed (run n s room due around at)
  unfolding run
  run_fails zero room due around at near inside trace = absurd (omega arith)
  run_fails (suc n) room due around at near inside trace =
      end_fails n (λ r d a p h g t. run_fails n r d a p h g t) due around at near inside room trace (token_end s at) refl

  pub verdict_fails : Failed (verdict s)
  verdict_fails = run_fails (suc (length s - 0)) 64 node [] 0 (omega arith) (omega arith) begin

-- a node within so many brackets is accepted within more
begun_good : (t : List ℕ) (room n : ℕ) → Node t room 0 (length t) → room ≤ n → from t n node [] 0 ≡ good
begun_good t room n d h = node_passes t (deeper t d n h) [] ∙ end_good t (length t) n refl

module _ (s : List ℕ) (room p : ℕ) (due : Due) (around : List Bracket) (trace : Trace s 64 room due around p) (inside : p ≤ length s) where
  -- with a token that is wrong in this state no good input goes on
  module _ (e : ℕ) (whole : token_end s p ≡ end e) (k : ℕ) (ys : List ℕ) where
    bounds : Bounded s p (end e)
    bounds = rw whole at (token_bounded s p)

    alike : Alike s (take e s ++ ys) e
    alike = front_alike s ys e bounds.1

    there : token_end (take e s ++ ys) p ≡ end e
    there = token_same s (take e s ++ ys) e alike p e whole (omega arith)

    lands : from (take e s ++ ys) (k + 64) node [] 0 ≡ taken (from (take e s ++ ys)) (k + room) around p e (step due around (get_or s p 0))
    lands =
        trace_runs (trace_moved s (take e s ++ ys) k trace (shorter p (omega (arith, bounds.0)) alike))
        ∙ token_taken (take e s ++ ys) p (k + room) due around (get_or s p 0) e (sym (alike.same p bounds.0)) there

    lands_wrong : step due around (get_or s p 0) ≡ stop → from (take e s ++ ys) (k + 64) node [] 0 ≡ bad p
    unfolding taken
    lands_wrong is = lands ∙ ap (λ (x : Step). taken (from (take e s ++ ys)) (k + room) around p e x) is

  wrong_never : (e : ℕ) → token_end s p ≡ end e → step due around (get_or s p 0) ≡ stop → (n : ℕ) → Begins n (take e s) → ⊥
  wrong_never e whole is n (ys, d) =
      bad_good (take e s ++ ys) (sym (lands_wrong e whole n ys is) ∙ begun_good (take e s ++ ys) n (n + 64) d (omega arith))

  pub stopped_never : Stopped s due around p → (n e : ℕ) → token_end s p ≡ end e → Begins n (take e s) → ⊥
  stopped_never (cut nothing) n e whole b = none_not_end (sym nothing ∙ whole)
  stopped_never (wrong e' whole' is) n e whole b = wrong_never e whole is n b

  -- with a bracket too many none goes on within 64, and one does within 65
  module _ (f : Full s room due around p) where
    overflow : (e : ℕ) (ys : List ℕ) (r : ℕ) → r ≡ 0 → (x : Step) → x ≡ enter f.k → taken (from (take e s ++ ys)) r around p e x ≡ deep p
    unfolding taken
    overflow e ys r empty x is = rw (is, empty)

    pub full_never : (e : ℕ) → token_end s p ≡ end e → Begins 64 (take e s) → ⊥
    full_never e whole (ys, d) =
        deep_good (take e s ++ ys)
        (sym (lands e whole 0 ys ∙ overflow e ys (0 + room) (omega (arith, f.full)) (step due around (get_or s p 0)) f.opens)
        ∙ begun_good (take e s ++ ys) 64 (0 + 64) d (omega arith))

    pub full_begins : BeginsInBytes 65 (take f.e s)
    full_begins =
        let bounds : Bounded s p (end f.e) = rw f.whole at (token_bounded s p) in
        let one : 1 + room ≡ suc 0 = omega (arith, f.full) in
        let moved : Trace s (1 + 64) (1 + room) due around p = trace_moved s s 1 trace (record { same = λ i below. refl; reaches = inside }) in
        trace_begins s 65 0 f.e item (f.k ∷ around)
        (enters (subst (λ (n : ℕ). Trace s 65 n due around p) one moved) f.whole f.opens) bounds.1

-- the failing state, without the machine
module _ (s : List ℕ) where
  abbrev Sorted : Verdict → Type 0
  Sorted good = Unit {0}
  Sorted (bad p) = BadAt s p
  Sorted (deep p) = DeepAt s p

  pub sorted : (v : Verdict) → verdict s ≡ v → Failed s v → Sorted v
  sorted good is passes = tt
  sorted (bad p) is (fails room due around q trace inside stopped) = (
    record {
      broken = λ d. bad_good s (sym is ∙ derived_good s d);
      reached = trace_reached trace;
      begins = trace_begins s 64 room p due around trace inside;
      stops = λ e whole b. stopped_never s room p due around trace inside stopped 64 e whole b;
    },
    λ n e whole b. stopped_never s room p due around trace inside stopped n e whole b,
  )
  sorted (deep p) is (overflows room due around q trace inside full) = (
    record {
      broken = λ d. deep_good s (sym is ∙ derived_good s d);
      reached = trace_reached trace;
      begins = trace_begins s 64 room p due around trace inside;
      stops = λ e whole b. full_never s room p due around trace inside full e whole b;
    },
    (full.e, full.whole, full_begins s room p due around trace inside full),
  )

in_bytes : (room : ℕ) (xs : List ℕ) → BeginsInBytes room xs → Begins room xs
in_bytes room xs (ys, bytes, d) = (ys, d)

-- One place.
module _ (s : List ℕ) where
  end_same : {a b : ℕ} → end a ≡ end b → a ≡ b
  end_same e = cc

  abbrev Through : ℕ → ℕ → Type 0
  Through p q = (e : ℕ) × (token_end s p ≡ end e) × (e ≤ q)

  -- tokens reach a later place through the one that begins here
  through : (p a q : ℕ) → token_end s a ≡ end q → p < q → (p < a → Through p a) → (a < p → Through a p) → Through p q
  through p a q whole later before behind =
      let bounds : Bounded s a (end q) = rw whole at (token_bounded s a) in
      ⊎_elim
      (λ (h : a ≤ p).
      ⊎_elim
      (λ (g : p ≤ a). let same : a ≡ p = omega arith in (q, ap (token_end s) (sym same) ∙ whole, omega arith))
      (λ (g : a < p). let x = behind g in absurd (omega (arith, x.2, end_same (sym whole ∙ x.1))))
      (le_or_gt p a))
      (λ (h : p < a). let x = before h in (x.0, x.1, omega (arith, x.2, bounds.0)))
      (le_or_gt a p)

  between_on : (n : ℕ) → ((p q : ℕ) → p + q ≤ n → Reached s p → Reached s q → p < q → Through p q)
      → (p q : ℕ) → p + q ≤ suc n → Reached s p → Reached s q → p < q → Through p q
  between_on n ih p q small here start later = absurd (omega arith)
  between_on n ih p q small here (on {a} there whole) later =
      let bounds : Bounded s a (end q) = rw whole at (token_bounded s a) in
      through p a q whole later
      (λ h. ih p a (omega (arith, bounds.0)) here there h)
      (λ h. ih a p (omega (arith, bounds.0)) there here h)

  between : (n p q : ℕ) → p + q ≤ n → Reached s p → Reached s q → p < q → Through p q
  between zero p q small here there later = absurd (omega arith)
  between (suc n) p q small here there later = between_on n (λ a b g x y h. between n a b g x y h) p q small here there later

  -- a front of what begins a good input begins one
  front_begins : (n e q : ℕ) → e ≤ q → Begins n (take q s) → Begins n (take e s)
  front_begins n e q h (ys, d) =
      let rest : List ℕ = drop e (take q s) in
      let same : take q s ++ ys ≡ take e s ++ (rest ++ ys) =
      ap (λ (l : List ℕ). l ++ ys) (sym (take-append-drop e (take q s)))
      ∙ append_assoc (take e (take q s)) rest ys
      ∙ ap (λ (l : List ℕ). l ++ (rest ++ ys)) (take-take e q s h) in
      (rest ++ ys, subst (λ (l : List ℕ). Node l n 0 (length l)) same d)

  not_before : (p q : ℕ) → Fails s p → Fails s q → p < q → ⊥
  not_before p q f g h =
      let x = between (p + q) p q (omega arith) f.reached g.reached h in
      f.stops x.0 x.1 (front_begins 64 x.0 q x.2 (in_bytes 64 (take q s) g.begins))

  pub one_place : (p q : ℕ) → Fails s p → Fails s q → p ≡ q
  one_place p q f g =
      ⊎_elim
      (λ (h : p ≤ q). ⊎_elim (λ (k : q ≤ p). same h k) (λ (k : p < q). absurd (not_before p q f g k)) (le_or_gt q p))
      (λ (h : q < p). absurd (not_before q p g f h))
      (le_or_gt p q)
    where
      same : p ≤ q → q ≤ p → p ≡ q
      same h k = omega arith

-- What the machine says, without the machine; and that the two numbers exclude each other.
module _ (s : List ℕ) where
  pub bad_there : (p : ℕ) → verdict s ≡ bad p → BadAt s p
  bad_there p is = sorted s (bad p) is (rw is at (verdict_fails s))

  pub deep_there : (p : ℕ) → verdict s ≡ deep p → DeepAt s p
  deep_there p is = sorted s (deep p) is (rw is at (verdict_fails s))

  pub not_both : (p q : ℕ) → BadAt s p → DeepAt s q → ⊥
  not_both p q b d =
      let same : p ≡ q = one_place s p q b.0 d.0 in
      b.1 65 d.1.0 (ap (token_end s) same ∙ d.1.1) (in_bytes 65 (take d.1.0 s) d.1.2)
