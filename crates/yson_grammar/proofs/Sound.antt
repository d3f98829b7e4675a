-- What the machine accepts the grammar derives: from each state that leads to acceptance, what is due stands there, and behind it what
-- closes the brackets that are open. Assumes nothing.
use mathlib.Core.Path.{◌≡◌, refl}
use mathlib.Core.Bool.{true}
use mathlib.Core.List.{List, [], ◌∷◌}
use mathlib.Core.Logic.{◌⊎◌, inl, inr}
use Prim.Native.Nat.{ℕ, zero, suc, ◌-◌}
use native.Mathlib.Omega.{arith}
use borrow.Author.Tests.{eqb-true}
use lib.ListN.{length, get_or}
use Rattle.words.specs.Decide.{◌⇒◌, ◌=?◌}
use Rattle.words.proofs.DecideLaws.{pick_case}
use Rattle.yson_token.proofs.TokenLaws.{Lines, decide_all}
use Rattle.yson_token.specs.Token.{End, end, none, scalar, token_end}
use Rattle.yson_token.specs.Token.{Bracket, square, curly, angle, closing}
use Rattle.yson_grammar.specs.Grammar.{Token, Node, plain, attributed, Object, single, list, map, Items, more, last, Item, listed, mapped, named, Pair, pair, Yson}
use Rattle.yson_grammar.specs.Grammar as Grammar
use Rattle.yson_grammar.specs.Stages.{Due, node, object, item, next, equals, Step, stop, go, enter, leave, behind, as_object, as_node, as_key, step, Verdict, good, bad, deep, complete, taken, after, run, verdict}

module _ (s : List ℕ) where
  -- behind an item: the end of its bracket, or a separator and more items
  unfoldable pub Tail : Bracket → ℕ → ℕ → ℕ → Type 0
  Tail k room at to = Token s (closing k) at to ⊎ ((c : ℕ) × Token s 59 at c × Items s k room c to)

  -- behind a bracket: where it held attributes their object, and then the rest
  unfoldable pub Left : (ℕ → Type 0) → Bracket → ℕ → ℕ → Type 0
  Left rest square room at = rest at
  Left rest curly room at = rest at
  Left rest angle room at = (e : ℕ) × Object s room at e × rest e

  -- behind an item with these brackets open
  unfoldable pub After : List Bracket → ℕ → ℕ → Type 0
  After [] room at = at ≡ length s
  After (k ∷ around) room at = (to : ℕ) × Tail k room at to × Left (After around (suc room)) k (suc room) to

  unfoldable pub Rest : ℕ → Due → List Bracket → ℕ → Type 0
  Rest room node around at = (to : ℕ) × Node s room at to × After around room to
  Rest room object around at = (to : ℕ) × Object s room at to × After around room to
  Rest room item [] at = ⊥
  Rest room item (k ∷ around) at = (to : ℕ) × Items s k room at to × Left (After around (suc room)) k (suc room) to
  Rest room next around at = After around room at
  Rest room equals around at = (c : ℕ) × Token s 61 at c × ((to : ℕ) × Node s room c to × After around room to)

  pub bad_good : {p : ℕ} → bad p ≡ good → ⊥
  bad_good g = let z : ◌≡◌ {A = ℕ} 0 1 = cc in omega arith

  pub deep_good : {p : ℕ} → deep p ≡ good → ⊥
  deep_good g = let z : ◌≡◌ {A = ℕ} 0 1 = cc in omega arith

  -- an item and what stands behind it
  joined : (k : Bracket) (room at to z : ℕ) → Item s k room at to → Tail k room to z → Items s k room at z
  unfolding Tail
  joined k room at to z i (inl t) = last i t
  joined k room at to z i (inr x) = more i x.1 x.2

  item_rest : (k : Bracket) (room at to : ℕ) (around : List Bracket) → Item s k room at to → After (k ∷ around) room to → Rest room item (k ∷ around) at
  unfolding Rest After
  item_rest k room at to around i x = (x.0, joined k room at to x.0 i x.1, x.2)

  -- what the end of a bracket leaves due
  left_rest : (k : Bracket) (room at : ℕ) (around : List Bracket) → Rest room (behind k) around at → Left (After around room) k room at
  unfolding Rest Left
  left_rest square room at around x = x
  left_rest curly room at around x = x
  left_rest angle room at around x = x

  -- one token, where all that follows is known
  module _ (n : ℕ) (ih : (room : ℕ) (due : Due) (around : List Bracket) (at : ℕ) → run n s room due around at ≡ good → Rest room due around at)
      (at e : ℕ) (whole : token_end s at ≡ end e) where
    Takes : ℕ → List Bracket → Type 0 → Step → Type 0
    Takes room around R x = taken (run n s) room around at e x ≡ good → R

    stopped : (room : ℕ) (around : List Bracket) (R : Type 0) → Takes room around R stop
    unfolding Takes taken
    stopped room around R h = absurd (bad_good h)

    tok : (b : ℕ) → (get_or s at 0 =? b) ≡ true → Token s b at e
    tok b t = record { first = eqb-true (get_or s at 0) b t; whole = whole }

    entered : (k : Bracket) (room : ℕ) (around : List Bracket) (R : ℕ → Type 0)
        → ((r : ℕ) → Rest r item (k ∷ around) e → R (suc r)) → Takes room around (R room) (enter k)
    unfolding Takes taken
    entered k zero around R on h = absurd (deep_good h)
    entered k (suc room) around R on h = on room (ih room item (k ∷ around) e h)

    object_takes : (room : ℕ) (around : List Bracket) → Takes room around (Rest room object around at) (as_object (get_or s at 0))
    unfolding as_object Takes taken Rest Left Lines
    object_takes room around =
        decide_all (Takes room around (Rest room object around at))
        (get_or s at 0 =? 91 ⇒ enter square ∷ get_or s at 0 =? 123 ⇒ enter curly ∷ scalar (get_or s at 0) ⇒ go next ∷ []) stop (
          (λ t. entered square room around (λ r. Rest r object around at) (λ r x. (x.0, list (tok 91 t) x.1, x.2))),
          (
            (λ t. entered curly room around (λ r. Rest r object around at) (λ r x. (x.0, map (tok 123 t) x.1, x.2))),
            (
              (λ t h. (e, single t whole, ih room next around e h)),
              tt,
            ),
          ),
        )
        (stopped room around (Rest room object around at))

    node_takes : (room : ℕ) (around : List Bracket) → Takes room around (Rest room node around at) (as_node (get_or s at 0))
    unfolding as_node Takes Rest Left Lines
    node_takes room around =
        decide_all (Takes room around (Rest room node around at)) (get_or s at 0 =? 60 ⇒ enter angle ∷ []) (as_object (get_or s at 0)) (
          (λ t. entered angle room around (λ r. Rest r node around at) (λ r x. (x.2.0, attributed (tok 60 t) x.1 x.2.1, x.2.2))),
          tt,
        )
        (λ h. let x = object_takes room around h in (x.0, plain x.1, x.2))

    -- the end of a bracket
    closed : (k : Bracket) (room : ℕ) (around : List Bracket) → taken (run n s) room (k ∷ around) at e (leave (behind k)) ≡ good
        → Left (After around (suc room)) k (suc room) e
    unfolding taken
    closed k room around h = left_rest k (suc room) e around (ih (suc room) (behind k) around e h)

    key_takes : (k : Bracket) (room : ℕ) (around : List Bracket) → ((a b : ℕ) → Pair s room a b → Item s k room a b)
        → Takes room (k ∷ around) (Rest room item (k ∷ around) at) (as_key k (get_or s at 0))
    unfolding as_key Takes taken Rest Lines
    key_takes k room around as_item =
        decide_all (Takes room (k ∷ around) (Rest room item (k ∷ around) at))
        (get_or s at 0 =? closing k ⇒ leave (behind k) ∷ get_or s at 0 =? 1 ⇒ go equals ∷ []) stop (
          (λ t h. (e, Grammar.none (tok (closing k) t), closed k room around h)),
          (
            (λ t h. let x = ih room equals (k ∷ around) e h in
                item_rest k room at x.2.0 around (as_item at x.2.0 (pair (tok 1 t) x.1 x.2.1)) x.2.2),
            tt,
          ),
        )
        (stopped room (k ∷ around) (Rest room item (k ∷ around) at))

    token_takes : (room : ℕ) (due : Due) (around : List Bracket) → Takes room around (Rest room due around at) (step due around (get_or s at 0))
    unfolding step Takes taken Rest After Tail Lines
    token_takes room node around = node_takes room around
    token_takes room object around = object_takes room around
    token_takes room item [] = stopped room [] ⊥
    token_takes room item (square ∷ around) =
        decide_all (Takes room (square ∷ around) (Rest room item (square ∷ around) at)) (get_or s at 0 =? 93 ⇒ leave next ∷ []) (as_node (get_or s at 0)) (
          (λ t h. (e, Grammar.none (tok 93 t), closed square room around h)),
          tt,
        )
        (λ h. let x = node_takes room (square ∷ around) h in item_rest square room at x.0 around (listed x.1) x.2)
    token_takes room item (curly ∷ around) = key_takes curly room around (λ a b p. mapped p)
    token_takes room item (angle ∷ around) = key_takes angle room around (λ a b p. named p)
    token_takes room next [] = stopped room [] (at ≡ length s)
    token_takes room next (k ∷ around) =
        decide_all (Takes room (k ∷ around) (Rest room next (k ∷ around) at))
        (get_or s at 0 =? closing k ⇒ leave (behind k) ∷ get_or s at 0 =? 59 ⇒ go item ∷ []) stop (
          (λ t h. (e, inl (tok (closing k) t), closed k room around h)),
          (
            (λ t h. let x = ih room item (k ∷ around) e h in (x.0, inr (e, tok 59 t, x.1), x.2)),
            tt,
          ),
        )
        (stopped room (k ∷ around) (Rest room next (k ∷ around) at))
    token_takes room equals around =
        decide_all (Takes room around (Rest room equals around at)) (get_or s at 0 =? 61 ⇒ go node ∷ []) stop (
          (λ t h. (e, tok 61 t, ih room node around e h)),
          tt,
        )
        (stopped room around (Rest room equals around at))

  -- the end of the input
  end_takes : (n room : ℕ) (due : Due) (around : List Bracket) (at : ℕ) → after (run n s) s room due around at none ≡ good → Rest room due around at
  unfolding after complete Rest After
  end_takes n room node around at h = absurd (bad_good h)
  end_takes n room object around at h = absurd (bad_good h)
  end_takes n room item around at h = absurd (bad_good h)
  end_takes n room equals around at h = absurd (bad_good h)
  end_takes n room next (k ∷ around) at h = absurd (bad_good h)
  end_takes n room next [] at h =
      pick_case (at =? length s) good (bad at) (λ (v : Verdict). v ≡ good → at ≡ length s) (λ t _. eqb-true at (length s) t) (λ _ g. absurd (bad_good g)) h

  step_takes : (n room : ℕ) (due : Due) (around : List Bracket) (at : ℕ)
      → ((room : ℕ) (due : Due) (around : List Bracket) (at : ℕ) → run n s room due around at ≡ good → Rest room due around at)
      → (t : End) → token_end s at ≡ t → after (run n s) s room due around at t ≡ good → Rest room due around at
  unfolding after Takes
  step_takes n room due around at ih none whole h = end_takes n room due around at h
  step_takes n room due around at ih (end e) whole h = token_takes n ih at e whole room due around h

  pub accepts : (n room : ℕ) (due : Due) (around : List Bracket) (at : ℕ) → run n s room due around at ≡ good → Rest room due around at
  unfolding run
  accepts zero room due around at h = absurd (bad_good h)
  accepts (suc n) room due around at h = step_takes n room due around at (λ r d a p g. accepts n r d a p g) (token_end s at) refl h

  -- what is accepted the grammar derives
  pub good_derived : verdict s ≡ good → Yson s
  unfolding Rest After
  good_derived h = let x = accepts (suc (length s - 0)) 64 node [] 0 h in rw x.2 at x.1
