-- Laws of the machine: enough fuel is enough, and what each token does. Assumes nothing.
use mathlib.Core.Path.{◌≡◌, refl, sym, ◌∙◌, ap}
use mathlib.Core.Bool.{Bool, true, false}
use mathlib.Core.List.{List, [], ◌∷◌}
use mathlib.Core.Logic.{◌⊎◌, inl, inr, ⊎_elim}
use Prim.Native.Nat.{ℕ, zero, suc, ◌+◌, ◌-◌, ◌<◌, ◌≤◌}
use native.Mathlib.Omega.{arith}
use borrow.Author.Tests.{eq-eqb, ne_eqb, eqb-true, eqb-false}
use lib.ListN.{length, get_or}
use Rattle.words.specs.Decide.{pick, ◌=?◌}
use Rattle.yson_token.specs.Token.{End, end, none, punctuation, text_end, scalar_end, token_end, key_end}
use Rattle.yson_token.specs.Token.{Bracket, square, curly, angle, closing}
use Rattle.yson_grammar.specs.Stages.{Due, node, object, item, next, equals, Step, stop, go, enter, leave, behind, as_object, as_node, as_key, step, Verdict, good, bad, deep, complete, outer, taken, after, run, from}
use Rattle.yson_token.proofs.ScalarLaws.{scalar_text}
use Rattle.yson_token.proofs.TokenLaws.{Bounded, token_bounded, mark_end, scalar_token, mark_not_scalar}

pub same_or_other : (a b : ℕ) → (a ≡ b) ⊎ (a ≡ b → ⊥)
same_or_other a b = go_on (a =? b) refl
  where
    go_on : (t : Bool) → (a =? b) ≡ t → (a ≡ b) ⊎ (a ≡ b → ⊥)
    go_on true e = inl (eqb-true a b e)
    go_on false e = inr (eqb-false a b e)

pub none_not_end : {e : ℕ} → none ≡ end e → ⊥
none_not_end f = let z : ◌≡◌ {A = ℕ} 0 1 = cc in omega arith

abbrev On : Type 0
On = ℕ → Due → List Bracket → ℕ → Verdict

abbrev Agree : On → On → ℕ → Type 0
Agree f g e = (room : ℕ) (due : Due) (around : List Bracket) → f room due around e ≡ g room due around e

taken_same : (f g : On) (room : ℕ) (around : List Bracket) (at e : ℕ) (t : Step) → Agree f g e → taken f room around at e t ≡ taken g room around at e t
unfolding taken
taken_same f g room around at e stop same = refl
taken_same f g room around at e (go due) same = same room due around
taken_same f g zero around at e (enter k) same = refl
taken_same f g (suc room) around at e (enter k) same = same room item (k ∷ around)
taken_same f g room around at e (leave due) same = same (suc room) due (outer around)

after_same : (f g : On) (s : List ℕ) (room : ℕ) (due : Due) (around : List Bracket) (at : ℕ) (t : End) → Bounded s at t
    → ((e : ℕ) → at < e → e ≤ length s → Agree f g e) → after f s room due around at t ≡ after g s room due around at t
unfolding after
after_same f g s room due around at none bounds same = refl
after_same f g s room due around at (end e) bounds same = taken_same f g room around at e (step due around (get_or s at 0)) (same e bounds.0 bounds.1)

-- one token for each byte is enough
run_enough : (n m : ℕ) (s : List ℕ) (room : ℕ) (due : Due) (around : List Bracket) (at : ℕ) → length s < at + n → length s < at + m → at ≤ length s
    → run n s room due around at ≡ run m s room due around at
unfolding run
run_enough zero m s room due around at h g inside = absurd (omega arith)
run_enough (suc n) zero s room due around at h g inside = absurd (omega arith)
run_enough (suc n) (suc m) s room due around at h g inside =
    after_same (run n s) (run m s) s room due around at (token_end s at) (token_bounded s at)
    (λ e later within room' due' around'. run_enough n m s room' due' around' e (omega arith) (omega arith) within)

pub from_step : (s : List ℕ) (room : ℕ) (due : Due) (around : List Bracket) (at : ℕ) → from s room due around at ≡ after (from s) s room due around at (token_end s at)
unfolding run
from_step s room due around at =
    after_same (run (length s - at) s) (from s) s room due around at (token_end s at) (token_bounded s at)
    (λ e later within room' due' around'. run_enough (length s - at) (suc (length s - e)) s room' due' around' e (omega arith) (omega arith) within)

-- What each state does with what stands at `at`, one law for each test of the reader.
module _ (s : List ℕ) (at : ℕ) where
  -- a whole token is taken, or not
  pub token_taken : (room : ℕ) (due : Due) (around : List Bracket) (b e : ℕ) → get_or s at 0 ≡ b → token_end s at ≡ end e
      → from s room due around at ≡ taken (from s) room around at e (step due around b)
  unfolding after
  token_taken room due around b e first whole =
      from_step s room due around at
      ∙ ap (λ (t : End). after (from s) s room due around at t) whole
      ∙ ap (λ (x : ℕ). taken (from s) room around at e (step due around x)) first

  -- where there is none, what is due decides
  pub token_none : (room : ℕ) (due : Due) (around : List Bracket) → token_end s at ≡ none → complete due around ≡ false → from s room due around at ≡ bad at
  unfolding after
  token_none room due around nothing unmet =
      from_step s room due around at ∙ ap (λ (t : End). after (from s) s room due around at t) nothing ∙ rw unmet

  module _ (around : List Bracket) where
    -- a bracket opens
    enters : (k : Bracket) (due : Due) (b room : ℕ) → get_or s at 0 ≡ b → punctuation b ≡ true → step due around b ≡ enter k → 1 ≤ room
        → from s room due around at ≡ from s (room - 1) item (k ∷ around) (at + 1)
    unfolding taken
    enters k due b zero first mark does some = absurd (omega arith)
    enters k due b (suc room) first mark does some =
        let fewer : suc room - 1 ≡ room = omega arith in
        token_taken (suc room) due around b (at + 1) first (mark_end s at b first mark) ∙ rw (does, fewer)

    enters_deep : (k : Bracket) (due : Due) (b room : ℕ) → get_or s at 0 ≡ b → punctuation b ≡ true → step due around b ≡ enter k → room ≡ 0
        → from s room due around at ≡ deep at
    unfolding taken
    enters_deep k due b room first mark does full =
        token_taken room due around b (at + 1) first (mark_end s at b first mark) ∙ rw (does, full)

    -- a token that cannot be taken, and none
    stops : (room : ℕ) (due : Due) → step due around (get_or s at 0) ≡ stop → complete due around ≡ false → from s room due around at ≡ bad at
    unfolding taken
    stops room due does unmet = go_on (token_end s at) refl
      where
        go_on : (t : End) → token_end s at ≡ t → from s room due around at ≡ bad at
        go_on none t = token_none room due around t unmet
        go_on (end e) t = token_taken room due around (get_or s at 0) e refl t ∙ rw does

    -- an object
    pub object_list : (room : ℕ) → get_or s at 0 ≡ 91 → 1 ≤ room → from s room object around at ≡ from s (room - 1) item (square ∷ around) (at + 1)
    unfolding step as_object punctuation
    object_list room first some = enters square object 91 room first refl refl some

    pub object_map : (room : ℕ) → get_or s at 0 ≡ 123 → 1 ≤ room → from s room object around at ≡ from s (room - 1) item (curly ∷ around) (at + 1)
    unfolding step as_object punctuation
    object_map room first some = enters curly object 123 room first refl refl some

    pub object_list_deep : (room : ℕ) → get_or s at 0 ≡ 91 → room ≡ 0 → from s room object around at ≡ deep at
    unfolding step as_object punctuation
    object_list_deep room first full = enters_deep square object 91 room first refl refl full

    pub object_map_deep : (room : ℕ) → get_or s at 0 ≡ 123 → room ≡ 0 → from s room object around at ≡ deep at
    unfolding step as_object punctuation
    object_map_deep room first full = enters_deep curly object 123 room first refl refl full

    pub object_scalar : (room e : ℕ) → (get_or s at 0 ≡ 91 → ⊥) → (get_or s at 0 ≡ 123 → ⊥) → scalar_end s at ≡ end e
        → from s room object around at ≡ from s room next around e
    unfolding step as_object taken
    object_scalar room e no-list no-map found =
        let t = scalar_token s at e found in
        token_taken room object around (get_or s at 0) e refl t.1
        ∙ rw (ne_eqb (get_or s at 0) 91 no-list, ne_eqb (get_or s at 0) 123 no-map, t.0)

    pub object_none : (room : ℕ) → (get_or s at 0 ≡ 91 → ⊥) → (get_or s at 0 ≡ 123 → ⊥) → scalar_end s at ≡ none → from s room object around at ≡ bad at
    unfolding step as_object taken complete token_end
    object_none room no-list no-map nothing = go_on (punctuation (get_or s at 0)) refl
      where
        go_on : (t : Bool) → punctuation (get_or s at 0) ≡ t → from s room object around at ≡ bad at
        go_on true mark =
            token_taken room object around (get_or s at 0) (at + 1) refl (mark_end s at (get_or s at 0) refl mark)
            ∙ rw (ne_eqb (get_or s at 0) 91 no-list, ne_eqb (get_or s at 0) 123 no-map, mark_not_scalar (get_or s at 0) mark)
        go_on false mark = token_none room object around (rw mark nothing) refl

    -- a node: attributes, or an object at once
    pub node_attributes : (room : ℕ) → get_or s at 0 ≡ 60 → 1 ≤ room → from s room node around at ≡ from s (room - 1) item (angle ∷ around) (at + 1)
    unfolding step as_node punctuation
    node_attributes room first some = enters angle node 60 room first refl refl some

    pub node_deep : (room : ℕ) → get_or s at 0 ≡ 60 → room ≡ 0 → from s room node around at ≡ deep at
    unfolding step as_node punctuation
    node_deep room first full = enters_deep angle node 60 room first refl refl full

    -- two states that do the same
    alike : (room : ℕ) (due due' : Due) → step due around (get_or s at 0) ≡ step due' around (get_or s at 0) → complete due around ≡ false → complete due' around ≡ false
        → from s room due around at ≡ from s room due' around at
    alike room due due' same unmet unmet' = go_on (token_end s at) refl
      where
        go_on : (t : End) → token_end s at ≡ t → from s room due around at ≡ from s room due' around at
        go_on none t = token_none room due around t unmet ∙ sym (token_none room due' around t unmet')
        go_on (end e) t =
            token_taken room due around (get_or s at 0) e refl t
            ∙ ap (λ (x : Step). taken (from s) room around at e x) same
            ∙ sym (token_taken room due' around (get_or s at 0) e refl t)

    pub node_object : (room : ℕ) → (get_or s at 0 ≡ 60 → ⊥) → from s room node around at ≡ from s room object around at
    unfolding step as_node complete
    node_object room other = alike room node object (rw (ne_eqb (get_or s at 0) 60 other)) refl refl

  -- a key begins with a string's byte
  pub key_text : (e : ℕ) → key_end s at ≡ end e → (get_or s at 0 ≡ 1) × (scalar_end s at ≡ end e)
  unfolding key_end
  key_text e found = is_text (get_or s at 0 =? 1) refl found
    where
      is_text : (t : Bool) → (get_or s at 0 =? 1) ≡ t → pick t (text_end s (at + 1)) none ≡ end e → (get_or s at 0 ≡ 1) × (scalar_end s at ≡ end e)
      is_text true test f = let first = eqb-true (get_or s at 0) 1 test in (first, scalar_text s at first ∙ f)
      is_text false test f = absurd (none_not_end f)

  module _ (around : List Bracket) where
    -- an item, or the end of the bracket
    pub item_close : (k : Bracket) (room : ℕ) → get_or s at 0 ≡ closing k → from s room item (k ∷ around) at ≡ from s (suc room) (behind k) around (at + 1)
    unfolding step as_key taken punctuation
    item_close square room first = token_taken room item (square ∷ around) 93 (at + 1) first (mark_end s at 93 first refl)
    item_close curly room first = token_taken room item (curly ∷ around) 125 (at + 1) first (mark_end s at 125 first refl)
    item_close angle room first = token_taken room item (angle ∷ around) 62 (at + 1) first (mark_end s at 62 first refl)

    pub item_node : (room : ℕ) → (get_or s at 0 ≡ 93 → ⊥) → from s room item (square ∷ around) at ≡ from s room node (square ∷ around) at
    unfolding step complete
    item_node room other = alike (square ∷ around) room item node (rw (ne_eqb (get_or s at 0) 93 other)) refl refl

    -- behind an item
    pub next_close : (k : Bracket) (room : ℕ) → get_or s at 0 ≡ closing k → from s room next (k ∷ around) at ≡ from s (suc room) (behind k) around (at + 1)
    unfolding step taken punctuation
    next_close square room first = token_taken room next (square ∷ around) 93 (at + 1) first (mark_end s at 93 first refl)
    next_close curly room first = token_taken room next (curly ∷ around) 125 (at + 1) first (mark_end s at 125 first refl)
    next_close angle room first = token_taken room next (angle ∷ around) 62 (at + 1) first (mark_end s at 62 first refl)

    pub next_more : (k : Bracket) (room : ℕ) → get_or s at 0 ≡ 59 → from s room next (k ∷ around) at ≡ from s room item (k ∷ around) (at + 1)
    unfolding step taken punctuation
    next_more square room first = token_taken room next (square ∷ around) 59 (at + 1) first (mark_end s at 59 first refl)
    next_more curly room first = token_taken room next (curly ∷ around) 59 (at + 1) first (mark_end s at 59 first refl)
    next_more angle room first = token_taken room next (angle ∷ around) 59 (at + 1) first (mark_end s at 59 first refl)

    pub next_bad : (k : Bracket) (room : ℕ) → (get_or s at 0 ≡ closing k → ⊥) → (get_or s at 0 ≡ 59 → ⊥) → from s room next (k ∷ around) at ≡ bad at
    unfolding step complete
    next_bad k room other no_more = stops (k ∷ around) room next (rw (ne_eqb (get_or s at 0) (closing k) other, ne_eqb (get_or s at 0) 59 no_more)) refl

    -- a key and its equals sign
    key_taken : (k : Bracket) (room e : ℕ) → step item (k ∷ around) 1 ≡ go equals → (get_or s at 0 ≡ 1) × (scalar_end s at ≡ end e)
        → from s room item (k ∷ around) at ≡ from s room equals (k ∷ around) e
    unfolding taken
    key_taken k room e does f = token_taken room item (k ∷ around) 1 e f.0 (scalar_token s at e f.1).1 ∙ rw does

    pub key_found : (k : Bracket) (room e : ℕ) → (k ≡ square → ⊥) → (get_or s at 0 ≡ closing k → ⊥) → key_end s at ≡ end e
        → from s room item (k ∷ around) at ≡ from s room equals (k ∷ around) e
    unfolding step as_key
    key_found k room e paired other found = found_at k paired (key_text e found)
      where
        found_at : (k : Bracket) → (k ≡ square → ⊥) → (get_or s at 0 ≡ 1) × (scalar_end s at ≡ end e) → from s room item (k ∷ around) at ≡ from s room equals (k ∷ around) e
        found_at square paired f = absurd (paired refl)
        found_at curly paired f = key_taken curly room e refl f
        found_at angle paired f = key_taken angle room e refl f

    pub key_none : (k : Bracket) (room : ℕ) → (k ≡ square → ⊥) → (get_or s at 0 ≡ closing k → ⊥) → key_end s at ≡ none → from s room item (k ∷ around) at ≡ bad at
    unfolding step as_key complete token_end punctuation key_end scalar_end
    key_none k room paired other nothing = ⊎_elim text other_byte (same_or_other (get_or s at 0) 1)
      where
        text : get_or s at 0 ≡ 1 → from s room item (k ∷ around) at ≡ bad at
        text e = token_none room item (k ∷ around) (rw e (rw e at nothing)) refl

        stops_at : (k : Bracket) → (k ≡ square → ⊥) → (get_or s at 0 ≡ closing k → ⊥) → (get_or s at 0 ≡ 1 → ⊥) → step item (k ∷ around) (get_or s at 0) ≡ stop
        stops_at square paired other e = absurd (paired refl)
        stops_at curly paired other e = rw (ne_eqb (get_or s at 0) 125 other, ne_eqb (get_or s at 0) 1 e)
        stops_at angle paired other e = rw (ne_eqb (get_or s at 0) 62 other, ne_eqb (get_or s at 0) 1 e)

        other_byte : (get_or s at 0 ≡ 1 → ⊥) → from s room item (k ∷ around) at ≡ bad at
        other_byte e = stops (k ∷ around) room item (stops_at k paired other e) refl

    pub equals_node : (room : ℕ) → get_or s at 0 ≡ 61 → from s room equals around at ≡ from s room node around (at + 1)
    unfolding step taken punctuation
    equals_node room first = token_taken room equals around 61 (at + 1) first (mark_end s at 61 first refl)

    pub equals_bad : (room : ℕ) → (get_or s at 0 ≡ 61 → ⊥) → from s room equals around at ≡ bad at
    unfolding step complete
    equals_bad room other = stops around room equals (rw (ne_eqb (get_or s at 0) 61 other)) refl

  -- the end of the outermost node
  past_end : (t : End) → Bounded s at t → at ≡ length s → t ≡ none
  past_end none bounds e = refl
  past_end (end x) bounds e = absurd (omega (arith, bounds.0, bounds.1))

  pub end_good : (room : ℕ) → at ≡ length s → from s room next [] at ≡ good
  unfolding complete after
  end_good room e =
      from_step s room next [] at
      ∙ ap (λ (t : End). after (from s) s room next [] at t) (past_end (token_end s at) (token_bounded s at) e)
      ∙ rw (eq-eqb at (length s) e)

  pub end_bad : (room : ℕ) → (at ≡ length s → ⊥) → from s room next [] at ≡ bad at
  unfolding complete after step taken
  end_bad room other = from_step s room next [] at ∙ go_on (token_end s at)
    where
      go_on : (t : End) → after (from s) s room next [] at t ≡ bad at
      go_on none = rw (ne_eqb at (length s) other)
      go_on (end e) = refl
