-- What the grammar derives the machine passes: a node, whatever is open around it. From that it follows that what the grammar derives is
-- accepted, and that a node has one extent. Assumes nothing.
use mathlib.Core.Path.{◌≡◌, refl, sym, ◌∙◌, ap}
use mathlib.Core.Bool.{true, false, true≢false}
use mathlib.Core.List.{List, [], ◌∷◌}
use mathlib.Core.Logic.{⊎_elim}
use Prim.Native.Nat.{ℕ, zero, suc, ◌+◌, ◌≤◌}
use native.Mathlib.Omega.{arith}
use borrow.Author.Tests.{ne_eqb}
use lib.ListN.{length, get_or}
use Rattle.yson_token.specs.Token.{end, scalar, token_end}
use Rattle.yson_token.specs.Token.{Bracket, square, curly, angle, closing}
use Rattle.yson_grammar.specs.Grammar.{Token, Node, plain, attributed, Object, single, list, map, Items, more, last, Item, listed, mapped, named, Pair, pair, Yson}
use Rattle.yson_grammar.specs.Grammar as Grammar
use Rattle.yson_grammar.specs.Stages.{Due, node, object, item, next, equals, Step, go, behind, as_object, as_node, as_key, step, good, bad, taken, from, verdict}
use Rattle.yson_grammar.proofs.RunLaws.{token_taken, node_object, item_node, end_good, end_bad, same_or_other}

module _ (s : List ℕ) where
  -- the token that begins with b does this, which leaves the rest so
  does : {b a e : ℕ} (room : ℕ) (due : Due) (around : List Bracket) → Token s b a e → from s room due around a ≡ taken (from s) room around a e (step due around b)
  does {b} {a} {e} room due around t = token_taken s a room due around b e t.first t.whole

  scalar_object : (b : ℕ) → scalar b ≡ true → as_object b ≡ go next
  unfolding as_object scalar
  scalar_object b t = rw (ne_eqb b 91 (not_scalar 91 refl), ne_eqb b 123 (not_scalar 123 refl), t)
    where
      not_scalar : (k : ℕ) → scalar k ≡ false → b ≡ k → ⊥
      not_scalar k f e = true≢false (sym t ∙ ap scalar e ∙ f)

  -- the first byte of an object, and of a node
  object_first : {room a b : ℕ} (k : ℕ) → scalar k ≡ false → (k ≡ 91 → ⊥) → (k ≡ 123 → ⊥) → Object s room a b → get_or s a 0 ≡ k → ⊥
  object_first k other no-list no-map (single t e) f = true≢false (sym t ∙ ap scalar f ∙ other)
  object_first k other no-list no-map (list t i) f = no-list (sym f ∙ t.first)
  object_first k other no-list no-map (map t i) f = no-map (sym f ∙ t.first)

  pub not_attributes : {room a b : ℕ} → Object s room a b → get_or s a 0 ≡ 60 → ⊥
  unfolding scalar
  not_attributes o = object_first 60 refl (λ e. omega arith) (λ e. omega arith) o

  not_end : {room a b : ℕ} → Node s room a b → get_or s a 0 ≡ 93 → ⊥
  unfolding scalar
  not_end (plain o) = object_first 93 refl (λ e. omega arith) (λ e. omega arith) o
  not_end (attributed t i o) = λ f. omega (arith, f, t.first)

  -- the marks of a bracket
  item_closes : {a b : ℕ} (k : Bracket) (room : ℕ) (around : List Bracket) → Token s (closing k) a b → from s room item (k ∷ around) a ≡ from s (suc room) (behind k) around b
  unfolding step as_key taken
  item_closes square room around t = does room item (square ∷ around) t
  item_closes curly room around t = does room item (curly ∷ around) t
  item_closes angle room around t = does room item (angle ∷ around) t

  next_closes : {a b : ℕ} (k : Bracket) (room : ℕ) (around : List Bracket) → Token s (closing k) a b → from s room next (k ∷ around) a ≡ from s (suc room) (behind k) around b
  unfolding step taken
  next_closes square room around t = does room next (square ∷ around) t
  next_closes curly room around t = does room next (curly ∷ around) t
  next_closes angle room around t = does room next (angle ∷ around) t

  next_again : {a b : ℕ} (k : Bracket) (room : ℕ) (around : List Bracket) → Token s 59 a b → from s room next (k ∷ around) a ≡ from s room item (k ∷ around) b
  unfolding step taken
  next_again square room around t = does room next (square ∷ around) t
  next_again curly room around t = does room next (curly ∷ around) t
  next_again angle room around t = does room next (angle ∷ around) t

  single_passes : (a b room : ℕ) (around : List Bracket) → scalar (get_or s a 0) ≡ true → token_end s a ≡ end b → from s room object around a ≡ from s room next around b
  unfolding step taken
  single_passes a b room around t e = token_taken s a room object around (get_or s a 0) b refl e ∙ rw (scalar_object (get_or s a 0) t)

  mutual
    unfolding step as_node as_object as_key taken

    pub node_passes : {room a b : ℕ} → Node s room a b → (around : List Bracket) → from s room node around a ≡ from s room next around b
    node_passes (plain {room} {a} o) around = node_object s a around room (not_attributes o) ∙ object_passes o around
    node_passes (attributed {room} t i o) around = does (suc room) node around t ∙ items_pass i around ∙ object_passes o around

    object_passes : {room a b : ℕ} → Object s room a b → (around : List Bracket) → from s room object around a ≡ from s room next around b
    object_passes (single {room} {a} {b} t e) around = single_passes a b room around t e
    object_passes (list {room} t i) around = does (suc room) object around t ∙ items_pass i around
    object_passes (map {room} t i) around = does (suc room) object around t ∙ items_pass i around

    pub items_pass : {k : Bracket} {room a b : ℕ} → Items s k room a b → (around : List Bracket) → from s room item (k ∷ around) a ≡ from s (suc room) (behind k) around b
    items_pass (Grammar.none {k} {room} t) around = item_closes k room around t
    items_pass (last {k} {room} i t) around = item_passes i around ∙ next_closes k room around t
    items_pass (more {k} {room} i t is) around = item_passes i around ∙ next_again k room around t ∙ items_pass is around

    item_passes : {k : Bracket} {room a b : ℕ} → Item s k room a b → (around : List Bracket) → from s room item (k ∷ around) a ≡ from s room next (k ∷ around) b
    item_passes (listed {room} {a} n) around = item_node s a around room (not_end n) ∙ node_passes n (square ∷ around)
    item_passes (mapped p) around = pair_passes p curly around refl
    item_passes (named p) around = pair_passes p angle around refl

    pair_passes : {room a b : ℕ} → Pair s room a b → (k : Bracket) (around : List Bracket) → step item (k ∷ around) 1 ≡ go equals → from s room item (k ∷ around) a ≡ from s room next (k ∷ around) b
    pair_passes (pair {room} {a} {b} t e n) k around key =
        does room item (k ∷ around) t
        ∙ ap (λ (x : Step). taken (from s) room (k ∷ around) a b x) key
        ∙ does room equals (k ∷ around) e
        ∙ node_passes n (k ∷ around)

  -- what fits in less room fits in more
  mutual
    pub deeper : {room a b : ℕ} → Node s room a b → (n : ℕ) → room ≤ n → Node s n a b
    deeper (plain o) n h = plain (object_deeper o n h)
    deeper (attributed t i o) zero h = absurd (omega arith)
    deeper (attributed t i o) (suc n) h = attributed t (items_deeper i n (omega arith)) (object_deeper o (suc n) h)

    object_deeper : {room a b : ℕ} → Object s room a b → (n : ℕ) → room ≤ n → Object s n a b
    object_deeper (single t e) n h = single t e
    object_deeper (list t i) zero h = absurd (omega arith)
    object_deeper (list t i) (suc n) h = list t (items_deeper i n (omega arith))
    object_deeper (map t i) zero h = absurd (omega arith)
    object_deeper (map t i) (suc n) h = map t (items_deeper i n (omega arith))

    items_deeper : {k : Bracket} {room a b : ℕ} → Items s k room a b → (n : ℕ) → room ≤ n → Items s k n a b
    items_deeper (Grammar.none t) n h = Grammar.none t
    items_deeper (last i t) n h = last (item_deeper i n h) t
    items_deeper (more i t is) n h = more (item_deeper i n h) t (items_deeper is n h)

    item_deeper : {k : Bracket} {room a b : ℕ} → Item s k room a b → (n : ℕ) → room ≤ n → Item s k n a b
    item_deeper (listed x) n h = listed (deeper x n h)
    item_deeper (mapped p) n h = mapped (pair_deeper p n h)
    item_deeper (named p) n h = named (pair_deeper p n h)

    pair_deeper : {room a b : ℕ} → Pair s room a b → (n : ℕ) → room ≤ n → Pair s n a b
    pair_deeper (pair t e x) n h = pair t e (deeper x n h)

  pub ends_apart : (room b c : ℕ) → from s room next [] b ≡ from s room next [] c → b ≡ c
  ends_apart room b c same = ⊎_elim
      (λ (e : b ≡ length s). ⊎_elim
      (λ (f : c ≡ length s). e ∙ sym f)
      (λ (f : c ≡ length s → ⊥). absurd (good_not_bad (sym (end_good s b room e) ∙ same ∙ end_bad s c room f)))
      (same_or_other c (length s)))
      (λ (e : b ≡ length s → ⊥). ⊎_elim
      (λ (f : c ≡ length s). absurd (good_not_bad (sym (end_good s c room f) ∙ sym same ∙ end_bad s b room e)))
      (λ (f : c ≡ length s → ⊥). bad_same (sym (end_bad s b room e) ∙ same ∙ end_bad s c room f))
      (same_or_other c (length s)))
      (same_or_other b (length s))
    where
      good_not_bad : {p : ℕ} → good ≡ bad p → ⊥
      good_not_bad g = let z : ◌≡◌ {A = ℕ} 0 1 = cc in omega arith

      bad_same : {p q : ℕ} → bad p ≡ bad q → p ≡ q
      bad_same g = cc

  -- no input has two readings: a node has one extent, whatever the room
  pub one_extent : {m n a b c : ℕ} → Node s m a b → Node s n a c → b ≡ c
  one_extent {m} {n} {a} {b} {c} x y =
      ends_apart (m + n) b c (sym (node_passes (deeper x (m + n) (omega arith)) []) ∙ node_passes (deeper y (m + n) (omega arith)) [])

  -- what the grammar derives is accepted
  pub derived_good : Yson s → verdict s ≡ good
  derived_good x = node_passes x [] ∙ end_good s (length s) 64 refl
