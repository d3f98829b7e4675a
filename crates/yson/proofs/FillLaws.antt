-- Laws of filling the table: what is stored so far and what is still to come are the words of all items. Assumes nothing.
use mathlib.Core.Path.{◌≡◌, refl, sym, ◌∙◌, ap, subst}
use mathlib.Core.List.{List, [], ◌∷◌, ◌++◌, append_assoc, append-nil}
use mathlib.Core.Logic.{inl, inr, ⊎_elim}
use Prim.Native.Nat.{ℕ, ◌+◌, ◌*◌, ◌/◌, ◌<◌, ◌≤◌}
use native.Mathlib.Omega.{arith}
use lib.ListN.{length, get_or, set, length-append}
use Rattle.words.specs.Buffer.{over}
use Rattle.words.proofs.BufferLaws.{over_store}
use Rattle.yson_token.specs.Token.{square, curly, end, punctuation}
use Rattle.yson_token.proofs.TokenLaws.{mark_end}
use Rattle.yson_grammar.specs.Grammar.{Token, Node, plain, attributed, Object, single, list, map, Items, more, last, mapped, Yson}
use Rattle.yson_grammar.specs.Grammar as Grammar
use Rattle.yson_grammar.specs.Items.{entry, entries, of_object, outer}
use Rattle.yson_grammar.specs.Stages.{good, item, from}
use Rattle.yson_grammar.proofs.RunLaws.{end_good}
use Rattle.yson_grammar.proofs.Complete.{items_pass}
use Rattle.yson_grammar.proofs.Sound.{bad_good, deep_good}
use Rattle.yson_grammar.proofs.OneListing.{pair_same, item_first, entries_same}
use Rattle.yson.specs.Stages.{faulty, keyed_to, map_at, map_in, four, ReadsPair, Stores, Coming, Ready, Fills}
use Rattle.yson.specs.declared.Fault.{Fault}
use Rattle.yson.specs.declared.Fault.TheVariants.{BadYson, TooDeep}
use Rattle.std.specs.declared.result.Result.TheVariants.{Err}

-- four stores, one behind the other
store_four : (done xs : List ℕ) (n a b c d : ℕ) → length done ≡ n → n + 4 ≤ length xs
    → set (set (set (set (over done xs) n a) (n + 1) b) (n + 2) c) (n + 3) d ≡ over (done ++ a ∷ b ∷ c ∷ d ∷ []) xs
store_four done xs n a b c d e room =
    ap (λ (l : List ℕ). set (set (set l (n + 1) b) (n + 2) c) (n + 3) d) (over_store done xs n a 0 e (omega arith))
    ∙ ap (λ (l : List ℕ). set (set l (n + 2) c) (n + 3) d) (over_store (done ++ (a ∷ [])) xs (n + 1) b 0 e1 (omega arith))
    ∙ ap (λ (l : List ℕ). set l (n + 3) d) (over_store (done ++ (a ∷ []) ++ (b ∷ [])) xs (n + 2) c 0 e2 (omega arith))
    ∙ over_store (done ++ (a ∷ []) ++ (b ∷ []) ++ (c ∷ [])) xs (n + 3) d 0 e3 (omega arith)
    ∙ ap (λ (l : List ℕ). over l xs) joined
  where
    e1 : length (done ++ (a ∷ [])) ≡ n + 1
    e1 = omega (arith, length-append done (a ∷ []))

    e2 : length (done ++ (a ∷ []) ++ (b ∷ [])) ≡ n + 2
    e2 = omega (arith, length-append (done ++ (a ∷ [])) (b ∷ []), e1)

    e3 : length (done ++ (a ∷ []) ++ (b ∷ []) ++ (c ∷ [])) ≡ n + 3
    e3 = omega (arith, length-append (done ++ (a ∷ []) ++ (b ∷ [])) (c ∷ []), e2)

    joined : done ++ (a ∷ []) ++ (b ∷ []) ++ (c ∷ []) ++ (d ∷ []) ≡ done ++ (a ∷ b ∷ c ∷ d ∷ [])
    joined = simp append_assoc

empty : (ws : List ℕ) → length ws ≤ 0 → ws ≡ []
empty [] h = refl
empty (w ∷ ws) h = absurd (omega arith)

module _ (s : List ℕ) where
  pub faulty_good : (q : Fault) → faulty q ≡ good → ⊥
  faulty_good (BadYson p) h = bad_good s h
  faulty_good (TooDeep p) h = deep_good s h

  -- the words to come are settled by their place and number
  pub coming_same : (at : ℕ) (ws vs : List ℕ) → Coming s at ws → Coming s at vs → length ws ≡ length vs → ws ≡ vs
  coming_same at ws vs (inl e) (inl f) same = e ∙ sym f
  coming_same at ws vs (inl e) (inr j) same = e ∙ sym (empty vs (omega (arith, same, ap length e)))
  coming_same at ws vs (inr i) (inl f) same = empty ws (omega (arith, same, ap length f)) ∙ sym f
  coming_same at ws vs (inr i) (inr j) same = sym i.1 ∙ entries_same s i.0 j.0 refl ∙ j.1

  -- and those of a whole input begin at its map
  object_coming : {r a z : ℕ} (o : Object s r a z) → r ≡ 64 → z ≡ length s → Coming s (map_at o) (of_object o)
  unfolding map_at of_object
  object_coming (single t e) brackets full = inl refl
  object_coming (list t i) brackets full = inl refl
  object_coming (map {room} {a} {b} {c} t i) brackets full =
      let ws : List ℕ = entries i in
      let same : room ≡ 63 = omega arith in
      inr (subst (λ (x : ℕ). (j : Items s curly 63 b x) × (entries j ≡ ws)) full (subst (λ (x : ℕ). (j : Items s curly x b c) × (entries j ≡ ws)) same (i, refl)))

  node_coming : {r a z : ℕ} (d : Node s r a z) → r ≡ 64 → z ≡ length s → Coming s (map_in d) (outer d)
  unfolding map_in outer
  node_coming (plain o) brackets full = object_coming o brackets full
  node_coming (attributed t i o) brackets full = object_coming o brackets full

  pub ready : (d : Yson s) (b n room : ℕ) → map_in d ≡ b → length (outer d) ≡ 4 * n → n ≤ room / 4 → Ready s b n room
  ready d b n room begins sized fits =
      record { words = outer d; coming = subst (λ (x : ℕ). Coming s x (outer d)) begins (node_coming d refl refl); sized = sized; fits = omega arith }

  -- the words that `fill` wrote are the node's
  pub filled_words : (d : Yson s) (b n : ℕ) (before after : List ℕ) → map_in d ≡ b → length (outer d) ≡ 4 * n → Fills s b n before after → after ≡ over (outer d) before
  filled_words d b n before after begins sized f =
      f.filled
      ∙ ap (λ (l : List ℕ). over l before)
      (coming_same b f.words (outer d) f.coming (subst (λ (x : ℕ). Coming s x (outer d)) begins (node_coming d refl refl)) (f.sized ∙ sym sized))

  -- one pair, where some are to come
  module _ (at : ℕ) (i : Items s curly 63 at (length s)) (some : 0 < length (entries i)) where
    there : from s 63 item (curly ∷ []) at ≡ good
    there = items_pass s i [] ∙ end_good s (length s) 64 refl

    begins_key : (j : Items s curly 63 at (length s)) → 0 < length (entries j) → get_or s at 0 ≡ 1
    unfolding entries
    begins_key (Grammar.none t) h = absurd (omega arith)
    begins_key (last x t) h = item_first s x
    begins_key (more x t xs) h = item_first s x

    not_square : curly ≡ square → ⊥
    not_square e = let z : ◌≡◌ {A = ℕ} 0 1 = cc in omega arith

    pub never_fails : (q : Fault) → ReadsPair s 63 at (Err q) → ⊥
    never_fails q r = faulty_good q (sym (r.runs curly not_square (λ e. omega (arith, e, begins_key i some)) []) ∙ there)

  mark_behind : (b c : ℕ) → Token s 59 b c → c ≡ b + 1
  unfolding punctuation
  mark_behind b c t = same (sym t.whole ∙ mark_end s b 59 t.first refl)
    where
      same : end c ≡ end (b + 1) → c ≡ b + 1
      same e = cc

  pub after_pair : (at m e z : ℕ) (i : Items s curly 63 at z) → z ≡ length s → 0 < length (entries i) → ReadsPair s 63 at (keyed_to m e)
      → (rest : List ℕ) × (entries i ≡ four at m e ++ rest) × Coming s (e + 1) rest
  unfolding entries entry
  after_pair at m e z (Grammar.none t) full some r = absurd (omega arith)
  after_pair at m e z (last (mapped p) t) full some r =
      ([], (pair_same s p r.derived.0 refl).0 ∙ r.derived.1 ∙ sym (append-nil (four at m e)), inl refl)
  after_pair at m e z (more {k} {room} {a} {b} {c} (mapped p) t is) full some r =
      let ws : List ℕ = entries is in
      let same = pair_same s p r.derived.0 refl in
      let behind : c ≡ e + 1 = mark_behind b c t ∙ ap (λ (x : ℕ). x + 1) same.1 in (
        ws,
        ap (λ (l : List ℕ). l ++ ws) (same.0 ∙ r.derived.1),
        inr (subst (λ (x : ℕ). (j : Items s curly 63 x (length s)) × (entries j ≡ ws)) behind (subst (λ (x : ℕ). (j : Items s curly 63 c x) × (entries j ≡ ws)) full (is, refl))),
      )

  -- the loop's invariant: `done` stands over the table's front, and `rest` is to come
  pub record Filling (start items at n : ℕ) (before now : List ℕ) : Type 0 where
    pub words : List ℕ
    pub done : List ℕ
    pub rest : List ℕ
    pub origin : Coming s start words
    pub sized : length words ≡ 4 * items
    pub fits : 4 * items ≤ length before
    pub joins : done ++ rest ≡ words
    pub reached : length done ≡ n
    pub coming : Coming s at rest
    pub holds : now ≡ over done before

  module _ (start items at n : ℕ) (before now : List ℕ) (f : Filling start items at n before now) where
    left : n + length f.rest ≡ 4 * items
    left = omega (arith, f.reached, f.sized, ap length f.joins, length-append f.done f.rest)

    module _ (more-to-come : n < 4 * items) where
      some : (i : Items s curly 63 at (length s)) × (entries i ≡ f.rest)
      some = ⊎_elim (λ (e : f.rest ≡ []). absurd (omega (arith, left, ap length e))) (λ (x : (i : Items s curly 63 at (length s)) × (entries i ≡ f.rest)). x) f.coming

      plenty : 0 < length (entries some.0)
      plenty = omega (arith, left, ap length some.1)

      pub filling_fails : (q : Fault) → ReadsPair s 63 at (Err q) → ⊥
      filling_fails q r = never_fails at some.0 plenty q r

      module _ (m e : ℕ) (r : ReadsPair s 63 at (keyed_to m e)) where
        one : (rest : List ℕ) × (entries some.0 ≡ four at m e ++ rest) × Coming s (e + 1) rest
        one = after_pair at m e (length s) some.0 refl plenty r

        rest_is : f.rest ≡ four at m e ++ one.0
        rest_is = sym some.1 ∙ one.1

        pub filling_room : n + 4 ≤ length before
        filling_room = omega (arith, left, f.fits, ap length rest_is, length-append (four at m e) one.0)

        pub filling_more : (after : List ℕ) → Stores n at m e now after → Filling start items (e + 1) (n + 4) before after
        filling_more after stored = record {
          words = f.words;
          done = f.done ++ four at m e;
          rest = one.0;
          origin = f.origin;
          sized = f.sized;
          fits = f.fits;
          joins = append_assoc f.done (four at m e) one.0 ∙ ap (λ (l : List ℕ). f.done ++ l) (sym rest_is) ∙ f.joins;
          reached = length-append f.done (four at m e) ∙ ap (λ (x : ℕ). x + 4) f.reached;
          coming = one.2;
          holds =
              stored
              ∙ ap (λ (l : List ℕ). set (set (set (set l n at) (n + 1) m) (n + 2) (m + 1)) (n + 3) e) f.holds
              ∙ store_four f.done before n at m (m + 1) e f.reached filling_room;
        }
