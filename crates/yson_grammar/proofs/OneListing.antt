-- Two derivations of a map's items have the same places. Assumes nothing.
use mathlib.Core.Path.{◌≡◌, refl, sym, ◌∙◌, ap}
use mathlib.Core.Bool.{true, true≢false}
use mathlib.Core.List.{List, ◌++◌}
use Prim.Native.Nat.{ℕ}
use native.Mathlib.Omega.{arith}
use lib.ListN.{get_or}
use Rattle.yson_token.specs.Token.{end, scalar, token_end}
use Rattle.yson_token.specs.Token.{curly, angle}
use Rattle.yson_grammar.specs.Grammar.{Token, Node, plain, attributed, Object, single, list, map, Items, more, last, Item, mapped, named, Pair, pair}
use Rattle.yson_grammar.specs.Grammar as Grammar
use Rattle.yson_grammar.specs.Items.{places, entry, entries, of_object, outer}
use Rattle.yson_grammar.proofs.Complete.{one_extent, not_attributes}

module _ (s : List ℕ) where
  end_same : {a b : ℕ} → end a ≡ end b → a ≡ b
  end_same e = cc

  token_extent : {b c a e x z : ℕ} → Token s b a e → Token s c x z → a ≡ x → e ≡ z
  token_extent t u same = end_same (sym t.whole ∙ ap (λ (n : ℕ). token_end s n) same ∙ u.whole)

  pub pair_same : {m n a d x z : ℕ} (p : Pair s m a d) (q : Pair s n x z) → a ≡ x → (places p ≡ places q) × (d ≡ z)
  unfolding places
  pair_same (pair t e v) (pair t' e' v') same =
      let keys = token_extent t t' same in
      let values = token_extent e e' keys in
      let ends = one_extent s v (rw (sym values) at v') in
      (cc, ends)

  item_same : {m n a d x z : ℕ} (i : Item s curly m a d) (j : Item s curly n x z) → a ≡ x → (entry i ≡ entry j) × (d ≡ z)
  unfolding entry
  item_same (mapped p) (mapped q) same = pair_same p q same

  pub item_first : {m a d : ℕ} → Item s curly m a d → get_or s a 0 ≡ 1
  item_first (mapped (pair t e v)) = t.first

  pub entries_same : {m n a d x z : ℕ} (i : Items s curly m a d) (j : Items s curly n x z) → a ≡ x → entries i ≡ entries j
  unfolding entries
  entries_same (Grammar.none t) (Grammar.none u) same = refl
  entries_same (Grammar.none t) (last j u) same = absurd (omega (arith, t.first, item_first j, ap (λ (n : ℕ). get_or s n 0) same))
  entries_same (Grammar.none t) (more j u js) same = absurd (omega (arith, t.first, item_first j, ap (λ (n : ℕ). get_or s n 0) same))
  entries_same (last i t) (Grammar.none u) same = absurd (omega (arith, u.first, item_first i, ap (λ (n : ℕ). get_or s n 0) same))
  entries_same (last i t) (last j u) same = (item_same i j same).0
  entries_same (last i t) (more j u js) same = absurd (omega (arith, t.first, u.first, ap (λ (n : ℕ). get_or s n 0) (item_same i j same).1))
  entries_same (more i t is) (Grammar.none u) same = absurd (omega (arith, u.first, item_first i, ap (λ (n : ℕ). get_or s n 0) same))
  entries_same (more i t is) (last j u) same = absurd (omega (arith, t.first, u.first, ap (λ (n : ℕ). get_or s n 0) (item_same i j same).1))
  entries_same (more i t is) (more j u js) same =
      let one = item_same i j same in
      let rest = entries_same is js (token_extent t u one.1) in
      ap (λ (l : List ℕ). l ++ entries is) one.0 ∙ ap (λ (l : List ℕ). entry j ++ l) rest

  -- and attributes have one extent too
  named_same : {m n a d x z : ℕ} (i : Item s angle m a d) (j : Item s angle n x z) → a ≡ x → d ≡ z
  named_same (named p) (named q) same = (pair_same p q same).1

  named_first : {m a d : ℕ} → Item s angle m a d → get_or s a 0 ≡ 1
  named_first (named (pair t e v)) = t.first

  items_extent : {m n a d x z : ℕ} (i : Items s angle m a d) (j : Items s angle n x z) → a ≡ x → d ≡ z
  items_extent (Grammar.none t) (Grammar.none u) same = token_extent t u same
  items_extent (Grammar.none t) (last j u) same = absurd (omega (arith, t.first, named_first j, ap (λ (n : ℕ). get_or s n 0) same))
  items_extent (Grammar.none t) (more j u js) same = absurd (omega (arith, t.first, named_first j, ap (λ (n : ℕ). get_or s n 0) same))
  items_extent (last i t) (Grammar.none u) same = absurd (omega (arith, u.first, named_first i, ap (λ (n : ℕ). get_or s n 0) same))
  items_extent (last i t) (last j u) same = token_extent t u (named_same i j same)
  items_extent (last i t) (more j u js) same = absurd (omega (arith, t.first, u.first, ap (λ (n : ℕ). get_or s n 0) (named_same i j same)))
  items_extent (more i t is) (Grammar.none u) same = absurd (omega (arith, u.first, named_first i, ap (λ (n : ℕ). get_or s n 0) same))
  items_extent (more i t is) (last j u) same = absurd (omega (arith, t.first, u.first, ap (λ (n : ℕ). get_or s n 0) (named_same i j same)))
  items_extent (more i t is) (more j u js) same = items_extent is js (token_extent t u (named_same i j same))

  scalar_not_map : (a : ℕ) → scalar (get_or s a 0) ≡ true → get_or s a 0 ≡ 123 → ⊥
  unfolding scalar
  scalar_not_map a t e = true≢false (sym t ∙ ap scalar e)

  not_object : {m a d : ℕ} → Object s m a d → get_or s a 0 ≡ 60 → ⊥
  not_object o = not_attributes s o

  object_same : {m n a d x z : ℕ} (o : Object s m a d) (q : Object s n x z) → a ≡ x → of_object o ≡ of_object q
  unfolding of_object
  object_same (single t e) (single u f) same = refl
  object_same (single t e) (list u j) same = refl
  object_same (single t e) (map u j) same = absurd (scalar_not_map _ t (ap (λ (n : ℕ). get_or s n 0) same ∙ u.first))
  object_same (list t i) (single u f) same = refl
  object_same (list t i) (list u j) same = refl
  object_same (list t i) (map u j) same = absurd (omega (arith, t.first, u.first, ap (λ (n : ℕ). get_or s n 0) same))
  object_same (map t i) (single u f) same = absurd (scalar_not_map _ u (ap (λ (n : ℕ). get_or s n 0) (sym same) ∙ t.first))
  object_same (map t i) (list u j) same = absurd (omega (arith, t.first, u.first, ap (λ (n : ℕ). get_or s n 0) same))
  object_same (map t i) (map u j) same = entries_same i j (token_extent t u same)

  -- two derivations of one input have the same items
  pub outer_same : {m n a d z : ℕ} (x : Node s m a d) (y : Node s n a z) → outer x ≡ outer y
  unfolding outer
  outer_same (plain o) (plain q) = object_same o q refl
  outer_same (plain o) (attributed u j q) = absurd (not_object o u.first)
  outer_same (attributed t i o) (plain q) = absurd (not_object q t.first)
  outer_same (attributed t i o) (attributed u j q) = object_same o q (items_extent i j (token_extent t u refl))
