-- What each function has read, one law for each of its returns. Assumes nothing.
use mathlib.Core.Path.{◌≡◌, refl, sym, ◌∙◌, ap}
use mathlib.Core.Bool.{true}
use mathlib.Core.List.{List, [], ◌∷◌}
use Prim.Native.Nat.{ℕ, zero, suc, ◌+◌, ◌-◌, ◌*◌, ◌<◌, ◌≤◌}
use native.Mathlib.Omega.{arith}
use lib.ListN.{length, get_or, length-append}
use Rattle.words.specs.Decide.{◌=?◌}
use Rattle.words.proofs.DecideLaws.{pick_case}
use Rattle.yson_token.specs.Token.{Bracket, square, curly, angle, closing, end, none, punctuation, scalar_end, key_end}
use Rattle.yson_token.proofs.TokenLaws.{scalar_bounded, scalar_token, mark_end, inside}
use Rattle.yson_grammar.specs.Grammar.{Token, plain, attributed, single, list, map, Items, more, last, Item, listed, mapped, named, Pair, pair}
use Rattle.yson_grammar.specs.Grammar as Grammar
use Rattle.yson_grammar.specs.Items.{places, entry, entries, of_object, outer}
use Rattle.yson_grammar.specs.Stages.{Due, node, object, item, next, from}
use Rattle.yson_grammar.proofs.RunLaws.{object_list, object_map, object_list_deep, object_map_deep, object_scalar, object_none, node_attributes, node_deep, node_object, item_close, item_node, next_close, next_more, next_bad, key_found, key_none, key_text, equals_node, equals_bad, end_bad}
use Rattle.yson.specs.Stages.{faulty, ended, keyed_to, onward, Grows, map_at, map_in, Shape, Derived, Reads, pairs_at, ReadsItems, keyed, ReadsPair, ReadsWhole}
use Rattle.yson.specs.declared.Fault.{Fault}
use Rattle.yson.specs.declared.Fault.TheVariants.{BadYson, TooDeep}
use Rattle.yson.specs.declared.Read.{Read}
use Rattle.yson.specs.declared.PairRead.{PairRead}
use Rattle.std.specs.declared.result.Result.{Result}
use Rattle.std.specs.declared.result.Result.TheVariants.{Ok, Err}

module _ (s : List ℕ) where
  -- what begins later has not begun too late
  sooner : (at at' : ℕ) (r : Result Read Fault) → at ≤ at' → Grows s at' r → Grows s at r
  sooner at at' (Ok x) h g = (omega arith, g.1)
  sooner at at' (Err q) h g = tt

  -- one bracket deeper and back
  back : (room : ℕ) (due : Due) (around : List Bracket) (r : Result Read Fault) → 1 ≤ room
      → onward (λ e. from s (suc (room - 1)) due around e) r ≡ onward (λ e. from s room due around e) r
  back room due around r some =
      let same : suc (room - 1) ≡ room = omega arith in
      ap (λ (n : ℕ). onward (λ e. from s n due around e) r) same

  mark : (b at : ℕ) → get_or s at 0 ≡ b → punctuation b ≡ true → Token s b at (at + 1)
  mark b at first is = record { first = first; whole = mark_end s at b first is }

  -- the items of a bracket as a reading has them
  abbrev Held : Bracket → ℕ → ℕ → ℕ → ℕ → ℕ → Type 0
  Held k room at e b n = (i : Items s k room at e) × (pairs_at k at ≡ b) × (length (entries i) ≡ 4 * n)

  -- a list has no pairs
  list_entries : {room a b : ℕ} (i : Items s square room a b) → entries i ≡ []
  unfolding entries entry
  list_entries (Grammar.none t) = refl
  list_entries (last (listed x) t) = refl
  list_entries (more (listed x) t is) = list_entries is

  -- derivations, put together
  as_list : (room at : ℕ) (r : Result Read Fault) → 1 ≤ room → Token s 91 at (at + 1) → Derived (Held square (room - 1) (at + 1)) r → Derived (Shape s room object at) r
  unfolding map_at of_object
  as_list room at (Err q) some t d = tt
  as_list zero at (Ok x) some t d = absurd (omega arith)
  as_list (suc room) at (Ok y) some t d =
      let fewer : suc room - 1 ≡ room = omega arith in
      let x : Held square room (at + 1) y.end y.start y.items = rw fewer at d in
      (list t x.0, x.1, sym (ap length (list_entries x.0)) ∙ x.2)

  as_map : (room at : ℕ) (r : Result Read Fault) → 1 ≤ room → Token s 123 at (at + 1) → Derived (Held curly (room - 1) (at + 1)) r → Derived (Shape s room object at) r
  unfolding map_at of_object
  as_map room at (Err q) some t d = tt
  as_map zero at (Ok x) some t d = absurd (omega arith)
  as_map (suc room) at (Ok y) some t d =
      let fewer : suc room - 1 ≡ room = omega arith in
      let x : Held curly room (at + 1) y.end y.start y.items = rw fewer at d in
      (map t x.0, x.1, x.2)

  as_plain : (room at : ℕ) (r : Result Read Fault) → Derived (Shape s room object at) r → Derived (Shape s room node at) r
  unfolding map_in outer
  as_plain room at (Err q) d = tt
  as_plain room at (Ok x) d = (plain d.0, d.1, d.2)

  as_attributed : (room at m b n : ℕ) (r : Result Read Fault) → 1 ≤ room → Token s 60 at (at + 1) → Held angle (room - 1) (at + 1) m b n → Derived (Shape s room object m) r → Derived (Shape s room node at) r
  unfolding map_in outer
  as_attributed room at m b n (Err q) some t i d = tt
  as_attributed zero at m b n (Ok x) some t i d = absurd (omega arith)
  as_attributed (suc room) at m b n (Ok y) some t i d =
      let fewer : suc room - 1 ≡ room = omega arith in
      let x : Held angle room (at + 1) m b n = rw fewer at i in
      (attributed t x.0 d.0, d.1, d.2)

  module _ (room at : ℕ) where
    -- an object
    pub reads_list : (r : Result Read Fault) → get_or s at 0 ≡ 91 → 1 ≤ room → ReadsItems s square (room - 1) (at + 1) r → Reads s room object at r
    unfolding punctuation
    reads_list r first some inner = record {
      grows = sooner at (at + 1) r (omega arith) inner.grows;
      runs = λ around. object_list s at around room first some ∙ inner.runs around ∙ back room next around r some;
      derived = as_list room at r some (mark 91 at first refl) inner.derived;
    }

    pub reads_map : (r : Result Read Fault) → get_or s at 0 ≡ 123 → 1 ≤ room → ReadsItems s curly (room - 1) (at + 1) r → Reads s room object at r
    unfolding punctuation
    reads_map r first some inner = record {
      grows = sooner at (at + 1) r (omega arith) inner.grows;
      runs = λ around. object_map s at around room first some ∙ inner.runs around ∙ back room next around r some;
      derived = as_map room at r some (mark 123 at first refl) inner.derived;
    }

    pub reads_list_deep : get_or s at 0 ≡ 91 → room ≡ 0 → Reads s room object at (Err (TooDeep at))
    reads_list_deep first full = record { grows = tt; runs = λ around. object_list_deep s at around room first full; derived = tt }

    pub reads_map_deep : get_or s at 0 ≡ 123 → room ≡ 0 → Reads s room object at (Err (TooDeep at))
    reads_map_deep first full = record { grows = tt; runs = λ around. object_map_deep s at around room first full; derived = tt }

    pub reads_scalar : (e : ℕ) → (get_or s at 0 ≡ 91 → ⊥) → (get_or s at 0 ≡ 123 → ⊥) → end e ≡ scalar_end s at → Reads s room object at (ended e 0 0)
    unfolding map_at of_object
    reads_scalar e no-list no-map found = record {
      grows = rw (sym found) at (scalar_bounded s at);
      runs = λ around. object_scalar s at around room e no-list no-map (sym found);
      derived = let t = scalar_token s at e (sym found) in (single t.0 t.1, refl, refl);
    }

    pub reads_none : (get_or s at 0 ≡ 91 → ⊥) → (get_or s at 0 ≡ 123 → ⊥) → none ≡ scalar_end s at → Reads s room object at (Err (BadYson at))
    reads_none no-list no-map nothing = record { grows = tt; runs = λ around. object_none s at around room no-list no-map (sym nothing); derived = tt }

    -- a node
    pub reads_object : (r : Result Read Fault) → (get_or s at 0 ≡ 60 → ⊥) → Reads s room object at r → Reads s room node at r
    reads_object r other inner = record { grows = inner.grows; runs = λ around. node_object s at around room other ∙ inner.runs around; derived = as_plain room at r inner.derived }

    pub reads_node_deep : get_or s at 0 ≡ 60 → room ≡ 0 → Reads s room node at (Err (TooDeep at))
    reads_node_deep first full = record { grows = tt; runs = λ around. node_deep s at around room first full; derived = tt }

    pub reads_attributes_not : (q : Fault) → get_or s at 0 ≡ 60 → 1 ≤ room → ReadsItems s angle (room - 1) (at + 1) (Err q) → Reads s room node at (Err q)
    reads_attributes_not q first some inner = record { grows = tt; runs = λ around. node_attributes s at around room first some ∙ inner.runs around; derived = tt }

    pub reads_attributes : (x : Read) (r : Result Read Fault) → get_or s at 0 ≡ 60 → 1 ≤ room → ReadsItems s angle (room - 1) (at + 1) (Ok x) → Reads s room object x.end r → Reads s room node at r
    unfolding punctuation
    reads_attributes x r first some inner rest = record {
      grows = sooner at x.end r (omega (arith, inner.grows.0)) rest.grows;
      runs = λ around. node_attributes s at around room first some ∙ inner.runs around ∙ back room object around (Ok x) some ∙ rest.runs around;
      derived = as_attributed room at x.end x.start x.items r some (mark 60 at first refl) inner.derived rest.derived;
    }

  -- One item of a bracket, and what an item adds to the count of pairs.

  pub record ItemEnds (k : Bracket) (room at e : ℕ) : Type 0 where
    pub later : at < e
    pub runs : (around : List Bracket) → from s room item (k ∷ around) at ≡ from s room next (k ∷ around) e
    pub is : Item s k room at e

  abbrev pub ItemFails : Bracket → ℕ → ℕ → Fault → Type 0
  ItemFails k room at q = (around : List Bracket) → from s room item (k ∷ around) at ≡ faulty q

  abbrev pub weight : Bracket → ℕ
  weight square = 0
  weight curly = 1
  weight angle = 1

  pair_length : {room a b : ℕ} (p : Pair s room a b) → length (places p) ≡ 4
  unfolding places
  pair_length (pair t e v) = refl

  item_length : {k : Bracket} {room a b : ℕ} (i : Item s k room a b) → length (entry i) ≡ 4 * weight k
  unfolding entry
  item_length (listed x) = refl
  item_length (mapped p) = pair_length p
  item_length (named p) = pair_length p

  -- the loops' invariant: the items from `start` to `at` are passed, and so many pairs among them
  pub record Passed (k : Bracket) (room start at n : ℕ) : Type 0 where
    pub later : start ≤ at
    pub few : n ≤ at
    pub runs : (around : List Bracket) → from s room item (k ∷ around) start ≡ from s room item (k ∷ around) at
    pub joins : (e : ℕ) (rest : Items s k room at e) → (i : Items s k room start e) × (length (entries i) ≡ 4 * n + length (entries rest))

  pub closing_inside : (k : Bracket) (at : ℕ) → get_or s at 0 ≡ closing k → at < length s
  closing_inside square at e = inside s at 92 e
  closing_inside curly at e = inside s at 124 e
  closing_inside angle at e = inside s at 61 e

  close_mark : (k : Bracket) (at : ℕ) → get_or s at 0 ≡ closing k → Token s (closing k) at (at + 1)
  unfolding punctuation
  close_mark square at e = mark 93 at e refl
  close_mark curly at e = mark 125 at e refl
  close_mark angle at e = mark 62 at e refl

  pub passed_none : (k : Bracket) (room start : ℕ) → Passed k room start start 0
  passed_none k room start = record { later = omega arith; few = omega arith; runs = λ around. refl; joins = λ e i. (i, omega arith) }

  module _ (k : Bracket) (room start at n : ℕ) (passed : Passed k room start at n) where
    pub items_end : (b : ℕ) → pairs_at k start ≡ b → get_or s at 0 ≡ closing k → ReadsItems s k room start (ended (at + 1) b n)
    unfolding entries
    items_end b begins first = record {
      grows = (omega (arith, passed.later), omega (arith, closing_inside k at first));
      runs = λ around. passed.runs around ∙ item_close s at around k room first;
      derived = let x = passed.joins (at + 1) (Grammar.none (close_mark k at first)) in (x.0, begins, omega (arith, x.1));
    }

    pub items_not : (q : Fault) → ItemFails k room at q → ReadsItems s k room start (Err q)
    items_not q one = record { grows = tt; runs = λ around. passed.runs around ∙ one around; derived = tt }

    module _ (e : ℕ) (one : ItemEnds k room at e) where
      pub items_last : (b w : ℕ) → pairs_at k start ≡ b → weight k ≡ w → get_or s e 0 ≡ closing k → ReadsItems s k room start (ended (e + 1) b (n + w))
      unfolding entries
      items_last b w begins adds first = record {
        grows = (omega (arith, passed.later, one.later), omega (arith, closing_inside k e first));
        runs = λ around. passed.runs around ∙ one.runs around ∙ next_close s e around k room first;
        derived =
            let x = passed.joins (e + 1) (last one.is (close_mark k e first)) in
            (x.0, begins, omega (arith, x.1, item_length one.is, adds));
      }

      pub items_bad : (get_or s e 0 ≡ closing k → ⊥) → (get_or s e 0 ≡ 59 → ⊥) → ReadsItems s k room start (Err (BadYson e))
      items_bad other no_more = record { grows = tt; runs = λ around. passed.runs around ∙ one.runs around ∙ next_bad s e around k room other no_more; derived = tt }

      pub items_more : (w : ℕ) → weight k ≡ w → w ≤ 1 → get_or s e 0 ≡ 59 → Passed k room start (e + 1) (n + w)
      unfolding punctuation entries
      items_more w adds light first = record {
        later = omega (arith, passed.later, one.later);
        few = omega (arith, passed.few, one.later);
        runs = λ around. passed.runs around ∙ one.runs around ∙ next_more s e around k room first;
        joins = λ z rest.
            let x = passed.joins z (more one.is (mark 59 e first refl) rest) in
            (x.0, omega (arith, x.1, length-append (entry one.is) (entries rest), item_length one.is, adds));
      }

  module _ (room at : ℕ) where
    pub listed_fails : (q : Fault) → (get_or s at 0 ≡ 93 → ⊥) → Reads s room node at (Err q) → ItemFails square room at q
    listed_fails q other inner around = item_node s at around room other ∙ inner.runs (square ∷ around)

    pub listed_ends : (x : Read) → (get_or s at 0 ≡ 93 → ⊥) → Reads s room node at (Ok x) → ItemEnds square room at x.end
    listed_ends x other inner = record {
      later = inner.grows.0;
      runs = λ around. item_node s at around room other ∙ inner.runs (square ∷ around);
      is = listed inner.derived.0;
    }

    -- a pair, and what it is in its bracket
    pub pair_no_key : none ≡ key_end s at → ReadsPair s room at (Err (BadYson at))
    pair_no_key nothing = record { grows = tt; runs = λ k paired other around. key_none s at around k room paired other (sym nothing); derived = tt }

    module _ (m : ℕ) (found : end m ≡ key_end s at) where
      key_later : at < m
      key_later = let text = key_text s at m (sym found) in (rw text.1 at (scalar_bounded s at)).0

      pub pair_no_equals : (get_or s m 0 ≡ 61 → ⊥) → ReadsPair s room at (Err (BadYson m))
      pair_no_equals wrong = record {
        grows = tt;
        runs = λ k paired other around. key_found s at around k room m paired other (sym found) ∙ equals_bad s m (k ∷ around) room wrong;
        derived = tt;
      }

      module _ (first : get_or s m 0 ≡ 61) where
        pub pair_fails : (q : Fault) → Reads s room node (m + 1) (Err q) → ReadsPair s room at (Err q)
        pair_fails q inner = record {
          grows = tt;
          runs = λ k paired other around. key_found s at around k room m paired other (sym found) ∙ equals_node s m (k ∷ around) room first ∙ inner.runs (k ∷ around);
          derived = tt;
        }

        pub pair_ends : (x : Read) → Reads s room node (m + 1) (Ok x) → ReadsPair s room at (keyed_to m x.end)
        unfolding punctuation places
        pair_ends x inner = record {
          grows = (key_later, inner.grows.0, inner.grows.1);
          runs = λ k paired other around. key_found s at around k room m paired other (sym found) ∙ equals_node s m (k ∷ around) room first ∙ inner.runs (k ∷ around);
          derived =
              let text = key_text s at m (sym found) in
              (pair (record { first = text.0; whole = (scalar_token s at m text.1).1 }) (mark 61 m first refl) inner.derived.0, refl);
        }

    module _ (k : Bracket) (paired : k ≡ square → ⊥) (other : get_or s at 0 ≡ closing k → ⊥) where
      as_item : {e : ℕ} (j : Bracket) → (j ≡ square → ⊥) → Pair s room at e → Item s j room at e
      as_item square wrong p = absurd (wrong refl)
      as_item curly wrong p = mapped p
      as_item angle wrong p = named p

      pub paired_ends : (x : PairRead) → ReadsPair s room at (Ok x) → ItemEnds k room at x.end
      paired_ends x inner = record {
        later = omega (arith, inner.grows.0, inner.grows.1);
        runs = λ around. inner.runs k paired other around;
        is = as_item k paired inner.derived.0;
      }

  -- The whole input.

  pub whole_read : (x : Read) → Reads s 64 node 0 (Ok x) → x.end ≡ length s → ReadsWhole s (Ok x)
  whole_read x r all = rw all at r.derived

  pub whole_left : (x : Read) → Reads s 64 node 0 (Ok x) → (x.end ≡ length s → ⊥) → ReadsWhole s (Err (BadYson x.end))
  whole_left x r left = sym (r.runs [] ∙ end_bad s x.end 64 left)

-- the brackets of pairs
module _ (close : ℕ) where
  pub keyed_paired : keyed close ≡ square → ⊥
  keyed_paired = pick_case (close =? 62) angle curly (λ (k : Bracket). k ≡ square → ⊥) (λ _ e. let z : ◌≡◌ {A = ℕ} 0 1 = cc in omega arith) (λ _ e. let z : ◌≡◌ {A = ℕ} 0 1 = cc in omega arith)

  pub keyed_weight : (s : List ℕ) → weight s (keyed close) ≡ 1
  keyed_weight s = pick_case (close =? 62) angle curly (λ (k : Bracket). weight s k ≡ 1) (λ _. refl) (λ _. refl)

  pub keyed_at : (at : ℕ) → pairs_at (keyed close) at ≡ at
  keyed_at at = pick_case (close =? 62) angle curly (λ (k : Bracket). pairs_at k at ≡ at) (λ _. refl) (λ _. refl)
