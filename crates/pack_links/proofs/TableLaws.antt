-- The links over a table, one entry more: it is linked, it names its first use, or it stores nothing. Assumes
-- nothing.
use mathlib.Core.Path.{◌≡◌, refl, sym, ◌∙◌, ap}
use mathlib.Core.Bool.{true, false, true≢false}
use mathlib.Core.Logic.{◌⊎◌, inl, inr, ⊎_elim}
use mathlib.Core.List.{List}
use Prim.Native.Nat.{ℕ, ◌+◌, ◌*◌, ◌/◌, ◌%◌, ◌<◌, ◌≤◌}
use native.Mathlib.Nat.{eq-or-lt_of_le, mod-lt}
use native.Mathlib.Omega.{arith}
use lib.ListN.{length, get_or, set, length-set}
use lib.Seq.{get_or-set_same, get_or-set_other}
use Rattle.words.proofs.DecideLaws.{le_or_gt}
use Rattle.pack_pairs.specs.Pairs.{offset_at, length_at, stored}
use Rattle.pack_pairs.specs.Stages.{first_use}
use Rattle.pack_links.specs.Stages.{link, behind, Leads, here, onward, Linked, Climbs, Grows, Ends, Finds, block_start, bucket, head_of, stored_under, Looks, Spare, Over, Settled, Linking}
use Rattle.pack_pairs.specs.Stages.{Alike, New}
use Rattle.pack_links.specs.declared.Place.{Place}
use Rattle.std.specs.declared.option.Option.TheVariants.{Some}
use Rattle.pack_pairs.proofs.UseLaws.{use_most, use_alike, use_new, use_at}
use Rattle.wire.specs.Layout.{entry_words}

pub same_or_not : (a b : ℕ) → (a ≡ b) ⊎ (a ≡ b → ⊥)
same_or_not a b =
    ⊎_elim (λ (h : a ≤ b). ⊎_elim (λ (e : a ≡ b). inl e) (λ (l : a < b). inr (λ e. omega arith)) (eq-or-lt_of_le h)) (λ (h : b < a). inr (λ e. omega arith)) (le_or_gt a b)

-- u is t with the link v over the word s, which had none
pub record Puts (t u : List ℕ) (s v : ℕ) : Type 0 where
  pub as_long : length u ≡ length t
  pub over : s % entry_words < 3
  pub free : link t s ≡ 0
  pub put : link u s ≡ v
  pub low : get_or u s 0 % 65_536 ≡ get_or t s 0 % 65_536
  pub others : (r : ℕ) → (r ≡ s → ⊥) → get_or u r 0 ≡ get_or t r 0

pub puts : (t : List ℕ) (s v : ℕ) → s < length t → s % entry_words < 3 → link t s ≡ 0 → Puts t (set t s (get_or t s 0 + 65_536 * v)) s v
puts t s v h over free =
    let stands : get_or (set t s (get_or t s 0 + 65_536 * v)) s 0 ≡ get_or t s 0 + 65_536 * v = get_or-set_same t s _ 0 h in
    record {
      as_long = length-set t s _;
      over = over;
      free = free;
      put = rw stands (omega arith);
      low = rw stands (omega arith);
      others = λ r other. get_or-set_other t s r _ 0 other;
    }

-- a search goes where it went, under more links
leads_grow : {t u : List ℕ} {s x y j : ℕ} → Grows t u → s % entry_words < 3 → Leads t s x y j → Leads u s x y j
leads_grow {t} {u} {s} {x} {y} {j} grows h (here e) = here (grows s j h e)
leads_grow {t} {u} {s} {x} {y} {j} grows h (onward k e rest) = onward k (grows s k h e) (leads_grow grows (omega arith) rest)

module _ (t u : List ℕ) (s v : ℕ) (is : Puts t u s v) where
  kept : (r : ℕ) → (r ≡ s → ⊥) → link u r ≡ link t r
  kept r other = ap (λ (w : ℕ). w / 65_536) (is.others r other)

  pub puts_grow : Grows t u
  puts_grow r k h e = kept r (λ same. let here-none : link t r ≡ 0 = rw same is.free in omega arith) ∙ e

  linked_grow : (k : ℕ) → Linked t k → Linked u k
  linked_grow k l = record { at = l.at; over = l.over; names = puts_grow l.at k l.over l.names }

  -- what is linked now is what was put, or was linked
  linked_was : (k : ℕ) → Linked u k → (k + 1 ≡ v) ⊎ Linked t k
  linked_was k l =
      ⊎_elim (λ (same : l.at ≡ s). inl (sym l.names ∙ ap (link u) same ∙ is.put))
      (λ (other : l.at ≡ s → ⊥). inr (record { at = l.at; over = l.over; names = sym (kept l.at other) ∙ l.names }))
      (same_or_not l.at s)

  over_puts : (values : List ℕ) → Over values t → Over values u
  over_puts values over = record {
    as_long = is.as_long ∙ over.as_long;
    words = λ r h. ⊎_elim (λ (same : r ≡ s). rw same (is.low ∙ over.words s is.over))
        (λ (other : r ≡ s → ⊥). rw (is.others r other) (over.words r h)) (same_or_not r s);
    pairs = λ r h. is.others r (λ same. let h' : s % entry_words < 3 = is.over in let h'' : 3 ≤ s % entry_words = rw same at h in omega arith) ∙ over.pairs r h;
  }

  settled_grow : (values : List ℕ) (j : ℕ) → Settled values t j → Settled values u j
  settled_grow values j = ⊎_elim (λ new. inl (new.0, linked_grow j new.1)) (λ used. inr (used.0, puts_grow (entry_words * j + 1) _ (omega arith) used.1))

head_over : (values : List ℕ) (j : ℕ) → head_of values j % entry_words < 3
unfolding bucket
head_over values j = omega arith

pub bucket_over : (offset n size : ℕ) → bucket offset n size % entry_words ≡ 0
unfolding bucket
bucket_over offset n size = omega arith

pub bucket_within : (offset n size : ℕ) → 0 < size → bucket offset n size < entry_words * size
unfolding bucket
bucket_within offset n size h = omega (arith, mod-lt (block_start offset + offset / 16 + n % 65_536) h)

pub looks : (t : List ℕ) (i head : ℕ) (r : Place) → head ≡ head_of t i → stored_under t i ≡ true → Finds t i head r → Looks t i (Some r)
looks t i head r e is finds = (is, rw e at finds)

module _ (values t : List ℕ) (i : ℕ) (links : Linking values t i) where
  -- pairs are as they were
  offset_kept : (j : ℕ) → offset_at t j ≡ offset_at values j
  offset_kept j = links.over.pairs (entry_words * j + 3) (omega arith)

  length_kept : (j : ℕ) → length_at t j ≡ length_at values j
  length_kept j = links.over.pairs (entry_words * j + 4) (omega arith)

  alike_over : (j k : ℕ) → Alike values j k → Alike t j k
  alike_over j k a = (offset_kept j ∙ a.0 ∙ sym (offset_kept k), length_kept j ∙ a.1 ∙ sym (length_kept k))

  alike_under : (j k : ℕ) → Alike t j k → Alike values j k
  alike_under j k a = (sym (offset_kept j) ∙ a.0 ∙ offset_kept k, sym (length_kept j) ∙ a.1 ∙ length_kept k)

  -- the search may begin
  pub climbs : i * entry_words ≤ length values → Climbs t
  climbs h = record {
    within = λ k l. omega (arith, (links.nodes k l).0, links.over.as_long);
    upward = links.upward;
  }

  last : (j : ℕ) → j < i + 1 → j ≤ i
  last j h = omega arith

  -- The entry i stores nothing

  pub links_skip : stored values i ≡ false → Linking values t (i + 1)
  links_skip nothing = record {
    over = links.over;
    nodes = λ k l. (omega (arith, (links.nodes k l).0), (links.nodes k l).1);
    upward = links.upward;
    fresh = λ k x h. links.fresh k x (omega arith);
    reached = λ j h new. ⊎_elim (λ (e : j ≡ i). absurd (true≢false (sym (rw e at new.stores) ∙ nothing))) (λ (less : j < i). links.reached j less new) (eq-or-lt_of_le (last j h));
    settled = λ j h is. ⊎_elim (λ (e : j ≡ i). absurd (true≢false (sym (rw e at is) ∙ nothing))) (λ (less : j < i). links.settled j less is) (eq-or-lt_of_le (last j h));
  }

  -- an entry that stores the pair of i before it has a first use, which is reached
  module _ (is : stored values i ≡ true) (s : ℕ) (ends : Ends t i (head_of values i) s) where
    pub new_entry : New values i
    new_entry = record {
      stores = is;
      first_of_all = λ j h e alike.
          let it : (stored values (first_use values j) ≡ true) × Alike values (first_use values j) j = use_alike values j e in
          let too : Alike values (first_use values j) i = (it.1.0 ∙ alike.0, it.1.1 ∙ alike.1) in
          let less : first_use values j < i = omega (arith, use_most values j) in
          let same_head : head_of values (first_use values j) ≡ head_of values i = rw (too.0, too.1) in
          ends.none (first_use values j) (alike_over (first_use values j) i too)
          (rw (offset_kept (first_use values j), length_kept (first_use values j), ← same_head) (links.reached (first_use values j) less (use_new values j e)));
    }

    module _ (u : List ℕ) (put : Puts t u s (i + 1)) where
      new_linked : Linked u i
      new_linked = record { at = s; over = put.over; names = put.put }

      -- what lies behind an entry from i on has no link yet
      not_behind : (k x : ℕ) → i ≤ k → behind k x ≡ s → ⊥
      not_behind k x h e =
          ⊎_elim (λ (bucket-word : s % entry_words ≡ 0). omega arith)
          (λ (l : Linked t (s / entry_words)). let at-k : s / entry_words ≡ k = omega arith in omega (arith, (links.nodes (s / entry_words) l).0))
          ends.comes.from

      new_upward : (k : ℕ) → Linked u k → (x m : ℕ) → link u (behind k x) ≡ m + 1 → k < m
      new_upward k l x m e =
          ⊎_elim (λ (is-i : k + 1 ≡ i + 1). let other : behind k x ≡ s → ⊥ = not_behind k x (omega arith) in
          omega (arith, links.fresh k x (omega arith), kept t u s (i + 1) put (behind k x) other))
          (λ (was : Linked t k).
          ⊎_elim (λ (same : behind k x ≡ s). let is-put : link u (behind k x) ≡ i + 1 = rw same put.put in omega (arith, (links.nodes k was).0))
          (λ (other : behind k x ≡ s → ⊥). links.upward k was x m (sym (kept t u s (i + 1) put (behind k x) other) ∙ e))
          (same_or_not (behind k x) s))
          (linked_was t u s (i + 1) put k l)

      pub links_new : Linking values u (i + 1)
      links_new = record {
        over = over_puts t u s (i + 1) put values links.over;
        nodes = λ k l. ⊎_elim (λ (e : k + 1 ≡ i + 1). let is-i : k ≡ i = omega arith in (omega arith, rw is-i new_entry))
            (λ (was : Linked t k). (omega (arith, (links.nodes k was).0), (links.nodes k was).1)) (linked_was t u s (i + 1) put k l);
        upward = new_upward;
        fresh = λ k x h. kept t u s (i + 1) put (behind k x) (not_behind k x (omega arith)) ∙ links.fresh k x (omega arith);
        reached = λ j h new. ⊎_elim (λ (e : j ≡ i). rw e (rw (offset_kept i, length_kept i) at (ends.leads u (puts_grow t u s (i + 1) put) put.put)))
            (λ (less : j < i). leads_grow (puts_grow t u s (i + 1) put) (head_over values j) (links.reached j less new)) (eq-or-lt_of_le (last j h));
        settled = λ j h stores. ⊎_elim (λ (e : j ≡ i). rw e (inl (new_entry, new_linked)))
            (λ (less : j < i). settled_grow t u s (i + 1) put values j (links.settled j less stores)) (eq-or-lt_of_le (last j h));
      }

  -- The entry i has the pair of the entry f, which is linked

  module _ (is : stored values i ≡ true) (f : ℕ) (linked : Linked t f) (alike : Alike t f i) where
    pub use_known : (f < i) × (first_use values i ≡ f)
    use_known = let node = links.nodes f linked in (node.0, use_at values i f node.1 node.0 (alike_under f i alike))

    not_new : New values i → ⊥
    not_new new = new.first_of_all f use_known.0 (links.nodes f linked).1.stores (alike_under f i alike)

    module _ (u : List ℕ) (put : Puts t u (entry_words * i + 1) (f + 1)) where
      was : (k : ℕ) → Linked u k → Linked t k
      was k l = ⊎_elim (λ (e : k + 1 ≡ f + 1). let is_f : k ≡ f = omega arith in rw is_f linked) (λ (before : Linked t k). before) (linked_was t u (entry_words * i + 1) (f + 1) put k l)

      pub links_used : Linking values u (i + 1)
      links_used = record {
        over = over_puts t u (entry_words * i + 1) (f + 1) put values links.over;
        nodes = λ k l. (omega (arith, (links.nodes k (was k l)).0), (links.nodes k (was k l)).1);
        upward = λ k l x m e.
            let below : k < i = (links.nodes k (was k l)).0 in
            links.upward k (was k l) x m (sym (kept t u (entry_words * i + 1) (f + 1) put (behind k x) (λ same. omega arith)) ∙ e);
        fresh = λ k x h. kept t u (entry_words * i + 1) (f + 1) put (behind k x) (λ same. omega arith) ∙ links.fresh k x (omega arith);
        reached = λ j h new. ⊎_elim (λ (e : j ≡ i). absurd (not_new (rw e at new)))
            (λ (less : j < i). leads_grow (puts_grow t u (entry_words * i + 1) (f + 1) put) (head_over values j) (links.reached j less new)) (eq-or-lt_of_le (last j h));
        settled = λ j h stores. ⊎_elim (λ (e : j ≡ i). rw e (inr (omega (arith, use_known.0, use_known.1), put.put ∙ ap (λ (n : ℕ). n + 1) (sym use_known.1))))
            (λ (less : j < i). settled_grow t u (entry_words * i + 1) (f + 1) put values j (links.settled j less stores)) (eq-or-lt_of_le (last j h));
      }

-- Before the first entry there are no links
pub links_begin : (values : List ℕ) → Spare values → Linking values values 0
links_begin values spare = record {
  over = record { as_long = refl; words = λ s h. omega (arith, spare.small s h); pairs = λ s h. refl };
  nodes = λ k l. absurd (none k l);
  upward = λ k l x m e. absurd (none k l);
  fresh = λ k x h. omega (arith, spare.small (behind k x) (omega arith));
  reached = λ j h new. absurd (omega arith);
  settled = λ j h is. absurd (omega arith);
}
  where
    none : (k : ℕ) → Linked values k → ⊥
    none k l = omega (arith, l.names, spare.small l.at l.over)
