-- A search along the links: each step keeps what is sought ahead, and where it ends it is found or nowhere. Assumes
-- nothing.
use mathlib.Core.Path.{◌≡◌, sym, ◌∙◌}
use mathlib.Core.Bool.{true, false, true≢false}
use mathlib.Core.Logic.{inl, inr}
use mathlib.Core.List.{List}
use Prim.Native.Nat.{ℕ, zero, suc, ◌+◌, ◌*◌, ◌-◌, ◌/◌, ◌%◌, ◌<◌, ◌≤◌}
use native.Mathlib.Omega.{arith}
use lib.ListN.{length}
use borrow.Author.Tests.{ne_eqb}
use Rattle.words.specs.Decide.{pick, ◌=?◌}
use Rattle.pack_pairs.specs.Pairs.{offset_at, length_at}
use Rattle.pack_pairs.specs.Stages.{same}
use Rattle.pack_pairs.proofs.UseLaws.{same_alike, alike_same}
use Rattle.pack_links.specs.Stages.{link, behind, Leads, here, onward, Linked, Climbs, Sought, Finds}
use Rattle.pack_links.specs.declared.Place.TheVariants.{Known, Free}
use Rattle.wire.specs.Layout.{entry_words}

-- a search stops where there is no link
leads_not : {t : List ℕ} {s x y j : ℕ} → link t s ≡ 0 → Leads t s x y j → ⊥
leads_not e (here e') = omega arith
leads_not e (onward k e' rest) = omega arith

-- and where there is one, it has come by that entry or goes on behind it
leads_on : {t : List ℕ} {s x y j : ℕ} (k : ℕ) → link t s ≡ k + 1 → (j ≡ k → ⊥) → Leads t s x y j → Leads t (behind k x) y (x / 2) j
leads_on k e other (here e') = absurd (other (omega arith))
leads_on {t} {s} {x} {y} {j} k e other (onward k' e' rest) = let same-one : k' ≡ k = omega arith in rw same-one at rest

-- How much is left of a search that stands at this link
abbrev pub left : ℕ → ℕ → ℕ
left size l = pick (l =? 0) 0 (size + 1 - l)

pub falls : (size l l' : ℕ) → 0 < l → l ≤ size → ((m : ℕ) → l' ≡ m + 1 → l - 1 < m) → left size l' < left size l
falls size l zero some h up = rw (ne_eqb l 0 (omega arith)) (omega arith)
falls size l (suc m) some h up = let more : l - 1 < m = up m (omega arith) in rw (ne_eqb l 0 (omega arith), ne_eqb (suc m) 0 (omega arith)) (omega arith)

module _ (t : List ℕ) (i head : ℕ) where
  -- the word at which a search stands, and the link there
  abbrev pub Walking : ℕ → ℕ → ℕ → ℕ → Type 0
  Walking s x y l = (l ≡ link t s) × Sought t i head s x y

  pub sought_begin : head % entry_words ≡ 0 → head < length t → Sought t i head head (offset_at t i) (length_at t i)
  sought_begin e h = record {
    comes = record { over = omega arith; inside = h; from = inl e };
    ahead = λ j alike leads. rw (← alike.0, ← alike.1) leads;
    back = λ u grows leads. leads;
  }

  module _ (climbs : Climbs t) (s x y : ℕ) (so_far : Sought t i head s x y) where
    pub ended : link t s ≡ 0 → Finds t i head (Free s)
    ended e = record {
      comes = so_far.comes;
      free = e;
      none = λ j alike leads. leads_not e (so_far.ahead j alike leads);
      leads = λ u grows e'. so_far.back u grows (here e');
    }

    module _ (k : ℕ) (l : ℕ) (is : l ≡ link t s) (some : 0 < l) (one : k ≡ l - 1) where
      e : link t s ≡ k + 1
      e = omega arith

      linked : Linked t k
      linked = record { at = s; over = so_far.comes.over; names = e }

      pub linked_within : entry_words * k + entry_words ≤ length t
      linked_within = climbs.within k linked

      pub found : same t k i ≡ true → Finds t i head (Known k)
      found it = (linked, same_alike t k i it)

      pub step_falls : left (length t) (link t (behind k x)) < left (length t) l
      step_falls = falls (length t) l _ some (omega (arith, linked_within)) (λ m e'. omega (arith, climbs.upward k linked x m e'))

      pub step : same t k i ≡ false → Sought t i head (behind k x) y (x / 2)
      step not = record {
        comes = record {
          over = omega arith;
          inside = omega (arith, linked_within);
          from = inr (let back_at : behind k x / entry_words ≡ k = omega arith in rw back_at linked);
        };
        ahead = λ j alike leads. leads_on k e (λ is-k. true≢false (sym (alike_same t k i (rw is-k at alike)) ∙ not)) (so_far.ahead j alike leads);
        back = λ u grows leads. so_far.back u grows (onward k (grows s k so_far.comes.over e) leads);
      }
