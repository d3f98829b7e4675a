-- An error's rows are the attributes of all its dictionaries. Assumes nothing.
use mathlib.Core.Path.{◌≡◌, refl, sym, ◌∙◌, ap, subst}
use mathlib.Core.Bool.{Bool, true, false}
use mathlib.Core.List.{List, [], ◌∷◌, ◌++◌, append-nil}
use mathlib.Core.Logic.{⊎_elim, ◌⊎◌, inl, inr}
use Prim.Native.Nat.{ℕ, zero, suc, ◌+◌, ◌-◌, ◌<◌, ◌≤◌}
use native.Mathlib.Nat.{add-zero}
use native.Mathlib.Omega.{arith}
use native.Mathlib.Decide.{ℕ_discrete}
use borrow.Author.Tests.{eq-eqb, ne_eqb}
use lib.ListN.{length, get_or, length-append, get_or-append}
use lib.Seq.{get_or-append-add}
use Rattle.words.specs.Decide.{pick, ◌=?◌}
use Rattle.words.proofs.DecideLaws.{le_or_gt}
use Rattle.field.specs.Field.{number_at}
use Rattle.error_tree.specs.Message.{error_fields, dictionary_fields, attribute_fields, fields, inside}
use Rattle.error_tree.specs.Tree.{Parts, none, inner, attribute_of, dictionary, field_parts, parts_with, inner_part, parts, levels, tree, code_of, place_of, length_of, error_count}
use Rattle.error_tree.proofs.TreeLaws.{dictionary_errors}
use Rattle.error_promises.specs.Round.{Row, row, of_error}
use Rattle.error_promises.specs.Dictionaries.{row_of, entries_of, dictionaries_of, messages_with, messages_in, messages, DictionariesAddUp}
use Rattle.error_promises.proofs.Seen.{seen_rows, read_told}

of_append : (i : ℕ) (a b : List Row) → of_error i (a ++ b) ≡ of_error i a ++ of_error i b
unfolding of_error
of_append i [] b = refl
of_append i (row index m key n value ∷ a) b = choose (index =? i) (of_append i a b)
  where
    choose : (t : Bool) → of_error i (a ++ b) ≡ of_error i a ++ of_error i b
        → pick t (row index m key n value ∷ of_error i (a ++ b)) (of_error i (a ++ b)) ≡ pick t (row index m key n value ∷ of_error i a) (of_error i a) ++ of_error i b
    choose true e = ap (λ (l : List Row). row index m key n value ∷ l) e
    choose false e = e

module _ (s : List ℕ) where
  -- a dictionary's attributes, then what follows
  dictionary_rows : (j next : ℕ) (fs : List ℕ) (more : Parts) → seen_rows s j next (dictionary s fs more) ≡ entries_of j s fs ++ seen_rows s j next more
  unfolding seen_rows dictionary entries_of
  dictionary_rows j next [] more = refl
  dictionary_rows j next (f ∷ fs) more = choose (number_at s f =? 1) (dictionary_rows j next fs more)
    where
      choose : (t : Bool) → seen_rows s j next (dictionary s fs more) ≡ entries_of j s fs ++ seen_rows s j next more
          → seen_rows s j next (pick t (attribute_of s (inside attribute_fields s f) (dictionary s fs more)) (dictionary s fs more))
          ≡ pick t (row_of j s (inside attribute_fields s f) ∷ entries_of j s fs) (entries_of j s fs) ++ seen_rows s j next more
      choose true e = ap (λ (l : List Row). row_of j s (inside attribute_fields s f) ∷ l) e
      choose false e = e

  -- they are all one error's
  entries_own : (j : ℕ) (fs : List ℕ) → of_error j (entries_of j s fs) ≡ entries_of j s fs
  unfolding entries_of of_error
  entries_own j [] = refl
  entries_own j (f ∷ fs) = choose (number_at s f =? 1) (entries_own j fs)
    where
      choose : (t : Bool) → of_error j (entries_of j s fs) ≡ entries_of j s fs
          → of_error j (pick t (row_of j s (inside attribute_fields s f) ∷ entries_of j s fs) (entries_of j s fs)) ≡ pick t (row_of j s (inside attribute_fields s f) ∷ entries_of j s fs) (entries_of j s fs)
      choose true e = rw (eq-eqb j j refl) (ap (λ (l : List Row). row_of j s (inside attribute_fields s f) ∷ l) e)
      choose false e = e

  entries_other : (j i : ℕ) (fs : List ℕ) → (i ≡ j → ⊥) → of_error i (entries_of j s fs) ≡ []
  unfolding entries_of of_error
  entries_other j i [] other = refl
  entries_other j i (f ∷ fs) other = choose (number_at s f =? 1) (entries_other j i fs other)
    where
      choose : (t : Bool) → of_error i (entries_of j s fs) ≡ [] → of_error i (pick t (row_of j s (inside attribute_fields s f) ∷ entries_of j s fs) (entries_of j s fs)) ≡ []
      choose true e = rw (ne_eqb j i (λ x. other (sym x))) e
      choose false e = e

  -- What the fields fs of the error number j hold, its inner errors numbered from `next` on and these their messages: its own rows,
  -- those of each inner error, and no other
  pub record Added (fs : List ℕ) (p : Parts) (ms : List (List ℕ)) : Type 0 where
    pub counted : error_count p ≡ length ms
    pub own : (j next : ℕ) → j < next → of_error j (seen_rows s j next p) ≡ dictionaries_of j s fs
    pub theirs : (j next k : ℕ) → j < next → k < length ms → of_error (next + k) (seen_rows s j next p) ≡ dictionaries_of (next + k) s (get_or ms k [])
    pub no_other : (j next i : ℕ) → (i ≡ j → ⊥) → (i < next) ⊎ (next + length ms ≤ i) → of_error i (seen_rows s j next p) ≡ []

  added_none : Added [] none []
  unfolding seen_rows of_error dictionaries_of error_count
  added_none = record { counted = refl; own = λ j next h. refl; theirs = λ j next k h below. absurd (omega arith); no_other = λ j next i other side. refl }

  module _ (at : ℕ) {fs : List ℕ} {p : Parts} {ms : List (List ℕ)} (added : Added fs p ms) where
    -- a field that holds no attribute of the error itself
    added_other : (number_at s at ≡ 3 → ⊥) → Added (at ∷ fs) p ms
    unfolding dictionaries_of
    added_other other = record { counted = added.counted; own = λ j next h. rw (ne_eqb (number_at s at) 3 other) (added.own j next h); theirs = added.theirs; no_other = added.no_other }

    added_dictionary : number_at s at ≡ 3 → Added (at ∷ fs) (dictionary s (inside dictionary_fields s at) p) ms
    unfolding dictionaries_of
    added_dictionary three =
        let gs : List ℕ = inside dictionary_fields s at in
        let parted : (i j next : ℕ) → of_error i (seen_rows s j next (dictionary s gs p)) ≡ of_error i (entries_of j s gs) ++ of_error i (seen_rows s j next p) = λ i j next. ap (of_error i) (dictionary_rows j next gs p) ∙ of_append i (entries_of j s gs) (seen_rows s j next p) in
        record {
          counted = dictionary_errors s gs p ∙ added.counted;
          own = λ j next h. rw (eq-eqb (number_at s at) 3 three) (parted j j next ∙ (λ k. entries_own j gs k ++ added.own j next h k));
          theirs = λ j next k h below. parted (next + k) j next ∙ (λ x. entries_other j (next + k) gs (λ e. omega arith) x ++ added.theirs j next k h below x);
          no_other = λ j next i other side. parted i j next ∙ (λ x. entries_other j i gs other x ++ added.no_other j next i other side x);
        }

    -- an inner error, itself of such fields
    module _ (code text n : ℕ) {gs : List ℕ} {held : Parts} {ls : List (List ℕ)} (inside-it : Added gs held ls) where
      parted : (i j next : ℕ) → of_error i (seen_rows s j next (inner code text n held p)) ≡ of_error i (seen_rows s next (next + 1) held) ++ of_error i (seen_rows s j (next + 1 + error_count held) p)
      unfolding seen_rows
      parted i j next = of_append i (seen_rows s next (next + 1) held) (seen_rows s j (next + 1 + error_count held) p)

      both : length (ls ++ ms) ≡ length ls + length ms
      both = length-append ls ms

      size : error_count held ≡ length ls
      size = inside-it.counted

      -- the inner error's own rows, and those inside it
      theirs_first : (j next : ℕ) → j < next → of_error next (seen_rows s j next (inner code text n held p)) ≡ dictionaries_of next s gs
      theirs_first j next h =
          parted next j next ∙ (λ x. inside-it.own next (next + 1) (omega arith) x ++ added.no_other j (next + 1 + error_count held) next (λ e. omega arith) (inl (omega arith)) x) ∙ append-nil (dictionaries_of next s gs)

      theirs_inside : (j next k : ℕ) → j < next → k < length ls → of_error (next + 1 + k) (seen_rows s j next (inner code text n held p)) ≡ dictionaries_of (next + 1 + k) s (get_or ls k [])
      theirs_inside j next k h below =
          parted (next + 1 + k) j next
          ∙ (λ x. inside-it.theirs next (next + 1) k (omega arith) below x ++ added.no_other j (next + 1 + error_count held) (next + 1 + k) (λ e. omega arith) (inl (omega (arith, size))) x)
          ∙ append-nil (dictionaries_of (next + 1 + k) s (get_or ls k []))

      theirs_behind : (j next k : ℕ) → j < next → k < length ms → of_error (next + 1 + error_count held + k) (seen_rows s j next (inner code text n held p)) ≡ dictionaries_of (next + 1 + error_count held + k) s (get_or ms k [])
      theirs_behind j next k h below =
          parted (next + 1 + error_count held + k) j next
          ∙ (λ x. inside-it.no_other next (next + 1) (next + 1 + error_count held + k) (λ e. omega arith) (inr (omega (arith, size))) x ++ added.theirs j (next + 1 + error_count held) k (omega arith) below x)

      theirs_all : (j next k : ℕ) → j < next → k < length (gs ∷ (ls ++ ms)) → of_error (next + k) (seen_rows s j next (inner code text n held p)) ≡ dictionaries_of (next + k) s (get_or (gs ∷ (ls ++ ms)) k [])
      theirs_all j next zero h below = rw (add-zero next) (theirs_first j next h)
      theirs_all j next (suc k) h below =
          ⊎_elim
          (λ (behind : length ls ≤ k).
          let place : next + 1 + error_count held + (k - length ls) ≡ next + suc k = omega (arith, size) in
          let index : length ls + (k - length ls) ≡ k = omega arith in
          let which : get_or ms (k - length ls) [] ≡ get_or (ls ++ ms) k [] = sym (get_or-append-add ls ms (k - length ls) []) ∙ ap (λ (x : ℕ). get_or (ls ++ ms) x []) index in
          rw (← place, ← which) (theirs_behind j next (k - length ls) h (omega (arith, both))))
          (λ (inside-them : k < length ls).
          let place : next + 1 + k ≡ next + suc k = omega arith in
          rw (← place, get_or-append ls ms [] k inside-them) (theirs_inside j next k h inside-them))
          (le_or_gt (length ls) k)

      none_else : (j next i : ℕ) → (i ≡ j → ⊥) → (i < next) ⊎ (next + length (gs ∷ (ls ++ ms)) ≤ i) → of_error i (seen_rows s j next (inner code text n held p)) ≡ []
      none_else j next i other (inl before) =
          parted i j next ∙ (λ x. inside-it.no_other next (next + 1) i (λ e. omega arith) (inl (omega arith)) x ++ added.no_other j (next + 1 + error_count held) i other (inl (omega arith)) x)
      none_else j next i other (inr behind) =
          parted i j next ∙ (λ x. inside-it.no_other next (next + 1) i (λ e. omega arith) (inr (omega (arith, both))) x ++ added.no_other j (next + 1 + error_count held) i other (inr (omega (arith, both, size))) x)

      added_inner : (number_at s at ≡ 3 → ⊥) → Added (at ∷ fs) (inner code text n held p) (gs ∷ (ls ++ ms))
      unfolding dictionaries_of error_count
      added_inner other =
          record {
            counted = omega (arith, both, size, added.counted);
            own = λ j next h. rw (ne_eqb (number_at s at) 3 other) (parted j j next ∙ (λ x. inside-it.no_other next (next + 1) j (λ e. omega arith) (inl (omega arith)) x ++ added.own j (next + 1 + error_count held) (omega arith) x));
            theirs = theirs_all;
            no_other = none_else;
          }

  -- all fields of an error, given what an inner error's field adds
  fields_added : (deeper : ℕ → Parts → Parts) (deeper-messages : ℕ → List (List ℕ))
      → ((at : ℕ) (fs : List ℕ) (p : Parts) (ms : List (List ℕ)) → number_at s at ≡ 4 → Added fs p ms → Added (at ∷ fs) (deeper at p) (deeper-messages at ++ ms))
      → (fs : List ℕ) → Added fs (parts_with deeper s fs) (messages_with deeper-messages s fs)
  unfolding parts_with field_parts messages_with
  fields_added deeper deeper-messages adds [] = added_none
  fields_added deeper deeper-messages adds (at ∷ fs) = go (fields_added deeper deeper-messages adds fs) (ℕ_discrete (number_at s at) 3) (ℕ_discrete (number_at s at) 4)
    where
      go : Added fs (parts_with deeper s fs) (messages_with deeper-messages s fs) → Dec (number_at s at ≡ 3) → Dec (number_at s at ≡ 4) → Added (at ∷ fs) (parts_with deeper s (at ∷ fs)) (messages_with deeper-messages s (at ∷ fs))
      go rest (yes three) d = rw (eq-eqb (number_at s at) 3 three, ne_eqb (number_at s at) 4 (λ e. omega arith)) (added_dictionary at rest three)
      go rest (no other) (yes four) = rw (ne_eqb (number_at s at) 3 other, eq-eqb (number_at s at) 4 four) (adds at fs (parts_with deeper s fs) (messages_with deeper-messages s fs) four rest)
      go rest (no other) (no others) = rw (ne_eqb (number_at s at) 3 other, ne_eqb (number_at s at) 4 others) (added_other at rest other)

  inner_added : (left at : ℕ) (fs : List ℕ) (p : Parts) (ms : List (List ℕ)) → number_at s at ≡ 4 → Added fs p ms → Added (at ∷ fs) (inner_part left s at p) (messages_in left s at ++ ms)
  unfolding inner_part messages_in
  inner_added zero at fs p ms four rest = added_other at rest (λ e. omega arith)
  inner_added (suc left) at fs p ms four rest =
      let gs : List ℕ = inside error_fields s at in
      added_inner at rest (code_of s gs) (place_of 2 s gs) (length_of 2 s gs) (fields_added (inner_part left s) (messages_in left s) (inner_added left) gs) (λ e. omega arith)

  abbrev all : List ℕ
  all = fields error_fields s 0 (length s)

  held_added : Added all (parts levels s all) (messages_with (messages_in levels s) s all)
  held_added = fields_added (inner_part levels s) (messages_in levels s) (inner_added levels) all

  tree_count : error_count (tree s) ≡ length (messages s)
  unfolding tree messages error_count
  tree_count = omega (arith, held_added.counted)

  tree_rows : (i : ℕ) → i < length (messages s) → of_error i (seen_rows s 0 0 (tree s)) ≡ dictionaries_of i s (get_or (messages s) i [])
  unfolding tree messages seen_rows
  tree_rows zero below = ap (of_error 0) (append-nil (seen_rows s 0 1 (parts levels s all))) ∙ held_added.own 0 1 (omega arith)
  tree_rows (suc i) below =
      let place : 1 + i ≡ suc i = omega arith in
      ap (of_error (suc i)) (append-nil (seen_rows s 0 1 (parts levels s all))) ∙ subst (λ (x : ℕ). of_error x (seen_rows s 0 1 (parts levels s all)) ≡ dictionaries_of x s (get_or (messages_with (messages_in levels s) s all) i [])) place (held_added.theirs 0 1 i (omega arith) (omega arith))

pub dictionaries_add_up : DictionariesAddUp
dictionaries_add_up s table rows table' rows' c decodes =
    let told = read_told s table rows table' rows' c decodes in
    let same : c.errors ≡ length (messages s) = told.0 ∙ tree_count s in
    (same, λ i below. ap (of_error i) told.3 ∙ tree_rows s i (omega arith))
