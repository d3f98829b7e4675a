-- Laws of the second walk over what errors hold. Assumes nothing.
use mathlib.Core.Path.{◌≡◌, refl, sym, ◌∙◌, ap}
use mathlib.Core.List.{List, [], ◌∷◌, ◌++◌, append-nil}
use Prim.Native.Nat.{ℕ, suc, ◌+◌, ◌-◌, ◌*◌, ◌%◌, ◌≤◌}
use native.Mathlib.Nat.{add-zero}
use native.Mathlib.Omega.{arith}
use borrow.Author.Tests.{ne_eqb}
use lib.ListN.{length, length-append}
use lib.Seq.{sets, length-sets}
use Rattle.field.specs.Field.{number_at}
use Rattle.error_tree.specs.Message.{error_fields, dictionary_fields, fields}
use Rattle.error_tree.specs.Tree.{Parts, none, inner, dictionary, field_parts, parts_with, inner_part, parts, error_count, attribute_count, error_words, attribute_words, code_of, place_of, length_of, levels, tree}
use Rattle.error_tree.specs.Statement.{Lies}
use Rattle.error_read.specs.Stages.{Scanned, dictionary_words, Stored, Fills, FillsAll, Room}
use Rattle.error_read.specs.declared.fill.Own.{Own}
use Rattle.error_read.specs.declared.fill.Filled.{Filled}
use Rattle.field.specs.declared.field.Field.{Field}
use Rattle.error_tree.proofs.TreeLaws.{dictionary_errors, tree_errors, tree_attributes}
use Rattle.error_read.proofs.TableLaws.{sets_append, length_error_words, length_attribute_words, dictionary_error_words, dictionary_words_lem, field_error_words, field_words}
use Rattle.error_read.proofs.FillLaws.{Storing, storing, stored_all, has_room, stored_on}
use Rattle.error_tree.specs.Reading.{attribute_entry, error_entry}

-- what is still to come of an error's fields
module _ (left depth index first begin : ℕ) (s : List ℕ) (start end : ℕ) (errors₀ attributes₀ : List ℕ) where
  pub record Holding (at next k : ℕ) (errors attributes : List ℕ) : Type 0 where
    pub to : at ≤ end
    pub errors_left : Storing errors₀ errors (error_entry * first) (error_entry * next) (error_words depth (parts left s (fields error_fields s start end))) (error_words depth (parts left s (fields error_fields s at end)))
    pub attributes_left : Storing attributes₀ attributes begin k (attribute_words index first (parts left s (fields error_fields s start end))) (attribute_words index next (parts left s (fields error_fields s at end)))
    pub next_left : next + error_count (parts left s (fields error_fields s at end)) ≡ first + error_count (parts left s (fields error_fields s start end))

  pub held_begin : start ≤ end → Holding start first begin errors₀ attributes₀
  held_begin h = record { to = h; errors_left = storing _ _ _; attributes_left = storing _ _ _; next_left = refl }

module _ {left depth index first begin : ℕ} {s : List ℕ} {start end : ℕ} {errors₀ attributes₀ : List ℕ} {at next k : ℕ} {errors attributes : List ℕ}
    (h : Holding left depth index first begin s start end errors₀ attributes₀ at next k errors attributes) where
  pub held_end : fields error_fields s at end ≡ [] → Fills (parts left s (fields error_fields s start end)) depth index first begin errors₀ attributes₀ errors attributes record { next = next; row = k }
  unfolding parts_with error_words attribute_words error_count
  held_end e =
      let p : Parts = parts left s (fields error_fields s start end) in
      let last : parts left s (fields error_fields s at end) ≡ none = rw e in
      let row : k ≡ begin + length (attribute_words index first p) = (stored_all h.attributes_left (ap (attribute_words index next) last)).1 in
      let size : length (attribute_words index first p) ≡ attribute_entry * attribute_count p = length_attribute_words index first p in
      let count : next + 0 ≡ first + error_count p = rw e at h.next_left in
      record {
        errors_are = (stored_all h.errors_left (ap (error_words depth) last)).0;
        attributes_are = (stored_all h.attributes_left (ap (attribute_words index next) last)).0;
        next_is = omega arith;
        row_is = omega arith;
      }

  module _ (stop : ℕ) (e : fields error_fields s at end ≡ at ∷ fields error_fields s stop end) where
    part : Parts
    part = field_parts (inner_part left s) s at none

    rest : Parts
    rest = parts left s (fields error_fields s stop end)

    is_first : parts left s (fields error_fields s at end) ≡ field_parts (inner_part left s) s at rest
    unfolding parts_with rest
    is_first = rw e

    errors_split : error_words depth (parts left s (fields error_fields s at end)) ≡ error_words depth part ++ error_words depth rest
    unfolding part
    errors_split = ap (error_words depth) is_first ∙ field_error_words s left depth at rest

    attributes_split : attribute_words index next (parts left s (fields error_fields s at end)) ≡ attribute_words index next part ++ attribute_words index (next + error_count part) rest
    unfolding part
    attributes_split = ap (attribute_words index next) is_first ∙ field_words s left index next at rest

    pub held_room : Room (parts left s (fields error_fields s start end)) first begin errors₀ attributes₀ → Room (field_parts (inner_part left s) s at none) next k errors attributes
    unfolding part
    held_room room =
        let p : Parts = parts left s (fields error_fields s start end) in
        let e-all : length (error_words depth p) ≡ error_entry * error_count p = length_error_words depth p in
        let a-all : length (attribute_words index first p) ≡ attribute_entry * attribute_count p = length_attribute_words index first p in
        let e-one : length (error_words depth part) ≡ error_entry * error_count part = length_error_words depth part in
        let a_one : length (attribute_words index next part) ≡ attribute_entry * attribute_count part = length_attribute_words index next part in
        let e-fit : error_entry * (first + error_count p) ≤ length errors₀ = room.errors_fit in
        let a-fit : begin + attribute_entry * attribute_count p ≤ length attributes₀ = room.attributes_fit in
        let e-room : error_entry * next + length (error_words depth part) ≤ length errors = has_room h.errors_left (error_words depth part) (error_words depth rest) errors_split (omega arith) in
        let a-room : k + length (attribute_words index next part) ≤ length attributes = has_room h.attributes_left (attribute_words index next part) (attribute_words index (next + error_count part) rest) attributes_split (omega arith) in
        record { errors_fit = omega arith; attributes_fit = omega arith }

    pub held_on : stop ≤ end → (errors' attributes' : List ℕ) (r : Filled) → Fills (field_parts (inner_part left s) s at none) depth index next k errors attributes errors' attributes' r
        → Holding left depth index first begin s start end errors₀ attributes₀ stop r.next r.row errors' attributes'
    unfolding part rest
    held_on within errors' attributes' r fills =
        let e-one : length (error_words depth part) ≡ error_entry * error_count part = length_error_words depth part in
        let a_one : length (attribute_words index next part) ≡ attribute_entry * attribute_count part = length_attribute_words index next part in
        let next_is : r.next ≡ next + error_count part = fills.next_is in
        let e-at : length (error_words depth (parts left s (fields error_fields s at end))) ≡ error_entry * error_count (parts left s (fields error_fields s at end)) = length_error_words depth (parts left s (fields error_fields s at end)) in
        let e-rest : length (error_words depth rest) ≡ error_entry * error_count rest = length_error_words depth rest in
        let e-split : length (error_words depth (parts left s (fields error_fields s at end))) ≡ length (error_words depth part) + length (error_words depth rest) = ap length errors_split ∙ length-append (error_words depth part) (error_words depth rest) in
        let was : next + error_count (parts left s (fields error_fields s at end)) ≡ first + error_count (parts left s (fields error_fields s start end)) = h.next_left in
        let row_is : r.row ≡ k + attribute_entry * attribute_count part = fills.row_is in
        record {
          to = within;
          errors_left = stored_on h.errors_left (error_words depth part) (error_words depth rest) errors_split errors' (error_entry * r.next) fills.errors_are (omega arith);
          attributes_left = rw next_is (stored_on h.attributes_left (attribute_words index next part) (attribute_words index (next + error_count part) rest) attributes_split attributes' r.row fills.attributes_are (omega arith));
          next_left = omega arith;
        }

-- Nothing is added
pub fills_none : (p : Parts) → p ≡ none → (depth index next k : ℕ) (errors attributes : List ℕ) → Fills p depth index next k errors attributes errors attributes record { next = next; row = k }
unfolding error_words attribute_words error_count attribute_count
fills_none p e depth index next k errors attributes =
    rw e record { errors_are = refl; attributes_are = refl; next_is = sym (add-zero next); row_is = omega arith }

module _ (s : List ℕ) (at : ℕ) (f : Field) (lies : Lies s at f) (left : ℕ) where
  field_none : (f.number ≡ 3 → ⊥) → (f.number ≡ 4 → ⊥) → field_parts (inner_part left s) s at none ≡ none
  unfolding field_parts
  field_none three four = rw (ne_eqb (number_at s at) 3 (λ e. three (lies.0 ∙ e)), ne_eqb (number_at s at) 4 (λ e. four (lies.0 ∙ e)))

  field_deep : f.number ≡ 4 → left ≡ 0 → field_parts (inner_part left s) s at none ≡ none
  unfolding field_parts inner_part
  field_deep four bottom = rw (sym lies.0 ∙ four, bottom)

  field_dictionary : f.number ≡ 3 → field_parts (inner_part left s) s at none ≡ dictionary s (fields dictionary_fields s f.content f.stop) none
  unfolding field_parts
  field_dictionary three = rw (sym lies.0 ∙ three, lies.1, lies.2)

  abbrev InnerIs : Type 0
  InnerIs =
      let fs = fields error_fields s f.content f.stop in
      field_parts (inner_part left s) s at none ≡ inner (code_of s fs) (place_of 2 s fs) (length_of 2 s fs) (parts (left - 1) s fs) none

  field_inner : f.number ≡ 4 → (left ≡ 0 → ⊥) → InnerIs
  unfolding field_parts inner_part
  field_inner four some =
      let one : left ≡ suc (left - 1) = omega arith in
      ap (λ (l : ℕ). field_parts (inner_part l s) s at none) one ∙ rw (sym lies.0 ∙ four, lies.1, lies.2)

  module _ (depth index next k : ℕ) (errors attributes : List ℕ) where
    pub inside_skips : (f.number ≡ 3 → ⊥) → (f.number ≡ 4 → ⊥) → Fills (field_parts (inner_part left s) s at none) depth index next k errors attributes errors attributes record { next = next; row = k }
    inside_skips three four = fills_none _ (field_none three four) depth index next k errors attributes

    pub inside_no_deeper : f.number ≡ 4 → left ≡ 0 → Fills (field_parts (inner_part left s) s at none) depth index next k errors attributes errors attributes record { next = next; row = k }
    inside_no_deeper four bottom = fills_none _ (field_deep four bottom) depth index next k errors attributes

    module _ (room : Room (field_parts (inner_part left s) s at none) next k errors attributes) where
      -- a dictionary
      module _ (three : f.number ≡ 3) where
        words : List ℕ
        words = dictionary_words index s (fields dictionary_fields s f.content f.stop)

        words_are : attribute_words index next (field_parts (inner_part left s) s at none) ≡ words
        unfolding words attribute_words
        words_are = ap (attribute_words index next) (field_dictionary three) ∙ dictionary_words_lem index next s (fields dictionary_fields s f.content f.stop) none ∙ append-nil words

        words_count : length words ≡ attribute_entry * attribute_count (field_parts (inner_part left s) s at none)
        words_count = ap length (sym words_are) ∙ length_attribute_words index next (field_parts (inner_part left s) s at none)

        pub inside_words_fit : k + length (dictionary_words index s (fields dictionary_fields s f.content f.stop)) ≤ length attributes
        unfolding words
        inside_words_fit =
            let fit : k + attribute_entry * attribute_count (field_parts (inner_part left s) s at none) ≤ length attributes = room.attributes_fit in
            omega (arith, words_count)

        pub inside_stores : (attributes' : List ℕ) (row : ℕ) → Stored (dictionary_words index s (fields dictionary_fields s f.content f.stop)) attributes k attributes' row
            → Fills (field_parts (inner_part left s) s at none) depth index next k errors attributes errors attributes' record { next = next; row = row }
        unfolding words error_words error_count
        inside_stores attributes' row st =
            record {
              errors_are = rw (field_dictionary three, dictionary_error_words depth s (fields dictionary_fields s f.content f.stop) none);
              attributes_are = st.0 ∙ ap (sets attributes k) (sym words_are);
              next_is = rw (field_dictionary three, dictionary_errors s (fields dictionary_fields s f.content f.stop) none) (sym (add-zero next));
              row_is = let there : row ≡ k + length words = st.1 in omega (arith, words_count);
            }

      -- an inner error
      module _ (four : f.number ≡ 4) (some : left ≡ 0 → ⊥) where
        fs : List ℕ
        fs = fields error_fields s f.content f.stop

        pub inside_entry_fits : error_entry * (next + 1) ≤ length errors
        unfolding error_count
        inside_entry_fits =
            let fit : error_entry * (next + error_count (field_parts (inner_part left s) s at none)) ≤ length errors = room.errors_fit in
            let fit' : error_entry * (next + (1 + error_count (parts (left - 1) s (fields error_fields s f.content f.stop)) + 0)) ≤ length errors = rw (field_inner four some) at fit in
            omega arith

        module _ (own : Own) (scan : Scanned s (fields error_fields s f.content f.stop) own) (errors₁ : List ℕ)
            (put : errors₁ ≡ sets errors (error_entry * next) (own.value1 % 0x1_0000_0000 ∷ depth ∷ own.place2 ∷ own.value2 ∷ [])) where
          pub inside_room : Room (parts (left - 1) s (fields error_fields s f.content f.stop)) (next + 1) k errors₁ attributes
          unfolding error_count attribute_count
          inside_room =
              let p : Parts = parts (left - 1) s (fields error_fields s f.content f.stop) in
              let fit : error_entry * (next + (1 + error_count p + 0)) ≤ length errors = rw (field_inner four some) at room.errors_fit in
              let fit' : k + attribute_entry * (attribute_count p + 0) ≤ length attributes = rw (field_inner four some) at room.attributes_fit in
              let same : length errors₁ ≡ length errors = ap length put ∙ length-sets errors (error_entry * next) (own.value1 % 0x1_0000_0000 ∷ depth ∷ own.place2 ∷ own.value2 ∷ []) in
              record { errors_fit = omega arith; attributes_fit = omega arith }

          pub inside_fills : (errors' attributes' : List ℕ) (r : Filled)
              → Fills (parts (left - 1) s (fields error_fields s f.content f.stop)) (depth + 1) next (next + 1) k errors₁ attributes errors' attributes' r
              → Fills (field_parts (inner_part left s) s at none) depth index next k errors attributes errors' attributes' r
          unfolding error_words attribute_words error_count attribute_count
          inside_fills errors' attributes' r fills =
              let p : Parts = parts (left - 1) s (fields error_fields s f.content f.stop) in
              let head : List ℕ = own.value1 % 0x1_0000_0000 ∷ depth ∷ own.place2 ∷ own.value2 ∷ [] in
              let four-on : error_entry * (next + 1) ≡ error_entry * next + length head = omega arith in
              let next_is : r.next ≡ next + 1 + error_count p = fills.next_is in
              let row_is : r.row ≡ k + attribute_entry * attribute_count p = fills.row_is in
              let gs : List ℕ = fields error_fields s f.content f.stop in
              let ws : List ℕ = error_words (depth + 1) p in
              let head-is : head ++ ws ≡ code_of s gs ∷ depth ∷ place_of 2 s gs ∷ length_of 2 s gs ∷ (ws ++ []) = rw (scan.value1, scan.place2, scan.value2, append-nil) in
              let joined : errors' ≡ sets errors (error_entry * next) (head ++ ws) =
              fills.errors_are ∙ ap (λ (l : List ℕ). sets l (error_entry * (next + 1)) ws) put ∙ ap (λ (n : ℕ). sets (sets errors (error_entry * next) head) n ws) four-on ∙ sets_append errors (error_entry * next) head ws in
              rw (field_inner four some) record {
                errors_are = joined ∙ ap (sets errors (error_entry * next)) head-is;
                attributes_are = fills.attributes_are ∙ ap (sets attributes k) (sym (append-nil (attribute_words next (next + 1) p)));
                next_is = omega arith;
                row_is = omega arith;
              }

-- The outermost error: its entry, then what it holds

module _ (s : List ℕ) where
  whole : Parts
  whole = parts levels s (fields error_fields s 0 (length s))

  module _ (errors attributes : List ℕ) (room : Room (tree s) 0 0 errors attributes) where
    pub root_fits : error_entry * (0 + 1) ≤ length errors
    root_fits = omega (arith, room.errors_fit, tree_errors s)

    module _ (own : Own) (scan : Scanned s (fields error_fields s 0 (length s)) own) (errors₁ : List ℕ)
        (put : errors₁ ≡ sets errors (error_entry * 0) (own.value1 % 0x1_0000_0000 ∷ 1 ∷ own.place2 ∷ own.value2 ∷ [])) where
      pub root_room : Room (parts levels s (fields error_fields s 0 (length s))) 1 0 errors₁ attributes
      root_room =
          let same : length errors₁ ≡ length errors = ap length put ∙ length-sets errors 0 (own.value1 % 0x1_0000_0000 ∷ 1 ∷ own.place2 ∷ own.value2 ∷ []) in
          record { errors_fit = omega (arith, room.errors_fit, tree_errors s); attributes_fit = omega (arith, room.attributes_fit, tree_attributes s) }

      pub root_fills : (errors' attributes' : List ℕ) (r : Filled)
          → Fills (parts levels s (fields error_fields s 0 (length s))) 2 0 1 0 errors₁ attributes errors' attributes' r → FillsAll s errors attributes errors' attributes'
      unfolding tree error_words attribute_words
      root_fills errors' attributes' r fills =
          let gs : List ℕ = fields error_fields s 0 (length s) in
          let ws : List ℕ = error_words 2 (parts levels s gs) in
          let head : List ℕ = own.value1 % 0x1_0000_0000 ∷ 1 ∷ own.place2 ∷ own.value2 ∷ [] in
          let head-is : head ++ ws ≡ code_of s gs ∷ 1 ∷ place_of 2 s gs ∷ length_of 2 s gs ∷ (ws ++ []) = rw (scan.value1, scan.place2, scan.value2, append-nil) in
          let joined : errors' ≡ sets errors 0 (head ++ ws) = fills.errors_are ∙ ap (λ (l : List ℕ). sets l 4 ws) put ∙ sets_append errors 0 head ws in
          (joined ∙ ap (sets errors 0) head-is, fills.attributes_are ∙ ap (sets attributes 0) (sym (append-nil (attribute_words 0 1 (parts levels s gs)))))
