-- Laws of 18: one for each way in which a check ends. Assumes nothing.
use mathlib.Core.Path.{◌≡◌, sym, ◌∙◌, ap}
use mathlib.Core.Bool.{Bool, true, false}
use mathlib.Core.List.{List}
use Prim.Native.Nat.{ℕ, ◌+◌, ◌-◌, ◌%◌, ◌<◌, ◌≤◌}
use native.Mathlib.Nat.{sub-zero}
use native.Mathlib.Omega.{arith}
use borrow.Author.Tests.{lt-ltb, le-ltb, eq-eqb, ne_eqb}
use lib.ListN.{length}
use mathlib.Core.Logic.{⊎_elim}
use Rattle.words.specs.Decide.{first, first_from, ◌<?◌, ◌≠?◌}
use Rattle.words.proofs.DecideLaws.{first_none, first_miss, first_hit, first_end, le_or_gt}
use Rattle.error_tree.specs.Reading.{error_entry, attribute_entry}
use Rattle.error_tree.specs.declared.refusal.ErrorRefusal.TheVariants.{BadTable}
use Rattle.error_table.specs.Table.{errors_in, attributes_in, code_in, depth_in, text_in, text_length_in, index_in, key_in, key_length_in, value_in, value_length_in, outside, deepest, bad_depth, bad_error, bad_attribute, first_bad_error, first_bad_attribute, table_order}
use Rattle.error_table.specs.Stages.{FindsFirst}
use Rattle.error_table.specs.Statement.{ChecksTables}
use Rattle.std.specs.declared.option.Option.TheVariants.{Some, None}
use Rattle.std.specs.declared.result.Result.TheVariants.{Ok, Err}

-- two tests that say the same
same_test : (a b c d : ℕ) → (a < b → c < d) → (b ≤ a → d ≤ c) → (a <? b) ≡ (c <? d)
same_test a b c d f g =
    ⊎_elim (λ (h : b ≤ a). le-ltb a b h ∙ sym (le-ltb c d (g h))) (λ (h : a < b). lt-ltb a b h ∙ sym (lt-ltb c d (f h))) (le_or_gt b a)

-- A depth

module _ (errors : List ℕ) (i : ℕ) where
  pub depth_first : i ≡ 0 → (depth_in errors i ≠? 1) ≡ bad_depth errors i
  unfolding bad_depth
  depth_first z = rw (eq-eqb i 0 z)

  module _ (later : i ≡ 0 → ⊥) where
    pub depth_low : depth_in errors i < 2 → true ≡ bad_depth errors i
    unfolding bad_depth
    depth_low h = rw (ne_eqb i 0 later, lt-ltb (depth_in errors i) 2 h)

    module _ (low : 2 ≤ depth_in errors i) where
      pub depth_high : deepest < depth_in errors i → true ≡ bad_depth errors i
      unfolding bad_depth
      depth_high h = rw (ne_eqb i 0 later, le-ltb (depth_in errors i) 2 low, lt-ltb deepest (depth_in errors i) h)

      pub depth_jumps : depth_in errors i ≤ deepest → (depth_in errors (i - 1) <? (depth_in errors i - 1)) ≡ bad_depth errors i
      unfolding bad_depth
      depth_jumps high =
          rw (ne_eqb i 0 later, le-ltb (depth_in errors i) 2 low, le-ltb deepest (depth_in errors i) high)
          (same_test (depth_in errors (i - 1)) (depth_in errors i - 1) (depth_in errors (i - 1) + 1) (depth_in errors i) (λ h. omega arith) (λ h. omega arith))

-- An error's entry

module _ (size : ℕ) (errors : List ℕ) (i : ℕ) where
  pub code_wide : 0xffff_ffff < code_in errors i → true ≡ bad_error size errors i
  unfolding bad_error
  code_wide h = rw (lt-ltb 0xffff_ffff (code_in errors i) h)

  module _ (low : code_in errors i ≤ 0xffff_ffff) where
    pub error_deep : (b : Bool) → b ≡ bad_depth errors i → b ≡ true → true ≡ bad_error size errors i
    unfolding bad_error
    error_deep b e h = rw (le-ltb 0xffff_ffff (code_in errors i) low, ← e, h)

    pub error_text : (b : Bool) → b ≡ bad_depth errors i → b ≡ false → (r : Bool) → r ≡ outside size (text_in errors i) (text_length_in errors i) → r ≡ bad_error size errors i
    unfolding bad_error
    error_text b e h r out = rw (le-ltb 0xffff_ffff (code_in errors i) low, ← e, h) out

-- An attribute's entry

module _ (size errors : ℕ) (attributes : List ℕ) (k : ℕ) where
  pub index_high : errors ≤ index_in attributes k → true ≡ bad_attribute size errors attributes k
  unfolding bad_attribute
  index_high h = rw (le-ltb (index_in attributes k) errors h)

  module _ (low : index_in attributes k < errors) where
    pub key_outside : (b : Bool) → b ≡ outside size (key_in attributes k) (key_length_in attributes k) → b ≡ true → true ≡ bad_attribute size errors attributes k
    unfolding bad_attribute
    key_outside b e h = rw (lt-ltb (index_in attributes k) errors low, ← e, h)

    pub value_outside : (b : Bool) → b ≡ outside size (key_in attributes k) (key_length_in attributes k) → b ≡ false
        → (r : Bool) → r ≡ outside size (value_in attributes k) (value_length_in attributes k) → r ≡ bad_attribute size errors attributes k
    unfolding bad_attribute
    value_outside b e h r out = rw (lt-ltb (index_in attributes k) errors low, ← e, h) out

-- where there is none
pub found_none : (n found : ℕ) → FindsFirst n found None → n ≤ found
found_none n found none = let e : found ≡ n = none in omega arith

-- A search for the first entry that fails a test, n of them; those before i pass it
module _ (test : ℕ → Bool) (n : ℕ) where
  abbrev pub Seeking : ℕ → Type 0
  Seeking i = (i ≤ n) × (first_from test i (n - i) ≡ first test n)

  pub seek_begin : Seeking 0
  seek_begin = (omega arith, ap (first_from test 0) (sub-zero n))

  pub seek_end : (i : ℕ) → Seeking i → n ≤ i → FindsFirst n (first test n) None
  seek_end i seeking h =
      let same : i ≡ n = omega arith in
      sym (same ∙ sym (first_end test n) ∙ ap (λ (k : ℕ). first_from test k (n - k)) (sym same) ∙ seeking.1) ∙ same

  module _ (i : ℕ) (seeking : Seeking i) (more : i < n) (b : Bool) (is : b ≡ test i) where
    pub seek_hit : b ≡ true → FindsFirst n (first test n) (Some i)
    seek_hit h = (sym (first_hit test i n more (sym is ∙ h)) ∙ seeking.1, more)

    pub seek_miss : b ≡ false → Seeking (i + 1)
    seek_miss h = (omega arith, sym (first_miss test i n more (sym is ∙ h)) ∙ seeking.1)

-- The order

module _ (area errors attributes : List ℕ) where
  pub errors_cut : (length errors % error_entry ≡ 0 → ⊥) → ChecksTables area errors attributes (Err (BadTable 1 (errors_in errors)))
  unfolding table_order
  errors_cut h rest = rw (ne_eqb (length errors % error_entry) 0 h)

  module _ (whole : length errors % error_entry ≡ 0) where
    pub attributes_cut : (length attributes % attribute_entry ≡ 0 → ⊥) → ChecksTables area errors attributes (Err (BadTable 1 (attributes_in attributes)))
    unfolding table_order
    attributes_cut h rest = rw (eq-eqb (length errors % error_entry) 0 whole, ne_eqb (length attributes % attribute_entry) 0 h)

    module _ (whole' : length attributes % attribute_entry ≡ 0) where
      pub no_error : errors_in errors ≡ 0 → ChecksTables area errors attributes (Err (BadTable 2 0))
      unfolding table_order
      no_error h rest = rw (eq-eqb (length errors % error_entry) 0 whole, eq-eqb (length attributes % attribute_entry) 0 whole', eq-eqb (errors_in errors) 0 h)

      module _ (some : errors_in errors ≡ 0 → ⊥) where
        pub error_bad : (bad : ℕ) → FindsFirst (errors_in errors) (first_bad_error (length area) errors) (Some bad) → ChecksTables area errors attributes (Err (BadTable 3 bad))
        unfolding table_order
        error_bad bad is rest =
            rw (eq-eqb (length errors % error_entry) 0 whole, eq-eqb (length attributes % attribute_entry) 0 whole', ne_eqb (errors_in errors) 0 some, ← is.0, lt-ltb bad (errors_in errors) is.1)

        module _ (good : errors_in errors ≤ first_bad_error (length area) errors) where
          pub attribute_bad : (bad : ℕ) → FindsFirst (attributes_in attributes) (first_bad_attribute (length area) (errors_in errors) attributes) (Some bad) → ChecksTables area errors attributes (Err (BadTable 3 bad))
          unfolding table_order
          attribute_bad bad is rest =
              rw (eq-eqb (length errors % error_entry) 0 whole, eq-eqb (length attributes % attribute_entry) 0 whole', ne_eqb (errors_in errors) 0 some, le-ltb (first_bad_error (length area) errors) (errors_in errors) good, ← is.0, lt-ltb bad (attributes_in attributes) is.1)

          pub tables_pass : attributes_in attributes ≤ first_bad_attribute (length area) (errors_in errors) attributes → ChecksTables area errors attributes (Ok tt)
          unfolding table_order first_bad_error first_bad_attribute
          tables_pass good' = (
            record {
              whole_errors = omega arith;
              whole_attributes = omega arith;
              some = omega arith;
              good_error = λ i below. first_none (bad_error (length area) errors) 0 (errors_in errors) i (omega arith) (omega arith);
              good_attribute = λ k below. first_none (bad_attribute (length area) (errors_in errors) attributes) 0 (attributes_in attributes) k (omega arith) (omega arith);
            },
            λ rest. rw (eq-eqb (length errors % error_entry) 0 whole, eq-eqb (length attributes % attribute_entry) 0 whole', ne_eqb (errors_in errors) 0 some, le-ltb (first (bad_error (length area) errors) (errors_in errors)) (errors_in errors) good, le-ltb (first (bad_attribute (length area) (errors_in errors) attributes) (attributes_in attributes)) (attributes_in attributes) good'),
          )
