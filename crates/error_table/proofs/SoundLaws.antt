-- What sound tables say of each entry. Assumes nothing.
use mathlib.Core.Path.{◌≡◌, refl}
use mathlib.Core.Bool.{Bool, true, false, ◌||◌, not, true≢false}
use mathlib.Core.List.{List}
use Prim.Native.Nat.{ℕ, ◌+◌, ◌-◌, ◌<◌, ◌≤◌}
use native.Mathlib.Omega.{arith}
use borrow.Author.Tests.{ltb-true, ltb-false, eqb-true, ne_eqb}
use lib.ListN.{length}
use Rattle.words.specs.Decide.{◌<?◌, ◌=?◌}
use Rattle.error_table.specs.Table.{errors_in, attributes_in, code_in, depth_in, text_in, text_length_in, index_in, key_in, key_length_in, value_in, value_length_in, outside, deepest, bad_depth, bad_error, bad_attribute}
use Rattle.error_table.specs.Statement.{Sound}

or_left : (a b : Bool) → (a || b) ≡ false → a ≡ false
or_left true b h = h
or_left false b h = refl

or_right : (a b : Bool) → (a || b) ≡ false → b ≡ false
or_right true b h = absurd (true≢false h)
or_right false b h = h

not_false : (a : Bool) → not a ≡ false → a ≡ true
not_false true h = refl
not_false false h = absurd (true≢false h)

module _ {area errors attributes : List ℕ} (sound : Sound area errors attributes) where
  module _ (i : ℕ) (below : i < errors_in errors) where
    good : bad_error (length area) errors i ≡ false
    good = sound.good_error i below

    behind_code : (bad_depth errors i || outside (length area) (text_in errors i) (text_length_in errors i)) ≡ false
    unfolding bad_error
    behind_code = or_right (0xffff_ffff <? code_in errors i) _ good

    pub code_fits : code_in errors i ≤ 0xffff_ffff
    unfolding bad_error
    code_fits = ltb-false 0xffff_ffff (code_in errors i) (or_left (0xffff_ffff <? code_in errors i) _ good)

    pub text_inside : text_in errors i + text_length_in errors i ≤ length area
    text_inside = ltb-false (length area) (text_in errors i + text_length_in errors i) (or_right (bad_depth errors i) _ behind_code)

    pub depth_good : 0 < i → (2 ≤ depth_in errors i) × (depth_in errors i ≤ deepest) × (depth_in errors i ≤ depth_in errors (i - 1) + 1)
    unfolding bad_depth
    depth_good later =
        let here : bad_depth errors i ≡ false = or_left (bad_depth errors i) _ behind_code in
        let three : (depth_in errors i <? 2 || (deepest <? depth_in errors i || (depth_in errors (i - 1) + 1) <? depth_in errors i)) ≡ false = rw (ne_eqb i 0 (λ z. omega arith)) at here in
        let two : (deepest <? depth_in errors i || (depth_in errors (i - 1) + 1) <? depth_in errors i) ≡ false = or_right (depth_in errors i <? 2) _ three in (
          ltb-false (depth_in errors i) 2 (or_left (depth_in errors i <? 2) _ three),
          ltb-false deepest (depth_in errors i) (or_left (deepest <? depth_in errors i) _ two),
          ltb-false (depth_in errors (i - 1) + 1) (depth_in errors i) (or_right (deepest <? depth_in errors i) _ two),
        )

  -- the first error is the outermost
  pub depth_first : depth_in errors 0 ≡ 1
  unfolding bad_depth
  depth_first =
      let here : bad_depth errors 0 ≡ false = or_left (bad_depth errors 0) _ (behind_code 0 sound.some) in
      eqb-true (depth_in errors 0) 1 (not_false (depth_in errors 0 =? 1) here)

  module _ (k : ℕ) (below : k < attributes_in attributes) where
    good_row : bad_attribute (length area) (errors_in errors) attributes k ≡ false
    good_row = sound.good_attribute k below

    behind_index : (outside (length area) (key_in attributes k) (key_length_in attributes k) || outside (length area) (value_in attributes k) (value_length_in attributes k)) ≡ false
    unfolding bad_attribute
    behind_index = or_right (not (index_in attributes k <? errors_in errors)) _ good_row

    pub index_below : index_in attributes k < errors_in errors
    unfolding bad_attribute
    index_below = ltb-true (index_in attributes k) (errors_in errors) (not_false _ (or_left (not (index_in attributes k <? errors_in errors)) _ good_row))

    pub key_inside : key_in attributes k + key_length_in attributes k ≤ length area
    key_inside = ltb-false (length area) (key_in attributes k + key_length_in attributes k) (or_left (outside (length area) (key_in attributes k) (key_length_in attributes k)) _ behind_index)

    pub value_inside : value_in attributes k + value_length_in attributes k ≤ length area
    value_inside = ltb-false (length area) (value_in attributes k + value_length_in attributes k) (or_right (outside (length area) (key_in attributes k) (key_length_in attributes k)) _ behind_index)
