-- Laws of the walk over the entries from the last to the first: i of them are still to come. Assumes nothing.
use mathlib.Core.Path.{◌≡◌, refl, sym, ◌∙◌, ap}
use mathlib.Core.Bool.{Bool}
use mathlib.Core.List.{List, ◌++◌}
use Prim.Native.Nat.{ℕ, ◌+◌, ◌*◌, ◌-◌, ◌<◌, ◌≤◌}
use native.Mathlib.Omega.{arith}
use lib.ListN.{length, get_or, set, replicate, length-append}
use Rattle.words.specs.Decide.{pick}
use Rattle.error_tree.specs.Reading.{error_entry}
use Rattle.error_table.specs.Table.{errors_in, depth_in, attributes_in}
use Rattle.error_table.specs.Statement.{Sound}
use Rattle.error_write.specs.Written.{all_rows, own_bytes, inners_bytes, error_bytes}
use Rattle.error_write.specs.Writing.{capped, needed}
use Rattle.error_write.specs.Stages.{TellsSorted, Pending, Runs, delimited_size, entries_size, own_size}
use Rattle.error_write.proofs.CappedLaws.{capped_add}
use Rattle.error_write.proofs.RowLaws.{pending_begin}
use Rattle.error_write.proofs.LengthLaws.{own_capped}
use Rattle.error_write.proofs.InnersLaws.{inners, Sums, sums_begin, depth_low, body_size, sum_size, sums_on}

pub record Measuring (area errors attributes : List ℕ) (sorted : Bool) (till : ℕ) (sums : List ℕ) (i : ℕ) : Type 0 where
  pub low : 1 ≤ i
  pub high : i ≤ errors_in errors
  pub pending : Pending attributes sorted i till
  pub sums_are : Sums area errors attributes sums i

module _ {area errors attributes : List ℕ} (sound : Sound area errors attributes) where
  pub measuring_begin : {sorted : Bool} → TellsSorted attributes sorted → Measuring area errors attributes sorted (attributes_in attributes) (replicate 18 0) (errors_in errors)
  measuring_begin {sorted} tells =
      record {
        low = omega (arith, sound.some);
        high = omega arith;
        pending = pending_begin attributes sorted (errors_in errors) (attributes_in attributes) tells refl;
        sums_are = sums_begin area errors attributes (errors_in errors) (omega arith);
      }

  module _ {sorted : Bool} {till : ℕ} {sums : List ℕ} {i : ℕ} (m : Measuring area errors attributes sorted till sums i) where
    module _ (more : 1 < i) where
      same : i - 1 + 1 ≡ i
      same = omega arith

      below : i - 1 < errors_in errors
      below = omega (arith, m.high)

      later : 0 < i - 1
      later = omega arith

      sums_next : Sums area errors attributes sums (i - 1 + 1)
      sums_next = rw same m.sums_are

      pub entry_pending : Pending attributes sorted (i - 1 + 1) till
      entry_pending = rw same m.pending

      pub entry_fits : error_entry * (i - 1 + 1) ≤ length errors
      entry_fits = omega (arith, m.high)

      pub depth_fits : depth_in errors (i - 1) + 1 < 18
      depth_fits = (depth_low sound (i - 1) later below sums_next).1

      pub sums_long : length sums ≡ 18
      sums_long = m.sums_are.long

      module _ {entries own body : ℕ} (entries-are : entries ≡ capped (entries_size attributes (all_rows attributes (i - 1)))) (own_is : own ≡ capped (own_size errors (i - 1) entries))
          (body_is : body ≡ capped (own + get_or sums (depth_in errors (i - 1) + 1) 0)) where
        pub own_whole : own ≡ capped (length (own_bytes area errors attributes (i - 1)))
        own_whole = own_capped sound (i - 1) below entries-are own_is

        pub body_whole : body ≡ capped (length (own_bytes area errors attributes (i - 1) ++ inners area errors attributes (depth_in errors (i - 1) + 1) (i - 1 + 1)))
        body_whole = body_size sound (i - 1) later below sums_next own_whole body_is

        pub measuring_on : {from till' field sum : ℕ} → Runs attributes sorted (i - 1) from till → till' ≡ pick sorted from till → field ≡ capped (delimited_size body) → sum ≡ capped (field + get_or sums (depth_in errors (i - 1)) 0)
            → Measuring area errors attributes sorted till' (set (set sums (depth_in errors (i - 1) + 1) 0) (depth_in errors (i - 1)) sum) (i - 1)
        measuring_on {from} {till'} {field} {sum} runs is field_is sum_is_lem =
            record {
              low = omega arith;
              high = omega (arith, m.high);
              pending = rw is runs.1;
              sums_are = sums_on sound (i - 1) later below sums_next own_whole body_is (sum_size sound (i - 1) later below sums_next own_whole body_is field_is sum_is_lem);
            }

    -- only the outermost error is left
    module _ (last : i ≤ 1) where
      one : i ≡ 1
      one = omega (arith, m.low)

      pub root_pending : Pending attributes sorted (0 + 1) till
      root_pending = rw one at m.pending

      pub root_fits : error_entry * (0 + 1) ≤ length errors
      root_fits = omega (arith, sound.some)

      pub root_long : length sums ≡ 18
      root_long = m.sums_are.long

      pub measured : {entries own r : ℕ} → entries ≡ capped (entries_size attributes (all_rows attributes 0)) → own ≡ capped (own_size errors 0 entries) → r ≡ capped (own + get_or sums 2 0) → r ≡ needed area errors attributes
      unfolding error_bytes inners
      measured {entries} {own} {r} entries-are own_is r-is =
          let a : List ℕ = own_bytes area errors attributes 0 in
          let ws : List ℕ = inners_bytes area errors attributes 2 (errors_in errors - 1) 1 in
          let whole : own ≡ capped (length a) = own_capped sound 0 sound.some entries-are own_is in
          let held : get_or sums 2 0 ≡ capped (length ws) = m.sums_are.each 2 (omega arith) (omega arith) ∙ ap (λ (k : ℕ). capped (length (inners area errors attributes 2 k))) one in
          r-is ∙ rw (whole, held) (capped_add (length a) (length ws)) ∙ ap capped (sym (length-append a ws))
