-- Laws of writing the entries from the last to the first, each before what stands behind it. Assumes nothing.
use mathlib.Core.Path.{◌≡◌, sym, ◌∙◌, ap, subst}
use mathlib.Core.Logic.{⊎_elim}
use mathlib.Core.Bool.{Bool}
use mathlib.Core.List.{List, ◌++◌}
use Prim.Native.Nat.{ℕ, zero, suc, ◌+◌, ◌-◌, ◌<◌, ◌≤◌}
use native.Mathlib.Omega.{arith}
use borrow.Author.Tests.{ne_eqb}
use Rattle.words.proofs.DecideLaws.{le_or_gt}
use lib.ListN.{length, get_or, set, replicate, length-append, length-drop}
use borrow.Rule.Slice.PartMut.{mid_of, put_mid}
use Rattle.words.specs.Buffer.{over}
use Rattle.words.specs.Decide.{pick}
use Rattle.words.proofs.LentLaws.{tail_is_drop}
use Rattle.varint.specs.Varint.{varint}
use Rattle.error_table.specs.Table.{errors_in, depth_in, attributes_in}
use Rattle.error_table.specs.Statement.{Sound}
use Rattle.error_write.specs.Written.{lead, all_rows, entries_bytes, own_bytes, error_bytes}
use Rattle.error_write.specs.Writing.{most_bytes, capped}
use Rattle.error_write.specs.Stages.{TellsSorted, Runs, Puts, delimited_size, entries_size, dictionary_size, own_size}
use Rattle.error_write.proofs.CappedLaws.{capped_small}
use Rattle.error_write.proofs.LengthLaws.{length_entries, length_own}
use Rattle.error_write.proofs.InnersLaws.{inners}
use Rattle.error_write.proofs.MeasureLaws.{Measuring, measuring_begin, own_whole, body_whole, measuring_on}
use Rattle.error_write.proofs.StackLaws.{stack, stack_end, stack_on, stack_inner, whole_is, Behind, behind_begin, behind_on, behind_end}

-- what stands of the output, and what is known of the entries still to come
pub record Going (area errors attributes : List ℕ) (sorted : Bool) (total : ℕ) (before now : List ℕ) (till : ℕ) (sums : List ℕ) (i at : ℕ) : Type 0 where
  pub measuring : Measuring area errors attributes sorted till sums i
  pub behind : Behind total before now at (stack area errors attributes 16 i)

module _ {area errors attributes : List ℕ} (sound : Sound area errors attributes) where
  abbrev head : ℕ → List ℕ
  head i = lead 0x22 (length (own_bytes area errors attributes i ++ inners area errors attributes (depth_in errors i + 1) (i + 1))) ++ own_bytes area errors attributes i

  stack_falls : (i : ℕ) → 0 < i → i < errors_in errors → length (stack area errors attributes 16 i) ≡ length (head i) + length (stack area errors attributes 16 (i + 1))
  stack_falls i later below = ap length (stack_on sound i later below) ∙ length-append (head i) (stack area errors attributes 16 (i + 1))

  stack_fits : (i : ℕ) → i < errors_in errors → length (stack area errors attributes 16 (i + 1)) ≤ length (stack area errors attributes 16 1)
  stack_fits zero h = omega arith
  stack_fits (suc i) h =
      let before : length (stack area errors attributes 16 (i + 1)) ≤ length (stack area errors attributes 16 1) = stack_fits i (omega arith) in
      let one : i + 1 ≡ suc i = omega arith in
      let same : length (stack area errors attributes 16 (i + 1)) ≡ length (stack area errors attributes 16 (suc i)) = ap (λ (k : ℕ). length (stack area errors attributes 16 k)) one in
      omega (arith, stack_falls (suc i) (omega arith) h)

  root_size : length (error_bytes area errors attributes) ≡ length (own_bytes area errors attributes 0) + length (stack area errors attributes 16 1)
  root_size = ap length (whole_is sound) ∙ length-append (own_bytes area errors attributes 0) (stack area errors attributes 16 1)

  -- a capped size of what fits is the size
  uncapped : {r : ℕ} (n : ℕ) → n ≤ most_bytes → r ≡ capped n → r ≡ n
  uncapped n h e = e ∙ capped_small n h

  entries_fit : (i : ℕ) → i < errors_in errors → entries_size attributes (all_rows attributes i) ≤ length (own_bytes area errors attributes i)
  entries_fit i h = ⊎_elim small (λ (some : 0 < entries_size attributes (all_rows attributes i)). let x : ℕ = entries_size attributes (all_rows attributes i) in let e : dictionary_size x ≡ delimited_size x = rw (ne_eqb x 0 (λ z. omega arith)) in omega (arith, length_own sound i h)) (le_or_gt (entries_size attributes (all_rows attributes i)) 0)
    where
      small : entries_size attributes (all_rows attributes i) ≤ 0 → entries_size attributes (all_rows attributes i) ≤ length (own_bytes area errors attributes i)
      small z = omega arith

  pub entries_true : (i : ℕ) → i < errors_in errors → length (own_bytes area errors attributes i) ≤ most_bytes → {entries : ℕ} → entries ≡ capped (entries_size attributes (all_rows attributes i)) → entries ≡ length (entries_bytes area attributes (all_rows attributes i))
  entries_true i h fits e = uncapped (entries_size attributes (all_rows attributes i)) (omega (arith, entries_fit i h)) e ∙ sym (length_entries sound i)

  module _ (total : ℕ) (before : List ℕ) (total_is : total ≡ length (error_bytes area errors attributes)) (room : total ≤ length before) (small : length before ≤ most_bytes) where
    pub going : {sorted : Bool} → TellsSorted attributes sorted → Going area errors attributes sorted total before before (attributes_in attributes) (replicate 18 0) (errors_in errors) total
    going tells = record { measuring = measuring_begin sound tells; behind = behind_begin total before (stack area errors attributes 16 (errors_in errors)) room (stack_end area errors attributes (errors_in errors) (omega arith)) }

    module _ {sorted : Bool} {now : List ℕ} {till : ℕ} {sums : List ℕ} {i at : ℕ} (g : Going area errors attributes sorted total before now till sums i at) where
      module _ (more : 1 < i) {entries own body v : ℕ} (entries-are : entries ≡ capped (entries_size attributes (all_rows attributes (i - 1)))) (own_is : own ≡ capped (own_size errors (i - 1) entries))
          (body_is : body ≡ capped (own + get_or sums (depth_in errors (i - 1) + 1) 0)) (v-is : v ≡ length (varint body)) where
        same : i - 1 + 1 ≡ i
        same = omega arith

        below : i - 1 < errors_in errors
        below = omega (arith, g.measuring.high)

        later : 0 < i - 1
        later = omega arith

        ws : List ℕ
        ws = own_bytes area errors attributes (i - 1) ++ inners area errors attributes (depth_in errors (i - 1) + 1) (i - 1 + 1)

        falls : length (stack area errors attributes 16 (i - 1)) ≡ length (head (i - 1)) + length (stack area errors attributes 16 (i - 1 + 1))
        falls = stack_falls (i - 1) later below

        prior : i - 1 - 1 + 1 ≡ i - 1
        prior = omega arith

        all_fits : length (stack area errors attributes 16 (i - 1)) ≤ total
        all_fits =
            let below_one : length (stack area errors attributes 16 (i - 1 - 1 + 1)) ≤ length (stack area errors attributes 16 1) = stack_fits (i - 1 - 1) (omega (arith, g.measuring.high)) in
            let e : length (stack area errors attributes 16 (i - 1 - 1 + 1)) ≡ length (stack area errors attributes 16 (i - 1)) = ap (λ (k : ℕ). length (stack area errors attributes 16 k)) prior in
            omega (arith, root_size)

        head_size : length (head (i - 1)) ≡ 1 + length (varint (length ws)) + length (own_bytes area errors attributes (i - 1))
        unfolding ws
        head_size = length-append (lead 0x22 (length ws)) (own_bytes area errors attributes (i - 1)) ∙ omega arith

        ws_fits : length ws ≤ most_bytes
        unfolding ws
        ws_fits =
            let both : length ws ≡ length (own_bytes area errors attributes (i - 1)) + length (inners area errors attributes (depth_in errors (i - 1) + 1) (i - 1 + 1)) = length-append (own_bytes area errors attributes (i - 1)) (inners area errors attributes (depth_in errors (i - 1) + 1) (i - 1 + 1)) in
            omega (arith, all_fits, falls, head_size, stack_inner sound (i - 1) later below)

        body_true : body ≡ length ws
        unfolding ws
        body_true = uncapped (length ws) ws_fits (body_whole sound g.measuring more entries-are own_is body_is)

        pub own_true : own ≡ length (own_bytes area errors attributes (i - 1))
        own_true = uncapped (length (own_bytes area errors attributes (i - 1))) (omega (arith, all_fits, falls, head_size)) (own_whole sound g.measuring more entries-are own_is body_is)

        pub entries_right : entries ≡ length (entries_bytes area attributes (all_rows attributes (i - 1)))
        entries_right = entries_true (i - 1) below (omega (arith, all_fits, falls, head_size)) entries-are

        v_true : v ≡ length (varint (length ws))
        v_true = v-is ∙ ap (λ (n : ℕ). length (varint n)) body_true

        reached : at + length (stack area errors attributes 16 (i - 1 + 1)) ≡ total
        reached = ap (λ (k : ℕ). at + length (stack area errors attributes 16 k)) same ∙ g.behind.reach

        pub head_fits : 1 + v + own ≤ at
        head_fits = omega (arith, all_fits, falls, head_size, v_true, own_true, reached)

        pub head_place : at - (1 + v + own) ≤ length now
        head_place = omega (arith, reached, g.behind.same, room)

        whole : lead 0x22 body ++ own_bytes area errors attributes (i - 1) ≡ head (i - 1)
        unfolding ws
        whole = ap (λ (n : ℕ). lead 0x22 n ++ own_bytes area errors attributes (i - 1)) body_true

        pub head_room : length (lead 0x22 body ++ own_bytes area errors attributes (i - 1)) ≤ length (mid_of (at - (1 + v + own)) (length now - (at - (1 + v + own))) now)
        head_room =
            let size : length (lead 0x22 body ++ own_bytes area errors attributes (i - 1)) ≡ length (head (i - 1)) = ap length whole in
            rw (tail_is_drop now (at - (1 + v + own)), length-drop (at - (1 + v + own)) now) (omega (arith, head_size, v_true, own_true, head_fits, reached, g.behind.same, room))

        pub going_on : {from till' field sum r : ℕ} {after : List ℕ} → Runs attributes sorted (i - 1) from till → till' ≡ pick sorted from till → field ≡ capped (delimited_size body) → sum ≡ capped (field + get_or sums (depth_in errors (i - 1)) 0)
            → Puts (lead 0x22 body ++ own_bytes area errors attributes (i - 1)) (mid_of (at - (1 + v + own)) (length now - (at - (1 + v + own))) now) after r
            → Going area errors attributes sorted total before (put_mid (at - (1 + v + own)) (length now - (at - (1 + v + own))) now after) till' (set (set sums (depth_in errors (i - 1) + 1) 0) (depth_in errors (i - 1)) sum) (i - 1) (at - (1 + v + own))
        going_on {from} {till'} {field} {sum} {r} {after} runs till-is field_is sum_is_lem puts =
            let size : length (lead 0x22 body ++ own_bytes area errors attributes (i - 1)) ≡ length (head (i - 1)) = ap length whole in
            let rest : stack area errors attributes 16 (i - 1 + 1) ≡ stack area errors attributes 16 i = ap (stack area errors attributes 16) same in
            let on : Behind total before (put_mid (at - (1 + v + own)) (length now - (at - (1 + v + own))) now after) (at - (1 + v + own)) ((lead 0x22 body ++ own_bytes area errors attributes (i - 1)) ++ stack area errors attributes 16 i) =
            behind_on g.behind (lead 0x22 body ++ own_bytes area errors attributes (i - 1)) (at - (1 + v + own)) after (omega (arith, head_size, v_true, own_true, head_fits)) puts.1 in
            record {
              measuring = measuring_on sound g.measuring more entries-are own_is body_is runs till-is field_is sum_is_lem;
              behind = subst (λ (l : List ℕ). Behind total before (put_mid (at - (1 + v + own)) (length now - (at - (1 + v + own))) now after) (at - (1 + v + own)) l)
                  (sym (stack_on sound (i - 1) later below ∙ ap (λ (l : List ℕ). l ++ stack area errors attributes 16 (i - 1 + 1)) (sym whole) ∙ ap (λ (l : List ℕ). (lead 0x22 body ++ own_bytes area errors attributes (i - 1)) ++ l) rest)) on;
            }

      -- only the outermost error is left
      module _ (last : i ≤ 1) where
        one : i ≡ 1
        one = omega (arith, g.measuring.low)

        root_at : length (own_bytes area errors attributes 0) ≡ at
        root_at = let reach : at + length (stack area errors attributes 16 1) ≡ total = ap (λ (k : ℕ). at + length (stack area errors attributes 16 k)) (sym one) ∙ g.behind.reach in omega (arith, root_size)

        pub root_entries : {entries : ℕ} → entries ≡ capped (entries_size attributes (all_rows attributes 0)) → entries ≡ length (entries_bytes area attributes (all_rows attributes 0))
        root_entries e = entries_true 0 sound.some (omega (arith, root_size)) e

        pub root_room : length (own_bytes area errors attributes 0) ≤ length now
        root_room = omega (arith, root_size, g.behind.same)

        pub gone : {after : List ℕ} {r : ℕ} → Puts (own_bytes area errors attributes 0) now after r → after ≡ over (error_bytes area errors attributes) before
        gone {after} {r} puts =
            behind_end g.behind (own_bytes area errors attributes 0) after root_at puts.1
            ∙ ap (λ (l : List ℕ). over l before) (ap (λ (k : ℕ). own_bytes area errors attributes 0 ++ stack area errors attributes 16 k) one ∙ sym (whole_is sound))
