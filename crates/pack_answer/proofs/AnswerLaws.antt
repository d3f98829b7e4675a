-- What packing answers, way by way, from what its stages give. Assumes nothing.
use mathlib.Core.Path.{◌≡◌, refl, sym, ◌∙◌, ap}
use mathlib.Core.List.{List, [], append-nil}
use Prim.Native.Nat.{ℕ, ◌/◌, ◌%◌, ◌^◌, ◌<◌, ◌≤◌}
use native.Mathlib.Omega.{arith}
use lib.ListN.{length, drop, drop_of_length-le}
use borrow.Author.Tests.{lt-ltb, le-ltb, eq-eqb, ne_eqb}
use Rattle.words.specs.Answer.{accepted}
use Rattle.words.specs.Buffer.{over}
use Rattle.words.specs.declared.outcome.Room.TheVariants.{Output}
use Rattle.wire.specs.declared.error.WireError.TheVariants.{BadTable, NoRoom}
use Rattle.wire_check.specs.Writing.{entries_in, first_bad}
use Rattle.pack_pairs.specs.Packing.{capped, packing, packed_table, needed_bytes, placed_word}
use Rattle.pack_pairs.specs.Stages.{packed, packed_bytes, needed, Inside}
use Rattle.pack_pairs.proofs.RoomLaws.{capped_most, capped_small, length_table}
use Rattle.pack_pairs.proofs.PackingLaws.{needed_is, packed_is, area_is}
use Rattle.pack_pairs.proofs.RuleLaws.{good_inside}
use Rattle.wire_check.proofs.TableLaws.{none_bad}
use Rattle.pack_answer.specs.Statement.{Packs}
use Rattle.std.specs.declared.result.Result.TheVariants.{Ok, Err}
use Rattle.wire.specs.Layout.{entry_words}

-- what is as long as a list covers it
pub over_all : (ws xs : List ℕ) → length ws ≡ length xs → over ws xs ≡ ws
over_all ws xs e = let none : drop (length ws) xs ≡ [] = drop_of_length-le xs {i = length ws} (omega arith) in rw none (append-nil ws)

pub table_long : (values : List ℕ) → length (packed_table values) ≡ length values
unfolding packed_table
table_long values = length_table (placed_word values) 0 (length values)

module _ (area values out : List ℕ) where
  pub rule_1 : (length values % entry_words ≡ 0 → ⊥) → Packs area values out (Err (BadTable 1 (length values / entry_words))) values out
  unfolding packing
  rule_1 h = rw (ne_eqb (length values % entry_words) 0 h) (refl, refl, refl)

  module _ (whole : length values % entry_words ≡ 0) (bad : ℕ) (is : bad ≡ first_bad (length area) values) where
    pub rule_3 : bad < length values / entry_words → Packs area values out (Err (BadTable 3 bad)) values out
    unfolding packing
    rule_3 h = rw (eq-eqb (length values % entry_words) 0 whole, ← is, lt-ltb bad (length values / entry_words) h) (refl, refl, refl)

    module _ (none : length values / entry_words ≤ bad) (sum : ℕ) (sums : sum ≡ capped (needed values)) where
      pub short : length out < sum → Packs area values out (Err (NoRoom (record { room = Output; needed = sum; given = length out }))) values out
      unfolding packing
      short h =
          let truly : length out < needed_bytes values = omega (arith, sums, capped_most (needed values), needed_is values) in
          let told : sum ≡ capped (needed_bytes values) = sums ∙ ap capped (needed_is values) in
          rw (eq-eqb (length values % entry_words) 0 whole, ← is, le-ltb bad (length values / entry_words) none, lt-ltb (length out) (needed_bytes values) truly, ← told) (refl, refl, refl)

      module _ (fits : sum ≤ length out) (small : length out < 2 ^ 63) where
        pub sum_is : sum ≡ needed values
        sum_is = sums ∙ capped_small (needed values) (length out) (rw sums at fits) small

        pub copy_requires : Inside area values × (needed values ≤ length out)
        copy_requires = (good_inside area values whole (none_bad area values (omega (arith, is))), omega (arith, sum_is))

        pub move_requires : (length values % entry_words ≡ 0) × (needed values < 2 ^ 64)
        move_requires = (whole, omega (arith, sum_is))

        pub filled : (values' out' : List ℕ) → values' ≡ packed values → out' ≡ over (packed_bytes area values (entries_in values)) out → Packs area values out (Ok sum) values' out'
        unfolding packing
        filled values' out' moved copied =
            let enough : needed_bytes values ≤ length out = omega (arith, sum_is, needed_is values) in
            rw (eq-eqb (length values % entry_words) 0 whole, ← is, le-ltb bad (length values / entry_words) none, le-ltb (length out) (needed_bytes values) enough)
            (ap (λ (n : ℕ). accepted n []) (sum_is ∙ needed_is values), moved ∙ packed_is values whole ∙ sym (over_all (packed_table values) values (table_long values)), copied ∙ ap (λ (l : List ℕ). over l out) (area_is values area))
