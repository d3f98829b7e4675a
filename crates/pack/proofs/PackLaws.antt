-- Packing a table that passed rules 1 and 3, by its stages. Assumes nothing.
use mathlib.Core.Path.{◌≡◌, refl, ◌∙◌, ap}
use mathlib.Core.List.{List}
use Prim.Native.Nat.{ℕ, ◌%◌, ◌^◌, ◌<◌, ◌≤◌}
use native.Mathlib.Omega.{arith}
use lib.ListN.{length}
use Rattle.words.specs.Buffer.{over}
use Rattle.words.specs.declared.outcome.Room.TheVariants.{Output}
use Rattle.wire.specs.declared.error.WireError.TheVariants.{NoRoom}
use Rattle.wire_check.specs.Writing.{entries_in, first_bad}
use Rattle.wire_check.specs.Stages.{Good}
use Rattle.wire_check.proofs.TableLaws.{none_bad}
use Rattle.pack_pairs.specs.Packing.{capped}
use Rattle.pack_pairs.specs.Stages.{needed, packed, packed_bytes, Inside}
use Rattle.pack_pairs.proofs.RuleLaws.{good_inside}
use Rattle.pack_answer.specs.Statement.{Packs}
use Rattle.std.specs.declared.result.Result.TheVariants.{Ok, Err}
use Rattle.pack_answer.proofs.AnswerLaws as answer
use Rattle.pack_links.specs.Statement.{plain}
use Rattle.pack_links.specs.Stages.{Spare, Linking, Movable}
use Rattle.pack_links.proofs.MoveLaws.{plain_is}
use Rattle.pack_links.proofs.SpareLaws.{good_spare}
use Rattle.wire.specs.Layout.{entry_words}

-- whole entries, none of them bad, few enough for links
abbrev pub Checked : List ℕ → List ℕ → Type 0
Checked area values = (length values % entry_words ≡ 0) × (entries_in values ≤ first_bad (length area) values) × (length values < 2 ^ 48)

module _ (area values : List ℕ) (checked : Checked area values) where
  good : Good area values
  good = none_bad area values checked.1

  pub spare : Spare values
  spare = good_spare area values checked.0 good checked.2

  module _ (out t : List ℕ) (sum : ℕ) (linked : (sum ≡ capped (needed values)) × Linking values t (entries_in values)) where
    back : plain t ≡ values
    back = plain_is values t linked.1.over

    pub refused : length out < sum → (u : List ℕ) → u ≡ plain t
        → Packs area values out (Err (NoRoom (record { room = Output; needed = sum; given = length out }))) u out
    refused h u e = rw (e, back) (answer.short area values out checked.0 (first_bad (length area) values) refl checked.1 sum linked.0 h)

    module _ (fits : sum ≤ length out) (small : length out < 2 ^ 63) where
      sum_is : sum ≡ needed values
      sum_is = answer.sum_is area values out checked.0 (first_bad (length area) values) refl checked.1 sum linked.0 fits small

      pub movable : Movable (plain t) t
      movable = rw back (record { links = linked.1; whole = checked.0; fits = omega (arith, sum_is) })

      pub copy_requires : Movable (plain t) t × (Inside area (plain t) × (needed (plain t) ≤ length out))
      copy_requires = (movable, (rw back (good_inside area values checked.0 good), rw back (omega (arith, sum_is))))

      pub done : (v out' : List ℕ) → v ≡ packed (plain t) → out' ≡ over (packed_bytes area (plain t) (entries_in (plain t))) out
          → Packs area values out (Ok sum) v out'
      done v out' moved copied =
          answer.filled area values out checked.0 (first_bad (length area) values) refl checked.1 sum linked.0 fits small v out'
          (moved ∙ ap packed back) (copied ∙ ap (λ (l : List ℕ). over (packed_bytes area l (entries_in l)) out) back)
