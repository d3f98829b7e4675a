-- What rules 1 and 3 of refusal 18 give: words that fit their fields, and pairs that lie in the area. Assumes
-- nothing.
use mathlib.Core.Path.{◌≡◌, refl, sym, ◌∙◌}
use mathlib.Core.Bool.{Bool, true, false, ◌&&◌, ◌||◌, not, true≢false}
use mathlib.Core.Logic.{⊎_elim}
use mathlib.Core.List.{List}
use Prim.Native.Nat.{ℕ, ◌+◌, ◌*◌, ◌/◌, ◌%◌, ◌<◌, ◌≤◌}
use native.Mathlib.Omega.{arith}
use lib.ListN.{length}
use borrow.Author.Tests.{ne_eqb, ltb-false, not-false}
use Rattle.words.specs.Decide.{◌<?◌, ◌=?◌, ◌≠?◌}
use Rattle.words.proofs.DecideLaws.{le_or_gt}
use Rattle.wire.specs.Layout.{boolean, blob, known, entry_words}
use Rattle.wire.proofs.TypeLaws.{blob_high, scalar_high}
use Rattle.wire_check.specs.Writing.{id_in, type_in, aggregate_in, bits_in, length_in, entries_in, bad}
use Rattle.wire_check.specs.Stages.{Good}
use Rattle.pack_pairs.specs.Pairs.{type_at}
use Rattle.pack_pairs.specs.Stages.{Inside}
use Rattle.pack_pairs.proofs.UseLaws.{both_true}

or_false_lem : (a b : Bool) → (a || b) ≡ false → (a ≡ false) × (b ≡ false)
or_false_lem true b e = absurd (true≢false e)
or_false_lem false b e = (refl, e)

known_small : (type : ℕ) → known type ≡ true → type < 19
known_small type e = ⊎_elim (λ (h : 19 ≤ type). absurd (true≢false (sym e ∙ unknown h))) (λ (h : type < 19). h) (le_or_gt 19 type)
  where
    unknown : 19 ≤ type → known type ≡ false
    unknown h = rw (ne_eqb type 2 (λ e. omega arith), scalar_high type (omega arith), blob_high type h)

-- an entry that is not bad
pub record Fair (size id type aggregate bits n : ℕ) : Type 0 where
  pub id_small : id < 65_536
  pub type_small : type < 19
  pub flag_small : aggregate < 2
  pub inside : blob type ≡ true → bits + n ≤ size

fair : (size id type aggregate bits n : ℕ) → bad size id type aggregate bits n ≡ false → Fair size id type aggregate bits n
unfolding bad
fair size id type aggregate bits n good =
    let a : Bool = 65_535 <? id in
    let b : Bool = not (known type) in
    let c : Bool = 1 <? aggregate in
    let d : Bool = type =? boolean && 1 <? bits in
    let e : Bool = type =? 2 && bits ≠? 0 in
    let f : Bool = not (blob type) && n ≠? 0 in
    let g : Bool = blob type && size <? (bits + n) in
    let six = or_false_lem (((((a || b) || c) || d) || e) || f) g good in
    let five = or_false_lem ((((a || b) || c) || d) || e) f six.0 in
    let four = or_false_lem (((a || b) || c) || d) e five.0 in
    let three = or_false_lem ((a || b) || c) d four.0 in
    let two = or_false_lem (a || b) c three.0 in
    let one = or_false_lem a b two.0 in
    record {
      id_small = omega (arith, ltb-false 65_535 id one.0);
      type_small = known_small type (not-false (known type) one.1);
      flag_small = omega (arith, ltb-false 1 aggregate two.1);
      inside = λ is. ltb-false size (bits + n) (rw is at six.1);
    }

module _ (area values : List ℕ) (whole : length values % entry_words ≡ 0) (good : Good area values) where
  pub entry_fair : (i : ℕ) → i < entries_in values → Fair (length area) (id_in values (entry_words * i)) (type_in values (entry_words * i)) (aggregate_in values (entry_words * i)) (bits_in values (entry_words * i)) (length_in values (entry_words * i))
  entry_fair i h = fair _ _ _ _ _ _ (good (entry_words * i) (omega arith) (omega arith))

  pub good_inside : Inside area values
  good_inside i h is = (entry_fair i h).inside (both_true (blob (type_at values i)) _ is).0
