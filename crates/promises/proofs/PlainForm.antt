-- The plain form over places, and of what is written. Assumes nothing.
use mathlib.Core.Path.{◌≡◌, refl, sym, ◌∙◌, ap}
use mathlib.Core.Bool.{Bool, true, false, false≢true, ◌&&◌, ◌||◌, not}
use mathlib.Core.List.{List, []}
use Prim.Native.Nat.{ℕ, zero, suc, ◌+◌, ◌<◌}
use native.Mathlib.Omega.{arith}
use native.Mathlib.Nat.{add-zero}
use borrow.Author.Tests.{ltb-true, ltb-false, lt-ltb, le-ltb, eqb-true, eq-eqb}
use lib.Dec.{ltb, eqb}
use lib.ListN.{length, get_or}
use Rattle.words.specs.Decide.{pick}
use Rattle.words.specs.Answer.{Answer, accepted, more, refused}
use Rattle.wire.specs.Layout.{max_size, blob, boolean, padding, values_in, type_at, aggregate_at, length_at, scalar_at, count_at, next_row, next_rows, next_value, next_values}
use Rattle.wire_read.specs.Stages.{read_rowset}
use Rattle.wire_read.specs.Plain.{zeros, plain_value, plain_values, plain_rows, is_accepted, accepts, plain}
use Rattle.wire_read.proofs.ReadingLaws.{accepts_walks}
use Rattle.promises.specs.Rowsets.{PlainAt, PlainExactly}
use Rattle.promises.proofs.CellRound.{by_test}
use Rattle.promises.proofs.RowsetWriter.{lets}
use Rattle.promises.proofs.RowsetReader.{acceptable, rowset_passes}

both : (a b : Bool) → pick a b false ≡ true → (a ≡ true) × (b ≡ true)
both true b e = (refl, e)
both false b e = absurd (false≢true e)

and : (a b : Bool) → (a && b) ≡ true → (a ≡ true) × (b ≡ true)
and true b e = (refl, e)
and false b e = absurd (false≢true e)

-- zeros, each by its place
zeros_each : (s : List ℕ) (n at : ℕ) → zeros s n at ≡ true → (i : ℕ) → i < n → get_or s (at + i) 0 ≡ 0
unfolding zeros
zeros_each s zero at e i h = absurd (omega arith)
zeros_each s (suc n) at e zero h = ap (λ (k : ℕ). get_or s k 0) (add-zero at) ∙ eqb-true _ 0 (both (eqb (get_or s at 0) 0) (zeros s n (at + 1)) e).0
zeros_each s (suc n) at e (suc i) h =
    let next : at + suc i ≡ at + 1 + i = omega arith in
    ap (λ (k : ℕ). get_or s k 0) next ∙ zeros_each s n (at + 1) (both (eqb (get_or s at 0) 0) (zeros s n (at + 1)) e).1 i (omega arith)

each_zeros : (s : List ℕ) (n at : ℕ) → ((i : ℕ) → i < n → get_or s (at + i) 0 ≡ 0) → zeros s n at ≡ true
unfolding zeros
each_zeros s zero at h = refl
each_zeros s (suc n) at h =
    let here : get_or s at 0 ≡ 0 = ap (λ (k : ℕ). get_or s k 0) (sym (add-zero at)) ∙ h 0 (omega arith) in
    rw (eq-eqb _ 0 here)
    (each_zeros s n (at + 1) (λ i less. let next : at + 1 + i ≡ at + suc i = omega arith in ap (λ (k : ℕ). get_or s k 0) next ∙ h (suc i) (omega arith)))

either : (a b : Bool) → (not a || b) ≡ true → a ≡ true → b ≡ true
either true b e h = e
either false b e h = absurd (false≢true h)

or_else : (a b : Bool) → (a ≡ true → b ≡ true) → (not a || b) ≡ true
or_else true b h = h refl
or_else false b h = refl

boolean_no_blob : (type : ℕ) → type ≡ boolean → blob type ≡ false
boolean_no_blob type e = rw e

module _ (s : List ℕ) (at : ℕ) where
  value_plain : plain_value s at ≡ true → PlainAt s at
  unfolding plain_value
  value_plain e =
      let parts = and _ _ e in
      record {
        aggregate_byte = omega (arith, ltb-true (aggregate_at s at) 2 parts.0);
        length_word_lem = λ isnt. eqb-true (length_at s at) 0 (and _ _ (rw isnt at parts.1)).0;
        boolean_word = λ is.
            let word = either (eqb (type_at s at) boolean) (ltb (scalar_at s at) 2) (and (eqb (length_at s at) 0) _ (rw (boolean_no_blob (type_at s at) is) at parts.1)).1 (eq-eqb (type_at s at) boolean is) in
            omega (arith, ltb-true (scalar_at s at) 2 word);
        padding_zero = λ is. zeros_each s (padding (length_at s at)) (at + 8 + length_at s at) (rw is at parts.1);
      }

  plain_value_lem : PlainAt s at → plain_value s at ≡ true
  unfolding plain_value
  plain_value_lem p =
      rw (lt-ltb (aggregate_at s at) 2 (omega (arith, p.aggregate_byte)))
      (by_test (blob (type_at s at))
      (λ is. rw is (each_zeros s (padding (length_at s at)) (at + 8 + length_at s at) (p.padding_zero is)))
      (λ isnt. rw (isnt, eq-eqb (length_at s at) 0 (p.length_word_lem isnt))
      (or_else (eqb (type_at s at) boolean) (ltb (scalar_at s at) 2) (λ b. lt-ltb (scalar_at s at) 2 (omega (arith, p.boolean_word (eqb-true (type_at s at) boolean b)))))))

-- the values of a row, and the rows, each by its place
module _ (s : List ℕ) where
  values_each : (n at : ℕ) → plain_values s n at ≡ true → (j : ℕ) → j < n → PlainAt s (next_values s j at)
  unfolding plain_values next_values
  values_each zero at e j h = absurd (omega arith)
  values_each (suc n) at e zero h = value_plain s at (both (plain_value s at) (plain_values s n (next_value s at)) e).0
  values_each (suc n) at e (suc j) h = values_each n (next_value s at) (both (plain_value s at) (plain_values s n (next_value s at)) e).1 j (omega arith)

  each_values : (n at : ℕ) → ((j : ℕ) → j < n → PlainAt s (next_values s j at)) → plain_values s n at ≡ true
  unfolding plain_values next_values
  each_values zero at h = refl
  each_values (suc n) at h = rw (plain_value_lem s at (h 0 (omega arith))) (each_values n (next_value s at) (λ j less. h (suc j) (omega arith)))

  pub rows_each : (n at : ℕ) → plain_rows s n at ≡ true → (i j : ℕ) → i < n → j < values_in (count_at s (next_rows s i at)) → PlainAt s (next_values s j (next_rows s i at + 8))
  unfolding plain_rows next_rows
  rows_each zero at e i j h g = absurd (omega arith)
  rows_each (suc n) at e zero j h g = values_each (values_in (count_at s at)) (at + 8) (both (plain_values s (values_in (count_at s at)) (at + 8)) (plain_rows s n (next_row s at)) e).0 j g
  rows_each (suc n) at e (suc i) j h g = rows_each n (next_row s at) (both (plain_values s (values_in (count_at s at)) (at + 8)) (plain_rows s n (next_row s at)) e).1 i j (omega arith) g

  each_rows : (n at : ℕ) → ((i j : ℕ) → i < n → j < values_in (count_at s (next_rows s i at)) → PlainAt s (next_values s j (next_rows s i at + 8))) → plain_rows s n at ≡ true
  unfolding plain_rows next_rows
  each_rows zero at h = refl
  each_rows (suc n) at h =
      rw (each_values (values_in (count_at s at)) (at + 8) (λ j less. h 0 j (omega arith) less)) (each_rows n (next_row s at) (λ i j less few. h (suc i) j (omega arith) few))

split : (long ok values : Bool) → pick long false (pick ok values false) ≡ true → (long ≡ false) × (ok ≡ true) × (values ≡ true)
split true ok values e = absurd (false≢true e)
split false true values e = (refl, refl, e)
split false false values e = absurd (false≢true e)

-- what is accepted is let through
accepted_lets : (a : Answer) → is_accepted a ≡ true → lets a ≡ true
accepted_lets (accepted n fields) e = refl
accepted_lets more e = absurd (false≢true e)
accepted_lets (refused number carried consumed) e = absurd (false≢true e)

pub plain_exactly : PlainExactly
unfolding plain
plain_exactly s says tells = (
  (λ is.
      let told = split (ltb max_size (length s)) (accepts s) (plain_rows s (count_at s 0) 8) (sym tells ∙ is) in
      (ltb-false max_size (length s) told.0, (acceptable s (accepted 0 []) (accepted_lets (read_rowset s (accepted 0 [])) (sym (accepts_walks s) ∙ told.1))).0, rows_each s (count_at s 0) 8 told.2)),
  (λ short ok values. tells ∙ rw (le-ltb max_size (length s) short, accepts_walks s, rowset_passes s (accepted 0 []) ok) (each_rows s (count_at s 0) 8 values)),
)
