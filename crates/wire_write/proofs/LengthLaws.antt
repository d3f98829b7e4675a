-- How long what is written is: the sizes that were measured. Assumes nothing.
use mathlib.Core.Path.{◌≡◌, refl, sym, ◌∙◌, ap}
use mathlib.Core.Bool.{true, false, true≢false}
use mathlib.Core.Logic.{◌⊎◌, inl, inr}
use mathlib.Core.List.{List, [], ◌∷◌, ◌++◌}
use Prim.Native.Nat.{ℕ, zero, suc, ◌+◌, ◌*◌, ◌%◌, ◌<◌, ◌≤◌}
use native.Mathlib.Omega.{arith}
use lib.Dec.{ltb}
use lib.ListN.{length, drop, replicate, length-append, length-drop, length-replicate}
use lib.Seq.{length-take-le}
use borrow.Author.Tests.{ltb-true, ltb-false, not-false, lt-ltb, le-ltb, ne_eqb}
use Rattle.words.specs.Word.{bytes_of}
use Rattle.words.specs.Buffer.{stretch}
use Rattle.words.proofs.WordLaws.{length_bytes_of}
use Rattle.wire.specs.Layout.{null_type, entry_words, blob, known, padding, padded, payload, values_in, payload_bytes, value_bytes, entry_bytes, values_bytes, row_bytes, rows_bytes, rowset_bytes}
use Rattle.wire.specs.Kind.{kind_of}
use Rattle.wire.specs.declared.kind.Kind.{Kind}
use Rattle.wire.specs.declared.kind.Kind.TheVariants as K
use Rattle.wire.proofs.KindLaws.{kind_null, kind_unknown}
use Rattle.wire.proofs.TypeLaws.{scalar_yes, scalar_low, blob_low, payload_none, payload_scalar}
use Rattle.wire_check.specs.Writing.{total, bad, size_of, values_size, rows_size, rowset_size}
use Rattle.wire_check.specs.Stages.{Good, Sound}
use Rattle.wire_write.specs.Stages.{blob_bytes}
use Rattle.wire_check.proofs.TableLaws.{by_test, none_wrong}

-- What the checks leave of a value: its type is known, and a blob lies within the area

module _ (size id type aggregate bits n : ℕ) (good : bad size id type aggregate bits n ≡ false) where
  pub good_known : known type ≡ true
  good_known = not-false (known type) (none_wrong size id type aggregate bits n good).1

  pub good_null : (k : Kind) → k ≡ kind_of type → (k ≡ K.Null) ⊎ (k ≡ K.Unknown) → type ≡ null_type
  good_null k e (inl is) = kind_null type k e is
  good_null k e (inr is) = absurd (true≢false (sym good_known ∙ (kind_unknown type k e is).0))

  pub good_blob : 7 ≤ type → blob type ≡ true
  good_blob h = rw (ne_eqb type 2 (λ e. omega arith), lt-ltb 2 type (omega arith), le-ltb type 7 h) at good_known

  pub good_stretch : 7 ≤ type → bits + n ≤ size
  good_stretch h = ltb-false size (bits + n) (rw (good_blob h) at (none_wrong size id type aggregate bits n good).6)

-- A payload

module _ (area : List ℕ) (type bits n : ℕ) where
  pub bytes_none : type < 3 → payload_bytes area type bits n ≡ []
  unfolding payload_bytes
  bytes_none h = rw (blob_low type (omega arith), scalar_low type (omega arith))

  pub bytes_scalar : 3 ≤ type → type < 7 → payload_bytes area type bits n ≡ bytes_of 8 bits
  unfolding payload_bytes
  bytes_scalar low high = rw (blob_low type (omega arith), scalar_yes type low high)

  pub bytes_blob : blob type ≡ true → payload_bytes area type bits n ≡ blob_bytes area bits n
  unfolding payload_bytes
  bytes_blob is = rw is

pub length_blob : (area : List ℕ) (offset n : ℕ) → offset + n ≤ length area → length (blob_bytes area offset n) ≡ padded n
length_blob area offset n h =
    length-append (stretch area offset n) (replicate (padding n) 0)
    ∙ rw (length-take-le n (drop offset area) (rw length-drop (omega arith)), length-replicate {A = ℕ} (padding n) 0)

-- A value

module _ (area : List ℕ) (id type aggregate bits n : ℕ) where
  pub length_value : length (value_bytes area id type aggregate bits n) ≡ 8 + length (payload_bytes area type bits n)
  unfolding value_bytes
  length_value =
      simp (length-append, length_bytes_of) (omega arith)

  module _ (good : bad (length area) id type aggregate bits n ≡ false) where
    length_payload : length (payload_bytes area type bits n) ≡ payload type n
    unfolding payload
    length_payload =
        by_test (ltb type 3)
        (λ t. let low : type < 3 = ltb-true type 3 t in
        ap length (bytes_none area type bits n low) ∙ sym (payload_none type n (scalar_low type (omega arith)) (blob_low type (omega arith))))
        (λ t. let some : 3 ≤ type = ltb-false type 3 t in
        by_test (ltb type 7)
        (λ u. let high : type < 7 = ltb-true type 7 u in
        ap length (bytes_scalar area type bits n some high) ∙ length_bytes_of 8 bits ∙ sym (payload_scalar type n some high))
        (λ u. let most : 7 ≤ type = ltb-false type 7 u in
        let is : blob type ≡ true = good_blob (length area) id type aggregate bits n good most in
        ap length (bytes_blob area type bits n is) ∙ length_blob area bits n (good_stretch (length area) id type aggregate bits n good most) ∙ rw is))

    pub value_length : length (value_bytes area id type aggregate bits n) ≡ size_of type n
    value_length = length_value ∙ ap (λ (m : ℕ). 8 + m) length_payload

-- Values, rows and the whole

module _ (area values : List ℕ) (good : Good area values) where
  pub values_length : (n k : ℕ) → k % entry_words ≡ 0 → k + entry_words * n ≤ length values → length (values_bytes area values n k) ≡ values_size values n k
  unfolding values_bytes values_size
  values_length zero k aligned h = refl
  values_length (suc n) k aligned h =
      length-append (entry_bytes area values k) (values_bytes area values n (k + entry_words))
      ∙ rw (value_length area _ _ _ _ _ (good k aligned (omega arith)), values_length n (k + entry_words) (omega arith) (omega arith))

  pub rows_length : (rows : List ℕ) (k : ℕ) → k % entry_words ≡ 0 → k + entry_words * total rows ≤ length values → length (rows_bytes area rows values k) ≡ rows_size rows values k
  unfolding rows_bytes row_bytes rows_size total
  rows_length [] k aligned h = refl
  rows_length (count ∷ rows) k aligned h =
      let n : ℕ = values_in count in
      let first : length (bytes_of 8 count ++ values_bytes area values n k) ≡ 8 + values_size values n k =
      length-append (bytes_of 8 count) (values_bytes area values n k) ∙ rw (length_bytes_of 8 count, values_length n k aligned (omega arith)) in
      let others : length (rows_bytes area rows values (k + entry_words * n)) ≡ rows_size rows values (k + entry_words * n) = rows_length rows (k + entry_words * n) (omega arith) (omega arith) in
      length-append (bytes_of 8 count ++ values_bytes area values n k) (rows_bytes area rows values (k + entry_words * n)) ∙ rw (first, others)

-- the whole is as long as it was measured
pub rowset_length : (area rows values : List ℕ) → Sound area rows values → length (rowset_bytes area rows values) ≡ rowset_size rows values
unfolding rowset_bytes rowset_size
rowset_length area rows values sound =
    let all : length values ≡ entry_words * total rows = sound.whole in
    length-append (bytes_of 8 (length rows)) (rows_bytes area rows values 0)
    ∙ rw (length_bytes_of 8 (length rows), rows_length area values sound.good rows 0 refl (omega arith))
