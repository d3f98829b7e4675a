-- A value whose checks pass: its bits, and its entry's five words. Assumes nothing.
use mathlib.Core.Path.{◌≡◌, refl, sym, ◌∙◌, ap}
use mathlib.Core.Bool.{Bool, true, false, not, true≢false}
use mathlib.Core.List.{List, [], ◌∷◌}
use Prim.Native.Nat.{ℕ, ◌+◌, ◌-◌, ◌<◌, ◌≤◌}
use native.Mathlib.Omega.{arith}
use native.Mathlib.Decide.{ℕ_discrete, dec_lt}
use lib.Dec.{eqb}
use lib.ListN.{length}
use Rattle.words.specs.Answer.{Answer, accepted, more, refuse}
use Rattle.words.specs.Decide.{pick, decide}
use Rattle.wire.specs.Layout.{scalar, blob, known, type_at, scalar_at, aggregate_at, length_at, next_value, entry, fourth, fifth, bits_of, flag}
use Rattle.wire.specs.Need.{lacks}
use Rattle.wire_value.specs.ValueOrder.{value_order, value_reading}
use Rattle.wire_value.specs.ValueOf.{value_of, bits_at, header_at, value_at}
use Rattle.wire_value.specs.Paper.{entry_of, bit, paper_value}
use Rattle.wire_value.specs.Stages.{type_of, offset_or, length_of}
use Rattle.wire_value.specs.Statement.{ChecksValue, Lies, ReadsValue}
use Rattle.wire.specs.declared.error.WireError.{WireError}
use Rattle.wire_value.specs.declared.value.Value.{Value}
use Rattle.wire_value.specs.declared.value.Value.TheVariants.{Null, Int64, Uint64, Double, Boolean, String, Any, Composite}
use Rattle.wire_value.specs.declared.value.Header.{Header}
use Rattle.wire_value.specs.declared.value.UnversionedValue.{UnversionedValue}
use Rattle.wire_value.specs.declared.value.Checked.{Checked}
use Rattle.std.specs.declared.result.Result.{Result}
use Rattle.std.specs.declared.result.Result.TheVariants.{Ok, Err}
use Rattle.wire_value.proofs.HeaderLaws.{header_kind}
use mathlib.Core.Logic.{◌⊎◌, inl, inr}
use Rattle.wire.specs.Kind.{kind_of}
use Rattle.wire.specs.declared.kind.Kind.{Kind}
use Rattle.wire.specs.declared.kind.Kind.TheVariants as K
use Rattle.wire.proofs.KindLaws.{no_payload, kind_blob}
use Rattle.wire.proofs.TypeLaws.{scalar_yes, scalar_high, unknown_low, unknown_middle, unknown_high}

never_more : (number : ℕ) (values : List ℕ) → refuse number values ≡ more → ⊥
never_more number values h = let z : ◌≡◌ {A = ℕ} 0 1 = cc in omega arith

-- two lines of refusal before an answer that is none: the second test fails
second_silent : (first second : Bool) (m n : ℕ) (v w : List ℕ) (rest : Answer)
    → pick first (refuse m v) (pick (not second) (refuse n w) rest) ≡ more → second ≡ true
second_silent first true m n v w rest e = refl
second_silent true false m n v w rest e = absurd (never_more m v e)
second_silent false false m n v w rest e = absurd (never_more n w e)

module _ (s : List ℕ) (at : ℕ) where
  -- the type of a value whose checks pass is known
  pub passes_known : ((rest : Answer) → decide (value_order s at) rest ≡ rest) → known (type_at s at) ≡ true
  unfolding value_order
  passes_known passes = second_silent (lacks s at 8) (known (type_at s at)) 9 14 (at ∷ (8 - (length s - at)) ∷ []) (type_at s at ∷ []) _ (passes more)

  -- the bits by the kind: a scalar's, or none
  module _ (kind : ℕ) (e : kind ≡ type_at s at) where
    pub bits_none : scalar kind ≡ false → 0 ≡ bits_at s at
    unfolding bits_at
    bits_none none = let isnt : scalar (type_at s at) ≡ false = rw e at none in rw isnt

    pub bits_scalar : 2 < kind → kind < 7 → (n r : ℕ) → n ≡ scalar_at s at → r ≡ bits_of kind n → r ≡ bits_at s at
    unfolding bits_at
    bits_scalar low high n r is told = rw (scalar_yes (type_at s at) (omega arith) (omega arith), told, is, e)

-- what is no scalar has no word
pub no_word : (kind : ℕ) (k : Kind) → k ≡ kind_of kind → (k ≡ K.Null) ⊎ ((k ≡ K.Unknown) ⊎ (k ≡ K.Blob)) → scalar kind ≡ false
no_word kind k e (inl is) = (no_payload kind k e (inl is)).0
no_word kind k e (inr (inl is)) = (no_payload kind k e (inr is)).0
no_word kind k e (inr (inr is)) = let blob = kind_blob kind k e is in scalar_high kind (omega (arith, blob.0))

-- A property of the eight types holds of every known type

at_or : (type n : ℕ) (P : ℕ → Type 0) → P n → ((type ≡ n → ⊥) → P type) → P type
at_or type n P here other = by_dec (ℕ_discrete type n)
  where
    by_dec : Dec (type ≡ n) → P type
    by_dec (yes e) = rw e here
    by_dec (no differ) = other differ

below_or : (type n : ℕ) (P : Type 0) → (type < n → P) → (n ≤ type → P) → P
below_or type n P low high = by_dec (dec_lt type n)
  where
    by_dec : Dec (type < n) → P
    by_dec (yes h) = low h
    by_dec (no h) = high (omega arith)

never_both : (b : Bool) → b ≡ true → b ≡ false → ⊥
never_both b is isnt = true≢false (sym is ∙ isnt)

pub by_type : (type : ℕ) → known type ≡ true → (P : ℕ → Type 0) → P 2 → P 3 → P 4 → P 5 → P 6 → P 16 → P 17 → P 18 → P type
by_type type is P p2 p3 p4 p5 p6 p16 p17 p18 =
    below_or type 2 (P type) (λ h. absurd (never_both (known type) is (unknown_low type h)))
    (λ low. below_or type 7 (P type)
    (λ h. at_or type 2 P p2 (λ n2. at_or type 3 P p3 (λ n3. at_or type 4 P p4 (λ n4. at_or type 5 P p5 (λ n5. at_or type 6 P p6 (λ n6. absurd (omega arith)))))))
    (λ middle. below_or type 16 (P type) (λ h. absurd (never_both (known type) is (unknown_middle type middle h)))
    (λ high. below_or type 19 (P type)
    (λ h. at_or type 16 P p16 (λ n16. at_or type 17 P p17 (λ n17. at_or type 18 P p18 (λ n18. absurd (omega arith)))))
    (λ h. absurd (never_both (known type) is (unknown_high type h))))))

-- The entry's words of a value

-- word by word
pub entry_words_lem : (id aggregate bits : ℕ) (v : Value) → entry_of id aggregate bits v ≡ id ∷ type_of v ∷ aggregate ∷ offset_or v bits ∷ length_of v ∷ []
entry_words_lem id aggregate bits Null = refl
entry_words_lem id aggregate bits (Int64 n) = refl
entry_words_lem id aggregate bits (Uint64 n) = refl
entry_words_lem id aggregate bits (Double x) = refl
entry_words_lem id aggregate bits (Boolean b) = refl
entry_words_lem id aggregate bits (String offset n) = refl
entry_words_lem id aggregate bits (Any offset n) = refl
entry_words_lem id aggregate bits (Composite offset n) = refl

-- what is said of a value's type, its fourth and its fifth word
abbrev Told : ℕ → ℕ → ℕ → ℕ → ℕ → Type 0
Told word offset n type fill =
    let bits = pick (scalar type) (bits_of type word) 0 in
    let v = value_of type bits offset n in
    (type_of v ≡ type)
    × (offset_or v bits ≡ pick (blob type) offset (pick (scalar type) (bits_of type word) 0))
    × (length_of v ≡ pick (blob type) n 0)

told : (type word offset n : ℕ) → known type ≡ true → Told word offset n type 0
unfolding value_of
told type word offset n is =
    by_type type is (λ (t : ℕ). Told word offset n t 0)
    (refl, refl, refl) (refl, refl, refl) (refl, refl, refl) (refl, refl, refl) (refl, refl, refl) (refl, refl, refl) (refl, refl, refl) (refl, refl, refl)

bit_flag : (n : ℕ) → bit (not (eqb n 0)) ≡ flag n
bit_flag n = by_test (eqb n 0)
  where
    by_test : (b : Bool) → bit (not b) ≡ pick b 0 1
    by_test true = refl
    by_test false = refl

module _ (s : List ℕ) (at : ℕ) where
  -- the words of the value are those of its entry
  entry_told : known (type_at s at) ≡ true → paper_value (Ok (value_at s at)) ≡ accepted (next_value s at) (entry s at [])
  unfolding value_at bits_at entry fourth fifth
  entry_told is =
      let words = told (type_at s at) (scalar_at s at) (at + 8) (length_at s at) is in
      ap (accepted (next_value s at)) (entry_words_lem (value_at s at).id (bit (value_at s at).aggregate) (value_at s at).bits (value_at s at).value)
      ∙ rw (words.0, words.1, words.2, bit_flag (aggregate_at s at))

  -- the checks pass
  pub value_got : (r : Result Checked WireError) (header : Header) (next bits : ℕ) (value : Value) → ChecksValue s at r → r ≡ Ok record { header = header; next = next }
      → bits ≡ bits_at s at → value ≡ value_of header.kind bits (at + 8) header.length
      → ReadsValue s at (Ok (record { id = header.id; aggregate = not (eqb header.aggregate 0); value = value; bits = bits; next = next }))
  unfolding header_at value_at value_reading
  value_got r header next bits value checks e b v =
      let passed : ChecksValue s at (Ok record { header = header; next = next }) = rw e at checks in
      let same : record { id = header.id; aggregate = not (eqb header.aggregate 0); value = value; bits = bits; next = next } ≡ value_at s at =
      rw (v, b, passed.0, passed.1) in
      (ap (λ (u : UnversionedValue). paper_value (Ok u)) same ∙ entry_told (passes_known s at passed.2) ∙ sym (passed.2 _), same)

  -- a check refuses
  pub value_refused : (r : Result Checked WireError) (refusal : WireError) → ChecksValue s at r → r ≡ Err refusal → ReadsValue s at (Err refusal)
  unfolding value_reading
  value_refused r refusal checks e =
      let failed : ChecksValue s at (Err refusal) = rw e at checks in
      (sym (failed _), tt)

  -- what a passed value's header says
  pub passed_kind : (r : Result Checked WireError) (header : Header) (next : ℕ) → ChecksValue s at r → r ≡ Ok record { header = header; next = next } → header.kind ≡ type_at s at
  passed_kind r header next checks e =
      let passed : ChecksValue s at (Ok record { header = header; next = next }) = rw e at checks in
      header_kind s at header passed.0

  pub passed_room : (r : Result Checked WireError) (header : Header) (next : ℕ) → ChecksValue s at r → Lies s r → r ≡ Ok record { header = header; next = next } → at + 8 ≤ length s
  unfolding next_value
  passed_room r header next checks lies e =
      let passed : ChecksValue s at (Ok record { header = header; next = next }) = rw e at checks in
      let within : next ≤ length s = rw e at lies in
      omega (arith, passed.1)
