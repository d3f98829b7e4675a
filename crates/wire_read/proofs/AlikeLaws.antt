-- Inputs that differ only where reading does not look are read alike. Assumes nothing.
use mathlib.Core.Path.{◌≡◌, refl, ◌∙◌, ap}
use mathlib.Core.Bool.{Bool, true, false, ◌&&◌}
use mathlib.Core.List.{List, [], ◌∷◌, ◌++◌}
use Prim.Native.Nat.{ℕ, zero, suc, ◌+◌}
use lib.ListN.{length}
use lib.Dec.{ltb}
use Rattle.words.specs.Answer.{Answer, refuse}
use Rattle.words.specs.Decide.{pick, decide}
use Rattle.wire.specs.Layout.{max_length, scalar, blob, padded, payload, values_in, type_at, length_at, payload_at, count_at, next_value, next_values, next_row, next_rows, value_count, entry, entries, row_words, value_words, fourth, fifth}
use Rattle.wire_value.specs.ValueOrder.{value_order}
use Rattle.wire_read.specs.Stages.{read_values, count_order, read_row, read_rows, head_order, read_rowset, room_order}
use Rattle.wire_read.specs.Reading.{reading}
use Rattle.wire_read.proofs.ReadingLaws.{reading_walks}
use Rattle.wire_read.proofs.Alike.{AlikeValue, AlikeValues, AlikeRows, Alike}

-- a choice whose first answer matters only where the test holds
pick_same : {A : Type 0} (test : Bool) (x y z : A) → (test ≡ true → x ≡ y) → pick test x z ≡ pick test y z
pick_same true x y z same = same refl
pick_same false x y z same = refl

-- the length's test, of which only a blob's length matters
long_same : (is : Bool) (n m : ℕ) (rest : Answer) → (is ≡ true → n ≡ m)
    → pick (is && ltb max_length n) (refuse 12 (n ∷ [])) rest ≡ pick (is && ltb max_length m) (refuse 12 (m ∷ [])) rest
long_same true n m rest same = rw (same refl)
long_same false n m rest same = refl

module _ (s t : List ℕ) (same : length s ≡ length t) where
  module _ (at : ℕ) (alike : AlikeValue s t at) where
    payload_alike : payload_at s at ≡ payload_at t at
    unfolding payload
    payload_alike =
        pick_same (blob (type_at s at)) (padded (length_at s at)) (padded (length_at t at)) (pick (scalar (type_at s at)) 8 0) (λ is. ap padded (alike.blob_length is))
        ∙ ap (λ (type : ℕ). payload type (length_at t at)) alike.type

    pub next_value_alike : next_value s at ≡ next_value t at
    unfolding next_value
    next_value_alike = ap (λ (n : ℕ). at + 8 + n) payload_alike

    pub order_alike : (rest : Answer) → decide (value_order s at) rest ≡ decide (value_order t at) rest
    unfolding value_order
    order_alike rest =
        rw (same, payload_alike, long_same (blob (type_at s at)) (length_at s at) (length_at t at) _ alike.blob_length, alike.type)

    pub entry_alike : (more : List ℕ) → entry s at more ≡ entry t at more
    unfolding entry fourth fifth
    entry_alike more =
        rw (
          alike.id,
          alike.aggregate,
          pick_same (scalar (type_at s at)) _ _ 0 alike.scalar_bits,
          pick_same (blob (type_at s at)) (length_at s at) (length_at t at) 0 alike.blob_length,
          alike.type,
        )

  pub values_alike : (n at : ℕ) → AlikeValues s t n at
      → (next_values s n at ≡ next_values t n at) × ((rest : Answer) → read_values s n at rest ≡ read_values t n at rest) × (entries s n at ≡ entries t n at)
  unfolding next_values read_values entries
  values_alike zero at alike = (refl, (λ rest. refl), refl)
  values_alike (suc n) at alike =
      let next : next_value s at ≡ next_value t at = next_value_alike at alike.0 in
      let others = values_alike n (next_value s at) alike.1 in (
        others.0 ∙ ap (next_values t n) next,
        (λ rest.
            ap (decide (value_order s at)) (others.1 rest ∙ ap (λ (k : ℕ). read_values t n k rest) next) ∙ order_alike at alike.0 _),
        entry_alike at alike.0 _ ∙ ap (entry t at) (others.2 ∙ ap (entries t n) next),
      )

  module _ (at : ℕ) (count : count_at s at ≡ count_at t at) (alike : AlikeValues s t (values_in (count_at s at)) (at + 8)) where
    next_row_alike : next_row s at ≡ next_row t at
    unfolding next_row
    next_row_alike = (values_alike (values_in (count_at s at)) (at + 8) alike).0 ∙ ap (λ (n : ℕ). next_values t (values_in n) (at + 8)) count

    row_alike : (i : ℕ) (rest : Answer) → read_row s i at rest ≡ read_row t i at rest
    unfolding read_row count_order
    row_alike i rest = rw ((values_alike (values_in (count_at s at)) (at + 8) alike).1 rest, same, count)

    row_entries_alike : entries s (values_in (count_at s at)) (at + 8) ≡ entries t (values_in (count_at t at)) (at + 8)
    row_entries_alike = (values_alike (values_in (count_at s at)) (at + 8) alike).2 ∙ ap (λ (n : ℕ). entries t (values_in n) (at + 8)) count

  pub rows_alike : (n at : ℕ) → AlikeRows s t n at
      → (next_rows s n at ≡ next_rows t n at) × (value_count s n at ≡ value_count t n at) × ((i : ℕ) (rest : Answer) → read_rows s n i at rest ≡ read_rows t n i at rest)
      × (row_words s n at ≡ row_words t n at) × (value_words s n at ≡ value_words t n at)
  unfolding next_rows value_count read_rows row_words value_words
  rows_alike zero at alike = (refl, refl, (λ i rest. refl), refl, refl)
  rows_alike (suc n) at alike =
      let next : next_row s at ≡ next_row t at = next_row_alike at alike.0 alike.1 in
      let others = rows_alike n (next_row s at) alike.2 in (
        others.0 ∙ ap (next_rows t n) next,
        rw alike.0 (ap (λ (m : ℕ). values_in (count_at t at) + m) (others.1 ∙ ap (value_count t n) next)),
        (λ i rest.
            ap (read_row s i at) (others.2 (i + 1) rest ∙ ap (λ (k : ℕ). read_rows t n (i + 1) k rest) next) ∙ row_alike at alike.0 alike.1 i _),
        rw alike.0 (ap (λ (ws : List ℕ). count_at t at ∷ ws) (others.3 ∙ ap (row_words t n) next)),
        rw (row_entries_alike at alike.0 alike.1) (ap (λ (ws : List ℕ). entries t (values_in (count_at t at)) (at + 8) ++ ws) (others.4 ∙ ap (value_words t n) next)),
      )

-- Document 01: two inputs that differ only there read alike: the same answer, and the same words in both tables.
pub read_alike : (s t : List ℕ) → Alike s t → (rows values : ℕ)
    → (reading s rows values ≡ reading t rows values) × (row_words s (count_at s 0) 8 ≡ row_words t (count_at t 0) 8) × (value_words s (count_at s 0) 8 ≡ value_words t (count_at t 0) 8)
unfolding read_rowset head_order room_order
read_alike s t alike rows values =
    let all = rows_alike s t alike.size (count_at s 0) 8 alike.rows in (
      rw (reading_walks s rows values, reading_walks t rows values) (rw (all.2 0 _, all.1, all.0, alike.count, alike.size)),
      all.3 ∙ ap (λ (n : ℕ). row_words t n 8) alike.count,
      all.4 ∙ ap (λ (n : ℕ). value_words t n 8) alike.count,
    )
