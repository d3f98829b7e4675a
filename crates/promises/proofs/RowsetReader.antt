-- What the rowset reader accepts, both ways. Assumes nothing.
use mathlib.Core.Path.{◌≡◌, refl, sym, ◌∙◌, ap}
use mathlib.Core.Bool.{Bool, true, false, ◌&&◌, not}
use mathlib.Core.List.{List, [], ◌∷◌}
use mathlib.Core.Logic.{◌⊎◌, inl, inr, ⊎_elim}
use Prim.Native.Nat.{ℕ, zero, suc, ◌+◌, ◌-◌, ◌/◌, ◌<◌, ◌≤◌}
use native.Mathlib.Omega.{arith}
use borrow.Author.Tests.{ltb-true, ltb-false, lt-ltb, le-ltb, eqb-true, eq-eqb, not-false}
use lib.Dec.{ltb, eqb}
use lib.ListN.{length}
use Rattle.words.specs.Paper.{no_room_values}
use Rattle.words.specs.declared.outcome.NoRoom as words
use Rattle.words.specs.declared.outcome.Room.TheVariants.{Rows, Values}
use Rattle.words.specs.Decide.{pick, Line, Silent, Decides, decide}
use Rattle.words.specs.Note.{answers}
use Rattle.words.proofs.DecideLaws.{deciding}
use Rattle.words.specs.Answer.{Answer, accepted, refuse}
use Rattle.wire.specs.Layout.{null_mark, max_rows, max_values, max_length, entry_words, known, blob, values_in, type_at, length_at, payload_at, count_at, next_row, next_rows, next_value, next_values}
use Rattle.wire_value.specs.ValueOrder.{value_order}
use Rattle.wire.specs.declared.error.WireError.TheVariants.{NoRoom}
use Rattle.wire_read.specs.Stages.{read_values, count_order, read_row, read_rows, head_order, read_rowset, room_order}
use Rattle.wire_read.specs.Reading.{reading, end_of, values_of, reading_lines}
use Rattle.wire_read.specs.Paper.{paper_decoded}
use Rattle.wire_read.specs.Statement.{Decodes}
use Rattle.wire_read.specs.declared.rowset.Decoded.{Decoded}
use Rattle.wire_read.proofs.Unique.{decoded_injective}
use Rattle.wire_read.proofs.ReadingLaws.{reading_walks}
use Rattle.promises.specs.RowsetReader.{RowStands, ValueStands, Acceptable, Roomy, RowsetReaderAccepts, RowsetOrderDecides}
use Rattle.promises.proofs.CellRound.{by_test}
use Rattle.promises.proofs.RowsetWriter.{lets, Lets, passed}
use Rattle.std.specs.declared.result.Result.TheVariants.{Ok, Err}

module _ (s : List ℕ) where
  value_stands : (at : ℕ) (rest : Answer) → Lets (decide (value_order s at) rest) → ValueStands s at × Lets rest
  unfolding value_order next_value
  value_stands at rest e =
      let nine = passed (ltb (length s - at) 8) 9 _ _ refl e in
      let fourteen = passed (not (known (type_at s at))) 14 _ _ refl nine.1 in
      let twelve = passed (blob (type_at s at) && ltb max_length (length_at s at)) 12 _ _ refl fourteen.1 in
      let last = passed (ltb (length s - (at + 8)) (payload_at s at)) 9 _ rest refl twelve.1 in
      let there : 8 ≤ length s - at = ltb-false (length s - at) 8 nine.0 in
      let behind : payload_at s at ≤ length s - (at + 8) = ltb-false (length s - (at + 8)) (payload_at s at) last.0 in (
        record {
          header = omega arith;
          is_known = not-false (known (type_at s at)) fourteen.0;
          short = λ b. ltb-false max_length (length_at s at) (rw b at twelve.0);
          payload_there = omega arith;
        },
        last.1,
      )

  values_stand : (n at : ℕ) (rest : Answer) → Lets (read_values s n at rest) → ((j : ℕ) → j < n → ValueStands s (next_values s j at)) × Lets rest
  unfolding read_values next_values
  values_stand zero at rest e = ((λ j h. absurd (omega arith)), e)
  values_stand (suc n) at rest e =
      let first = value_stands at (read_values s n (next_value s at) rest) e in
      let others = values_stand n (next_value s at) rest first.1 in
      (each first.0 others.0, others.1)
    where
      each : ValueStands s at → ((j : ℕ) → j < n → ValueStands s (next_values s j (next_value s at))) → (j : ℕ) → j < suc n → ValueStands s (next_values s j at)
      each here behind zero h = here
      each here behind (suc j) h = behind j (omega arith)

  row_stands : (i at : ℕ) (rest : Answer) → Lets (read_row s i at rest)
      → RowStands s at × ((j : ℕ) → j < values_in (count_at s at) → ValueStands s (next_values s j (at + 8))) × Lets rest
  unfolding read_row count_order
  row_stands i at rest e =
      let nine = passed (ltb (length s - at) 8) 9 _ _ refl e in
      let eleven = passed (not (eqb (count_at s at) null_mark) && ltb max_values (count_at s at)) 11 _ _ refl nine.1 in
      let there : 8 ≤ length s - at = ltb-false (length s - at) 8 nine.0 in
      let values = values_stand (values_in (count_at s at)) (at + 8) rest eleven.1 in (
        record {
          there = omega arith;
          few = by_test (eqb (count_at s at) null_mark) (λ t. inl (eqb-true (count_at s at) null_mark t)) (λ t. inr (ltb-false max_values (count_at s at) (rw t at eleven.0)));
        },
        values.0,
        values.1,
      )

  rows_stand : (n i at : ℕ) (rest : Answer) → Lets (read_rows s n i at rest)
      → ((k : ℕ) → k < n → RowStands s (next_rows s k at))
      × ((k j : ℕ) → k < n → j < values_in (count_at s (next_rows s k at)) → ValueStands s (next_values s j (next_rows s k at + 8)))
      × Lets rest
  unfolding read_rows next_rows
  rows_stand zero i at rest e = ((λ k h. absurd (omega arith)), (λ k j h g. absurd (omega arith)), e)
  rows_stand (suc n) i at rest e =
      let first = row_stands i at (read_rows s n (i + 1) (next_row s at) rest) e in
      let others = rows_stand n (i + 1) (next_row s at) rest first.2 in
      (each_row first.0 others.0, each_value first.1 others.1, others.2)
    where
      each_row : RowStands s at → ((k : ℕ) → k < n → RowStands s (next_rows s k (next_row s at))) → (k : ℕ) → k < suc n → RowStands s (next_rows s k at)
      each_row here behind zero h = here
      each_row here behind (suc k) h = behind k (omega arith)

      each_value : ((j : ℕ) → j < values_in (count_at s at) → ValueStands s (next_values s j (at + 8)))
          → ((k j : ℕ) → k < n → j < values_in (count_at s (next_rows s k (next_row s at))) → ValueStands s (next_values s j (next_rows s k (next_row s at) + 8)))
          → (k j : ℕ) → k < suc n → j < values_in (count_at s (next_rows s k at)) → ValueStands s (next_values s j (next_rows s k at + 8))
      each_value here behind zero j h g = here j g
      each_value here behind (suc k) j h g = behind k j (omega arith) g

  pub acceptable : (rest : Answer) → Lets (read_rowset s rest) → Acceptable s × Lets rest
  unfolding read_rowset head_order
  acceptable rest e =
      let nine = passed (ltb (length s - 0) 8) 9 _ _ refl e in
      let ten = passed (ltb max_rows (count_at s 0)) 10 _ _ refl nine.1 in
      let rows = rows_stand (count_at s 0) 0 8 _ ten.1 in
      let fifteen = passed (ltb (end_of s) (length s)) 15 _ rest refl rows.2 in
      let there : 8 ≤ length s - 0 = ltb-false (length s - 0) 8 nine.0 in (
        record {
          there = omega arith;
          few = ltb-false max_rows (count_at s 0) ten.0;
          rows = rows.0;
          values = rows.1;
          nothing_behind = ltb-false (end_of s) (length s) fifteen.0;
        },
        fifteen.1,
      )

  -- and back
  value_passes : (at : ℕ) (rest : Answer) → ValueStands s at → decide (value_order s at) rest ≡ rest
  unfolding value_order next_value
  value_passes at rest v =
      let room : 8 ≤ length s - at = omega (arith, v.header) in
      let behind : payload_at s at ≤ length s - (at + 8) = omega (arith, v.payload_there) in
      let short : (blob (type_at s at) && ltb max_length (length_at s at)) ≡ false = by_test (blob (type_at s at)) (λ t. rw (t, le-ltb max_length (length_at s at) (v.short t))) (λ t. rw t) in
      rw (le-ltb (length s - at) 8 room, v.is_known, short, le-ltb (length s - (at + 8)) (payload_at s at) behind)

  values_pass : (n at : ℕ) (rest : Answer) → ((j : ℕ) → j < n → ValueStands s (next_values s j at)) → read_values s n at rest ≡ rest
  unfolding read_values next_values
  values_pass zero at rest h = refl
  values_pass (suc n) at rest h = value_passes at _ (h 0 (omega arith)) ∙ values_pass n (next_value s at) rest (λ j less. h (suc j) (omega arith))

  rows_pass : (n i at : ℕ) (rest : Answer) → ((k : ℕ) → k < n → RowStands s (next_rows s k at))
      → ((k j : ℕ) → k < n → j < values_in (count_at s (next_rows s k at)) → ValueStands s (next_values s j (next_rows s k at + 8)))
      → read_rows s n i at rest ≡ rest
  unfolding read_rows read_row count_order next_rows
  rows_pass zero i at rest h g = refl
  rows_pass (suc n) i at rest h g =
      let row : RowStands s at = h 0 (omega arith) in
      let room : 8 ≤ length s - at = omega (arith, row.there) in
      let few : (not (eqb (count_at s at) null_mark) && ltb max_values (count_at s at)) ≡ false =
      ⊎_elim (λ (e : count_at s at ≡ null_mark). rw (eq-eqb (count_at s at) null_mark e)) (λ (l : count_at s at ≤ max_values). by_test (eqb (count_at s at) null_mark) (λ t. rw t) (λ t. rw (t, le-ltb max_values (count_at s at) l))) row.few in
      rw (le-ltb (length s - at) 8 room, few)
      (values_pass (values_in (count_at s at)) (at + 8) _ (λ j less. g 0 j (omega arith) less)
      ∙ rows_pass n (i + 1) (next_row s at) rest (λ k less. h (suc k) (omega arith)) (λ k j less few. g (suc k) j (omega arith) few))

  pub rowset_passes : (rest : Answer) → Acceptable s → read_rowset s rest ≡ rest
  unfolding read_rowset head_order
  rowset_passes rest a =
      let there : 8 ≤ length s - 0 = omega (arith, a.there) in
      rw (le-ltb (length s - 0) 8 there, le-ltb max_rows (count_at s 0) a.few)
      (rows_pass (count_at s 0) 0 8 _ a.rows a.values ∙ rw (le-ltb (end_of s) (length s) a.nothing_behind))

told : (a b c d : ℕ) → accepted 0 (a ∷ b ∷ []) ≡ accepted 0 (c ∷ d ∷ []) → (a ≡ c) × (b ≡ d)
told a b c d same = (let e : a ≡ c = cc in e, let f : b ≡ d = cc in f)

pub rowset_reader_accepts : RowsetReaderAccepts
unfolding room_order
rowset_reader_accepts s rows values r rows' values' decodes = (
  (λ n m e.
      let is : walk ≡ accepted 0 (n ∷ m ∷ []) = sym (reading_walks s (length rows) (length values)) ∙ sym decodes.0 ∙ ap paper_decoded e in
      let ok = (acceptable s _ (ap lets is)).0 in
      let room = by_room (ltb (length rows) (count_at s 0)) (ltb (length values / entry_words) (values_of s)) n m (sym (rowset_passes s _ ok) ∙ is) in (
        ok,
        record { for_rows = ltb-false (length rows) (count_at s 0) room.0; for_values = ltb-false (length values / entry_words) (values_of s) room.1 },
        sym room.2,
        sym room.3,
      )),
  (λ ok room.
      decoded_injective r (Ok record { rows = count_at s 0; values = values_of s })
      (decodes.0 ∙ reading_walks s (length rows) (length values) ∙ rowset_passes s _ ok ∙ rw (le-ltb (length rows) (count_at s 0) room.for_rows, le-ltb (length values / entry_words) (values_of s) room.for_values))),
  (λ short e.
      let is : walk ≡ refuse 17 (no_room_values short) = sym (reading_walks s (length rows) (length values)) ∙ sym decodes.0 ∙ ap paper_decoded e in
      let ok = (acceptable s _ (ap lets is)).0 in (
        ok,
        λ room. by_short (ltb (length rows) (count_at s 0)) (ltb (length values / entry_words) (values_of s)) short (sym (rowset_passes s _ ok) ∙ is)
            (le-ltb (length rows) (count_at s 0) room.for_rows) (le-ltb (length values / entry_words) (values_of s) room.for_values),
      )),
  (λ ok short. decoded_injective r (Err (NoRoom (record { room = Rows; needed = count_at s 0; given = length rows }))) (decodes.0 ∙ reading_walks s (length rows) (length values) ∙ rowset_passes s _ ok ∙ rw (lt-ltb (length rows) (count_at s 0) short))),
  (λ ok fits short.
      decoded_injective r (Err (NoRoom (record { room = Values; needed = values_of s; given = length values / entry_words })))
      (decodes.0 ∙ reading_walks s (length rows) (length values) ∙ rowset_passes s _ ok ∙ rw (le-ltb (length rows) (count_at s 0) fits, lt-ltb (length values / entry_words) (values_of s) short))),
)
  where
    answer : Bool → Bool → Answer
    answer a b =
        pick a (refuse 17 (2 ∷ count_at s 0 ∷ length rows ∷ [])) (pick b (refuse 17 (3 ∷ values_of s ∷ (length values / entry_words) ∷ [])) (accepted 0 (count_at s 0 ∷ values_of s ∷ [])))

    walk : Answer
    walk = read_rowset s (answer (ltb (length rows) (count_at s 0)) (ltb (length values / entry_words) (values_of s)))

    by_room : (a b : Bool) (n m : ℕ) → answer a b ≡ accepted 0 (n ∷ m ∷ []) → (a ≡ false) × (b ≡ false) × (count_at s 0 ≡ n) × (values_of s ≡ m)
    by_room true b n m e = absurd (let z : ◌≡◌ {A = ℕ} 0 1 = cc in omega arith)
    by_room false true n m e = absurd (let z : ◌≡◌ {A = ℕ} 0 1 = cc in omega arith)
    by_room false false n m e = let both = told (count_at s 0) (values_of s) n m e in (refl, refl, both.0, both.1)

    by_short : (a b : Bool) (short : words.NoRoom) → answer a b ≡ refuse 17 (no_room_values short) → a ≡ false → b ≡ false → ⊥
    by_short true b short e x y = let z : ◌≡◌ {A = ℕ} 0 1 = cc in omega arith
    by_short false true short e x y = let z : ◌≡◌ {A = ℕ} 0 1 = cc in omega arith
    by_short false false short e x y = let z : ◌≡◌ {A = ℕ} 0 1 = cc in omega arith

-- One line decides, or none does.
pub rowset_order_decides : RowsetOrderDecides
unfolding reading
rowset_order_decides s rows values r rows' values' decodes =
    ⊎_elim
    (λ (one : Decides lines answer). inl (rw decodes.0 one))
    (λ (none : Silent lines × (answer ≡ last)). inr (none.0, decoded_injective r (Ok record { rows = count_at s 0; values = values_of s }) (decodes.0 ∙ none.1)))
    (deciding lines last)
  where
    lines : List (Line Answer)
    lines = answers (reading_lines s (length rows) (length values))

    last : Answer
    last = accepted 0 (count_at s 0 ∷ values_of s ∷ [])

    answer : Answer
    answer = decide lines last
