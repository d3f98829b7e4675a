-- What the rowset writer accepts, both ways. Assumes nothing.
use mathlib.Core.Path.{◌≡◌, refl, sym, ◌∙◌, ap}
use mathlib.Core.Bool.{Bool, true, false, not, ◌&&◌, false≢true, and-false}
use mathlib.Core.List.{List, [], ◌∷◌}
use mathlib.Core.Logic.{◌⊎◌, inl, inr, ⊎_elim}
use Prim.Native.Nat.{ℕ, zero, suc, ◌+◌, ◌-◌, ◌*◌, ◌/◌, ◌%◌, ◌^◌, ◌<◌, ◌≤◌}
use native.Mathlib.Omega.{arith}
use lib.Dec.{ltb, eqb}
use lib.ListN.{length, get_or}
use borrow.Author.Tests.{ltb-true, ltb-false, lt-ltb, le-ltb, eqb-true, eq-eqb, ne_eqb, not-false}
use Rattle.words.specs.Answer.{Answer, accepted, more, refused, refuse, afterwards}
use Rattle.words.specs.Paper.{no_room_values}
use Rattle.words.specs.declared.outcome.NoRoom as words
use Rattle.words.specs.declared.outcome.Room.TheVariants.{Output}
use Rattle.words.specs.Decide.{pick, decide, first}
use Rattle.words.specs.Buffer.{over}
use Rattle.words.proofs.DecideLaws.{first_all}
use Rattle.wire.specs.Layout.{null_mark, max_rows, max_values, max_length, max_size, entry_words, boolean, scalar, blob, known, values_in, rowset_bytes}
use Rattle.wire.specs.declared.error.WireError.TheVariants.{NoRoom}
use Rattle.wire_check.specs.Writing.{id_in, type_in, aggregate_in, bits_in, length_in, entries_in, total, bad, bad_entry, first_bad, value_size, values_size, row_size, rows_size, rowset_size, value_order, count_order, writing}
use Rattle.wire_check.specs.Stages.{table_order, fit_values, fit_row, fit_rows, fitting}
use Rattle.wire_check.specs.Stages.{Good, Sound}
use Rattle.wire_check.proofs.TableLaws.{none_wrong, tables_pass}
use Rattle.wire_write.specs.Paper.{paper_encoded}
use Rattle.wire_write.specs.Statement.{Encodes}
use Rattle.wire_write.proofs.LengthLaws.{rowset_length}
use Rattle.wire_write.proofs.Unique.{encoded_one}
use Rattle.wire_write.proofs.EncodeLaws.{encodes_told}
use Rattle.wire_check.proofs.LinesLaws.{writing_walks}
use Rattle.wire.specs.Content.{rows_in, bytes_of_rows}
use Rattle.promises.specs.RowsetWriter.{Allowed, table_bytes, Encodable, RowsetWriterAccepts}
use Rattle.promises.proofs.CellRound.{by_test}
use Rattle.promises.proofs.TableBytes.{AllowedFrom, allowed_first, allowed_next, allowed_rest, rowset_bytes_lem}
use Rattle.std.specs.declared.result.Result.TheVariants.{Ok, Err}

-- accepted, or refused by 17 alone
abbrev pub lets : Answer → Bool
lets (accepted n fields) = true
lets more = true
lets (refused number carried consumed) = eqb number 17

abbrev pub Lets : Answer → Type 0
Lets a = lets a ≡ true

-- a line that leads to another refusal was passed
pub passed : (test : Bool) (number : ℕ) (carried : List ℕ) (rest : Answer) → eqb number 17 ≡ false → Lets (pick test (refuse number carried) rest) → (test ≡ false) × Lets rest
passed true number carried rest other e = absurd (false≢true (sym other ∙ e))
passed false number carried rest other e = (refl, e)

-- One entry

module _ (area values : List ℕ) (k : ℕ) where
  allowed : bad_entry (length area) values k ≡ false → (blob (type_in values k) && ltb max_length (length_in values k)) ≡ false → Allowed area values k
  allowed good short =
      let fails = none_wrong (length area) (id_in values k) (type_in values k) (aggregate_in values k) (bits_in values k) (length_in values k) good in
      record {
        id_fits = ltb-false 65535 (id_in values k) fails.0;
        is_known = not-false (known (type_in values k)) fails.1;
        aggregate_bit = ltb-false 1 (aggregate_in values k) fails.2;
        boolean_bit = λ e. ltb-false 1 (bits_in values k) (rw (eq-eqb (type_in values k) 6 e) at fails.3);
        null_bits = λ e. eqb-true (bits_in values k) 0 (not-false (eqb (bits_in values k) 0) (rw (eq-eqb (type_in values k) 2 e) at fails.4));
        no_length = λ b. eqb-true (length_in values k) 0 (not-false (eqb (length_in values k) 0) (rw b at fails.5));
        lies = λ b. ltb-false (length area) (bits_in values k + length_in values k) (rw b at fails.6);
        short = λ b. ltb-false max_length (length_in values k) (rw b at short);
      }

  -- a test that holds only where what it guards is kept
  kept : (guard test : Bool) → (guard ≡ true → test ≡ false) → (guard && test) ≡ false
  kept true test h = h refl
  kept false test h = refl

  module _ (entry : Allowed area values k) where
    not_bad : bad_entry (length area) values k ≡ false
    unfolding bad
    not_bad =
        let boolean_ok : (eqb (type_in values k) 6 && ltb 1 (bits_in values k)) ≡ false = kept _ _ (λ e. le-ltb 1 (bits_in values k) (entry.boolean_bit (eqb-true (type_in values k) 6 e))) in
        let null_ok : (eqb (type_in values k) 2 && not (eqb (bits_in values k) 0)) ≡ false = kept _ _ (λ e. ap not (eq-eqb (bits_in values k) 0 (entry.null_bits (eqb-true (type_in values k) 2 e)))) in
        let length-ok : (not (blob (type_in values k)) && not (eqb (length_in values k) 0)) ≡ false = by_test (blob (type_in values k)) (λ b. rw b) (λ b. rw (b, eq-eqb (length_in values k) 0 (entry.no_length b))) in
        let lies_ok : (blob (type_in values k) && ltb (length area) (bits_in values k + length_in values k)) ≡ false = kept _ _ (λ b. le-ltb (length area) (bits_in values k + length_in values k) (entry.lies b)) in
        rw (le-ltb 65535 (id_in values k) entry.id_fits, entry.is_known, le-ltb 1 (aggregate_in values k) entry.aggregate_bit, boolean_ok, null_ok, length-ok, lies_ok)

    not_long : (blob (type_in values k) && ltb max_length (length_in values k)) ≡ false
    not_long = kept _ _ (λ b. le-ltb max_length (length_in values k) (entry.short b))

-- The walk, forth

module _ (area values : List ℕ) (good : Good area values) where
  values_let : (m k size : ℕ) (rest : Answer) → k % entry_words ≡ 0 → k + entry_words * m ≤ length values → size ≤ max_size → Lets (fit_values values m k size rest)
      → AllowedFrom area values m k × (size + values_size values m k ≤ max_size) × Lets rest
  unfolding fit_values value_order values_size
  values_let zero k size rest aligned h fits e = ((λ i less. absurd (omega arith)), omega arith, e)
  values_let (suc m) k size rest aligned h fits e =
      let twelve = passed _ 12 _ _ refl e in
      let sum : ℕ = size + value_size values k in
      let thirteen = passed (ltb max_size sum) 13 (sum ∷ []) (fit_values values m (k + entry_words) sum rest) refl twelve.1 in
      let within : sum ≤ max_size = ltb-false max_size sum thirteen.0 in
      let others = values_let m (k + entry_words) sum rest (omega arith) (omega arith) within thirteen.1 in
      let bound : sum + values_size values m (k + entry_words) ≤ max_size = others.1 in
      (each (allowed area values k (good k aligned (omega arith)) twelve.0) others.0, omega arith, others.2)
    where
      each : Allowed area values k → AllowedFrom area values m (k + entry_words) → (i : ℕ) → i < suc m → Allowed area values (k + entry_words * i)
      each here behind zero less = let place : k ≡ k + entry_words * 0 = omega arith in rw (← place) here
      each here behind (suc i) less = let place : k + entry_words + entry_words * i ≡ k + entry_words * suc i = omega arith in rw place at (behind i (omega arith))

  count_let : (word : ℕ) → ltb max_values (values_in word) ≡ false → (word ≡ null_mark) ⊎ (word ≤ max_values)
  count_let word few =
      by_test (eqb word null_mark) (λ t. inl (eqb-true word null_mark t)) (λ t. inr (ltb-false max_values word (rw t at few)))

  rows_let : (rows : List ℕ) (i k size : ℕ) (rest : Answer) → k % entry_words ≡ 0 → k + entry_words * total rows ≤ length values → size ≤ max_size → Lets (fit_rows rows values i k size rest)
      → ((j : ℕ) → j < length rows → (get_or rows j 0 ≡ null_mark) ⊎ (get_or rows j 0 ≤ max_values))
      × AllowedFrom area values (total rows) k × (size + rows_size rows values k ≤ max_size) × Lets rest
  unfolding fit_rows fit_row count_order total rows_size
  rows_let [] i k size rest aligned h fits e = ((λ j less. absurd (omega arith)), (λ j less. absurd (omega arith)), omega arith, e)
  rows_let (word ∷ rows) i k size rest aligned h fits e =
      let thirteen = passed (ltb max_size (size + 8)) 13 ((size + 8) ∷ []) _ refl e in
      let within : size + 8 ≤ max_size = ltb-false max_size (size + 8) thirteen.0 in
      let eleven = passed _ 11 _ _ refl thirteen.1 in
      let inside = values_let (values_in word) k (size + 8) _ aligned (omega arith) within eleven.1 in
      let row : size + 8 + values_size values (values_in word) k ≤ max_size = inside.1 in
      let others = rows_let rows (i + 1) (k + entry_words * values_in word) (size + row_size values word k) rest (omega arith) (omega arith) (omega arith) inside.2 in
      let bound : size + row_size values word k + rows_size rows values (k + entry_words * values_in word) ≤ max_size = others.2 in
      (each_count (count_let word eleven.0) others.0, each inside.0 others.1, omega arith, others.3)
    where
      each_count : (word ≡ null_mark) ⊎ (word ≤ max_values) → ((j : ℕ) → j < length rows → (get_or rows j 0 ≡ null_mark) ⊎ (get_or rows j 0 ≤ max_values))
          → (i : ℕ) → i < suc (length rows) → (get_or (word ∷ rows) i 0 ≡ null_mark) ⊎ (get_or (word ∷ rows) i 0 ≤ max_values)
      each_count here behind zero less = here
      each_count here behind (suc j) less = behind j (omega arith)

      each : AllowedFrom area values (values_in word) k → AllowedFrom area values (total rows) (k + entry_words * values_in word) → AllowedFrom area values (values_in word + total rows) k
      each here behind j less =
          by_test (ltb j (values_in word)) (λ t. here j (ltb-true j (values_in word) t))
          (λ t. let past : values_in word ≤ j = ltb-false j (values_in word) t in
          let place : k + entry_words * values_in word + entry_words * (j - values_in word) ≡ k + entry_words * j = omega arith in
          rw place at (behind (j - values_in word) (omega arith)))

-- The walk, back

module _ (area values : List ℕ) where
  values_pass : (m k size : ℕ) (rest : Answer) → AllowedFrom area values m k → size + values_size values m k ≤ max_size → fit_values values m k size rest ≡ rest
  unfolding fit_values value_order values_size
  values_pass zero k size rest each h = refl
  values_pass (suc m) k size rest each h =
      rw (not_long area values k (allowed_first area values m k each), le-ltb max_size (size + value_size values k) (omega arith))
      (values_pass m (k + entry_words) (size + value_size values k) rest (allowed_next area values m k each) (omega arith))

  few_passes : (word : ℕ) → (word ≡ null_mark) ⊎ (word ≤ max_values) → ltb max_values (values_in word) ≡ false
  few_passes word few = ⊎_elim (λ (e : word ≡ null_mark). rw (eq-eqb word null_mark e)) (λ (h : word ≤ max_values). rw (ne_eqb word null_mark (λ e. omega arith)) (le-ltb max_values word h)) few

  rows_pass : (rows : List ℕ) (i k size : ℕ) (rest : Answer) → ((j : ℕ) → j < length rows → (get_or rows j 0 ≡ null_mark) ⊎ (get_or rows j 0 ≤ max_values))
      → AllowedFrom area values (total rows) k → size + rows_size rows values k ≤ max_size → fit_rows rows values i k size rest ≡ rest
  unfolding fit_rows fit_row count_order total rows_size
  rows_pass [] i k size rest counts each h = refl
  rows_pass (word ∷ rows) i k size rest counts each h =
      rw (le-ltb max_size (size + 8) (omega arith), few_passes word (counts 0 (omega arith)))
      (values_pass (values_in word) k (size + 8) _ (λ j less. each j (omega arith)) (omega arith)
      ∙ rows_pass rows (i + 1) (k + entry_words * values_in word) (size + row_size values word k) rest (λ j less. counts (suc j) (omega arith))
      (allowed_rest area values (values_in word + total rows) (total rows) k (values_in word) each (omega arith)) (omega arith))

-- The whole

module _ (area rows values : List ℕ) where
  pub from_front : ((i : ℕ) → i < total rows → Allowed area values (entry_words * i)) → AllowedFrom area values (total rows) 0
  from_front each i less = let place : entry_words * i ≡ 0 + entry_words * i = omega arith in rw place at (each i less)

  pub bytes_same : ((i : ℕ) → i < total rows → Allowed area values (entry_words * i)) → rowset_bytes area rows values ≡ table_bytes area rows values
  bytes_same each = rowset_bytes_lem area values rows (from_front each)

  to_front : AllowedFrom area values (total rows) 0 → (i : ℕ) → i < total rows → Allowed area values (entry_words * i)
  to_front each i less = let place : 0 + entry_words * i ≡ entry_words * i = omega arith in rw place at (each i less)

  fitting_lets : (rest : Answer) → Lets (fitting area rows values rest)
      → Encodable area rows values × (length (table_bytes area rows values) ≡ rowset_size rows values) × Lets rest
  unfolding fitting table_order rowset_size
  fitting_lets rest e =
      let first = passed _ 18 _ _ refl e in
      let second = passed _ 18 _ _ refl first.1 in
      let third = passed _ 18 _ _ refl second.1 in
      let tenth = passed _ 10 _ _ refl third.1 in
      let whole : length values % entry_words ≡ 0 = eqb-true (length values % entry_words) 0 (not-false _ first.0) in
      let sums : eqb (total rows) (length values / entry_words) ≡ true = not-false _ second.0 in
      let few : length rows ≤ max_rows = ltb-false max_rows (length rows) tenth.0 in
      let sound = (tables_pass area rows values whole sums (first_bad (length area) values) refl (ltb-false _ _ third.0) few).0 in
      let all : length values ≡ entry_words * total rows = sound.whole in
      let walk = rows_let area values sound.good rows 0 0 8 rest refl (omega arith) (omega arith) tenth.1 in
      let entries = to_front walk.1 in
      let size : length (table_bytes area rows values) ≡ 8 + rows_size rows values 0 = ap length (sym (bytes_same entries)) ∙ rowset_length area rows values sound in
      (record { whole = all; entries = entries; few_rows = few; counts = walk.0; small = omega (arith, walk.2) }, size, walk.3)

  module _ (e : Encodable area rows values) where
    sound : Sound area rows values
    sound =
        record {
          whole = e.whole;
          good = λ k aligned within.
              let all : length values ≡ entry_words * total rows = e.whole in
              let place : entry_words * (k / entry_words) ≡ k = omega arith in
              not_bad area values k (rw place at (e.entries (k / entry_words) (omega arith)));
        }

    pub size_is : length (table_bytes area rows values) ≡ rowset_size rows values
    size_is = ap length (sym (bytes_same e.entries)) ∙ rowset_length area rows values sound

    none_first : first_bad (length area) values ≡ 0 + entries_in values
    unfolding first_bad
    none_first =
        let all : length values ≡ entry_words * total rows = e.whole in
        first_all (λ (i : ℕ). bad_entry (length area) values (entry_words * i)) 0 (entries_in values) (λ k low high. not_bad area values (entry_words * k) (e.entries k (omega arith)))

    fitting_passes : (rest : Answer) → fitting area rows values rest ≡ rest
    unfolding fitting rowset_size
    fitting_passes rest =
        let all : length values ≡ entry_words * total rows = e.whole in
        let none : entries_in values ≤ first_bad (length area) values = omega (arith, none_first) in
        let bytes : length (table_bytes area rows values) ≡ 8 + rows_size rows values 0 = size_is in
        (tables_pass area rows values (omega arith) (eq-eqb (total rows) (length values / entry_words) (omega arith)) (first_bad (length area) values) refl none e.few_rows).1 _
        ∙ rows_pass area values rows 0 0 8 rest e.counts (from_front e.entries) (omega (arith, e.small))

told : (m n : ℕ) → accepted m [] ≡ accepted n [] → m ≡ n
told m n same = cc

pub rowset_writer_accepts : RowsetWriterAccepts
rowset_writer_accepts area rows values before r after encodes = (
  (λ n e.
      let is : walk ≡ accepted n [] = sym (writing_walks area rows values (length before)) ∙ sym encodes.0 ∙ ap paper_encoded e in
      let found = fitting_lets area rows values _ (ap lets is) in
      let size = found.1 in
      let answer : pick (ltb (length before) (rowset_size rows values)) (refuse 17 (4 ∷ rowset_size rows values ∷ length before ∷ [])) (accepted (rowset_size rows values) []) ≡ accepted n [] =
      sym (fitting_passes area rows values found.0 _) ∙ is in
      let room = by_room (ltb (length before) (rowset_size rows values)) n answer in
      let fits : rowset_size rows values ≤ length before = ltb-false (length before) (rowset_size rows values) room.0 in (
        found.0,
        sym room.1 ∙ sym size,
        omega (arith, size),
        encodes_told area rows values before r after encodes ∙ ap (λ (a : Answer). afterwards a (rowset_bytes area rows values) before) (ap paper_encoded e) ∙ ap (λ (ws : List ℕ). over ws before) (bytes_same area rows values found.0.entries),
      )),
  (λ ok room.
      let size = size_is area rows values ok in
      encoded_one r (Ok (length (table_bytes area rows values)))
      (encodes.0 ∙ writing_walks area rows values (length before) ∙ fitting_passes area rows values ok _ ∙ rw (le-ltb (length before) (rowset_size rows values) (omega (arith, size)), size))),
  (λ short e.
      let is : walk ≡ refuse 17 (no_room_values short) = sym (writing_walks area rows values (length before)) ∙ sym encodes.0 ∙ ap paper_encoded e in
      let found = fitting_lets area rows values _ (ap lets is) in
      let answer = sym (fitting_passes area rows values found.0 _) ∙ is in
      (found.0, omega (arith, found.1, ltb-true (length before) (rowset_size rows values) (by_short (ltb (length before) (rowset_size rows values)) short answer)))),
  (λ ok short.
      let size = size_is area rows values ok in
      encoded_one r (Err (NoRoom (record { room = Output; needed = length (table_bytes area rows values); given = length before })))
      (encodes.0 ∙ writing_walks area rows values (length before) ∙ fitting_passes area rows values ok _ ∙ rw (lt-ltb (length before) (rowset_size rows values) (omega (arith, size)), size))),
)
  where
    walk : Answer
    walk = fitting area rows values (pick (ltb (length before) (rowset_size rows values)) (refuse 17 (4 ∷ rowset_size rows values ∷ length before ∷ [])) (accepted (rowset_size rows values) []))

    by_room : (t : Bool) (n : ℕ) → pick t (refuse 17 (4 ∷ rowset_size rows values ∷ length before ∷ [])) (accepted (rowset_size rows values) []) ≡ accepted n [] → (t ≡ false) × (rowset_size rows values ≡ n)
    by_room true n e = absurd (let z : ◌≡◌ {A = ℕ} 0 1 = cc in omega arith)
    by_room false n e = (refl, told (rowset_size rows values) n e)

    by_short : (t : Bool) (short : words.NoRoom) → pick t (refuse 17 (4 ∷ rowset_size rows values ∷ length before ∷ [])) (accepted (rowset_size rows values) []) ≡ refuse 17 (no_room_values short) → t ≡ true
    by_short true short e = refl
    by_short false short e = absurd (let z : ◌≡◌ {A = ℕ} 0 1 = cc in omega arith)
