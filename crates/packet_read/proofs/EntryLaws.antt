-- What filling the table keeps. Assumes nothing.
use mathlib.Core.Path.{◌≡◌, refl, sym, ◌∙◌, ap}
use mathlib.Core.Bool.{Bool, true, false}
use mathlib.Core.List.{List, [], ◌∷◌, ◌++◌, append-nil, append_assoc}
use Prim.Native.Nat.{ℕ, zero, suc, ◌+◌, ◌*◌, ◌<◌, ◌≤◌}
use native.Mathlib.Nat.{zero-add, add-zero, add_assoc}
use native.Mathlib.Omega.{arith}
use lib.ListN.{length, get_or, set, length-append, get_or-append}
use lib.Seq.{get_or-append-add}
use Rattle.words.specs.Buffer.{over}
use Rattle.words.specs.Decide.{pick, ◌=?◌}
use Rattle.words.proofs.BufferLaws.{over_store, length_over}
use Rattle.packet.specs.Layout.{null_size, size, is_null, start, part_sum}
use Rattle.packet.specs.Entries.{entry_words, null_length, entry, entries_from}

module _ (s : List ℕ) (n : ℕ) where
  pub entries_more : (j i : ℕ) → entries_from s n j (i + 1) ≡ entries_from s n j i ++ entry s n (j + i)
  unfolding entries_from
  entries_more j zero = append-nil (entry s n j) ∙ ap (entry s n) (sym (add-zero j))
  entries_more j (suc i) =
      let one_more : suc i + 1 ≡ suc (i + 1) = omega arith in
      let same : j + 1 + i ≡ j + suc i = omega arith in
      ap (entries_from s n j) one_more ∙ ap (λ (l : List ℕ). entry s n j ++ l) (entries_more (j + 1) i)
      ∙ sym (append_assoc (entry s n j) (entries_from s n (j + 1) i) (entry s n (j + 1 + i)))
      ∙ ap (λ (k : ℕ). entry s n j ++ entries_from s n (j + 1) i ++ entry s n k) same

  length_entry : (i : ℕ) → length (entry s n i) ≡ entry_words
  length_entry i = go (is_null s i)
    where
      go : (b : Bool) → length (pick b (0 ∷ null_length ∷ part_sum s n i ∷ []) (start s n i ∷ size s i ∷ part_sum s n i ∷ [])) ≡ entry_words
      go true = refl
      go false = refl

  pub length_entries : (j i : ℕ) → length (entries_from s n j i) ≡ entry_words * i
  unfolding entries_from
  length_entries j zero = refl
  length_entries j (suc i) = rw (length-append, length_entry j, length_entries (j + 1) i) (omega arith)

  -- word w of entry i, of k entries from part j on
  pub words_at : (j k i w : ℕ) → w < entry_words → i < k → get_or (entries_from s n j k) (entry_words * i + w) 0 ≡ get_or (entry s n (j + i)) w 0
  unfolding entries_from
  words_at j zero i w hw h = absurd (omega arith)
  words_at j (suc k) zero w hw h =
      ap (λ (m : ℕ). get_or (entry s n j ++ entries_from s n (j + 1) k) m 0) (omega arith)
      ∙ get_or-append (entry s n j) (entries_from s n (j + 1) k) 0 w (rw (length_entry j) hw)
      ∙ ap (λ (m : ℕ). get_or (entry s n m) w 0) (sym (add-zero j))
  words_at j (suc k) (suc i) w hw h =
      ap (λ (m : ℕ). get_or (entry s n j ++ entries_from s n (j + 1) k) m 0) (omega (arith, length_entry j))
      ∙ get_or-append-add (entry s n j) (entries_from s n (j + 1) k) (entry_words * i + w) 0
      ∙ words_at (j + 1) k i w hw (omega arith)
      ∙ ap (λ (m : ℕ). get_or (entry s n m) w 0) (omega arith)

  -- the three words of part i
  entry_words_lem : (i at found sum o l : ℕ) → at ≡ start s n i → found ≡ size s i → sum ≡ part_sum s n i → o ≡ pick (found =? null_size) 0 at → l ≡ pick (found =? null_size) null_length found
      → entry s n i ≡ o ∷ l ∷ sum ∷ []
  entry_words_lem i at found sum o l place read stored offset_is length_is = rw (offset_is, length_is, ← place, ← read, ← stored) (go (found =? null_size))
    where
      go : (b : Bool) → pick b (0 ∷ null_length ∷ sum ∷ []) (at ∷ found ∷ sum ∷ []) ≡ pick b 0 at ∷ pick b null_length found ∷ sum ∷ []
      go true = refl
      go false = refl

  module _ (i at found sum o l : ℕ) (now table : List ℕ) (place : at ≡ start s n i) (read : found ≡ size s i) (stored : sum ≡ part_sum s n i)
      (offset_is : o ≡ pick (found =? null_size) 0 at) (length_is : l ≡ pick (found =? null_size) null_length found)
      (so_far : now ≡ over (entries_from s n 0 i) table) (room : entry_words * i + entry_words ≤ length table) where
    pub entries_step : set (set (set now (entry_words * i) o) (entry_words * i + 1) l) (entry_words * i + 2) sum ≡ over (entries_from s n 0 (i + 1)) table
    entries_step =
        let long : length (entries_from s n 0 i) ≡ entry_words * i = length_entries 0 i in
        let done : List ℕ = entries_from s n 0 i in
        let longer : length (done ++ (o ∷ [])) ≡ entry_words * i + 1 = length-append done (o ∷ []) ∙ ap (λ (k : ℕ). k + 1) long in
        let longest : length (done ++ (o ∷ []) ++ (l ∷ [])) ≡ entry_words * i + 2 =
        length-append (done ++ (o ∷ [])) (l ∷ []) ∙ ap (λ (k : ℕ). k + 1) longer ∙ add_assoc (entry_words * i) 1 1 in
        let all : done ++ (o ∷ []) ++ (l ∷ []) ++ (sum ∷ []) ≡ entries_from s n 0 (i + 1) =
        ap (λ (w : List ℕ). w ++ (sum ∷ [])) (append_assoc done (o ∷ []) (l ∷ []))
        ∙ append_assoc done (o ∷ l ∷ []) (sum ∷ [])
        ∙ ap (λ (w : List ℕ). done ++ w) (sym (entry_words_lem i at found sum o l place read stored offset_is length_is) ∙ ap (entry s n) (sym (zero-add i)))
        ∙ sym (entries_more 0 i) in
        ap (λ (w : List ℕ). set (set (set w (entry_words * i) o) (entry_words * i + 1) l) (entry_words * i + 2) sum) so_far
        ∙ ap (λ (w : List ℕ). set (set w (entry_words * i + 1) l) (entry_words * i + 2) sum) (over_store done table (entry_words * i) o 0 long (omega arith))
        ∙ ap (λ (w : List ℕ). set w (entry_words * i + 2) sum) (over_store (done ++ (o ∷ [])) table (entry_words * i + 1) l 0 longer (omega arith))
        ∙ over_store (done ++ (o ∷ []) ++ (l ∷ [])) table (entry_words * i + 2) sum 0 longest (omega arith)
        ∙ ap (λ (w : List ℕ). over w table) all

  pub length_filled : (i : ℕ) (now table : List ℕ) → now ≡ over (entries_from s n 0 i) table → entry_words * i ≤ length table → length now ≡ length table
  length_filled i now table so_far room = ap length so_far ∙ length_over (entries_from s n 0 i) table (rw (length_entries 0 i) room)
