-- Two value tables, each over an area, whose entries have the same words but for where their blobs lie, and blobs
-- with the same bytes: the same content, and the same bytes, sizes and limits in writing. Assumes nothing.
use mathlib.Core.Path.{◌≡◌, refl, ◌∙◌, ap}
use mathlib.Core.Bool.{true, false}
use mathlib.Core.Logic.{⊎_elim}
use mathlib.Core.List.{List, [], ◌∷◌}
use Prim.Native.Nat.{ℕ, zero, suc, ◌+◌, ◌*◌, ◌%◌}
use native.Mathlib.Omega.{arith}
use lib.ListN.{length, get_or}
use Rattle.words.specs.Buffer.{stretch}
use Rattle.words.specs.Decide.{Line}
use Rattle.wire.specs.Layout.{entry_words, blob, values_in, payload_bytes, value_bytes, entry_bytes, values_bytes, row_bytes, rows_bytes, rowset_bytes}
use Rattle.wire.specs.Content.{Cell, Row, cell_in, cells_in, content_in, row_in, rows_from, rows_in}
use Rattle.wire_check.specs.Writing.{first_bad, value_size, values_size, row_size, rows_size, rowset_size, values_limits, rows_limits, check_lines, writing}
use Rattle.pack_pairs.proofs.PairLaws.{either}

pub record Same (area t second u : List ℕ) (k : ℕ) : Type 0 where
  pub id : get_or u k 0 ≡ get_or t k 0
  pub type : get_or u (k + 1) 0 ≡ get_or t (k + 1) 0
  pub aggregate : get_or u (k + 2) 0 ≡ get_or t (k + 2) 0
  pub size : get_or u (k + 4) 0 ≡ get_or t (k + 4) 0
  pub bytes : blob (get_or t (k + 1) 0) ≡ true → stretch second (get_or u (k + 3) 0) (get_or t (k + 4) 0) ≡ stretch area (get_or t (k + 3) 0) (get_or t (k + 4) 0)
  pub bits : blob (get_or t (k + 1) 0) ≡ false → get_or u (k + 3) 0 ≡ get_or t (k + 3) 0

module _ (area t second u : List ℕ) (each : (k : ℕ) → k % entry_words ≡ 0 → Same area t second u k) where
  -- The content

  content_same : (k : ℕ) → Same area t second u k
      → content_in second (get_or u (k + 1) 0) (get_or u (k + 3) 0) (get_or u (k + 4) 0) ≡ content_in area (get_or t (k + 1) 0) (get_or t (k + 3) 0) (get_or t (k + 4) 0)
  content_same k same =
      rw (same.type, same.size)
      (⊎_elim (λ (b : blob (get_or t (k + 1) 0) ≡ true). rw (b, same.bytes b)) (λ (b : blob (get_or t (k + 1) 0) ≡ false). rw (b, same.bits b)) (either (blob (get_or t (k + 1) 0))))

  cell_same : (k : ℕ) → k % entry_words ≡ 0 → cell_in second u k ≡ cell_in area t k
  cell_same k aligned =
      let same = each k aligned in
      let content = content_same k same in
      λ i. record { id = same.id i; type = same.type i; aggregate = same.aggregate i; content = content i }

  cells_same : (n k : ℕ) → k % entry_words ≡ 0 → cells_in second u n k ≡ cells_in area t n k
  unfolding cells_in
  cells_same zero k aligned = refl
  cells_same (suc n) k aligned =
      ap (λ (c : Cell). c ∷ cells_in second u n (k + entry_words)) (cell_same k aligned)
      ∙ ap (◌∷◌ (cell_in area t k)) (cells_same n (k + entry_words) (omega arith))

  row_same : (count k : ℕ) → k % entry_words ≡ 0 → row_in second u count k ≡ row_in area t count k
  row_same count k aligned = rw (cells_same count k aligned)

  rows_same : (rows : List ℕ) (k : ℕ) → k % entry_words ≡ 0 → rows_from second rows u k ≡ rows_from area rows t k
  unfolding rows_from
  rows_same [] k aligned = refl
  rows_same (count ∷ rows) k aligned =
      ap (λ (r : Row). r ∷ rows_from second rows u (k + entry_words * values_in count)) (row_same count k aligned)
      ∙ ap (◌∷◌ (row_in area t count k)) (rows_same rows (k + entry_words * values_in count) (omega arith))

  pub content_as_before : (rows : List ℕ) → rows_in second rows u ≡ rows_in area rows t
  content_as_before rows = rows_same rows 0 refl

  -- The bytes

  payload_same : (k : ℕ) → Same area t second u k
      → payload_bytes second (get_or t (k + 1) 0) (get_or u (k + 3) 0) (get_or t (k + 4) 0) ≡ payload_bytes area (get_or t (k + 1) 0) (get_or t (k + 3) 0) (get_or t (k + 4) 0)
  unfolding payload_bytes
  payload_same k same =
      ⊎_elim (λ (b : blob (get_or t (k + 1) 0) ≡ true). rw (b, same.bytes b)) (λ (b : blob (get_or t (k + 1) 0) ≡ false). rw (b, same.bits b)) (either (blob (get_or t (k + 1) 0)))

  entry_same : (k : ℕ) → k % entry_words ≡ 0 → entry_bytes second u k ≡ entry_bytes area t k
  unfolding value_bytes
  entry_same k aligned =
      let same = each k aligned in
      rw (same.id, same.type, same.aggregate, same.size, payload_same k same)

  values_same : (n k : ℕ) → k % entry_words ≡ 0 → values_bytes second u n k ≡ values_bytes area t n k
  unfolding values_bytes
  values_same zero k aligned = refl
  values_same (suc n) k aligned = rw (entry_same k aligned, values_same n (k + entry_words) (omega arith))

  rows_bytes_same : (rows : List ℕ) (k : ℕ) → k % entry_words ≡ 0 → rows_bytes second rows u k ≡ rows_bytes area rows t k
  unfolding rows_bytes row_bytes
  rows_bytes_same [] k aligned = refl
  rows_bytes_same (count ∷ rows) k aligned =
      rw (values_same (values_in count) k aligned, rows_bytes_same rows (k + entry_words * values_in count) (omega arith))

  pub bytes_as_before : (rows : List ℕ) → rowset_bytes second rows u ≡ rowset_bytes area rows t
  unfolding rowset_bytes
  bytes_as_before rows = rw (rows_bytes_same rows 0 refl)

  -- Sizes and limits

  value_size_same : (k : ℕ) → k % entry_words ≡ 0 → value_size u k ≡ value_size t k
  value_size_same k aligned = let same = each k aligned in rw (same.type, same.size)

  values_size_same : (n k : ℕ) → k % entry_words ≡ 0 → values_size u n k ≡ values_size t n k
  unfolding values_size
  values_size_same zero k aligned = refl
  values_size_same (suc n) k aligned = rw (value_size_same k aligned, values_size_same n (k + entry_words) (omega arith))

  row_size_same : (count k : ℕ) → k % entry_words ≡ 0 → row_size u count k ≡ row_size t count k
  row_size_same count k aligned = rw (values_size_same (values_in count) k aligned)

  rows_size_same : (rows : List ℕ) (k : ℕ) → k % entry_words ≡ 0 → rows_size rows u k ≡ rows_size rows t k
  unfolding rows_size
  rows_size_same [] k aligned = refl
  rows_size_same (count ∷ rows) k aligned = rw (row_size_same count k aligned, rows_size_same rows (k + entry_words * values_in count) (omega arith))

  size_same : (rows : List ℕ) → rowset_size rows u ≡ rowset_size rows t
  unfolding rowset_size
  size_same rows = rw (rows_size_same rows 0 refl)

  values_limits_same : (n k size : ℕ) → k % entry_words ≡ 0 → values_limits u n k size ≡ values_limits t n k size
  unfolding values_limits
  values_limits_same zero k size aligned = refl
  values_limits_same (suc n) k size aligned =
      let same = each k aligned in
      rw (same.type, same.size, values_limits_same n (k + entry_words) (size + value_size t k) (omega arith))

  rows_limits_same : (rows : List ℕ) (i k size : ℕ) → k % entry_words ≡ 0 → rows_limits rows u i k size ≡ rows_limits rows t i k size
  unfolding rows_limits
  rows_limits_same [] i k size aligned = refl
  rows_limits_same (count ∷ rows) i k size aligned =
      rw (values_limits_same (values_in count) k (size + 8) aligned, row_size_same count k aligned, rows_limits_same rows (i + 1) (k + entry_words * values_in count) (size + row_size t count k) (omega arith))

  module _ (long : length u ≡ length t) (found : first_bad (length second) u ≡ first_bad (length area) t) where
    pub writing_as_before : (rows : List ℕ) (room : ℕ) → writing second rows u room ≡ writing area rows t room
    unfolding writing check_lines
    writing_as_before rows room = rw (size_same rows, long, found, rows_limits_same rows 0 0 8 refl)
