-- The entries that a tree tells over its input, offsets apart: what the tables say that are filled from it, and laws of the
-- attributes sorted by their error. Assumes nothing.
use mathlib.Core.Path.{◌≡◌, refl, sym, ◌∙◌, ap}
use mathlib.Core.List.{List, [], ◌∷◌, ◌++◌, append_assoc}
use mathlib.Core.Logic.{⊎_elim}
use Prim.Native.Nat.{ℕ, zero, suc, ◌+◌, ◌*◌, ◌<◌, ◌≤◌}
use native.Mathlib.Nat.{add-zero, zero-add, eq-or-lt_of_le}
use native.Mathlib.Omega.{arith}
use native.Mathlib.Decide.{ℕ_discrete}
use borrow.Author.Tests.{eq-eqb, ne_eqb}
use lib.ListN.{length, get_or, drop, length-append}
use lib.Seq.{get_or-drop, drop-drop, drop_at}
use Rattle.words.specs.Answer.{Answer, afterwards}
use Rattle.words.specs.Buffer.{stretch, over}
use Rattle.error_tree.specs.Tree.{Parts, none, attribute, inner, tree, error_count, attribute_count, error_words, attribute_words}
use Rattle.error_read.specs.Statement.{Decodes}
use Rattle.error_walk.specs.declared.walk.Counted.{Counted}
use Rattle.std.specs.declared.result.Result.TheVariants.{Ok}
use Rattle.error_read.proofs.TableLaws.{length_error_words, length_attribute_words}
use Rattle.error_table.specs.Table.{index_in, key_in, key_length_in, value_in, value_length_in}
use Rattle.error_write.specs.Written.{rows_of}
use Rattle.error_promises.specs.Round.{Error, error, Row, row, error_in, row_in, listed, errors_over, rows_over, of_error, by_error}
use Rattle.error_promises.proofs.Errors.{error_accepts_exactly}
use Rattle.error_tree.specs.Reading.{attribute_entry, error_entry}

-- errors at this depth and those inside them
unfoldable pub seen_errors : List ℕ → ℕ → Parts → List Error
seen_errors s depth none = []
seen_errors s depth (attribute k kl v vl more) = seen_errors s depth more
seen_errors s depth (inner code at n held more) =
    error code depth n (stretch s at n) ∷ (seen_errors s (depth + 1) held ++ seen_errors s depth more)

-- attributes of the error number i and of those inside it, the first of which has the number `next`
unfoldable pub seen_rows : List ℕ → ℕ → ℕ → Parts → List Row
seen_rows s i next none = []
seen_rows s i next (attribute k kl v vl more) = row i kl (stretch s k kl) vl (stretch s v vl) ∷ seen_rows s i next more
seen_rows s i next (inner code at n held more) =
    seen_rows s next (next + 1) held ++ seen_rows s i (next + 1 + error_count held) more

pub listed_add : {A : Type 0} (f : ℕ → A) (n m i : ℕ) → listed f (n + m) i ≡ listed f n i ++ listed f m (i + n)
unfolding listed
listed_add f zero m i = rw (zero-add m, add-zero i)
listed_add f (suc n) m i =
    let one : suc n + m ≡ suc (n + m) = omega arith in
    let next : i + suc n ≡ i + 1 + n = omega arith in
    rw (one, next) (ap (λ l. f i ∷ l) (listed_add f n m (i + 1)))

-- a word of an entry
word_at : (table ws : List ℕ) (at j : ℕ) → drop at table ≡ ws → get_or table (at + j) 0 ≡ get_or ws j 0
word_at table ws at j e = sym (get_or-drop at table j 0) ∙ ap (λ (l : List ℕ). get_or l j 0) e

-- what stands behind it
behind_at : (table ws rest : List ℕ) (at next : ℕ) → drop at table ≡ ws ++ rest → at + length ws ≡ next → drop next table ≡ rest
behind_at table ws rest at next e far =
    ap (λ (k : ℕ). drop k table) (sym far) ∙ sym (drop-drop (length ws) at table) ∙ ap (drop (length ws)) e ∙ drop_at ws rest (length ws) refl

-- a table that has a tree's words from an entry on tells that tree's entries
module _ (s table : List ℕ) where
  pub table_errors : (depth : ℕ) (p : Parts) (i : ℕ) (rest : List ℕ) → drop (error_entry * i) table ≡ error_words depth p ++ rest → listed (error_in s table) (error_count p) i ≡ seen_errors s depth p
  unfolding listed error_words error_count seen_errors
  table_errors depth none i rest e = refl
  table_errors depth (attribute k kl v vl more) i rest e = table_errors depth more i rest e
  table_errors depth (inner code at n held more) i rest e =
      let a : ℕ = error_count held in
      let b : ℕ = error_count more in
      let first : List ℕ = error_words (depth + 1) held in
      let second : List ℕ = error_words depth more in
      let count : 1 + a + b ≡ suc (a + b) = omega arith in
      let start : error_entry * i ≡ error_entry * i + 0 = omega arith in
      let code_is : get_or table (error_entry * i) 0 ≡ code = ap (λ (k : ℕ). get_or table k 0) start ∙ word_at table _ (error_entry * i) 0 e in
      let depth_is : get_or table (error_entry * i + 1) 0 ≡ depth = word_at table _ (error_entry * i) 1 e in
      let at-is : get_or table (error_entry * i + 2) 0 ≡ at = word_at table _ (error_entry * i) 2 e in
      let n-is : get_or table (error_entry * i + 3) 0 ≡ n = word_at table _ (error_entry * i) 3 e in
      let inside : drop (error_entry * (i + 1)) table ≡ first ++ (second ++ rest) = behind_at table (code ∷ depth ∷ at ∷ n ∷ []) ((first ++ second) ++ rest) (error_entry * i) (error_entry * (i + 1)) e (omega arith) ∙ append_assoc first second rest in
      let behind : drop (error_entry * (i + 1 + a)) table ≡ second ++ rest = behind_at table first (second ++ rest) (error_entry * (i + 1)) (error_entry * (i + 1 + a)) inside (omega (arith, length_error_words (depth + 1) held)) in
      let here : error_in s table i ≡ error code depth n (stretch s at n) = rw (code_is, depth_is, at-is, n-is) in
      let others : listed (error_in s table) (a + b) (i + 1) ≡ seen_errors s (depth + 1) held ++ seen_errors s depth more = listed_add (error_in s table) a b (i + 1) ∙ rw (table_errors (depth + 1) held (i + 1) (second ++ rest) inside, table_errors depth more (i + 1 + a) rest behind) in
      rw count (λ j. here j ∷ others j)

  pub table_rows : (i next : ℕ) (p : Parts) (k : ℕ) (rest : List ℕ) → drop (attribute_entry * k) table ≡ attribute_words i next p ++ rest → listed (row_in s table) (attribute_count p) k ≡ seen_rows s i next p
  unfolding listed attribute_words attribute_count seen_rows
  table_rows i next none k rest e = refl
  table_rows i next (attribute key kl v vl more) k rest e =
      let count : 1 + attribute_count more ≡ suc (attribute_count more) = omega arith in
      let start : attribute_entry * k ≡ attribute_entry * k + 0 = omega arith in
      let index_is : get_or table (attribute_entry * k) 0 ≡ i = ap (λ (n : ℕ). get_or table n 0) start ∙ word_at table _ (attribute_entry * k) 0 e in
      let key_is : get_or table (attribute_entry * k + 1) 0 ≡ key = word_at table _ (attribute_entry * k) 1 e in
      let kl-is : get_or table (attribute_entry * k + 2) 0 ≡ kl = word_at table _ (attribute_entry * k) 2 e in
      let v-is : get_or table (attribute_entry * k + 3) 0 ≡ v = word_at table _ (attribute_entry * k) 3 e in
      let vl-is : get_or table (attribute_entry * k + 4) 0 ≡ vl = word_at table _ (attribute_entry * k) 4 e in
      let behind : drop (attribute_entry * (k + 1)) table ≡ attribute_words i next more ++ rest = behind_at table (i ∷ key ∷ kl ∷ v ∷ vl ∷ []) (attribute_words i next more ++ rest) (attribute_entry * k) (attribute_entry * (k + 1)) e (omega arith) in
      let here : row_in s table k ≡ row i kl (stretch s key kl) vl (stretch s v vl) = rw (index_is, key_is, kl-is, v-is, vl-is) in
      let others : listed (row_in s table) (attribute_count more) (k + 1) ≡ seen_rows s i next more = table_rows i next more (k + 1) rest behind in
      rw count (λ j. here j ∷ others j)
  table_rows i next (inner code at n held more) k rest e =
      let a : ℕ = attribute_count held in
      let b : ℕ = attribute_count more in
      let first : List ℕ = attribute_words next (next + 1) held in
      let second : List ℕ = attribute_words i (next + 1 + error_count held) more in
      let inside : drop (attribute_entry * k) table ≡ first ++ (second ++ rest) = e ∙ append_assoc first second rest in
      let behind : drop (attribute_entry * (k + a)) table ≡ second ++ rest = behind_at table first (second ++ rest) (attribute_entry * k) (attribute_entry * (k + a)) inside (omega (arith, length_attribute_words next (next + 1) held)) in
      listed_add (row_in s table) a b k ∙ rw (table_rows next (next + 1) held k (second ++ rest) inside, table_rows i (next + 1 + error_count held) more (k + a) rest behind)

pub seen_rows_count : (s : List ℕ) (i next : ℕ) (p : Parts) → length (seen_rows s i next p) ≡ attribute_count p
unfolding seen_rows attribute_count
seen_rows_count s i next none = refl
seen_rows_count s i next (attribute k kl v vl more) = omega (arith, seen_rows_count s i next more)
seen_rows_count s i next (inner code at n held more) =
    length-append (seen_rows s next (next + 1) held) (seen_rows s i (next + 1 + error_count held) more)
    ∙ omega (arith, seen_rows_count s next (next + 1) held, seen_rows_count s i (next + 1 + error_count held) more)

-- What was read, both tables told by the tree
pub read_told : (s table rows table' rows' : List ℕ) (c : Counted) → Decodes s table rows (Ok c) table' rows'
    → (c.errors ≡ error_count (tree s)) × (c.attributes ≡ attribute_count (tree s)) × (errors_over s table' c.errors ≡ seen_errors s 1 (tree s)) × (rows_over s rows' c.attributes ≡ seen_rows s 0 0 (tree s))
read_told s table rows table' rows' c decodes =
    let exact = (error_accepts_exactly s table rows table' rows' (Ok c) decodes).1 c refl in
    let errors-after : table' ≡ over (error_words 1 (tree s)) table = decodes.1 ∙ ap (λ (a : Answer). afterwards a (error_words 1 (tree s)) table) (sym decodes.0) in
    let rows-after : rows' ≡ over (attribute_words 0 0 (tree s)) rows = decodes.2 ∙ ap (λ (a : Answer). afterwards a (attribute_words 0 0 (tree s)) rows) (sym decodes.0) in (
      exact.2,
      exact.3,
      ap (errors_over s table') exact.2 ∙ table_errors s table' 1 (tree s) 0 _ errors-after,
      ap (rows_over s rows') exact.3 ∙ table_rows s rows' 0 0 (tree s) 0 _ rows-after,
    )

-- Attributes by their error

pub by_error_add : (n m i : ℕ) (rows : List Row) → by_error (n + m) i rows ≡ by_error n i rows ++ by_error m (i + n) rows
unfolding by_error
by_error_add zero m i rows = rw (zero-add m, add-zero i)
by_error_add (suc n) m i rows =
    let one : suc n + m ≡ suc (n + m) = omega arith in
    let next : i + suc n ≡ i + 1 + n = omega arith in
    rw (one, next) (ap (λ (l : List Row). of_error i rows ++ l) (by_error_add n m (i + 1) rows) ∙ sym (append_assoc (of_error i rows) (by_error n (i + 1) rows) (by_error m (i + 1 + n) rows)))

module _ (index m : ℕ) (key : List ℕ) (l : ℕ) (value : List ℕ) (others : List Row) where
  pub of_own : (i : ℕ) → index ≡ i → of_error i (row index m key l value ∷ others) ≡ row index m key l value ∷ of_error i others
  unfolding of_error
  of_own i e = rw (eq-eqb index i e)

  pub of_other : (i : ℕ) → (index ≡ i → ⊥) → of_error i (row index m key l value ∷ others) ≡ of_error i others
  unfolding of_error
  of_other i e = rw (ne_eqb index i e)

  pub by_passed : (n i : ℕ) → index < i → by_error n i (row index m key l value ∷ others) ≡ by_error n i others
  unfolding by_error
  by_passed zero i h = refl
  by_passed (suc n) i h = rw (of_other i (λ e. omega arith), by_passed n (i + 1) (omega arith))

  by_one : (n i : ℕ) → i ≤ index → index < i + n → length (by_error n i (row index m key l value ∷ others)) ≡ suc (length (by_error n i others))
  unfolding by_error
  by_one zero i low high = absurd (omega arith)
  by_one (suc n) i low high =
      ⊎_elim
      (λ (same : i ≡ index).
      rw (of_own i (sym same), by_passed n (i + 1) (omega arith)))
      (λ (less : i < index).
      let rest : length (by_error n (i + 1) (row index m key l value ∷ others)) ≡ suc (length (by_error n (i + 1) others)) = by_one n (i + 1) (omega arith) (omega arith) in
      let left : length (of_error i others ++ by_error n (i + 1) (row index m key l value ∷ others)) ≡ length (of_error i others) + length (by_error n (i + 1) (row index m key l value ∷ others)) = length-append (of_error i others) (by_error n (i + 1) (row index m key l value ∷ others)) in
      let right : length (of_error i others ++ by_error n (i + 1) others) ≡ length (of_error i others) + length (by_error n (i + 1) others) = length-append (of_error i others) (by_error n (i + 1) others) in
      rw (of_other i (λ e. omega arith)) (omega arith))
      (eq-or-lt_of_le low)

pub by_none : (n i : ℕ) → by_error n i [] ≡ []
unfolding by_error of_error
by_none zero i = refl
by_none (suc n) i = by_none n (i + 1)

module _ (area attributes : List ℕ) where
  -- none is lost
  pub by_all : (n m k : ℕ) → ((j : ℕ) → j < k + m → index_in attributes j < n) → length (by_error n 0 (listed (row_in area attributes) m k)) ≡ m
  unfolding listed
  by_all n zero k good = rw (by_none n 0)
  by_all n (suc m) k good =
      by_one (index_in attributes k) (key_length_in attributes k) (stretch area (key_in attributes k) (key_length_in attributes k)) (value_length_in attributes k) (stretch area (value_in attributes k) (value_length_in attributes k)) (listed (row_in area attributes) m (k + 1)) n 0 (omega arith) (omega (arith, good k (omega arith)))
      ∙ ap suc (by_all n m (k + 1) (λ j below. good j (omega arith)))

  abbrev key_bytes : ℕ → List ℕ
  key_bytes k = stretch area (key_in attributes k) (key_length_in attributes k)

  abbrev value_bytes : ℕ → List ℕ
  value_bytes k = stretch area (value_in attributes k) (value_length_in attributes k)

  -- the rows ks, of the error number i
  unfoldable pub rows_as : ℕ → List ℕ → List Row
  rows_as i [] = []
  rows_as i (k ∷ ks) = row i (length (key_bytes k)) (key_bytes k) (length (value_bytes k)) (value_bytes k) ∷ rows_as i ks

  pub of_rows : (i n k : ℕ) → ((j : ℕ) → j < k + n → (length (key_bytes j) ≡ key_length_in attributes j) × (length (value_bytes j) ≡ value_length_in attributes j))
      → of_error i (listed (row_in area attributes) n k) ≡ rows_as i (rows_of attributes i n k)
  unfolding listed rows_as rows_of of_error
  of_rows i zero k long = refl
  of_rows i (suc n) k long = go (of_rows i n (k + 1) (λ j below. long j (omega arith))) (long k (omega arith)) (ℕ_discrete (index_in attributes k) i)
    where
      go : of_error i (listed (row_in area attributes) n (k + 1)) ≡ rows_as i (rows_of attributes i n (k + 1))
          → (length (key_bytes k) ≡ key_length_in attributes k) × (length (value_bytes k) ≡ value_length_in attributes k)
          → Dec (index_in attributes k ≡ i) → of_error i (listed (row_in area attributes) (suc n) k) ≡ rows_as i (rows_of attributes i (suc n) k)
      go rest here (yes e) = rw (eq-eqb (index_in attributes k) i e) (λ j. row (e j) (sym here.0 j) (key_bytes k) (sym here.1 j) (value_bytes k) ∷ rest j)
      go rest here (no e) = rw (ne_eqb (index_in attributes k) i e) rest
