-- Laws of the sizes, from the tables' lengths. Assumes nothing.
use mathlib.Core.Path.{◌≡◌, refl, sym, ◌∙◌, ap}
use mathlib.Core.Bool.{Bool, true, false}
use mathlib.Core.List.{List, [], ◌∷◌}
use Prim.Native.Nat.{ℕ, suc, ◌+◌, ◌-◌, ◌<◌, ◌≤◌}
use native.Mathlib.Nat.{zero-add, add-zero, add_assoc}
use native.Mathlib.Omega.{arith}
use borrow.Author.Tests.{eq-eqb, ne_eqb}
use lib.ListN.{length}
use Rattle.words.specs.Decide.{pick, ◌=?◌}
use Rattle.varint.specs.Varint.{varint}
use Rattle.varint.proofs.WriteLaws.{length_groups}
use Rattle.error_table.specs.Table.{index_in}
use Rattle.error_write.specs.Written.{rows_of, all_rows}
use Rattle.error_write.specs.Writing.{most_bytes, capped}
use Rattle.error_write.specs.Stages.{Covers, delimited_size, attribute_size, row_size, entries_size, dictionary_size}
use Rattle.error_write.proofs.CappedLaws.{capped_small, capped_add, capped_add_left, capped_add_right, capped_delimited}

pub varint_few : (n : ℕ) → length (varint n) ≤ 10
varint_few n = length_groups 9 n

-- sums of capped sizes
pub sum_of : (a b : ℕ) {x y r : ℕ} → x ≡ capped a → y ≡ capped b → r ≡ capped (x + y) → r ≡ capped (a + b)
sum_of a b p q e = e ∙ rw (p, q) (capped_add a b)

pub sum_behind : (a b : ℕ) {x y r : ℕ} → x ≡ a → y ≡ capped b → r ≡ capped (x + y) → r ≡ capped (a + b)
sum_behind a b p q e = e ∙ rw (p, q) (capped_add_right a b)

pub field_of : (n : ℕ) {x r : ℕ} → x ≡ capped n → r ≡ capped (delimited_size x) → r ≡ capped (delimited_size n)
field_of n p e = e ∙ rw p (capped_delimited n)

pub lead_of : (n : ℕ) {x r : ℕ} → x ≡ length (varint n) → r ≡ capped (1 + x + n) → r ≡ capped (delimited_size n)
lead_of n p e = e ∙ ap (λ (m : ℕ). capped (1 + m + n)) p

-- a row of this error's, or of another's
module _ (attributes : List ℕ) (i k : ℕ) where
  pub row_other : (index_in attributes k ≡ i → ⊥) → 0 ≡ capped (row_size attributes i k)
  row_other h = rw (ne_eqb (index_in attributes k) i h) (sym (capped_small 0 (omega arith)))

  pub row_own : (index_in attributes k ≡ i) → {x r : ℕ} → x ≡ capped (attribute_size attributes k) → r ≡ capped (delimited_size x) → r ≡ capped (row_size attributes i k)
  row_own h p e = rw (eq-eqb (index_in attributes k) i h) (field_of (attribute_size attributes k) p e)

pub dictionary_none : (n : ℕ) → n ≡ 0 → 0 ≡ capped (dictionary_size n)
dictionary_none n h = rw h (sym (capped_small 0 (omega arith)))

pub dictionary_some : (n : ℕ) → (n ≡ 0 → ⊥) → {r : ℕ} → r ≡ capped (delimited_size n) → r ≡ capped (dictionary_size n)
dictionary_some n h e = rw (ne_eqb n 0 h) e

-- the rows from k to till
module _ (attributes : List ℕ) (i till k : ℕ) where
  pub rows_end : till ≤ k → rows_of attributes i (till - k) k ≡ []
  unfolding rows_of
  rows_end h = let none : till - k ≡ 0 = omega arith in rw none

  pub rows_more : k < till → rows_of attributes i (till - k) k ≡ pick (index_in attributes k =? i) (k ∷ rows_of attributes i (till - (k + 1)) (k + 1)) (rows_of attributes i (till - (k + 1)) (k + 1))
  unfolding rows_of
  rows_more h = let one : till - k ≡ suc (till - (k + 1)) = omega arith in rw one

  pub entries_more : k < till → entries_size attributes (rows_of attributes i (till - k) k) ≡ row_size attributes i k + entries_size attributes (rows_of attributes i (till - (k + 1)) (k + 1))
  unfolding entries_size
  entries_more h = ap (entries_size attributes) (rows_more h) ∙ either (index_in attributes k =? i) (rows_of attributes i (till - (k + 1)) (k + 1))
    where
      either : (b : Bool) (ks : List ℕ) → entries_size attributes (pick b (k ∷ ks) ks) ≡ pick b (delimited_size (attribute_size attributes k)) 0 + entries_size attributes ks
      either true ks = refl
      either false ks = sym (zero-add (entries_size attributes ks))

-- so much was added up, and the rows from k on are still to come
pub record Adding (attributes : List ℕ) (i from till k size : ℕ) : Type 0 where
  pub placed : k ≤ till
  pub fits : size ≤ most_bytes
  pub sum : capped (size + entries_size attributes (rows_of attributes i (till - k) k)) ≡ capped (entries_size attributes (rows_of attributes i (till - from) from))

pub adding : (attributes : List ℕ) (i from till : ℕ) → from ≤ till → Adding attributes i from till from 0
adding attributes i from till h = record { placed = h; fits = omega arith; sum = ap capped (zero-add _) }

module _ {attributes : List ℕ} {i from till k size : ℕ} (a : Adding attributes i from till k size) where
  pub added : till ≤ k → Covers attributes i from till → size ≡ capped (entries_size attributes (all_rows attributes i))
  unfolding entries_size
  added h covers =
      let last : capped (size + 0) ≡ capped (entries_size attributes (rows_of attributes i (till - from) from)) = rw (rows_end attributes i till k h) at a.sum in
      sym (capped_small size a.fits) ∙ ap capped (sym (add-zero size)) ∙ last ∙ ap (λ (ks : List ℕ). capped (entries_size attributes ks)) covers.all

  pub adds_on : k < till → (row sum : ℕ) → row ≡ capped (row_size attributes i k) → sum ≡ capped (size + row) → sum ≤ most_bytes → Adding attributes i from till (k + 1) sum
  adds_on h row sum p e small =
      let rest : ℕ = entries_size attributes (rows_of attributes i (till - (k + 1)) (k + 1)) in
      let now : sum ≡ capped (size + row_size attributes i k) = e ∙ rw p (capped_add_right size (row_size attributes i k)) in
      let joined : capped (size + (row_size attributes i k + rest)) ≡ capped (entries_size attributes (rows_of attributes i (till - from) from)) = rw (entries_more attributes i till k h) at a.sum in
      record {
        placed = omega arith;
        fits = small;
        sum = ap (λ (n : ℕ). capped (n + rest)) now ∙ capped_add_left (size + row_size attributes i k) rest ∙ ap capped (add_assoc size (row_size attributes i k) rest) ∙ joined;
      }
