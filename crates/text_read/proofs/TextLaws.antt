-- How the second walk fills the tables and the area, line by line. Assumes nothing.
use mathlib.Core.Path.{◌≡◌, refl, sym, ◌∙◌, ap}
use mathlib.Core.List.{List, [], ◌∷◌, ◌++◌}
use Prim.Native.Nat.{ℕ, suc, ◌+◌, ◌*◌, ◌<◌, ◌≤◌}
use native.Mathlib.Omega.{arith}
use lib.ListN.{length, set, length-append}
use lib.Seq.{sets, length-sets}
use Rattle.places.specs.Machine.{read}
use Rattle.wire.specs.Content.{Row}
use Rattle.wire.proofs.LayoutLaws.{sets_append}
use Rattle.text_form.specs.Walk.{fresh, at}
use Rattle.text_steps.specs.Tables.{blobs, all_cells, cells_of, row_word, entries_from, row_table, value_table, area_bytes}
use Rattle.text_walk.specs.Statement.{walking}
use Rattle.text_steps.specs.Stages.{from}
use Rattle.text_steps.proofs.SizeLaws.{blobs_join, cells_join}
use Rattle.text_steps.proofs.StepLaws as steps
use Rattle.text_read.specs.Stages.{HasLine, FillsLine, HasText, FillsText}
use Rattle.text_read.specs.declared.fill.Line.{Line}
use Rattle.text_steps.proofs.AheadLaws.{rows_so_far, within_end, ended}
use Rattle.text_read.proofs.LineLaws.{entries_join, length_entries}
use Rattle.wire.specs.Layout.{entry_words}

-- One row more, in each table

pub length_row_table : (rows : List Row) → length (row_table rows) ≡ length rows
unfolding row_table
length_row_table [] = refl
length_row_table (r ∷ rows) = ap suc (length_row_table rows)

row_table_snoc : (rows : List Row) (r : Row) → row_table (rows ++ r ∷ []) ≡ row_table rows ++ row_word r ∷ []
unfolding row_table
row_table_snoc [] r = refl
row_table_snoc (x ∷ rows) r = ap (λ (l : List ℕ). row_word x ∷ l) (row_table_snoc rows r)

pub length_value_table : (rows : List Row) → length (value_table rows) ≡ entry_words * length (all_cells rows)
unfolding value_table
length_value_table rows = length_entries 0 (all_cells rows)

value_table_snoc : (rows : List Row) (r : Row) → value_table (rows ++ r ∷ []) ≡ value_table rows ++ entries_from (length (area_bytes rows)) (cells_of r)
unfolding value_table area_bytes
value_table_snoc rows r =
    ap (entries_from 0) (cells_join rows r) ∙ entries_join 0 (all_cells rows) (cells_of r)
    ∙ ap (λ (o : ℕ). entries_from 0 (all_cells rows) ++ entries_from o (cells_of r)) (omega arith)

area_bytes_snoc : (rows : List Row) (r : Row) → area_bytes (rows ++ r ∷ []) ≡ area_bytes rows ++ blobs (cells_of r)
unfolding area_bytes
area_bytes_snoc rows r = ap blobs (cells_join rows r) ∙ blobs_join (all_cells rows) (cells_of r)

-- the words behind those that were stored
stored_behind : (table ws more both : List ℕ) (n : ℕ) → n ≡ length ws → both ≡ ws ++ more → sets (sets table 0 ws) n more ≡ sets table 0 both
stored_behind table ws more both n is e =
    ap (λ (j : ℕ). sets (sets table 0 ws) j more) (omega (arith, is)) ∙ sym (sets_append table 0 (length ws) ws more refl) ∙ ap (sets table 0) (sym e)

-- The text: the rows `so_far` were read up to the place i

pub record Filled (s rows₀ values₀ area₀ rows values area : List ℕ) (i row k used : ℕ) (final : List Row) : Type 0 where
  pub so_far : List Row
  pub row_is : row ≡ length so_far
  pub k_is : k ≡ entry_words * length (all_cells so_far)
  pub used_is : used ≡ length (area_bytes so_far)
  pub rows_hold : rows ≡ sets rows₀ 0 (row_table so_far)
  pub values_hold : values ≡ sets values₀ 0 (value_table so_far)
  pub area_holds : area ≡ sets area₀ 0 (area_bytes so_far)
  pub goes : from s i (at so_far [] fresh) ≡ read final

abbrev pub TextLeft : List ℕ → List ℕ → List ℕ → List ℕ → List ℕ → List ℕ → List ℕ → ℕ → ℕ → ℕ → ℕ → Type 0
TextLeft s rows₀ values₀ area₀ rows values area i row k used =
    (final : List Row) → walking s ≡ read final → Filled s rows₀ values₀ area₀ rows values area i row k used final

pub text_begins : (s rows values area : List ℕ) → TextLeft s rows values area rows values area 0 0 0 0
unfolding all_cells blobs row_table value_table entries_from area_bytes
text_begins s rows values area final here =
    record { so_far = []; row_is = refl; k_is = refl; used_is = refl; rows_hold = refl; values_hold = refl; area_holds = refl; goes = here }

module _ (s rows₀ values₀ area₀ : List ℕ) (has : HasText s rows₀ values₀ area₀) (rows values area : List ℕ) (i row k used : ℕ) (left : TextLeft s rows₀ values₀ area₀ rows values area i row k used) where
  mine : Filled s rows₀ values₀ area₀ rows values area i row k used has.0
  mine = left has.0 has.1

  pub same_rows : length rows ≡ length rows₀
  same_rows = ap length mine.rows_hold ∙ length-sets rows₀ 0 (row_table mine.so_far)

  pub same_values : length values ≡ length values₀
  same_values = ap length mine.values_hold ∙ length-sets values₀ 0 (value_table mine.so_far)

  pub same_area : length area ≡ length area₀
  same_area = ap length mine.area_holds ∙ length-sets area₀ 0 (area_bytes mine.so_far)

  pub text_ends : length s ≤ i → FillsText s rows₀ values₀ area₀ rows values area
  text_ends past final here =
      let at-end = left final here in
      let same : at-end.so_far ≡ final = (let e : read at-end.so_far ≡ read final = sym (steps.ends_read s i at-end.so_far past) ∙ at-end.goes in cc) in
      (rw (← same) at-end.rows_hold, rw (← same) at-end.values_hold, rw (← same) at-end.area_holds)

  pub line_has : i < length s → HasLine s i values k area used
  unfolding area_bytes blobs
  line_has h = (
    h,
    (
      mine.so_far,
      has.0,
      mine.goes,
      (omega (arith, mine.k_is), omega (arith, has.3, same_values)),
      (omega (arith, mine.used_is), omega (arith, has.4, same_area)),
    ),
  )

  module _ (values' area' : List ℕ) (r : Line) (told : FillsLine s i k used values area values' area' r) where
    pub line_passed : i < r.next
    line_passed = (told mine.so_far has.0 mine.goes).1

    pub row_room : row < length rows₀
    unfolding rows_so_far
    row_room =
        let all = told mine.so_far has.0 mine.goes in
        omega (arith, (within_end s r.next _ has.0 all.8).rows_within, (ended mine.so_far all.0).2, mine.row_is, has.2)

    pub text_more : TextLeft s rows₀ values₀ area₀ (set rows row r.word) values' area' r.next (row + 1) r.k r.used
    text_more final here =
        let old = left final here in
        let new = told old.so_far final old.goes in
        let counts = ended old.so_far new.0 in
        record {
          so_far = old.so_far ++ new.0 ∷ [];
          row_is = omega (arith, old.row_is, counts.2);
          k_is = omega (arith, old.k_is, counts.0, new.4);
          used_is = omega (arith, old.used_is, new.5, ap length (area_bytes_snoc old.so_far new.0), length-append (area_bytes old.so_far) (blobs (cells_of new.0)));
          rows_hold =
              ap (λ (xs : List ℕ). set xs row r.word) old.rows_hold ∙ ap (set (sets rows₀ 0 (row_table old.so_far)) row) new.3
              ∙ stored_behind rows₀ (row_table old.so_far) (row_word new.0 ∷ []) _ row (omega (arith, old.row_is, length_row_table old.so_far)) (row_table_snoc old.so_far new.0);
          values_hold =
              new.6 ∙ ap (λ (xs : List ℕ). sets xs k (entries_from used (cells_of new.0))) old.values_hold
              ∙ stored_behind values₀ (value_table old.so_far) (entries_from used (cells_of new.0)) _ k (omega (arith, old.k_is, length_value_table old.so_far))
              (value_table_snoc old.so_far new.0 ∙ ap (λ (o : ℕ). value_table old.so_far ++ entries_from o (cells_of new.0)) (sym old.used_is));
          area_holds =
              new.7 ∙ ap (λ (xs : List ℕ). sets xs used (blobs (cells_of new.0))) old.area_holds
              ∙ stored_behind area₀ (area_bytes old.so_far) (blobs (cells_of new.0)) _ used old.used_is (area_bytes_snoc old.so_far new.0);
          goes = new.8;
        }
