-- The limits asked byte by byte are those of the rows: a reading meets none exactly where the rows read keep them all.
-- Assumes nothing.
use mathlib.Core.Path.{◌≡◌, refl, sym, ◌∙◌, ap}
use mathlib.Core.Bool.{Bool, true, false, ◌&&◌, ◌||◌}
use mathlib.Core.List.{List, [], ◌∷◌, ◌++◌}
use mathlib.Core.Logic.{inl, inr}
use Prim.Native.Nat.{ℕ, zero, suc, ◌+◌, ◌-◌, ◌*◌, ◌≤◌}
use native.Mathlib.Omega.{arith}
use borrow.Author.Tests.{le-ltb, ltb-false}
use lib.ListN.{length, length-append}
use Rattle.words.specs.Answer.{Answer, refuse}
use Rattle.words.specs.Decide.{pick, ◌<?◌, ◌=?◌}
use Rattle.words.proofs.DecideLaws.{pick_case}
use Rattle.places.specs.Machine.{Move, on, off, read, behind, run}
use Rattle.places.proofs.Ways.{After}
use Rattle.places.proofs.MachineLaws.{read_not_stopped}
use Rattle.wire.specs.Layout.{null_type, scalar, blob, max_rows, max_values, max_length, max_size}
use Rattle.wire.specs.Content.{Content, nothing, word, bytes, Cell, Row, null, values, cell_bytes, cells_bytes, row_bytes, bytes_of_rows}
use Rattle.text_form.specs.Form.{escaped}
use Rattle.text_form.specs.Walk.{Phase, fresh, number, letter, digits, full, percent, second, State, hash, at, start, Go, cell_of, type_of, small_value, capital_value, fits_word, fits_high, onward, step, close, walk}
use Rattle.text_form.specs.Limits.{Ask, asking, beginning, size_with, over, asked, walk_within}
use Rattle.text_steps.specs.Tables.{blob_of, cells_of}
use Rattle.text_steps.proofs.SizeLaws.{size_row, size_cell, size_with_lem, size_begun, null_size, empty_size, size_none}
use Rattle.text_steps.proofs.AheadLaws.{begun, row_begun}
use Rattle.text_promises.specs.Texts.{CellsWithin, RowsWithin, WithinLimits}

-- One value more, one row more

cells_on : (cells : List Cell) (c : Cell) → CellsWithin cells → length (blob_of c.content) ≤ max_length → CellsWithin (cells ++ c ∷ [])
cells_on [] c w h = (h, tt)
cells_on (x ∷ cells) c w h = (w.0, cells_on cells c w.1 h)

cells_off : (cells : List Cell) (c : Cell) → CellsWithin (cells ++ c ∷ []) → CellsWithin cells × (length (blob_of c.content) ≤ max_length)
cells_off [] c w = (tt, w.0)
cells_off (x ∷ cells) c w = let rest = cells_off cells c w.1 in ((w.0, rest.0), rest.1)

rows_on : (rows : List Row) (r : Row) → RowsWithin rows → length (cells_of r) ≤ max_values → CellsWithin (cells_of r) → RowsWithin (rows ++ r ∷ [])
rows_on [] r w h k = (h, k, tt)
rows_on (x ∷ rows) r w h k = (w.0, w.1, rows_on rows r w.2 h k)

rows_off : (rows : List Row) (r : Row) → RowsWithin (rows ++ r ∷ []) → RowsWithin rows × (length (cells_of r) ≤ max_values) × CellsWithin (cells_of r)
rows_off [] r w = (tt, w.0, w.1)
rows_off (x ∷ rows) r w = let rest = rows_off rows r w.2 in ((w.0, w.1, rest.0), rest.1, rest.2)

-- What was read so far keeps the limits that were asked

-- the bytes in a rowset of a row that was begun
abbrev row_so_far : List Cell → Phase → ℕ
row_so_far [] p = 8 * begun p
row_so_far (c ∷ cells) p = 8 + length (cells_bytes (c ∷ cells))

-- the bytes of the blob so far
abbrev blob_now : Phase → ℕ
blob_now fresh = 0
blob_now (number n) = 0
blob_now (letter id aggregate) = 0
blob_now (digits id aggregate type k w) = 0
blob_now (full c) = length (blob_of c.content)
blob_now (percent id aggregate type t) = length t
blob_now (second id aggregate type t h) = length t

record Keeps (rows : List Row) (cells : List Cell) (p : Phase) : Type 0 where
  rows_within : RowsWithin rows
  cells_within : CellsWithin cells
  few_values : length cells + begun p ≤ max_values
  short : blob_now p ≤ max_length
  few_rows : length rows + row_begun cells p ≤ max_rows
  small : length (bytes_of_rows rows) + row_so_far cells p ≤ max_size

abbrev KeepsState : State → Type 0
KeepsState (hash rows) = RowsWithin rows × (length rows + 1 ≤ max_rows) × (length (bytes_of_rows rows) + 8 ≤ max_size)
KeepsState (at rows cells p) = Keeps rows cells p

-- at a byte that leads on: forth where no limit is met, and back
record Both (q : State) (b : ℕ) (next : State) : Type 0 where
  forth : KeepsState q → over q b ≡ on tt → KeepsState next
  back : KeepsState next → KeepsState q × (over q b ≡ on tt)

pass : (test : Bool) (refusal : Answer) → ◌≡◌ {A = Ask} (pick test (off refusal) (on tt)) (on tt) → test ≡ false
pass true refusal e = absurd (let z : ◌≡◌ {A = ℕ} 0 1 = cc in omega arith)
pass false refusal e = refl

pass_on : (test : Bool) (refusal : Answer) (rest : Ask) → ◌≡◌ {A = Ask} (pick test (off refusal) rest) (on tt) → (test ≡ false) × (rest ≡ on tt)
pass_on true refusal rest e = absurd (let z : ◌≡◌ {A = ℕ} 0 1 = cc in omega arith)
pass_on false refusal rest e = (refl, e)

leads : (q : State) (b : ℕ) (test : Bool) (x y : Go) → (test ≡ true → After (Both q b) x) → (test ≡ false → After (Both q b) y) → After (Both q b) (pick test x y)
leads q b test x y = pick_case test x y (After (Both q b))

same_begun : (cells : List Cell) (p p' : Phase) → begun p ≡ begun p' → row_begun cells p ≡ row_begun cells p'
same_begun [] p p' e = e
same_begun (c ∷ cells) p p' e = refl

same_row : (cells : List Cell) (p p' : Phase) → begun p ≡ begun p' → row_so_far cells p ≡ row_so_far cells p'
same_row [] p p' e = ap (λ (n : ℕ). 8 * n) e
same_row (c ∷ cells) p p' e = refl

-- within a value: the blob alone may grow
within_value : (rows : List Row) (cells : List Cell) (p p' : Phase) → begun p ≡ begun p' → Keeps rows cells p → blob_now p' ≤ max_length → Keeps rows cells p'
within_value rows cells p p' e k h =
    record {
      rows_within = k.rows_within;
      cells_within = k.cells_within;
      few_values = omega (arith, k.few_values);
      short = h;
      few_rows = rw (← same_begun cells p p' e) k.few_rows;
      small = rw (← same_row cells p p' e) k.small;
    }

inside : (rows : List Row) (cells : List Cell) (p p' : Phase) (b : ℕ) → begun p ≡ begun p' → blob_now p ≡ blob_now p' → over (at rows cells p) b ≡ on tt → Both (at rows cells p) b (at rows cells p')
inside rows cells p p' b e same free =
    record {
      forth = λ k _. within_value rows cells p p' e k (omega (arith, k.short));
      back = λ k. (within_value rows cells p' p (sym e) k (omega (arith, k.short)), free);
    }

-- one byte more of a blob, at which 12 is asked
grown : (rows : List Row) (cells : List Cell) (p p' : Phase) (b n : ℕ) (refusal : Answer) → begun p ≡ begun p' → blob_now p ≤ n → blob_now p' ≡ n
    → over (at rows cells p) b ≡ pick (max_length <? n) (off refusal) (on tt) → Both (at rows cells p) b (at rows cells p')
grown rows cells p p' b n refusal e less more asks =
    record {
      forth = λ k free. within_value rows cells p p' e k (omega (arith, ltb-false max_length n (pass (max_length <? n) refusal (sym asks ∙ free))));
      back = λ k. (within_value rows cells p' p (sym e) k (omega (arith, k.short)), asks ∙ ap (λ (t : Bool). pick {A = Ask} t (off refusal) (on tt)) (le-ltb max_length n (omega (arith, k.short))));
    }

-- a row begins: 10 and 13
module _ (rows : List Row) where
  begin_told : asking (beginning rows []) ≡ on tt → (length rows + 1 ≤ max_rows) × (length (bytes_of_rows rows) + 8 ≤ max_size)
  begin_told free =
      let ten = pass_on (max_rows <? (length rows + 1)) _ _ free in
      let thirteen = pass_on (max_size <? size_with rows []) _ _ ten.1 in
      (ltb-false max_rows (length rows + 1) ten.0, omega (arith, ltb-false max_size (size_with rows []) thirteen.0, size_begun rows))

  begin_free : length rows + 1 ≤ max_rows → length (bytes_of_rows rows) + 8 ≤ max_size → asking (beginning rows []) ≡ on tt
  begin_free few small = rw (le-ltb max_rows (length rows + 1) few, le-ltb max_size (size_with rows []) (omega (arith, size_begun rows)))

  -- a row without values, at the line feed behind it
  ended : (r : Row) → cells_of r ≡ [] → length (row_bytes r) ≡ 8 → RowsWithin rows → length rows + 1 ≤ max_rows → length (bytes_of_rows rows) + 8 ≤ max_size → Keeps (rows ++ r ∷ []) [] fresh
  ended r none eight w few small =
      record {
        rows_within = rows_on rows r w (rw none (omega arith)) (rw none tt);
        cells_within = tt;
        few_values = omega arith;
        short = omega arith;
        few_rows = omega (arith, length-append rows (r ∷ []));
        small = omega (arith, size_row rows r);
      }

  unended : (r : Row) → length (row_bytes r) ≡ 8 → Keeps (rows ++ r ∷ []) [] fresh → RowsWithin rows × (length rows + 1 ≤ max_rows) × (length (bytes_of_rows rows) + 8 ≤ max_size)
  unended r eight k = ((rows_off rows r k.rows_within).0, omega (arith, k.few_rows, length-append rows (r ∷ [])), omega (arith, k.small, size_row rows r))

  unbegun : RowsWithin rows → length rows + 1 ≤ max_rows → length (bytes_of_rows rows) + 8 ≤ max_size → Keeps rows [] fresh
  unbegun w few small = record { rows_within = w; cells_within = tt; few_values = omega arith; short = omega arith; few_rows = omega arith; small = omega arith }

  begins : (n : ℕ) → RowsWithin rows → length rows + 1 ≤ max_rows → length (bytes_of_rows rows) + 8 ≤ max_size → Keeps rows [] (number n)
  begins n w few small = record { rows_within = w; cells_within = tt; few_values = omega arith; short = omega arith; few_rows = omega arith; small = omega arith }

-- the value that ends: 13
module _ (rows : List Row) (cells : List Cell) (c : Cell) where
  size_of : size_with rows (cells ++ c ∷ []) ≡ length (bytes_of_rows rows) + (8 + length (cells_bytes cells)) + length (cell_bytes c)
  size_of = omega (arith, size_cell rows cells c, size_with_lem rows cells)

  row_size_lem : (k : Keeps rows cells (full c)) → length rows + 1 ≤ max_rows
  row_size_lem k = each cells k.few_rows
    where
      each : (xs : List Cell) → length rows + row_begun xs (full c) ≤ max_rows → length rows + 1 ≤ max_rows
      each [] h = h
      each (x ∷ xs) h = h

  row_begun_lem : length rows + 1 ≤ max_rows → length rows + row_begun cells (full c) ≤ max_rows
  row_begun_lem h = each cells
    where
      each : (xs : List Cell) → length rows + row_begun xs (full c) ≤ max_rows
      each [] = h
      each (x ∷ xs) = h

  size_begun_row : size_with rows (cells ++ c ∷ []) ≤ max_size → length (bytes_of_rows rows) + row_so_far cells (full c) ≤ max_size
  unfolding cells_bytes
  size_begun_row h = each cells (size_cell rows cells c) (size_with_lem rows cells)
    where
      each : (xs : List Cell) → size_with rows (cells ++ c ∷ []) ≡ size_with rows cells + length (cell_bytes c) → size_with rows cells ≡ length (bytes_of_rows rows) + (8 + length (cells_bytes xs))
          → length (bytes_of_rows rows) + row_so_far xs (full c) ≤ max_size
      each [] e f = omega arith
      each (x ∷ xs) e f = omega arith

  whole : Keeps rows cells (full c) → size_with rows (cells ++ c ∷ []) ≤ max_size → Keeps rows (cells ++ c ∷ []) fresh
  whole k h =
      record {
        rows_within = k.rows_within;
        cells_within = cells_on cells c k.cells_within k.short;
        few_values = omega (arith, k.few_values, length-append cells (c ∷ []));
        short = omega arith;
        few_rows = each cells;
        small = sum cells (size_with_lem rows (cells ++ c ∷ []));
      }
    where
      each : (xs : List Cell) → length rows + row_begun (xs ++ c ∷ []) fresh ≤ max_rows
      each [] = row_size_lem k
      each (x ∷ xs) = row_size_lem k

      sum : (xs : List Cell) → size_with rows (cells ++ c ∷ []) ≡ length (bytes_of_rows rows) + (8 + length (cells_bytes (xs ++ c ∷ []))) → length (bytes_of_rows rows) + row_so_far (xs ++ c ∷ []) fresh ≤ max_size
      sum [] e = omega arith
      sum (x ∷ xs) e = omega arith

  unwhole : Keeps rows (cells ++ c ∷ []) fresh → Keeps rows cells (full c) × (size_with rows (cells ++ c ∷ []) ≤ max_size)
  unwhole k =
      let parts = cells_off cells c k.cells_within in
      let size : size_with rows (cells ++ c ∷ []) ≤ max_size = sum cells (size_with_lem rows (cells ++ c ∷ [])) k.small in (
        record {
          rows_within = k.rows_within;
          cells_within = parts.0;
          few_values = omega (arith, k.few_values, length-append cells (c ∷ []));
          short = parts.1;
          few_rows = row_begun_lem (each cells k.few_rows);
          small = size_begun_row size;
        },
        size,
      )
    where
      each : (xs : List Cell) → length rows + row_begun (xs ++ c ∷ []) fresh ≤ max_rows → length rows + 1 ≤ max_rows
      each [] h = h
      each (x ∷ xs) h = h

      sum : (xs : List Cell) → size_with rows (cells ++ c ∷ []) ≡ length (bytes_of_rows rows) + (8 + length (cells_bytes (xs ++ c ∷ [])))
          → length (bytes_of_rows rows) + row_so_far (xs ++ c ∷ []) fresh ≤ max_size → size_with rows (cells ++ c ∷ []) ≤ max_size
      sum [] e h = omega arith
      sum (x ∷ xs) e h = omega arith

  row_whole : Keeps rows cells (full c) → size_with rows (cells ++ c ∷ []) ≤ max_size → Keeps (rows ++ values (cells ++ c ∷ []) ∷ []) [] fresh
  row_whole k h =
      record {
        rows_within = rows_on rows (values (cells ++ c ∷ [])) k.rows_within (omega (arith, k.few_values, length-append cells (c ∷ []))) (cells_on cells c k.cells_within k.short);
        cells_within = tt;
        few_values = omega arith;
        short = omega arith;
        few_rows = omega (arith, row_size_lem k, length-append rows (values (cells ++ c ∷ []) ∷ []));
        small = omega arith;
      }

  unwhole_row : Keeps (rows ++ values (cells ++ c ∷ []) ∷ []) [] fresh → Keeps rows cells (full c) × (size_with rows (cells ++ c ∷ []) ≤ max_size)
  unwhole_row k =
      let last = rows_off rows (values (cells ++ c ∷ [])) k.rows_within in
      let parts = cells_off cells c last.2 in
      let size : size_with rows (cells ++ c ∷ []) ≤ max_size = omega (arith, k.small) in (
        record {
          rows_within = last.0;
          cells_within = parts.0;
          few_values = omega (arith, last.1, length-append cells (c ∷ []));
          short = parts.1;
          few_rows = row_begun_lem (omega (arith, k.few_rows, length-append rows (values (cells ++ c ∷ []) ∷ [])));
          small = size_begun_row size;
        },
        size,
      )

  module _ (b : ℕ) (ends : (b =? 9 || b =? 10) ≡ true) where
    ending_told : over (at rows cells (full c)) b ≡ on tt → size_with rows (cells ++ c ∷ []) ≤ max_size
    unfolding over
    ending_told free = ltb-false max_size _ (pass (max_size <? size_with rows (cells ++ c ∷ [])) _ (rw ends at free))

    ending_free : size_with rows (cells ++ c ∷ []) ≤ max_size → over (at rows cells (full c)) b ≡ on tt
    unfolding over
    ending_free h = rw (ends, le-ltb max_size (size_with rows (cells ++ c ∷ [])) h)

    tab_both : Both (at rows cells (full c)) b (at rows (cells ++ c ∷ []) fresh)
    tab_both = record { forth = λ k free. whole k (ending_told free); back = λ k. ((unwhole k).0, ending_free (unwhole k).1) }

    feed_both : Both (at rows cells (full c)) b (at (rows ++ values (cells ++ c ∷ []) ∷ []) [] fresh)
    feed_both = record { forth = λ k free. row_whole k (ending_told free); back = λ k. ((unwhole_row k).0, ending_free (unwhole_row k).1) }

either : (x y : Bool) → y ≡ true → (x || y) ≡ true
either true y e = refl
either false y e = e

step_both : (q : State) (b : ℕ) → After (Both q b) (step q b)
unfolding step over
step_both (hash rows) b =
    leads (hash rows) b (b =? 10) _ _
    (λ _. record { forth = λ k _. ended rows null refl null_size k.0 k.1 k.2; back = λ k. (unended rows null null_size k, refl) })
    (λ _. tt)
step_both (at rows [] fresh) b =
    leads q b (b =? 10) _ _
    (λ _. record {
      forth = λ k free. let told = begin_told rows free in ended rows (values []) refl empty_size k.rows_within told.0 told.1;
      back = λ k. let told = unended rows (values []) empty_size k in (unbegun rows told.0 told.1 told.2, begin_free rows told.1 told.2);
    })
    (λ _. leads q b (b =? 35) _ _
    (λ _. record {
      forth = λ k free. let told = begin_told rows free in (k.rows_within, told.0, told.1);
      back = λ k. (unbegun rows k.0 k.1 k.2, begin_free rows k.1 k.2);
    })
    (λ _. leads q b (b <? 48) _ _ (λ _. tt)
    (λ _. leads q b (b <? 58) _ _
    (λ _. record {
      forth = λ k free. let told = begin_told rows free in begins rows (b - 48) k.rows_within told.0 told.1;
      back = λ k. (unbegun rows k.rows_within k.few_rows k.small, begin_free rows k.few_rows k.small);
    })
    (λ _. tt))))
  where
    q : State
    q = at rows [] fresh
step_both (at rows (c ∷ cells) fresh) b =
    leads (at rows (c ∷ cells) fresh) b (b <? 48) _ _ (λ _. tt)
    (λ _. leads (at rows (c ∷ cells) fresh) b (b <? 58) _ _
    (λ _. record {
      forth = λ k free.
          let eleven : length (c ∷ cells) + 1 ≤ max_values = ltb-false max_values (length (c ∷ cells) + 1) (pass (max_values <? (length (c ∷ cells) + 1)) (refuse 11 (length rows ∷ (length (c ∷ cells) + 1) ∷ [])) free) in
          record { rows_within = k.rows_within; cells_within = k.cells_within; few_values = eleven; short = omega arith; few_rows = k.few_rows; small = k.small };
      back = λ k. (
        record { rows_within = k.rows_within; cells_within = k.cells_within; few_values = omega (arith, k.few_values); short = omega arith; few_rows = k.few_rows; small = k.small },
        ap (λ (t : Bool). pick {A = Ask} t (off (refuse 11 (length rows ∷ (length (c ∷ cells) + 1) ∷ []))) (on tt)) (le-ltb max_values (length (c ∷ cells) + 1) k.few_values),
      );
    })
    (λ _. tt))
step_both (at rows cells (number n)) b =
    leads q b (b =? 58) _ _ (λ _. inside rows cells (number n) (letter n 0) b refl refl refl)
    (λ _. leads q b (b <? 48) _ _ (λ _. tt)
    (λ _. leads q b (57 <? b) _ _ (λ _. tt)
    (λ _. leads q b (n =? 0) _ _ (λ _. tt)
    (λ _. leads q b (65535 <? (n * 10 + (b - 48))) _ _ (λ _. tt)
    (λ _. inside rows cells (number n) (number (n * 10 + (b - 48))) b refl refl refl)))))
  where
    q : State
    q = at rows cells (number n)
step_both (at rows cells (letter id aggregate)) b =
    leads q b (b =? 33 && aggregate =? 0) _ _ (λ _. inside rows cells (letter id aggregate) (letter id 1) b refl refl refl)
    (λ _. leads q b (type_of b =? null_type) _ _ (λ _. inside rows cells (letter id aggregate) (full (cell_of id aggregate null_type nothing)) b refl refl refl)
    (λ _. leads q b (scalar (type_of b)) _ _ (λ _. inside rows cells (letter id aggregate) (digits id aggregate (type_of b) 15 0) b refl refl refl)
    (λ _. leads q b (blob (type_of b)) _ _ (λ _. inside rows cells (letter id aggregate) (full (cell_of id aggregate (type_of b) (bytes []))) b refl refl refl)
    (λ _. tt))))
  where
    q : State
    q = at rows cells (letter id aggregate)
step_both (at rows cells (digits id aggregate type zero w)) b =
    leads (at rows cells (digits id aggregate type 0 w)) b (fits_word type 0 (small_value b)) _ _
    (λ _. inside rows cells (digits id aggregate type 0 w) (full (cell_of id aggregate type (word (w * 16 + small_value b)))) b refl refl refl) (λ _. tt)
step_both (at rows cells (digits id aggregate type (suc k) w)) b =
    leads (at rows cells (digits id aggregate type (suc k) w)) b (fits_word type (suc k) (small_value b)) _ _
    (λ _. inside rows cells (digits id aggregate type (suc k) w) (digits id aggregate type k (w * 16 + small_value b)) b refl refl refl) (λ _. tt)
step_both (at rows cells (full c)) b =
    leads q b (b =? 9) _ _ (λ e. tab_both rows cells c b (rw e))
    (λ tabbed. leads q b (b =? 10) _ _ (λ e. feed_both rows cells c b (either (b =? 9) (b =? 10) e))
    (λ fed. each c.content refl tabbed fed))
  where
    q : State
    q = at rows cells (full c)

    each : (content : Content) → c.content ≡ content → (b =? 9) ≡ false → (b =? 10) ≡ false → After (Both q b) (onward rows cells c.id c.aggregate c.type content b)
    each nothing e tabbed fed = tt
    each (word w) e tabbed fed = tt
    each (bytes t) e tabbed fed =
        let same : length (blob_of c.content) ≡ length t = ap (λ (x : Content). length (blob_of x)) e in
        leads q b (b =? 37) _ _ (λ sign. inside rows cells (full c) (percent c.id c.aggregate c.type t) b refl same (rw (tabbed, fed, e, sign)))
        (λ other. leads q b (escaped b) _ _ (λ _. tt)
        (λ _. grown rows cells (full c) (full (cell_of c.id c.aggregate c.type (bytes (t ++ b ∷ [])))) b (length t + 1) (refuse 12 ((length t + 1) ∷ [])) refl (omega (arith, same)) (length-append t (b ∷ [])) (rw (tabbed, fed, e, other))))
step_both (at rows cells (percent id aggregate type t)) b =
    leads (at rows cells (percent id aggregate type t)) b (fits_high (capital_value b)) _ _
    (λ _. inside rows cells (percent id aggregate type t) (second id aggregate type t (capital_value b)) b refl refl refl) (λ _. tt)
step_both (at rows cells (second id aggregate type t h)) b =
    leads q b (15 <? capital_value b) _ _ (λ _. tt)
    (λ _. leads q b (escaped (h * 16 + capital_value b)) _ _
    (λ _. grown rows cells (second id aggregate type t h) (full (cell_of id aggregate type (bytes (t ++ (h * 16 + capital_value b) ∷ [])))) b (length t + 1) (refuse 12 ((length t + 1) ∷ [])) refl (omega arith) (length-append t ((h * 16 + capital_value b) ∷ [])) refl)
    (λ _. tt))
  where
    q : State
    q = at rows cells (second id aggregate type t h)

-- The whole text

close_both : (q : State) → After (λ rows. (KeepsState q → WithinLimits rows) × (WithinLimits rows → KeepsState q)) (close q)
unfolding close
close_both (hash rows) = tt
close_both (at rows [] fresh) = (
  (λ k. (k.rows_within, omega (arith, k.few_rows), omega (arith, k.small))),
  (λ w. record { rows_within = w.0; cells_within = tt; few_values = omega arith; short = omega arith; few_rows = omega (arith, w.1); small = omega (arith, w.2) }),
)
close_both (at rows (c ∷ cells) fresh) = tt
close_both (at rows cells (number n)) = tt
close_both (at rows cells (letter id aggregate)) = tt
close_both (at rows cells (digits id aggregate type k w)) = tt
close_both (at rows cells (full c)) = tt
close_both (at rows cells (percent id aggregate type t)) = tt
close_both (at rows cells (second id aggregate type t h)) = tt

forth_run : (s : List ℕ) (q : State) (i : ℕ) (final : List Row) → run walk_within q i s ≡ read final → KeepsState q → WithinLimits final
unfolding run
forth_run [] q i final e k = ends (close q) (close_both q) e
  where
    ends : (x : Move (List Row) (Unit {0})) → After (λ rows. (KeepsState q → WithinLimits rows) × (WithinLimits rows → KeepsState q)) x
        → behind i (asked {L = Answer} x (on tt)) read ≡ read final → WithinLimits final
    ends (on rows) h f = let same : rows ≡ final = cc in rw (← same) (h.0 k)
    ends (off r) h f = absurd (read_not_stopped final i (inl r) (sym f))
forth_run (b ∷ s) q i final e k = steps (λ next. forth_run s next (i + 1) final) (step q b) (over q b) refl (step_both q b) e
  where
    steps : ((next : State) → run walk_within next (i + 1) s ≡ read final → KeepsState next → WithinLimits final) → (x : Go) (y : Ask) → over q b ≡ y → After (Both q b) x
        → behind i (asked x y) (λ next. run walk_within next (i + 1) s) ≡ read final → WithinLimits final
    steps more (on next) (on tt) free h f = more next f (h.forth k free)
    steps more (on next) (off l) free h f = absurd (read_not_stopped final i (inr l) (sym f))
    steps more (off r) y free h f = absurd (read_not_stopped final i (inl r) (sym f))

back_run : (s : List ℕ) (q : State) (i : ℕ) (final : List Row) → run walk q i s ≡ read final → WithinLimits final → KeepsState q × (run walk_within q i s ≡ read final)
unfolding run
back_run [] q i final e w = ends (close q) (close_both q) e
  where
    ends : (x : Move (List Row) (Unit {0})) → After (λ rows. (KeepsState q → WithinLimits rows) × (WithinLimits rows → KeepsState q)) x
        → behind i x read ≡ read final → KeepsState q × (behind i (asked {L = Answer} x (on tt)) read ≡ read final)
    ends (on rows) h f = let same : rows ≡ final = cc in (h.1 (rw same w), ap read same)
    ends (off r) h f = absurd (read_not_stopped final i r (sym f))
back_run (b ∷ s) q i final e w = steps (λ next f. back_run s next (i + 1) final f w) (step q b) (step_both q b) e
  where
    steps : ((next : State) → run walk next (i + 1) s ≡ read final → KeepsState next × (run walk_within next (i + 1) s ≡ read final)) → (x : Go) → After (Both q b) x
        → behind i x (λ next. run walk next (i + 1) s) ≡ read final → KeepsState q × (behind i (asked x (over q b)) (λ next. run walk_within next (i + 1) s) ≡ read final)
    steps more (on next) h f =
        let rest = more next f in
        let here = h.back rest.0 in
        (here.0, rw here.1 rest.1)
    steps more (off r) h f = absurd (read_not_stopped final i r (sym f))

-- rows that are read keep the limits
pub read_within : (s : List ℕ) (rows : List Row) → run walk_within start 0 s ≡ read rows → WithinLimits rows
read_within s rows e =
    forth_run s start 0 rows e (record { rows_within = tt; cells_within = tt; few_values = omega arith; short = omega arith; few_rows = omega arith; small = omega (arith, size_none) })

-- and where rows keep them, reading meets none
pub within_read : (s : List ℕ) (rows : List Row) → run walk start 0 s ≡ read rows → WithinLimits rows → run walk_within start 0 s ≡ read rows
within_read s rows e w = (back_run s start 0 rows e w).1
