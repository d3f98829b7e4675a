-- What was read so far is no more than what is read at the end: values, blob bytes and rows. Assumes nothing.
use mathlib.Core.Path.{◌≡◌, refl, sym, ◌∙◌, ap}
use mathlib.Core.Bool.{Bool, true, false, ◌&&◌}
use mathlib.Core.List.{List, [], ◌∷◌, ◌++◌}
use mathlib.Core.Logic.{◌⊎◌}
use Prim.Native.Nat.{ℕ, zero, suc, ◌+◌, ◌-◌, ◌*◌, ◌≤◌}
use native.Mathlib.Omega.{arith}
use lib.ListN.{length, drop, length-append}
use Rattle.words.specs.Answer.{Answer}
use Rattle.words.specs.Decide.{pick, ◌<?◌, ◌=?◌}
use Rattle.words.proofs.DecideLaws.{pick_case}
use Rattle.places.specs.Machine.{Move, on, off, read, behind, run}
use Rattle.places.proofs.Ways.{After}
use Rattle.places.proofs.MachineLaws.{read_not_stopped}
use Rattle.wire.specs.Layout.{null_type, scalar, blob}
use Rattle.wire.specs.Content.{Content, nothing, word, bytes, Cell, Row, null, values}
use Rattle.text_form.specs.Form.{escaped}
use Rattle.text_form.specs.Walk.{Phase, fresh, number, letter, digits, full, percent, second, State, hash, at, Go, cell_of, type_of, small_value, capital_value, fits_word, fits_high, onward, step, close}
use Rattle.text_form.specs.Limits.{asked, over, walk_within}
use Rattle.text_steps.specs.Tables.{blob_of, blobs, cells_of, all_cells, area_bytes}
use Rattle.text_steps.specs.Stages.{from}
use Rattle.text_steps.proofs.SizeLaws.{blobs_snoc, blobs_join, cells_join}

-- a value has begun
abbrev pub begun : Phase → ℕ
begun fresh = 0
begun (number n) = 1
begun (letter id aggregate) = 1
begun (digits id aggregate type k w) = 1
begun (full c) = 1
begun (percent id aggregate type t) = 1
begun (second id aggregate type t h) = 1

-- the bytes of the blob that was begun; an escape will be one more
abbrev pub blob_so_far : Phase → ℕ
blob_so_far fresh = 0
blob_so_far (number n) = 0
blob_so_far (letter id aggregate) = 0
blob_so_far (digits id aggregate type k w) = 0
blob_so_far (full c) = length (blob_of c.content)
blob_so_far (percent id aggregate type t) = length t + 1
blob_so_far (second id aggregate type t h) = length t + 1

-- a row has begun
abbrev pub row_begun : List Cell → Phase → ℕ
row_begun [] p = begun p
row_begun (c ∷ cells) p = 1

unfoldable pub cells_so_far : State → ℕ
cells_so_far (hash rows) = length (all_cells rows)
cells_so_far (at rows cells p) = length (all_cells rows) + length cells + begun p

unfoldable pub bytes_so_far : State → ℕ
bytes_so_far (hash rows) = length (blobs (all_cells rows))
bytes_so_far (at rows cells p) = length (blobs (all_cells rows)) + length (blobs cells) + blob_so_far p

unfoldable pub rows_so_far : State → ℕ
rows_so_far (hash rows) = length rows + 1
rows_so_far (at rows cells p) = length rows + row_begun cells p

pub record Grows (q next : State) : Type 0 where
  pub cells_grow : cells_so_far q ≤ cells_so_far next
  pub bytes_grow : bytes_so_far q ≤ bytes_so_far next
  pub rows_grow : rows_so_far q ≤ rows_so_far next

abbrev Ahead : State → Go → Type 0
Ahead q x = After (Grows q) x

ahead : (q : State) (test : Bool) (x y : Go) → (test ≡ true → Ahead q x) → (test ≡ false → Ahead q y) → Ahead q (pick test x y)
ahead q test x y = pick_case test x y (Ahead q)

-- within a value
inside : (rows : List Row) (cells : List Cell) (p p' : Phase) → begun p ≤ begun p' → blob_so_far p ≤ blob_so_far p' → Grows (at rows cells p) (at rows cells p')
unfolding cells_so_far bytes_so_far rows_so_far
inside rows cells p p' b n = record { cells_grow = omega arith; bytes_grow = omega arith; rows_grow = each cells }
  where
    each : (cells : List Cell) → length rows + row_begun cells p ≤ length rows + row_begun cells p'
    each [] = omega arith
    each (c ∷ cells) = omega arith

-- a row that ends
pub ended : (rows : List Row) (r : Row) → (length (all_cells (rows ++ r ∷ [])) ≡ length (all_cells rows) + length (cells_of r))
    × (length (blobs (all_cells (rows ++ r ∷ []))) ≡ length (blobs (all_cells rows)) + length (blobs (cells_of r)))
    × (length (rows ++ r ∷ []) ≡ length rows + 1)
ended rows r = (
  ap length (cells_join rows r) ∙ length-append (all_cells rows) (cells_of r),
  ap (λ (l : List Cell). length (blobs l)) (cells_join rows r) ∙ ap length (blobs_join (all_cells rows) (cells_of r)) ∙ length-append (blobs (all_cells rows)) (blobs (cells_of r)),
  length-append rows (r ∷ []),
)

row_ends : (rows : List Row) (cells : List Cell) (c : Cell) → Grows (at rows cells (full c)) (at (rows ++ values (cells ++ c ∷ []) ∷ []) [] fresh)
unfolding cells_so_far bytes_so_far rows_so_far blobs
row_ends rows cells c =
    let e = ended rows (values (cells ++ c ∷ [])) in
    record {
      cells_grow = omega (arith, e.0, length-append cells (c ∷ []));
      bytes_grow = omega (arith, e.1, ap length (blobs_snoc cells c), length-append (blobs cells) (blob_of c.content));
      rows_grow = each cells e.2;
    }
  where
    each : (xs : List Cell) → length (rows ++ values (cells ++ c ∷ []) ∷ []) ≡ length rows + 1 → length rows + row_begun xs (full c) ≤ length (rows ++ values (cells ++ c ∷ []) ∷ []) + 0
    each [] e = omega arith
    each (x ∷ xs) e = omega arith

value_ends : (rows : List Row) (cells : List Cell) (c : Cell) → Grows (at rows cells (full c)) (at rows (cells ++ c ∷ []) fresh)
unfolding cells_so_far bytes_so_far rows_so_far
value_ends rows cells c =
    record {
      cells_grow = omega (arith, length-append cells (c ∷ []));
      bytes_grow = omega (arith, ap length (blobs_snoc cells c), length-append (blobs cells) (blob_of c.content));
      rows_grow = each cells;
    }
  where
    each : (xs : List Cell) → length rows + row_begun xs (full c) ≤ length rows + row_begun (xs ++ c ∷ []) fresh
    each [] = omega arith
    each (x ∷ xs) = omega arith

line_ends : (rows : List Row) (r : Row) → cells_of r ≡ [] → (q : State) → cells_so_far q ≡ length (all_cells rows) → bytes_so_far q ≡ length (blobs (all_cells rows)) → rows_so_far q ≤ length rows + 1
    → Grows q (at (rows ++ r ∷ []) [] fresh)
unfolding cells_so_far bytes_so_far rows_so_far blobs
line_ends rows r none q cs bs rs =
    let e = ended rows r in
    record {
      cells_grow = omega (arith, e.0);
      bytes_grow = omega (arith, e.1);
      rows_grow = omega (arith, e.2);
    }

step_ahead : (q : State) (b : ℕ) → Ahead q (step q b)
unfolding step cells_so_far bytes_so_far rows_so_far blobs
step_ahead (hash rows) b = ahead (hash rows) (b =? 10) _ _ (λ _. line_ends rows null refl (hash rows) refl refl (omega arith)) (λ _. tt)
step_ahead (at rows [] fresh) b =
    ahead q (b =? 10) _ _ (λ _. line_ends rows (values []) refl q (omega arith) (omega arith) (omega arith))
    (λ _. ahead q (b =? 35) _ _ (λ _. record { cells_grow = omega arith; bytes_grow = omega arith; rows_grow = omega arith })
    (λ _. ahead q (b <? 48) _ _ (λ _. tt)
    (λ _. ahead q (b <? 58) _ _ (λ _. inside rows [] fresh (number (b - 48)) (omega arith) (omega arith)) (λ _. tt))))
  where
    q : State
    q = at rows [] fresh
step_ahead (at rows (c ∷ cells) fresh) b =
    ahead (at rows (c ∷ cells) fresh) (b <? 48) _ _ (λ _. tt)
    (λ _. ahead (at rows (c ∷ cells) fresh) (b <? 58) _ _ (λ _. inside rows (c ∷ cells) fresh (number (b - 48)) (omega arith) (omega arith)) (λ _. tt))
step_ahead (at rows cells (number n)) b =
    ahead q (b =? 58) _ _ (λ _. inside rows cells (number n) (letter n 0) (omega arith) (omega arith))
    (λ _. ahead q (b <? 48) _ _ (λ _. tt)
    (λ _. ahead q (57 <? b) _ _ (λ _. tt)
    (λ _. ahead q (n =? 0) _ _ (λ _. tt)
    (λ _. ahead q (65535 <? (n * 10 + (b - 48))) _ _ (λ _. tt)
    (λ _. inside rows cells (number n) (number (n * 10 + (b - 48))) (omega arith) (omega arith))))))
  where
    q : State
    q = at rows cells (number n)
step_ahead (at rows cells (letter id aggregate)) b =
    ahead q (b =? 33 && aggregate =? 0) _ _ (λ _. inside rows cells (letter id aggregate) (letter id 1) (omega arith) (omega arith))
    (λ _. ahead q (type_of b =? null_type) _ _ (λ _. inside rows cells (letter id aggregate) (full (cell_of id aggregate null_type nothing)) (omega arith) (omega arith))
    (λ _. ahead q (scalar (type_of b)) _ _ (λ _. inside rows cells (letter id aggregate) (digits id aggregate (type_of b) 15 0) (omega arith) (omega arith))
    (λ _. ahead q (blob (type_of b)) _ _ (λ _. inside rows cells (letter id aggregate) (full (cell_of id aggregate (type_of b) (bytes []))) (omega arith) (omega arith))
    (λ _. tt))))
  where
    q : State
    q = at rows cells (letter id aggregate)
step_ahead (at rows cells (digits id aggregate type zero w)) b =
    ahead (at rows cells (digits id aggregate type 0 w)) (fits_word type 0 (small_value b)) _ _
    (λ _. inside rows cells (digits id aggregate type 0 w) (full (cell_of id aggregate type (word (w * 16 + small_value b)))) (omega arith) (omega arith)) (λ _. tt)
step_ahead (at rows cells (digits id aggregate type (suc k) w)) b =
    ahead (at rows cells (digits id aggregate type (suc k) w)) (fits_word type (suc k) (small_value b)) _ _
    (λ _. inside rows cells (digits id aggregate type (suc k) w) (digits id aggregate type k (w * 16 + small_value b)) (omega arith) (omega arith)) (λ _. tt)
step_ahead (at rows cells (full c)) b =
    ahead q (b =? 9) _ _ (λ _. value_ends rows cells c)
    (λ _. ahead q (b =? 10) _ _ (λ _. row_ends rows cells c)
    (λ _. each c.content refl))
  where
    q : State
    q = at rows cells (full c)

    each : (content : Content) → c.content ≡ content → Ahead q (onward rows cells c.id c.aggregate c.type content b)
    each nothing e = tt
    each (word w) e = tt
    each (bytes t) e =
        let same : length (blob_of c.content) ≡ length t = ap (λ (x : Content). length (blob_of x)) e in
        ahead q (b =? 37) _ _ (λ _. inside rows cells (full c) (percent c.id c.aggregate c.type t) (omega arith) (omega arith))
        (λ _. ahead q (escaped b) _ _ (λ _. tt)
        (λ _. inside rows cells (full c) (full (cell_of c.id c.aggregate c.type (bytes (t ++ b ∷ [])))) (omega arith) (omega (arith, length-append t (b ∷ [])))))
step_ahead (at rows cells (percent id aggregate type t)) b =
    ahead (at rows cells (percent id aggregate type t)) (fits_high (capital_value b)) _ _
    (λ _. inside rows cells (percent id aggregate type t) (second id aggregate type t (capital_value b)) (omega arith) (omega arith)) (λ _. tt)
step_ahead (at rows cells (second id aggregate type t h)) b =
    ahead q (15 <? capital_value b) _ _ (λ _. tt)
    (λ _. ahead q (escaped (h * 16 + capital_value b)) _ _
    (λ _. inside rows cells (second id aggregate type t h) (full (cell_of id aggregate type (bytes (t ++ (h * 16 + capital_value b) ∷ [])))) (omega arith) (omega (arith, length-append t ((h * 16 + capital_value b) ∷ []))))
    (λ _. tt))
  where
    q : State
    q = at rows cells (second id aggregate type t h)

-- what is read at the end
pub record Within (q : State) (final : List Row) : Type 0 where
  pub cells_within : cells_so_far q ≤ length (all_cells final)
  pub bytes_within : bytes_so_far q ≤ length (area_bytes final)
  pub rows_within : rows_so_far q ≤ length final

close_within : (q : State) → After (Within q) (walk_within.close q)
unfolding close cells_so_far bytes_so_far rows_so_far area_bytes blobs
close_within (hash rows) = tt
close_within (at rows [] fresh) = record { cells_within = omega arith; bytes_within = omega arith; rows_within = omega arith }
close_within (at rows (c ∷ cells) fresh) = tt
close_within (at rows cells (number n)) = tt
close_within (at rows cells (letter id aggregate)) = tt
close_within (at rows cells (digits id aggregate type k w)) = tt
close_within (at rows cells (full c)) = tt
close_within (at rows cells (percent id aggregate type t)) = tt
close_within (at rows cells (second id aggregate type t h)) = tt

after_asked : (P : State → Type 0) (x : Go) (y : Move (Unit {0}) Answer) → After P x → After P (asked x y)
after_asked P (on q) (on u) h = h
after_asked P (on q) (off l) h = tt
after_asked P (off r) y h = tt

run_within : (s : List ℕ) (q : State) (i : ℕ) (final : List Row) → run walk_within q i s ≡ read final → Within q final
unfolding run
run_within [] q i final e = ends (walk_within.close q) (close_within q) e
  where
    ends : (x : Move (List Row) (Unit {0} ⊎ Answer)) → After (Within q) x → behind i x read ≡ read final → Within q final
    ends (on rows) h f = let same : rows ≡ final = cc in rw (← same) h
    ends (off r) h f = absurd (read_not_stopped final i r (sym f))
run_within (b ∷ s) q i final e =
    steps (λ next. run_within s next (i + 1) final) (walk_within.step q b) (after_asked (Grows q) (step q b) (over q b) (step_ahead q b)) e
  where
    steps : ((next : State) → run walk_within next (i + 1) s ≡ read final → Within next final) → (x : Move State (Unit {0} ⊎ Answer)) → After (Grows q) x
        → behind i x (λ next. run walk_within next (i + 1) s) ≡ read final → Within q final
    steps more (on next) h f =
        let w = more next f in
        record { cells_within = omega (arith, h.cells_grow, w.cells_within); bytes_within = omega (arith, h.bytes_grow, w.bytes_within); rows_within = omega (arith, h.rows_grow, w.rows_within) }
    steps more (off r) h f = absurd (read_not_stopped final i r (sym f))

pub within_end : (s : List ℕ) (i : ℕ) (q : State) (final : List Row) → from s i q ≡ read final → Within q final
within_end s i q final e = run_within (drop i s) q i final e
