-- Laws of the text of rows, of letters and of digits. Assumes nothing.
use mathlib.Core.Path.{◌≡◌, refl, sym, ◌∙◌, ap}
use mathlib.Core.Bool.{Bool, true, false, ◌&&◌}
use mathlib.Core.List.{List, [], ◌∷◌, ◌++◌, append_assoc, append-nil}
use mathlib.Core.Logic.{◌⊎◌, inl, inr, ⊎_elim}
use Prim.Native.Nat.{ℕ, zero, suc, ◌+◌, ◌-◌, ◌*◌, ◌/◌, ◌%◌, ◌^◌, ◌<◌, ◌≤◌}
use native.Mathlib.Nat.{pow-succ'}
use native.Mathlib.Omega.{arith}
use borrow.Author.Tests.{lt-ltb, le-ltb, ltb-true, ltb-false, eqb-true, eqb-false}
use lib.ListN.{get_or}
use Rattle.words.specs.Decide.{pick, ◌<?◌, ◌=?◌}
use Rattle.words.specs.Text.{digit, spelled}
use Rattle.words.specs.Word.{Bytes}
use Rattle.words.proofs.DecideLaws.{pick_case, le_or_gt}
use Rattle.numerals.specs.Statement.{decimal}
use Rattle.numerals.proofs.SpelledLaws.{spelled_one, spelled_more}
use Rattle.wire.specs.Layout.{null_type, int64, uint64, double, boolean, string, any, composite, scalar, blob}
use Rattle.wire.specs.Content.{Cell, Row, values}
use Rattle.text_form.specs.Form.{letter_of, capital, hexes, unit, units, cell_text, more, row_text, text, FitsContent, FitsCell, FitsCells, FitsRow, FitsRows}
use Rattle.text_form.specs.Walk.{type_of, small_value, capital_value}

pub not_true : {A : Type 0} → false ≡ true → A
not_true e = let z : ◌≡◌ {A = ℕ} 0 1 = cc in absurd (omega arith)

pub both : (x y : Bool) → (x && y) ≡ true → (x ≡ true) × (y ≡ true)
both true true e = (refl, refl)
both true false e = not_true e
both false y e = not_true e

-- lists, one more at the end
pub text_snoc : (rows : List Row) (r : Row) → text (rows ++ r ∷ []) ≡ text rows ++ row_text r
unfolding text
text_snoc [] r = append-nil (row_text r)
text_snoc (x ∷ rows) r = ap (λ (l : List ℕ). row_text x ++ l) (text_snoc rows r) ∙ sym (append_assoc (row_text x) (text rows) (row_text r))

pub units_snoc : (s : List ℕ) (b : ℕ) → units (s ++ b ∷ []) ≡ units s ++ unit b
unfolding units
units_snoc [] b = append-nil (unit b)
units_snoc (x ∷ s) b = ap (λ (l : List ℕ). unit x ++ l) (units_snoc s b) ∙ sym (append_assoc (unit x) (units s) (unit b))

-- values with a tab behind each
unfoldable pub fronts : List Cell → List ℕ
fronts [] = []
fronts (v ∷ vs) = cell_text v ++ 9 ∷ fronts vs

pub fronts_snoc : (vs : List Cell) (v : Cell) → fronts (vs ++ v ∷ []) ≡ fronts vs ++ (cell_text v ++ 9 ∷ [])
unfolding fronts
fronts_snoc [] v = refl
fronts_snoc (x ∷ vs) v = ap (λ (l : List ℕ). cell_text x ++ 9 ∷ l) (fronts_snoc vs v) ∙ sym (append_assoc (cell_text x) (9 ∷ fronts vs) (cell_text v ++ 9 ∷ []))

more_snoc : (vs : List Cell) (v : Cell) → 9 ∷ fronts vs ++ (cell_text v ++ 10 ∷ []) ≡ more (vs ++ v ∷ [])
unfolding fronts more
more_snoc [] v = refl
more_snoc (x ∷ vs) v = ap (λ (l : List ℕ). 9 ∷ l) (append_assoc (cell_text x) (9 ∷ fronts vs) (cell_text v ++ 10 ∷ []) ∙ ap (λ (l : List ℕ). cell_text x ++ l) (more_snoc vs v))

pub row_snoc : (vs : List Cell) (v : Cell) → row_text (values (vs ++ v ∷ [])) ≡ fronts vs ++ (cell_text v ++ 10 ∷ [])
unfolding fronts more row_text
row_snoc [] v = refl
row_snoc (x ∷ vs) v = ap (λ (l : List ℕ). cell_text x ++ l) (sym (more_snoc vs v)) ∙ sym (append_assoc (cell_text x) (9 ∷ fronts vs) (cell_text v ++ 10 ∷ []))

pub rows_fit : (rows : List Row) (r : Row) → FitsRows rows → FitsRow r → FitsRows (rows ++ r ∷ [])
rows_fit [] r fit here = (here, tt)
rows_fit (x ∷ rows) r fit here = (fit.0, rows_fit rows r fit.1 here)

pub cells_fit : (vs : List Cell) (v : Cell) → FitsCells vs → FitsCell v → FitsCells (vs ++ v ∷ [])
cells_fit [] v fit here = (here, tt)
cells_fit (x ∷ vs) v fit here = (fit.0, cells_fit vs v fit.1 here)

pub bytes_none : Bytes []
bytes_none i = omega arith

pub bytes_fit : (s : List ℕ) (b : ℕ) → Bytes s → b < 256 → Bytes (s ++ b ∷ [])
bytes_fit [] b fit here zero = here
bytes_fit [] b fit here (suc i) = omega arith
bytes_fit (x ∷ s) b fit here zero = fit 0
bytes_fit (x ∷ s) b fit here (suc i) = bytes_fit s b (λ j. fit (suc j)) here i

-- digits
low_small : (v : ℕ) → v < 10 → digit v ≡ 48 + v
unfolding digit
low_small v h = rw (lt-ltb v 10 h)

high_small : (v : ℕ) → 10 ≤ v → digit v ≡ 87 + v
unfolding digit
high_small v h = rw (le-ltb v 10 h)

pub decimal_one : (most n : ℕ) → n < 10 → spelled 10 (suc most) n ≡ (48 + n) ∷ []
decimal_one most n h = spelled_one 10 most n h ∙ ap (λ (d : ℕ). d ∷ []) (low_small n h)

pub decimal_split : (most n : ℕ) → 10 ≤ n → spelled 10 (suc most) n ≡ spelled 10 most (n / 10) ++ (48 + n % 10) ∷ []
decimal_split most n h = spelled_more 10 most n h ∙ ap (λ (d : ℕ). spelled 10 most (n / 10) ++ d ∷ []) (low_small (n % 10) (omega arith))

-- more room does not change the digits
decimal_room : (most n : ℕ) → n < 10 ^ suc most → spelled 10 (suc (suc most)) n ≡ spelled 10 (suc most) n
decimal_room zero n h = decimal_one 1 n (omega arith) ∙ sym (decimal_one 0 n (omega arith))
decimal_room (suc most) n h =
    ⊎_elim
    (λ (big : 10 ≤ n).
    let power : 10 ^ suc (suc most) ≡ 10 * 10 ^ suc most = pow-succ' 10 (suc most) in
    let fewer : n / 10 < 10 ^ suc most = omega arith in
    decimal_split (suc (suc most)) n big ∙ ap (λ (l : List ℕ). l ++ (48 + n % 10) ∷ []) (decimal_room most (n / 10) fewer) ∙ sym (decimal_split (suc most) n big))
    (λ (one : n < 10). decimal_one (suc (suc most)) n one ∙ sym (decimal_one (suc most) n one))
    (le_or_gt 10 n)

pub decimal_more : (n d : ℕ) → 0 < n → d < 10 → n * 10 + d ≤ 65535 → decimal (n * 10 + d) ≡ decimal n ++ (48 + d) ∷ []
decimal_more n d some h fits =
    let big : 10 ≤ n * 10 + d = omega arith in
    let high : (n * 10 + d) / 10 ≡ n = omega arith in
    let low : (n * 10 + d) % 10 ≡ d = omega arith in
    decimal_split 19 (n * 10 + d) big
    ∙ ap (λ (k : ℕ). spelled 10 19 k ++ (48 + (n * 10 + d) % 10) ∷ []) high
    ∙ ap (λ (k : ℕ). spelled 10 19 n ++ (48 + k) ∷ []) low
    ∙ ap (λ (l : List ℕ). l ++ (48 + d) ∷ []) (sym (decimal_room 18 n (omega arith)))

pub hexes_more : (k w v : ℕ) → v < 16 → hexes (suc k) (w * 16 + v) ≡ hexes k w ++ digit v ∷ []
unfolding hexes
hexes_more k w v h =
    let high : (w * 16 + v) / 16 ≡ w = omega arith in
    let low : (w * 16 + v) % 16 ≡ v = omega arith in
    rw (high, low)

low_capital : (v : ℕ) → v < 10 → capital v ≡ 48 + v
unfolding capital
low_capital v h = rw (lt-ltb v 10 h)

high_capital : (v : ℕ) → 10 ≤ v → capital v ≡ 55 + v
unfolding capital
high_capital v h = rw (le-ltb v 10 h)

-- a byte that is a digit is the digit of its value
pub small_value_lem : (b : ℕ) → small_value b ≤ 15 → digit (small_value b) ≡ b
unfolding small_value
small_value_lem b =
    pick_case (b <? 48) 16 _ (λ (v : ℕ). v ≤ 15 → digit v ≡ b) (λ e h. absurd (omega arith))
    (λ e0. pick_case (b <? 58) (b - 48) _ (λ (v : ℕ). v ≤ 15 → digit v ≡ b) (λ e h. let x = ltb-true b 58 e in let y = ltb-false b 48 e0 in low_small (b - 48) (omega arith) ∙ omega arith)
    (λ e1. pick_case (b <? 97) 16 _ (λ (v : ℕ). v ≤ 15 → digit v ≡ b) (λ e h. absurd (omega arith))
    (λ e2. pick_case (b <? 103) (b - 87) 16 (λ (v : ℕ). v ≤ 15 → digit v ≡ b) (λ e h. let y = ltb-false b 97 e2 in high_small (b - 87) (omega arith) ∙ omega arith) (λ e h. absurd (omega arith)))))

pub capital_value_lem : (b : ℕ) → capital_value b ≤ 15 → capital (capital_value b) ≡ b
unfolding capital_value
capital_value_lem b =
    pick_case (b <? 48) 16 _ (λ (v : ℕ). v ≤ 15 → capital v ≡ b) (λ e h. absurd (omega arith))
    (λ e0. pick_case (b <? 58) (b - 48) _ (λ (v : ℕ). v ≤ 15 → capital v ≡ b) (λ e h. let x = ltb-true b 58 e in let y = ltb-false b 48 e0 in low_capital (b - 48) (omega arith) ∙ omega arith)
    (λ e1. pick_case (b <? 65) 16 _ (λ (v : ℕ). v ≤ 15 → capital v ≡ b) (λ e h. absurd (omega arith))
    (λ e2. pick_case (b <? 71) (b - 55) 16 (λ (v : ℕ). v ≤ 15 → capital v ≡ b) (λ e h. let y = ltb-false b 65 e2 in high_capital (b - 55) (omega arith) ∙ omega arith) (λ e h. absurd (omega arith)))))

-- and the value of a digit is the number
pub value_small : (v : ℕ) → v ≤ 15 → small_value (digit v) ≡ v
unfolding digit small_value
value_small v h =
    ⊎_elim
    (λ (high : 10 ≤ v).
    let a : 48 ≤ 87 + v = omega arith in
    let b : 58 ≤ 87 + v = omega arith in
    let c : 97 ≤ 87 + v = omega arith in
    let d : 87 + v < 103 = omega arith in
    let e : 87 + v - 87 ≡ v = omega arith in
    rw (le-ltb v 10 high, le-ltb (87 + v) 48 a, le-ltb (87 + v) 58 b, le-ltb (87 + v) 97 c, lt-ltb (87 + v) 103 d) e)
    (λ (low : v < 10).
    let a : 48 ≤ 48 + v = omega arith in
    let b : 48 + v < 58 = omega arith in
    let e : 48 + v - 48 ≡ v = omega arith in
    rw (lt-ltb v 10 low, le-ltb (48 + v) 48 a, lt-ltb (48 + v) 58 b) e)
    (le_or_gt 10 v)

pub value_capital : (v : ℕ) → v ≤ 15 → capital_value (capital v) ≡ v
unfolding capital capital_value
value_capital v h =
    ⊎_elim
    (λ (high : 10 ≤ v).
    let a : 48 ≤ 55 + v = omega arith in
    let b : 58 ≤ 55 + v = omega arith in
    let c : 65 ≤ 55 + v = omega arith in
    let d : 55 + v < 71 = omega arith in
    let e : 55 + v - 55 ≡ v = omega arith in
    rw (le-ltb v 10 high, le-ltb (55 + v) 48 a, le-ltb (55 + v) 58 b, le-ltb (55 + v) 65 c, lt-ltb (55 + v) 71 d) e)
    (λ (low : v < 10).
    let a : 48 ≤ 48 + v = omega arith in
    let b : 48 + v < 58 = omega arith in
    let e : 48 + v - 48 ≡ v = omega arith in
    rw (lt-ltb v 10 low, le-ltb (48 + v) 48 a, lt-ltb (48 + v) 58 b) e)
    (le_or_gt 10 v)

-- letters and types: a letter's type has that letter, and a type's letter that type
module _ (b : ℕ) where
  pub letter_of_type : (type_of b ≡ 0 → ⊥) → letter_of (type_of b) ≡ b
  unfolding type_of letter_of
  letter_of_type =
      pick_case (b =? 110) null_type _ Goal (λ e _. sym (eqb-true b 110 e))
      (λ _. pick_case (b =? 105) int64 _ Goal (λ e _. sym (eqb-true b 105 e))
      (λ _. pick_case (b =? 117) uint64 _ Goal (λ e _. sym (eqb-true b 117 e))
      (λ _. pick_case (b =? 100) double _ Goal (λ e _. sym (eqb-true b 100 e))
      (λ _. pick_case (b =? 98) boolean _ Goal (λ e _. sym (eqb-true b 98 e))
      (λ _. pick_case (b =? 115) string _ Goal (λ e _. sym (eqb-true b 115 e))
      (λ _. pick_case (b =? 97) any _ Goal (λ e _. sym (eqb-true b 97 e))
      (λ _. pick_case (b =? 99) composite 0 Goal (λ e _. sym (eqb-true b 99 e))
      (λ _ some. absurd (some refl)))))))))
    where
      Goal : ℕ → Type 0
      Goal type = (type ≡ 0 → ⊥) → letter_of type ≡ b
