-- What the machine has read: the text of its state, one byte longer at each step. Assumes nothing.
use mathlib.Core.Path.{◌≡◌, refl, sym, ◌∙◌, ap}
use mathlib.Core.Bool.{Bool, true, false, ◌&&◌}
use mathlib.Core.List.{List, [], ◌∷◌, ◌++◌, append_assoc, append-nil}
use Prim.Native.Nat.{ℕ, zero, suc, ◌+◌, ◌-◌, ◌*◌, ◌/◌, ◌%◌, ◌^◌, ◌<◌, ◌≤◌}
use native.Mathlib.Nat.{pow-succ'}
use native.Mathlib.Omega.{arith}
use borrow.Author.Tests.{ltb-true, ltb-false, eqb-true, eqb-false}
use Rattle.words.specs.Decide.{pick, decide, ◌⇒◌, ◌<?◌, ◌=?◌}
use Rattle.words.specs.Text.{digit}
use Rattle.words.proofs.DecideLaws.{pick_case}
use Rattle.numerals.specs.Statement.{decimal}
use Rattle.places.specs.Machine.{on, off}
use Rattle.places.proofs.Ways.{After}
use Rattle.wire.specs.Layout.{null_type, boolean, scalar, blob}
use Rattle.wire.specs.Content.{Content, nothing, word, bytes, Cell, Row, null, values}
use Rattle.text_form.specs.Form.{letter_of, escaped, capital, hexes, unit, units, head, cell_text, row_text, text, FitsContent, FitsCell, FitsCells, FitsRows, IsText}
use Rattle.text_form.specs.Walk.{Phase, fresh, number, letter, digits, full, percent, second, State, hash, at, Go, type_of, small_value, capital_value, fits_word, fits_high, onward, cell_of, step, close}
use Rattle.text_form.proofs.TextLaws.{not_true, both, text_snoc, units_snoc, fronts, fronts_snoc, row_snoc, rows_fit, cells_fit, bytes_none, bytes_fit, decimal_one, decimal_more, hexes_more, small_value_lem, capital_value_lem, letter_of_type}

-- the text of a state
unfoldable pub said_phase : Phase → List ℕ
said_phase fresh = []
said_phase (number n) = decimal n
said_phase (letter id aggregate) = head id aggregate
said_phase (digits id aggregate type k w) = head id aggregate ++ letter_of type ∷ hexes (15 - k) w
said_phase (full c) = cell_text c
said_phase (percent id aggregate type s) = cell_text (cell_of id aggregate type (bytes s)) ++ 37 ∷ []
said_phase (second id aggregate type s h) = cell_text (cell_of id aggregate type (bytes s)) ++ 37 ∷ capital h ∷ []

unfoldable pub said : State → List ℕ
said (hash rows) = text rows ++ 35 ∷ []
said (at rows vs p) = text rows ++ (fronts vs ++ said_phase p)

-- what each state has made sure of
abbrev pub FinePhase : Phase → Type 0
FinePhase fresh = Unit {0}
FinePhase (number n) = n ≤ 65535
FinePhase (letter id aggregate) = (id ≤ 65535) × (aggregate ≤ 1)
FinePhase (digits id aggregate type k w) =
    (id ≤ 65535) × (aggregate ≤ 1) × (scalar type ≡ true) × (k ≤ 15) × (w < 16 ^ (15 - k)) × (type ≡ boolean → w ≡ 0)
FinePhase (full c) = FitsCell c
FinePhase (percent id aggregate type s) = FitsCell (cell_of id aggregate type (bytes s))
FinePhase (second id aggregate type s h) = FitsCell (cell_of id aggregate type (bytes s)) × (fits_high h ≡ true)

abbrev pub Fine : State → Type 0
Fine (hash rows) = FitsRows rows
Fine (at rows vs p) = FitsRows rows × FitsCells vs × FinePhase p

abbrev pub Kept : State → ℕ → Go → Type 0
Kept q b x = After (λ next. Fine next × (said next ≡ said q ++ b ∷ [])) x

-- a phase that is one byte longer
longer : (rows : List Row) (vs : List Cell) (p p' : Phase) (b : ℕ) → said_phase p' ≡ said_phase p ++ b ∷ [] → said (at rows vs p') ≡ said (at rows vs p) ++ b ∷ []
unfolding said
longer rows vs p p' b e =
    ap (λ (l : List ℕ). text rows ++ (fronts vs ++ l)) e
    ∙ ap (λ (l : List ℕ). text rows ++ l) (sym (append_assoc (fronts vs) (said_phase p) (b ∷ [])))
    ∙ sym (append_assoc (text rows) (fronts vs ++ said_phase p) (b ∷ []))

-- a row that ends
row_ends : (rows : List Row) (r : Row) (t : List ℕ) → row_text r ≡ t → said (at (rows ++ r ∷ []) [] fresh) ≡ text rows ++ t
unfolding said said_phase fronts
row_ends rows r t e = append-nil (text (rows ++ r ∷ [])) ∙ text_snoc rows r ∙ ap (λ (l : List ℕ). text rows ++ l) e

-- what a choice leads to
kept : (q : State) (b : ℕ) (test : Bool) (x y : Go) → (test ≡ true → Kept q b x) → (test ≡ false → Kept q b y) → Kept q b (pick test x y)
kept q b test x y = pick_case test x y (Kept q b)

hash_kept : (rows : List Row) (b : ℕ) → Fine (hash rows) → Kept (hash rows) b (step (hash rows) b)
unfolding step said row_text
hash_kept rows b fine =
    kept (hash rows) b (b =? 10) _ _
    (λ e. (
      (rows_fit rows null fine tt, tt, tt),
      row_ends rows null (35 ∷ b ∷ []) (rw (eqb-true b 10 e)) ∙ sym (append_assoc (text rows) (35 ∷ []) (b ∷ [])),
    ))
    (λ e. tt)

module _ (rows : List Row) (vs : List Cell) (b : ℕ) (fits : FitsRows rows) (good : FitsCells vs) where
  fresh_kept : Kept (at rows vs fresh) b (decide (b <? 48 ⇒ off tt ∷ b <? 58 ⇒ on (at rows vs (number (b - 48))) ∷ []) (off tt))
  unfolding said_phase
  fresh_kept =
      kept (at rows vs fresh) b (b <? 48) _ _
      (λ e. tt)
      (λ e0. kept (at rows vs fresh) b (b <? 58) _ _
      (λ e.
      let y = ltb-false b 48 e0 in
      let x = ltb-true b 58 e in
      let same : 48 + (b - 48) ≡ b = omega arith in
      ((fits, good, omega arith), longer rows vs fresh (number (b - 48)) b (decimal_one 19 (b - 48) (omega arith) ∙ ap (λ (n : ℕ). n ∷ []) same)))
      (λ e. tt))

  number_kept : (n : ℕ) → n ≤ 65535 → Kept (at rows vs (number n)) b (step (at rows vs (number n)) b)
  unfolding step said_phase head
  number_kept n small =
      kept q b (b =? 58) _ _
      (λ e. ((fits, good, (small, omega arith)), longer rows vs (number n) (letter n 0) b (rw (eqb-true b 58 e))))
      (λ _. kept q b (b <? 48) _ _
      (λ e. tt)
      (λ e1. kept q b (57 <? b) _ _
      (λ e. tt)
      (λ e2. kept q b (n =? 0) _ _
      (λ e. tt)
      (λ e3. kept q b (65535 <? (n * 10 + (b - 48))) _ _
      (λ e. tt)
      (λ e4.
      let low = ltb-false b 48 e1 in
      let high = ltb-false 57 b e2 in
      let some = eqb-false n 0 e3 in
      let most = ltb-false 65535 (n * 10 + (b - 48)) e4 in
      let same : 48 + (b - 48) ≡ b = omega arith in (
        (fits, good, most),
        longer rows vs (number n) (number (n * 10 + (b - 48))) b (decimal_more n (b - 48) (omega arith) (omega arith) most ∙ ap (λ (x : ℕ). decimal n ++ x ∷ []) same),
      ))))))
    where
      q : State
      q = at rows vs (number n)

-- the aggregate sign
sign : (id : ℕ) → head id 1 ≡ head id 0 ++ 33 ∷ []
unfolding head
sign id = sym (append_assoc (decimal id) (58 ∷ []) (33 ∷ []))

-- a digit that fits a word
fits_digit : (type k v : ℕ) → fits_word type k v ≡ true → v ≤ 15
fits_digit type k v = pick_case (15 <? v) false _ (λ (x : Bool). x ≡ true → v ≤ 15) (λ _ e. not_true e) (λ f _. ltb-false 15 v f)

fits_last : (type v : ℕ) → fits_word type 0 v ≡ true → type ≡ boolean → v < 2
fits_last type v e same =
    pick_case (15 <? v) false (v <? 2) (λ (x : Bool). x ≡ true → v < 2) (λ _ f. not_true f) (λ _ f. ltb-true v 2 f)
    (ap (λ (k : ℕ). fits_word k 0 v) (sym same) ∙ e)

fits_zero : (type k v : ℕ) → fits_word type (suc k) v ≡ true → type ≡ boolean → v ≡ 0
fits_zero type k v e same =
    pick_case (15 <? v) false (pick (suc k =? 0) (v <? 2) (v =? 0)) (λ (x : Bool). x ≡ true → v ≡ 0) (λ _ f. not_true f)
    (λ _. pick_case (suc k =? 0) (v <? 2) (v =? 0) (λ (x : Bool). x ≡ true → v ≡ 0) (λ g _. let z = eqb-true (suc k) 0 g in absurd (omega arith)) (λ _ f. eqb-true v 0 f))
    (ap (λ (j : ℕ). fits_word j (suc k) v) (sym same) ∙ e)

fits_high_lem : (h : ℕ) → fits_high h ≡ true → h ≤ 15
fits_high_lem h =
    pick_case (h <? 3) true _ (λ (x : Bool). x ≡ true → h ≤ 15) (λ e _. let low = ltb-true h 3 e in omega arith)
    (λ _. pick_case (h <? 7) false _ (λ (x : Bool). x ≡ true → h ≤ 15) (λ _ e. not_true e) (λ _ e. let low = ltb-true h 16 e in omega arith))

plain_below : (b : ℕ) → escaped b ≡ false → b < 256
plain_below b =
    pick_case (b <? 33) true _ (λ (x : Bool). x ≡ false → b < 256) (λ e _. let low = ltb-true b 33 e in omega arith)
    (λ _. pick_case (126 <? b) true _ (λ (x : Bool). x ≡ false → b < 256) (λ _ e. not_true (sym e)) (λ e _. let low = ltb-false 126 b e in omega arith))

scalar_some : (type : ℕ) → scalar type ≡ true → type ≡ 0 → ⊥
scalar_some type is none = let low = ltb-true 2 type (both (2 <? type) (type <? 7) is).0 in omega arith

blob_some : (type : ℕ) → blob type ≡ true → type ≡ 0 → ⊥
blob_some type is none = let low = ltb-true 15 type (both (15 <? type) (type <? 19) is).0 in omega arith

-- a blob that is one byte longer
blob_longer : (id aggregate type : ℕ) (s : List ℕ) (b : ℕ) (t : List ℕ) → unit b ≡ t
    → cell_text (cell_of id aggregate type (bytes (s ++ b ∷ []))) ≡ cell_text (cell_of id aggregate type (bytes s)) ++ t
unfolding cell_text
blob_longer id aggregate type s b t e =
    ap (λ (x : List ℕ). head id aggregate ++ letter_of type ∷ x) (units_snoc s b ∙ ap (λ (x : List ℕ). units s ++ x) e)
    ∙ sym (append_assoc (head id aggregate) (letter_of type ∷ units s) t)

unit_plain : (b : ℕ) → escaped b ≡ false → unit b ≡ b ∷ []
unfolding unit
unit_plain b e = rw e

unit_escaped : (h d : ℕ) → d ≤ 15 → escaped (h * 16 + d) ≡ true → unit (h * 16 + d) ≡ 37 ∷ capital h ∷ capital d ∷ []
unfolding unit
unit_escaped h d low e =
    let high : (h * 16 + d) / 16 ≡ h = omega arith in
    let rest : (h * 16 + d) % 16 ≡ d = omega arith in
    rw (e, high, rest)

module _ (rows : List Row) (vs : List Cell) (b : ℕ) (fits : FitsRows rows) (good : FitsCells vs) (id aggregate : ℕ) (small-id : id ≤ 65535) (bit : aggregate ≤ 1) where
  letter_kept : Kept (at rows vs (letter id aggregate)) b (step (at rows vs (letter id aggregate)) b)
  unfolding step said_phase cell_text units hexes letter_of
  letter_kept =
      kept q b (b =? 33 && aggregate =? 0) _ _
      (λ e.
      let x = both (b =? 33) (aggregate =? 0) e in
      let none : aggregate ≡ 0 = eqb-true aggregate 0 x.1 in
      ((fits, good, (small-id, omega arith)), longer rows vs p (letter id 1) b (sign id ∙ ap (λ (n : ℕ). head id 0 ++ n ∷ []) (sym (eqb-true b 33 x.0)) ∙ ap (λ (n : ℕ). head id n ++ b ∷ []) (sym none))))
      (λ _. kept q b (type_of b =? null_type) _ _
      (λ e.
      let is : type_of b ≡ null_type = eqb-true (type_of b) null_type e in
      let its : letter_of null_type ≡ b = ap letter_of (sym is) ∙ letter_of_type b (λ z. omega arith) in
      ((fits, good, record { id_fits = small-id; aggregate_bit = bit; content_fits = refl }), longer rows vs p (full (cell_of id aggregate null_type nothing)) b (ap (λ (n : ℕ). head id aggregate ++ n ∷ []) its)))
      (λ _. kept q b (scalar (type_of b)) _ _
      (λ e.
      ((fits, good, (small-id, bit, e, omega arith, omega arith, λ _. refl)), longer rows vs p (digits id aggregate (type_of b) 15 0) b (ap (λ (n : ℕ). head id aggregate ++ n ∷ []) (letter_of_type b (scalar_some (type_of b) e)))))
      (λ _. kept q b (blob (type_of b)) _ _
      (λ e.
      ((fits, good, record { id_fits = small-id; aggregate_bit = bit; content_fits = (e, bytes_none) }), longer rows vs p (full (cell_of id aggregate (type_of b) (bytes []))) b (ap (λ (n : ℕ). head id aggregate ++ n ∷ []) (letter_of_type b (blob_some (type_of b) e)))))
      (λ _. tt))))
    where
      p : Phase
      p = letter id aggregate

      q : State
      q = at rows vs p

  digits_kept : (type k w : ℕ) → scalar type ≡ true → k ≤ 15 → w < 16 ^ (15 - k) → (type ≡ boolean → w ≡ 0) → Kept (at rows vs (digits id aggregate type k w)) b (step (at rows vs (digits id aggregate type k w)) b)
  unfolding step said_phase cell_text
  digits_kept type zero w is few below none =
      kept (at rows vs (digits id aggregate type 0 w)) b (fits_word type 0 (small_value b)) _ _
      (λ e.
      let v : ℕ = small_value b in
      let low : v ≤ 15 = fits_digit type 0 v e in
      let below' : w < 16 ^ 15 = below in (
        (fits, good, record { id_fits = small-id; aggregate_bit = bit; content_fits = (is, omega arith, λ same. let x = none same in let y = fits_last type v e same in omega arith) }),
        longer rows vs (digits id aggregate type 0 w) (full (cell_of id aggregate type (word (w * 16 + v)))) b
            (ap (λ (x : List ℕ). head id aggregate ++ letter_of type ∷ x) (hexes_more 15 w v (omega arith) ∙ ap (λ (n : ℕ). hexes 15 w ++ n ∷ []) (small_value_lem b low))
            ∙ sym (append_assoc (head id aggregate) (letter_of type ∷ hexes 15 w) (b ∷ []))),
      ))
      (λ _. tt)
  digits_kept type (suc k) w is few below none =
      kept (at rows vs (digits id aggregate type (suc k) w)) b (fits_word type (suc k) (small_value b)) _ _
      (λ e.
      let v : ℕ = small_value b in
      let low : v ≤ 15 = fits_digit type (suc k) v e in
      let size : 15 - k ≡ suc (15 - suc k) = omega arith in
      let power : 16 ^ suc (15 - suc k) ≡ 16 * 16 ^ (15 - suc k) = pow-succ' 16 (15 - suc k) in
      let room : w * 16 + v < 16 ^ suc (15 - suc k) = omega arith in (
        (fits, good, (small-id, bit, is, omega arith, rw size room, λ same. let x = none same in let y = fits_zero type k v e same in omega arith)),
        longer rows vs (digits id aggregate type (suc k) w) (digits id aggregate type k (w * 16 + v)) b
            (ap (λ (n : ℕ). head id aggregate ++ letter_of type ∷ hexes n (w * 16 + v)) size
            ∙ ap (λ (x : List ℕ). head id aggregate ++ letter_of type ∷ x) (hexes_more (15 - suc k) w v (omega arith) ∙ ap (λ (n : ℕ). hexes (15 - suc k) w ++ n ∷ []) (small_value_lem b low))
            ∙ sym (append_assoc (head id aggregate) (letter_of type ∷ hexes (15 - suc k) w) (b ∷ []))),
      ))
      (λ _. tt)

  onward_kept : (type : ℕ) (c : Content) → FitsCell (cell_of id aggregate type c) → Kept (at rows vs (full (cell_of id aggregate type c))) b (onward rows vs id aggregate type c b)
  unfolding said_phase
  onward_kept type nothing fit = tt
  onward_kept type (word w) fit = tt
  onward_kept type (bytes s) fit =
      kept q b (b =? 37) _ _
      (λ e. ((fits, good, fit), longer rows vs (full (cell_of id aggregate type (bytes s))) (percent id aggregate type s) b (rw (eqb-true b 37 e))))
      (λ _. kept q b (escaped b) _ _
      (λ _. tt)
      (λ e. (
        (fits, good, record { id_fits = small-id; aggregate_bit = bit; content_fits = (fit.content_fits.0, bytes_fit s b fit.content_fits.1 (plain_below b e)) }),
        longer rows vs (full (cell_of id aggregate type (bytes s))) (full (cell_of id aggregate type (bytes (s ++ b ∷ [])))) b (blob_longer id aggregate type s b (b ∷ []) (unit_plain b e)),
      )))
    where
      q : State
      q = at rows vs (full (cell_of id aggregate type (bytes s)))

  percent_kept : (type : ℕ) (s : List ℕ) → FitsCell (cell_of id aggregate type (bytes s)) → Kept (at rows vs (percent id aggregate type s)) b (step (at rows vs (percent id aggregate type s)) b)
  unfolding step said_phase
  percent_kept type s fit =
      kept (at rows vs (percent id aggregate type s)) b (fits_high (capital_value b)) _ _
      (λ e. (
        (fits, good, (fit, e)),
        longer rows vs (percent id aggregate type s) (second id aggregate type s (capital_value b)) b
            (ap (λ (n : ℕ). cell_text (cell_of id aggregate type (bytes s)) ++ 37 ∷ n ∷ []) (capital_value_lem b (fits_high_lem (capital_value b) e))
            ∙ sym (append_assoc (cell_text (cell_of id aggregate type (bytes s))) (37 ∷ []) (b ∷ []))),
      ))
      (λ _. tt)

  second_kept : (type : ℕ) (s : List ℕ) (h : ℕ) → FitsCell (cell_of id aggregate type (bytes s)) → fits_high h ≡ true → Kept (at rows vs (second id aggregate type s h)) b (step (at rows vs (second id aggregate type s h)) b)
  unfolding step said_phase
  second_kept type s h fit high =
      kept q b (15 <? capital_value b) _ _
      (λ _. tt)
      (λ e. kept q b (escaped (h * 16 + capital_value b)) _ _
      (λ f.
      let d : ℕ = capital_value b in
      let low : d ≤ 15 = ltb-false 15 (capital_value b) e in
      let top : h ≤ 15 = fits_high_lem h high in (
        (fits, good, record { id_fits = small-id; aggregate_bit = bit; content_fits = (fit.content_fits.0, bytes_fit s (h * 16 + d) fit.content_fits.1 (omega arith)) }),
        longer rows vs (second id aggregate type s h) (full (cell_of id aggregate type (bytes (s ++ (h * 16 + d) ∷ [])))) b
            (blob_longer id aggregate type s (h * 16 + d) (37 ∷ capital h ∷ b ∷ []) (unit_escaped h d low f ∙ ap (λ (n : ℕ). 37 ∷ capital h ∷ n ∷ []) (capital_value_lem b low))
            ∙ sym (append_assoc (cell_text (cell_of id aggregate type (bytes s))) (37 ∷ capital h ∷ []) (b ∷ []))),
      ))
      (λ _. tt))
    where
      q : State
      q = at rows vs (second id aggregate type s h)

full_kept : (rows : List Row) (vs : List Cell) (b : ℕ) → FitsRows rows → FitsCells vs → (c : Cell) → FitsCell c → Kept (at rows vs (full c)) b (step (at rows vs (full c)) b)
unfolding step said said_phase
full_kept rows vs b fits good c fit =
    kept q b (b =? 9) _ _
    (λ e. (
      (fits, cells_fit vs c good fit, tt),
      ap (λ (x : List ℕ). text rows ++ x) (append-nil (fronts (vs ++ c ∷ [])) ∙ fronts_snoc vs c ∙ sym (append_assoc (fronts vs) (cell_text c) (9 ∷ [])))
          ∙ sym (append_assoc (text rows) (fronts vs ++ cell_text c) (9 ∷ []))
          ∙ ap (λ (n : ℕ). (text rows ++ (fronts vs ++ cell_text c)) ++ n ∷ []) (sym (eqb-true b 9 e)),
    ))
    (λ _. kept q b (b =? 10) _ _
    (λ e. (
      (rows_fit rows (values (vs ++ c ∷ [])) fits (cells_fit vs c good fit), tt, tt),
      row_ends rows (values (vs ++ c ∷ [])) _ (row_snoc vs c ∙ sym (append_assoc (fronts vs) (cell_text c) (10 ∷ [])))
          ∙ sym (append_assoc (text rows) (fronts vs ++ cell_text c) (10 ∷ []))
          ∙ ap (λ (n : ℕ). (text rows ++ (fronts vs ++ cell_text c)) ++ n ∷ []) (sym (eqb-true b 10 e)),
    ))
    (λ _. onward_kept rows vs b fits good c.id c.aggregate fit.id_fits fit.aggregate_bit c.type c.content fit))
  where
    q : State
    q = at rows vs (full c)

-- every line of every list
pub step_kept : (q : State) (b : ℕ) → Fine q → Kept q b (step q b)
unfolding step said said_phase fronts row_text
step_kept (hash rows) b fine = hash_kept rows b fine
step_kept (at rows [] fresh) b fine =
    kept q b (b =? 10) _ _
    (λ e. (
      (rows_fit rows (values []) fine.0 tt, tt, tt),
      row_ends rows (values []) (b ∷ []) (rw (eqb-true b 10 e)) ∙ ap (λ (l : List ℕ). l ++ b ∷ []) (sym (append-nil (text rows))),
    ))
    (λ _. kept q b (b =? 35) _ _
    (λ e. (fine.0, ap (λ (n : ℕ). text rows ++ n ∷ []) (sym (eqb-true b 35 e)) ∙ ap (λ (l : List ℕ). l ++ b ∷ []) (sym (append-nil (text rows)))))
    (λ _. fresh_kept rows [] b fine.0 fine.1))
  where
    q : State
    q = at rows [] fresh
step_kept (at rows (v ∷ vs) fresh) b fine = fresh_kept rows (v ∷ vs) b fine.0 fine.1
step_kept (at rows vs (number n)) b fine = number_kept rows vs b fine.0 fine.1 n fine.2
step_kept (at rows vs (letter id aggregate)) b fine = letter_kept rows vs b fine.0 fine.1 id aggregate fine.2.0 fine.2.1
step_kept (at rows vs (digits id aggregate type k w)) b fine =
    digits_kept rows vs b fine.0 fine.1 id aggregate fine.2.0 fine.2.1 type k w fine.2.2 fine.2.3 fine.2.4 fine.2.5
step_kept (at rows vs (full c)) b fine = full_kept rows vs b fine.0 fine.1 c fine.2
step_kept (at rows vs (percent id aggregate type s)) b fine =
    percent_kept rows vs b fine.0 fine.1 id aggregate fine.2.id_fits fine.2.aggregate_bit type s fine.2
step_kept (at rows vs (second id aggregate type s h)) b fine =
    second_kept rows vs b fine.0 fine.1 id aggregate fine.2.0.id_fits fine.2.0.aggregate_bit type s h fine.2.0 fine.2.1

pub ends : (q : State) (t : List ℕ) → Fine q → t ≡ said q → After (IsText t) (close q)
unfolding close said said_phase fronts
ends (hash rows) t fine e = tt
ends (at rows [] fresh) t fine e = (fine.0, e ∙ append-nil (text rows))
ends (at rows (v ∷ vs) fresh) t fine e = tt
ends (at rows vs (number n)) t fine e = tt
ends (at rows vs (letter id aggregate)) t fine e = tt
ends (at rows vs (digits id aggregate type k w)) t fine e = tt
ends (at rows vs (full c)) t fine e = tt
ends (at rows vs (percent id aggregate type s)) t fine e = tt
ends (at rows vs (second id aggregate type s h)) t fine e = tt
