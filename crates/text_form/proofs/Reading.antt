-- The machine reads the text of rows as those rows. Assumes nothing.
use mathlib.Core.Path.{◌≡◌, refl, sym, ◌∙◌, ap}
use mathlib.Core.Bool.{Bool, true, false, not, ◌&&◌}
use mathlib.Core.List.{List, [], ◌∷◌, ◌++◌, append_assoc, append-nil}
use mathlib.Core.Logic.{◌⊎◌, inl, inr, ⊎_elim}
use Prim.Native.Nat.{ℕ, zero, suc, ◌+◌, ◌-◌, ◌*◌, ◌/◌, ◌%◌, ◌^◌, ◌<◌, ◌≤◌}
use native.Mathlib.Nat.{pow-succ'}
use native.Mathlib.Omega.{arith}
use borrow.Author.Tests.{not-false, lt-ltb, le-ltb, ne_eqb, eq-eqb, ltb-true, ltb-false, eqb-true, eqb-false}
use Rattle.words.specs.Decide.{pick, decide, ◌⇒◌, ◌<?◌, ◌=?◌}
use Rattle.words.specs.Text.{digit, spelled}
use Rattle.words.specs.Word.{Bytes}
use Rattle.words.proofs.DecideLaws.{pick_case, le_or_gt}
use Rattle.numerals.specs.Statement.{decimal}
use Rattle.places.specs.Machine.{on, off}
use Rattle.places.proofs.Ways.{Leads, nowhere, by}
use Rattle.places.proofs.MachineLaws.{leads_append, leads_one}
use Rattle.wire.specs.Layout.{null_type, boolean, scalar, blob}
use Rattle.wire.specs.Content.{Content, nothing, word, bytes, Cell, Row, null, values}
use Rattle.text_form.specs.Form.{letter_of, escaped, capital, hexes, unit, units, content_text, head, cell_text, more, row_text, text, FitsContent, FitsCell, FitsCells, FitsRow, FitsRows}
use Rattle.text_form.specs.Walk.{fresh, number, letter, digits, full, percent, second, hash, at, type_of, small_value, capital_value, fits_word, fits_high, behind_digit, cell_of, step, walk}
use Rattle.text_form.proofs.TextLaws.{not_true, both, decimal_one, decimal_split, value_small, value_capital}

module _ (rows : List Row) where
  fresh_digit : (vs : List Cell) (d : ℕ) → d < 10 → step (at rows vs fresh) (48 + d) ≡ on (at rows vs (number d))
  unfolding step
  fresh_digit [] d h =
      let a : 48 ≤ 48 + d = omega arith in
      let b : 48 + d < 58 = omega arith in
      let e : 48 + d - 48 ≡ d = omega arith in
      rw (ne_eqb (48 + d) 10 (λ x. omega arith), ne_eqb (48 + d) 35 (λ x. omega arith), le-ltb (48 + d) 48 a, lt-ltb (48 + d) 58 b) (ap (λ (n : ℕ). on (at rows [] (number n))) e)
  fresh_digit (v ∷ vs) d h =
      let a : 48 ≤ 48 + d = omega arith in
      let b : 48 + d < 58 = omega arith in
      let e : 48 + d - 48 ≡ d = omega arith in
      rw (le-ltb (48 + d) 48 a, lt-ltb (48 + d) 58 b) (ap (λ (n : ℕ). on (at rows (v ∷ vs) (number n))) e)

  module _ (vs : List Cell) where
    number_digit : (n d : ℕ) → 0 < n → d < 10 → n * 10 + d ≤ 65535 → step (at rows vs (number n)) (48 + d) ≡ on (at rows vs (number (n * 10 + d)))
    unfolding step
    number_digit n d some h most =
        let a : 48 ≤ 48 + d = omega arith in
        let b : 48 + d ≤ 57 = omega arith in
        let c : n * 10 + (48 + d - 48) ≤ 65535 = omega arith in
        let e : n * 10 + (48 + d - 48) ≡ n * 10 + d = omega arith in
        rw (ne_eqb (48 + d) 58 (λ x. omega arith), le-ltb (48 + d) 48 a, le-ltb 57 (48 + d) b, ne_eqb n 0 (λ x. omega arith), le-ltb 65535 (n * 10 + (48 + d - 48)) c) (ap (λ (k : ℕ). on (at rows vs (number k))) e)

    leads_decimal : (most n : ℕ) → n ≤ 65535 → n < 10 ^ suc most → Leads walk (at rows vs fresh) (spelled 10 (suc most) n) (at rows vs (number n))
    leads_decimal zero n h below = rw (decimal_one 0 n (omega arith)) (by (fresh_digit vs n (omega arith)) nowhere)
    leads_decimal (suc most) n h below =
        ⊎_elim
        (λ (big : 10 ≤ n).
        let power : 10 ^ suc (suc most) ≡ 10 * 10 ^ suc most = pow-succ' 10 (suc most) in
        let fewer : n / 10 < 10 ^ suc most = omega arith in
        let whole : n / 10 * 10 + n % 10 ≡ n = omega arith in
        rw (decimal_split (suc most) n big)
        (leads_append walk (at rows vs fresh) (at rows vs (number (n / 10))) (at rows vs (number n)) (spelled 10 (suc most) (n / 10)) ((48 + n % 10) ∷ [])
        (leads_decimal most (n / 10) (omega arith) fewer)
        (leads_one walk (at rows vs (number (n / 10))) (at rows vs (number n)) (48 + n % 10) (number_digit (n / 10) (n % 10) (omega arith) (omega arith) (omega arith) ∙ ap (λ (k : ℕ). on (at rows vs (number k))) whole))))
        (λ (one : n < 10). rw (decimal_one (suc most) n one) (by (fresh_digit vs n one) nowhere))
        (le_or_gt 10 n)

    leads_head : (id aggregate : ℕ) → id ≤ 65535 → aggregate ≤ 1 → Leads walk (at rows vs fresh) (head id aggregate) (at rows vs (letter id aggregate))
    unfolding step head
    leads_head id aggregate h bit =
        leads_append walk (at rows vs fresh) (at rows vs (number id)) (at rows vs (letter id aggregate)) (decimal id) _ (leads_decimal 19 id h (omega arith)) (mark aggregate bit)
      where
        mark : (aggregate : ℕ) → aggregate ≤ 1 → Leads walk (at rows vs (number id)) (58 ∷ pick (aggregate =? 0) [] (33 ∷ [])) (at rows vs (letter id aggregate))
        mark zero bit = by refl nowhere
        mark (suc zero) bit = by {next = at rows vs (letter id 0)} refl (by refl nowhere)
        mark (suc (suc n)) bit = absurd (omega arith)

-- a digit that a word may have there fits
fits_word_lem : (type k v : ℕ) → v ≤ 15 → (type ≡ boolean → k ≡ 0 → v < 2) → (type ≡ boolean → 0 < k → v ≡ 0) → fits_word type k v ≡ true
fits_word_lem type k v low last zeros =
    rw (le-ltb 15 v low)
    (pick_case (not (type =? boolean)) true _ (λ (x : Bool). x ≡ true) (λ _. refl)
    (λ e. pick_case (k =? 0) (v <? 2) (v =? 0) (λ (x : Bool). x ≡ true)
    (λ f. lt-ltb v 2 (last (is e) (eqb-true k 0 f)))
    (λ f. let some = eqb-false k 0 f in eq-eqb v 0 (zeros (is e) (omega arith)))))
  where
    is : not (type =? boolean) ≡ false → type ≡ boolean
    is e = eqb-true type boolean (not-false (type =? boolean) e)

-- an escaped byte's first digit
fits_high_lem : (b : ℕ) → b < 256 → escaped b ≡ true → fits_high (b / 16) ≡ true
fits_high_lem b below =
    pick_case (b <? 33) true _ (λ (x : Bool). x ≡ true → fits_high (b / 16) ≡ true)
    (λ e _. let low = ltb-true b 33 e in let h : b / 16 < 3 = omega arith in rw (lt-ltb (b / 16) 3 h))
    (λ _. pick_case (126 <? b) true _ (λ (x : Bool). x ≡ true → fits_high (b / 16) ≡ true)
    (λ e _.
    let high = ltb-true 126 b e in
    let h : 7 ≤ b / 16 = omega arith in
    let h3 : 3 ≤ b / 16 = omega arith in
    let h16 : b / 16 < 16 = omega arith in
    rw (le-ltb (b / 16) 3 h3, le-ltb (b / 16) 7 h, lt-ltb (b / 16) 16 h16))
    (λ _ e. rw (eqb-true b 37 e)))

-- a byte that stands for itself
pub record Plain (b : ℕ) : Type 0 where
  pub low : 33 ≤ b
  pub high : b ≤ 126
  pub other : b ≡ 37 → ⊥

pub plain : (b : ℕ) → escaped b ≡ false → Plain b
plain b =
    pick_case (b <? 33) true _ (λ (x : Bool). x ≡ false → Plain b) (λ _ e. not_true (sym e))
    (λ e0. pick_case (126 <? b) true _ (λ (x : Bool). x ≡ false → Plain b) (λ _ e. not_true (sym e))
    (λ e1 e. record { low = ltb-false b 33 e0; high = ltb-false 126 b e1; other = eqb-false b 37 e }))

module _ (rows : List Row) (vs : List Cell) (id aggregate : ℕ) where
  word_digit : (type k w v : ℕ) → v ≤ 15 → fits_word type k v ≡ true → step (at rows vs (digits id aggregate type k w)) (digit v) ≡ on (behind_digit rows vs id aggregate type k (w * 16 + v))
  unfolding step
  word_digit type k w v low fit = rw (value_small v low, fit)

  -- the digits of a word, all but the last
  leads_hexes : (type j w : ℕ) → j ≤ 15 → w < 16 ^ j → (type ≡ boolean → w ≡ 0) → Leads walk (at rows vs (digits id aggregate type 15 0)) (hexes j w) (at rows vs (digits id aggregate type (15 - j) w))
  unfolding hexes
  leads_hexes type zero w few below none =
      let w0 : w ≡ 0 = omega arith in
      rw w0 nowhere
  leads_hexes type (suc j) w few below none =
      let power : 16 ^ suc j ≡ 16 * 16 ^ j = pow-succ' 16 j in
      let fewer : w / 16 < 16 ^ j = omega arith in
      let whole : w / 16 * 16 + w % 16 ≡ w = omega arith in
      let size : 15 - j ≡ suc (15 - suc j) = omega arith in
      leads_append walk (at rows vs (digits id aggregate type 15 0)) (at rows vs (digits id aggregate type (suc (15 - suc j)) (w / 16))) (at rows vs (digits id aggregate type (15 - suc j) w)) (hexes j (w / 16)) (digit (w % 16) ∷ [])
      (rw size at (leads_hexes type j (w / 16) (omega arith) fewer (λ same. let x = none same in omega arith)))
      (leads_one walk (at rows vs (digits id aggregate type (suc (15 - suc j)) (w / 16))) (at rows vs (digits id aggregate type (15 - suc j) w)) (digit (w % 16))
      (word_digit type (suc (15 - suc j)) (w / 16) (w % 16) (omega arith) (fits_word_lem type (suc (15 - suc j)) (w % 16) (omega arith) (λ _ e. absurd (omega arith)) (λ same _. let x = none same in omega arith))
      ∙ ap (λ (n : ℕ). on (at rows vs (digits id aggregate type (15 - suc j) n))) whole))

  leads_scalar : (type w : ℕ) → w < 2 ^ 64 → (type ≡ boolean → w ≤ 1) → Leads walk (at rows vs (digits id aggregate type 15 0)) (hexes 16 w) (at rows vs (full (cell_of id aggregate type (word w))))
  unfolding hexes
  leads_scalar type w below bool =
      let whole : w / 16 * 16 + w % 16 ≡ w = omega arith in
      leads_append walk (at rows vs (digits id aggregate type 15 0)) (at rows vs (digits id aggregate type 0 (w / 16))) (at rows vs (full (cell_of id aggregate type (word w)))) (hexes 15 (w / 16)) (digit (w % 16) ∷ [])
      (leads_hexes type 15 (w / 16) (omega arith) (omega arith) (λ same. let x = bool same in omega arith))
      (leads_one walk (at rows vs (digits id aggregate type 0 (w / 16))) (at rows vs (full (cell_of id aggregate type (word w)))) (digit (w % 16))
      (word_digit type 0 (w / 16) (w % 16) (omega arith) (fits_word_lem type 0 (w % 16) (omega arith) (λ same _. let x = bool same in omega arith) (λ _ e. absurd (omega arith)))
      ∙ ap (λ (n : ℕ). on (at rows vs (full (cell_of id aggregate type (word n))))) whole))

  module _ (type : ℕ) (s : List ℕ) where
    percent_step : step (at rows vs (full (cell_of id aggregate type (bytes s)))) 37 ≡ on (at rows vs (percent id aggregate type s))
    unfolding step
    percent_step = refl

    high_step : (h : ℕ) → h ≤ 15 → fits_high h ≡ true → step (at rows vs (percent id aggregate type s)) (capital h) ≡ on (at rows vs (second id aggregate type s h))
    unfolding step
    high_step h low fit = rw (value_capital h low, fit)

    low_step : (h d : ℕ) → d ≤ 15 → escaped (h * 16 + d) ≡ true → step (at rows vs (second id aggregate type s h)) (capital d) ≡ on (at rows vs (full (cell_of id aggregate type (bytes (s ++ (h * 16 + d) ∷ [])))))
    unfolding step
    low_step h d low e = rw (value_capital d low, le-ltb 15 d low, e)

    plain_step : (b : ℕ) → escaped b ≡ false → step (at rows vs (full (cell_of id aggregate type (bytes s)))) b ≡ on (at rows vs (full (cell_of id aggregate type (bytes (s ++ b ∷ [])))))
    unfolding step
    plain_step b e =
        let p : Plain b = plain b e in
        let low : 33 ≤ b = p.low in
        rw (e, ne_eqb b 9 (λ x. omega arith), ne_eqb b 10 (λ x. omega arith), ne_eqb b 37 p.other)

    leads_unit : (b : ℕ) → b < 256 → Leads walk (at rows vs (full (cell_of id aggregate type (bytes s)))) (unit b) (at rows vs (full (cell_of id aggregate type (bytes (s ++ b ∷ [])))))
    unfolding unit
    leads_unit b below =
        pick_case (escaped b) (37 ∷ capital (b / 16) ∷ capital (b % 16) ∷ []) (b ∷ []) (λ (t : List ℕ). Leads walk (at rows vs (full (cell_of id aggregate type (bytes s)))) t (at rows vs (full (cell_of id aggregate type (bytes (s ++ b ∷ []))))))
        (λ e.
        let whole : b / 16 * 16 + b % 16 ≡ b = omega arith in
        by percent_step
        (by (high_step (b / 16) (omega arith) (fits_high_lem b below e))
        (by (low_step (b / 16) (b % 16) (omega arith) (ap (λ (n : ℕ). escaped n) whole ∙ e) ∙ ap (λ (n : ℕ). on (at rows vs (full (cell_of id aggregate type (bytes (s ++ n ∷ [])))))) whole) nowhere)))
        (λ e. by (plain_step b e) nowhere)

  leads_units : (t : List ℕ) (type : ℕ) (s : List ℕ) → Bytes t → Leads walk (at rows vs (full (cell_of id aggregate type (bytes s)))) (units t) (at rows vs (full (cell_of id aggregate type (bytes (s ++ t)))))
  unfolding units
  leads_units [] type s fit = rw (append-nil s) nowhere
  leads_units (b ∷ t) type s fit =
      leads_append walk (at rows vs (full (cell_of id aggregate type (bytes s)))) (at rows vs (full (cell_of id aggregate type (bytes (s ++ b ∷ []))))) (at rows vs (full (cell_of id aggregate type (bytes (s ++ b ∷ t))))) (unit b) (units t)
      (leads_unit type s b (fit 0))
      (rw append_assoc at (leads_units t type (s ++ b ∷ []) (λ i. fit (suc i))))

-- the types that are scalars, and those that are blobs
data ScalarType : ℕ → Type 0 where
  three : ScalarType 3
  four : ScalarType 4
  five : ScalarType 5
  six : ScalarType 6

data BlobType : ℕ → Type 0 where
  sixteen : BlobType 16
  seventeen : BlobType 17
  eighteen : BlobType 18

same_scalar : (type k : ℕ) → type ≡ k → ScalarType k → ScalarType type
same_scalar type k e t = rw e t

same_blob : (type k : ℕ) → type ≡ k → BlobType k → BlobType type
same_blob type k e t = rw e t

scalar_types : (type : ℕ) → scalar type ≡ true → ScalarType type
scalar_types type is =
    let low = ltb-true 2 type (both (2 <? type) (type <? 7) is).0 in
    let high = ltb-true type 7 (both (2 <? type) (type <? 7) is).1 in
    ⊎_elim
    (λ (h : type ≤ 4). ⊎_elim (λ (g : type ≤ 3). same_scalar type 3 (omega arith) three) (λ (g : 3 < type). same_scalar type 4 (omega arith) four) (le_or_gt type 3))
    (λ (h : 4 < type). ⊎_elim (λ (g : type ≤ 5). same_scalar type 5 (omega arith) five) (λ (g : 5 < type). same_scalar type 6 (omega arith) six) (le_or_gt type 5))
    (le_or_gt type 4)

blob_types : (type : ℕ) → blob type ≡ true → BlobType type
blob_types type is =
    let low = ltb-true 15 type (both (15 <? type) (type <? 19) is).0 in
    let high = ltb-true type 19 (both (15 <? type) (type <? 19) is).1 in
    ⊎_elim
    (λ (h : type ≤ 16). same_blob type 16 (omega arith) sixteen)
    (λ (h : 16 < type). ⊎_elim (λ (g : type ≤ 17). same_blob type 17 (omega arith) seventeen) (λ (g : 17 < type). same_blob type 18 (omega arith) eighteen) (le_or_gt type 17))
    (le_or_gt type 16)

-- a content, a value, the values behind it, a row, rows
module _ (rows : List Row) where
  letter_scalar : (vs : List Cell) (id aggregate type : ℕ) → ScalarType type → step (at rows vs (letter id aggregate)) (letter_of type) ≡ on (at rows vs (digits id aggregate type 15 0))
  unfolding step letter_of type_of
  letter_scalar vs id aggregate type three = refl
  letter_scalar vs id aggregate type four = refl
  letter_scalar vs id aggregate type five = refl
  letter_scalar vs id aggregate type six = refl

  letter_blob : (vs : List Cell) (id aggregate type : ℕ) → BlobType type → step (at rows vs (letter id aggregate)) (letter_of type) ≡ on (at rows vs (full (cell_of id aggregate type (bytes []))))
  unfolding step letter_of type_of
  letter_blob vs id aggregate type sixteen = refl
  letter_blob vs id aggregate type seventeen = refl
  letter_blob vs id aggregate type eighteen = refl

  letter_null : (vs : List Cell) (id aggregate : ℕ) → step (at rows vs (letter id aggregate)) (letter_of null_type) ≡ on (at rows vs (full (cell_of id aggregate null_type nothing)))
  unfolding step letter_of type_of
  letter_null vs id aggregate = refl

  leads_content : (vs : List Cell) (id aggregate type : ℕ) (c : Content) → FitsContent type c → Leads walk (at rows vs (letter id aggregate)) (letter_of type ∷ content_text c) (at rows vs (full (cell_of id aggregate type c)))
  leads_content vs id aggregate type nothing fit = rw fit (by (letter_null vs id aggregate) nowhere)
  leads_content vs id aggregate type (word w) fit = by (letter_scalar vs id aggregate type (scalar_types type fit.0)) (leads_scalar rows vs id aggregate type w fit.1 fit.2)
  leads_content vs id aggregate type (bytes s) fit = by (letter_blob vs id aggregate type (blob_types type fit.0)) (leads_units rows vs id aggregate s type [] fit.1)

  leads_cell : (vs : List Cell) (c : Cell) → FitsCell c → Leads walk (at rows vs fresh) (cell_text c) (at rows vs (full c))
  unfolding cell_text
  leads_cell vs c fit =
      leads_append walk (at rows vs fresh) (at rows vs (letter c.id c.aggregate)) (at rows vs (full c)) (head c.id c.aggregate) (letter_of c.type ∷ content_text c.content)
      (leads_head rows vs c.id c.aggregate fit.id_fits fit.aggregate_bit)
      (leads_content vs c.id c.aggregate c.type c.content fit.content_fits)

  tab_step : (vs : List Cell) (c : Cell) → step (at rows vs (full c)) 9 ≡ on (at rows (vs ++ c ∷ []) fresh)
  unfolding step
  tab_step vs c = refl

  end_step : (vs : List Cell) (c : Cell) → step (at rows vs (full c)) 10 ≡ on (at (rows ++ values (vs ++ c ∷ []) ∷ []) [] fresh)
  unfolding step
  end_step vs c = refl

  leads_more : (ws : List Cell) (vs : List Cell) (c : Cell) → FitsCells ws → Leads walk (at rows vs (full c)) (more ws) (at (rows ++ values (vs ++ c ∷ ws) ∷ []) [] fresh)
  unfolding more
  leads_more [] vs c fit = by (end_step vs c) nowhere
  leads_more (w ∷ ws) vs c fit =
      by (tab_step vs c)
      (leads_append walk (at rows (vs ++ c ∷ []) fresh) (at rows (vs ++ c ∷ []) (full w)) (at (rows ++ values (vs ++ c ∷ w ∷ ws) ∷ []) [] fresh) (cell_text w) (more ws)
      (leads_cell (vs ++ c ∷ []) w fit.0)
      (rw append_assoc at (leads_more ws (vs ++ c ∷ []) w fit.1)))

  leads_row : (r : Row) → FitsRow r → Leads walk (at rows [] fresh) (row_text r) (at (rows ++ r ∷ []) [] fresh)
  unfolding row_text step
  leads_row null fit = by {next = hash rows} refl (by refl nowhere)
  leads_row (values []) fit = by refl nowhere
  leads_row (values (c ∷ cs)) fit =
      leads_append walk (at rows [] fresh) (at rows [] (full c)) (at (rows ++ values (c ∷ cs) ∷ []) [] fresh) (cell_text c) (more cs)
      (leads_cell [] c fit.0)
      (leads_more cs [] c fit.1)

pub leads_text : (rs rows : List Row) → FitsRows rs → Leads walk (at rows [] fresh) (text rs) (at (rows ++ rs) [] fresh)
unfolding text
leads_text [] rows fit = rw (append-nil rows) nowhere
leads_text (r ∷ rs) rows fit =
    leads_append walk (at rows [] fresh) (at (rows ++ r ∷ []) [] fresh) (at (rows ++ r ∷ rs) [] fresh) (row_text r) (text rs)
    (leads_row rows r fit.0)
    (rw append_assoc at (leads_text rs (rows ++ r ∷ []) fit.1))
