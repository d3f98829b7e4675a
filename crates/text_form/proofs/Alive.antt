-- No state that the machine comes to is without a way out. Assumes nothing.
use mathlib.Core.Path.{◌≡◌, refl}
use mathlib.Core.Bool.{Bool, true, false, not}
use mathlib.Core.List.{List, [], ◌∷◌, ◌++◌}
use mathlib.Core.Logic.{◌⊎◌, inl, inr, ⊎_elim}
use Prim.Native.Nat.{ℕ, zero, suc, ◌+◌, ◌*◌, ◌<◌, ◌≤◌}
use native.Mathlib.Omega.{arith}
use borrow.Author.Tests.{lt-ltb, le-ltb, ltb-true, ltb-false}
use Rattle.words.specs.Decide.{pick, ◌<?◌, ◌=?◌}
use Rattle.words.proofs.DecideLaws.{pick_case, le_or_gt}
use Rattle.places.proofs.Ways.{Way}
use Rattle.places.proofs.MachineLaws.{way_end, way_on}
use Rattle.wire.specs.Layout.{boolean, null_type}
use Rattle.wire.specs.Content.{nothing, word, bytes, Cell, Row, null}
use Rattle.text_form.specs.Form.{escaped}
use Rattle.text_form.specs.Walk.{fresh, number, letter, digits, full, percent, second, hash, at, small_value, capital_value, type_of, fits_word, fits_high, cell_of, step, close, walk}
use Rattle.text_form.proofs.TextLaws.{not_true}

way_start : (rows : List Row) → Way walk (at rows [] fresh)
unfolding close
way_start rows = way_end walk (at rows [] fresh) rows refl

pub way_hash : (rows : List Row) → Way walk (hash rows)
unfolding step
way_hash rows = way_on walk (hash rows) (at (rows ++ null ∷ []) [] fresh) 10 refl (way_start (rows ++ null ∷ []))

module _ (rows : List Row) (vs : List Cell) where
  pub way_full : (c : Cell) → Way walk (at rows vs (full c))
  unfolding step
  way_full c = way_on walk (at rows vs (full c)) _ 10 refl (way_start _)

  -- a zero fits every word
  zero_fits : (type k : ℕ) → fits_word type k 0 ≡ true
  zero_fits type k =
      pick_case (not (type =? boolean)) true (pick (k =? 0) true true) (λ (x : Bool). x ≡ true) (λ e. refl)
      (λ e. pick_case (k =? 0) true true (λ (x : Bool). x ≡ true) (λ f. refl) (λ f. refl))

  pub way_digits : (id aggregate type k w : ℕ) → Way walk (at rows vs (digits id aggregate type k w))
  unfolding step small_value
  way_digits id aggregate type zero w =
      way_on walk (at rows vs (digits id aggregate type 0 w)) (at rows vs (full (cell_of id aggregate type (word (w * 16 + 0))))) 48
      (rw (zero_fits type 0)) (way_full _)
  way_digits id aggregate type (suc k) w =
      way_on walk (at rows vs (digits id aggregate type (suc k) w)) (at rows vs (digits id aggregate type k (w * 16 + 0))) 48
      (rw (zero_fits type (suc k))) (way_digits id aggregate type k (w * 16 + 0))

  pub way_letter : (id aggregate : ℕ) → Way walk (at rows vs (letter id aggregate))
  unfolding step type_of
  way_letter id aggregate =
      way_on walk (at rows vs (letter id aggregate)) (at rows vs (full (cell_of id aggregate null_type nothing))) 110 refl (way_full _)

  pub way_number : (n : ℕ) → Way walk (at rows vs (number n))
  unfolding step
  way_number n = way_on walk (at rows vs (number n)) (at rows vs (letter n 0)) 58 refl (way_letter n 0)

  pub way_percent : (id aggregate type : ℕ) (s : List ℕ) → Way walk (at rows vs (percent id aggregate type s))
  unfolding step capital_value
  way_percent id aggregate type s =
      way_on walk (at rows vs (percent id aggregate type s)) (at rows vs (second id aggregate type s 0)) 48 refl
      (way_on walk (at rows vs (second id aggregate type s 0)) (at rows vs (full (cell_of id aggregate type (bytes (s ++ 0 ∷ []))))) 48 refl (way_full _))

  -- a second digit: 0, but for %7
  pub way_second : (id aggregate type : ℕ) (s : List ℕ) (h : ℕ) → fits_high h ≡ true → Way walk (at rows vs (second id aggregate type s h))
  unfolding step capital_value
  way_second id aggregate type s h =
      pick_case (h <? 3) true _ (λ (x : Bool). x ≡ true → Way walk (at rows vs (second id aggregate type s h)))
      (λ e _. let low = ltb-true h 3 e in let small : h * 16 + 0 < 33 = omega arith in by_zero (rw (lt-ltb (h * 16 + 0) 33 small)))
      (λ e3. pick_case (h <? 7) false _ (λ (x : Bool). x ≡ true → Way walk (at rows vs (second id aggregate type s h)))
      (λ _ e. not_true e)
      (λ e7 _.
      let high = ltb-false h 7 e7 in
      ⊎_elim
      (λ (seven : 8 ≤ h).
      let big : 126 < h * 16 + 0 = omega arith in
      let low : 33 ≤ h * 16 + 0 = omega arith in
      by_zero (rw (le-ltb (h * 16 + 0) 33 low, lt-ltb 126 (h * 16 + 0) big)))
      (λ (seven : h < 8).
      let is : h ≡ 7 = omega arith in
      way_on walk (at rows vs (second id aggregate type s h)) (at rows vs (full (cell_of id aggregate type (bytes (s ++ (h * 16 + 15) ∷ []))))) 70 (rw is) (way_full _))
      (le_or_gt 8 h)))
    where
      by_zero : escaped (h * 16 + 0) ≡ true → Way walk (at rows vs (second id aggregate type s h))
      by_zero e = way_on walk (at rows vs (second id aggregate type s h)) (at rows vs (full (cell_of id aggregate type (bytes (s ++ (h * 16 + 0) ∷ []))))) 48 (rw e) (way_full _)

pub way_fresh : (rows : List Row) (vs : List Cell) → Way walk (at rows vs fresh)
unfolding step
way_fresh rows [] = way_start rows
way_fresh rows (v ∷ vs) = way_on walk (at rows (v ∷ vs) fresh) (at rows (v ∷ vs) (number 0)) 48 refl (way_number rows (v ∷ vs) 0)
