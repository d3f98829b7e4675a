-- One turn of each loop over the window. Assumes nothing.
use mathlib.Core.Path.{◌≡◌, refl, sym, ap, ap₂, ◌∙◌}
use mathlib.Core.List.{List, [], ◌∷◌, ◌++◌}
use Prim.Native.Nat.{ℕ, zero, suc, ◌+◌, ◌-◌, ◌≤◌, ◌<◌}
use native.Mathlib.Nat.{add-zero, add_comm, zero-add, add-suc, not-suc-le-zero, le_of_suc-le-suc}
use native.Mathlib.Numerals.{add-one}
use native.Mathlib.Omega.{arith}
use lib.ListN.{length, get_or, set, take, drop, length-set, length-drop, take-append-drop}
use lib.Seq.{get_or-drop, get_or-take, drop-set-lt, drop-drop, length-take-le}
use lib.Bits.{bit_xor}
use Rattle.crc64.specs.Polynomial.{fold}
use Rattle.crc64_sparse.specs.Stages.{places, xor_front, owed, leaving, filled}
use Rattle.crc64_sparse.proofs.Run.{left}
use Rattle.crc64_sparse.proofs.Front.{length_front}

-- a store behind what is kept
pub take_store : (n : ℕ) (w : List ℕ) (v : ℕ) → n < length w → take (suc n) (set w n v) ≡ take n w ++ (v ∷ [])
take_store n [] v h = absurd (not-suc-le-zero h)
take_store zero (x ∷ w) v h = refl
take_store (suc n) (x ∷ w) v h = ap (λ (t : List ℕ). x ∷ t) (take_store n w v (le_of_suc-le-suc h))

-- what the code stores
abbrev pub stored : List ℕ → List ℕ → ℕ → ℕ → ℕ
stored w b at k =
    bit_xor (get_or w k 0) (bit_xor (get_or w (236 + k) 0) (bit_xor (get_or w (256 + k) 0) (bit_xor (get_or w (753 + k) 0)
    (bit_xor (get_or w (1180 + k) 0) (bit_xor (get_or w (1310 + k) 0) (bit_xor (get_or w (1556 + k) 0) (get_or b (at + k) 0)))))))

module _ (w f : List ℕ) (k : ℕ) (e : take (1856 + k) w ≡ f) where
  at_place : (p : ℕ) → p < 1856 → get_or w (p + k) 0 ≡ get_or (drop k f) p 0
  at_place p h =
      ap (λ (n : ℕ). get_or w n 0) (add_comm p k)
      ∙ sym (get_or-take (1856 + k) w (k + p) 0 (omega arith))
      ∙ ap (λ (t : List ℕ). get_or t (k + p) 0) e
      ∙ sym (get_or-drop k f p 0)

  stored_leaves : (b : List ℕ) (at : ℕ) → stored w b at k ≡ leaving places (drop k f) (get_or (drop at b) k 0)
  unfolding leaving
  stored_leaves b at =
      ap₂ bit_xor (ap (λ (n : ℕ). get_or w n 0) (sym (zero-add k)) ∙ at_place 0 (omega arith))
      (ap₂ bit_xor (at_place 236 (omega arith)) (ap₂ bit_xor (at_place 256 (omega arith)) (ap₂ bit_xor (at_place 753 (omega arith))
      (ap₂ bit_xor (at_place 1180 (omega arith)) (ap₂ bit_xor (at_place 1310 (omega arith)) (ap₂ bit_xor (at_place 1556 (omega arith)) (sym (get_or-drop at b k 0))))))))

behind : (k : ℕ) → 1856 + (k + 1) ≡ suc (1856 + k)
behind k = omega arith

pub keep_one : (w h b : List ℕ) (at k : ℕ) → 1856 + k < length w → take (1856 + k) w ≡ filled k h (drop at b)
    → take (1856 + (k + 1)) (set w (1856 + k) (stored w b at k)) ≡ filled (k + 1) h (drop at b)
unfolding filled
keep_one w h b at k room e =
    ap (λ (n : ℕ). take n (set w (1856 + k) (stored w b at k))) (behind k)
    ∙ take_store (1856 + k) w (stored w b at k) room
    ∙ ap₂ (λ (t : List ℕ) (v : ℕ). t ++ (v ∷ [])) e (stored_leaves w (filled k h (drop at b)) k e b at)
    ∙ ap (λ (n : ℕ). filled n h (drop at b)) (sym (add-one k))

pub start : (h s : List ℕ) → h ≡ filled 0 h s
unfolding filled
start h s = refl

-- ---- a loop that writes x over the front of w₀

pub record Over (k : ℕ) (w x w₀ : List ℕ) : Type 0 where
  pub front : take k w ≡ take k x
  pub rest : drop k w ≡ drop k w₀
  pub long : length w ≡ length w₀

take_more : (k : ℕ) (x : List ℕ) → k < length x → take (suc k) x ≡ take k x ++ (get_or x k 0 ∷ [])
take_more k [] h = absurd (not-suc-le-zero h)
take_more zero (y ∷ x) h = refl
take_more (suc k) (y ∷ x) h = ap (λ (t : List ℕ). y ∷ t) (take_more k x (le_of_suc-le-suc h))

pub over_one : (k : ℕ) (w x w₀ : List ℕ) (v : ℕ) → k < length w → k < length x → v ≡ get_or x k 0 → Over k w x w₀ → Over (k + 1) (set w k v) x w₀
over_one k w x w₀ v hw hx e o =
    record {
      front =
          ap (λ (n : ℕ). take n (set w k v)) (add-one k) ∙ take_store k w v hw ∙ ap₂ (λ (t : List ℕ) (z : ℕ). t ++ (z ∷ [])) o.front e
          ∙ sym (take_more k x hx) ∙ ap (λ (n : ℕ). take n x) (sym (add-one k));
      rest =
          drop-set-lt (k + 1) w k v (omega arith) ∙ sym (drop-drop 1 k w) ∙ ap (drop 1) o.rest ∙ drop-drop 1 k w₀;
      long = length-set w k v ∙ o.long;
    }

-- what is not yet written over is as it was
pub beyond : (k i : ℕ) (w x w₀ : List ℕ) → Over k w x w₀ → get_or w (i + k) 0 ≡ get_or w₀ (i + k) 0
beyond k i w x w₀ o =
    ap (λ (n : ℕ). get_or w n 0) (add_comm i k) ∙ sym (get_or-drop k w i 0) ∙ ap (λ (t : List ℕ). get_or t i 0) o.rest ∙ get_or-drop k w₀ i 0
    ∙ ap (λ (n : ℕ). get_or w₀ n 0) (add_comm k i)

-- ---- what one place owes

pub owed_at : (p s : List ℕ) (k : ℕ) → k < length p → length p ≤ length s → get_or (xor_front p s) k 0 ≡ bit_xor (get_or p k 0) (get_or s k 0)
unfolding xor_front
owed_at [] s k h le = absurd (not-suc-le-zero h)
owed_at (x ∷ p) [] k h le = absurd (not-suc-le-zero le)
owed_at (x ∷ p) (y ∷ s) zero h le = refl
owed_at (x ∷ p) (y ∷ s) (suc k) h le = owed_at p s k (le_of_suc-le-suc h) (le_of_suc-le-suc le)

past : (p s : List ℕ) → length p ≤ length s → drop (length p) (xor_front p s) ≡ drop (length p) s
unfolding xor_front
past [] s le = refl
past (x ∷ p) [] le = absurd (not-suc-le-zero le)
past (x ∷ p) (y ∷ s) le = past p s (le_of_suc-le-suc le)

pub all_paid : (k : ℕ) (w p s : List ℕ) → k ≡ length p → length p ≤ length s → Over k w (xor_front p s) s → w ≡ xor_front p s
all_paid k w p s e le o =
    sym (take-append-drop k w)
    ∙ ap₂ (λ (t u : List ℕ). t ++ u) o.front (o.rest ∙ ap (λ (n : ℕ). drop n s) e ∙ sym (past p s le) ∙ ap (λ (n : ℕ). drop n (xor_front p s)) (sym e))
    ∙ take-append-drop k (xor_front p s)

-- ---- one place is paid

module _ (place : ℕ) (w s : List ℕ) (full : length w ≡ 5952) (room : length s ≡ 1856) (h : place ≤ 1856) where
  abbrev p : List ℕ
  p = drop place (take 1856 w)

  length_p : length p ≡ 1856 - place
  length_p = length-drop place (take 1856 w) ∙ ap (λ (n : ℕ). n - place) (length-take-le 1856 w (omega arith))

  pub pays : (k : ℕ) (t : List ℕ) → k < 1856 - place → Over k t (xor_front p s) s → Over (k + 1) (set t k (bit_xor (get_or w (place + k) 0) (get_or t k 0))) (xor_front p s) s
  pays k t hk o =
      let inside : k < length p = omega (arith, length_p) in
      let le : length p ≤ length s = omega (arith, length_p) in
      let was : get_or t k 0 ≡ get_or s k 0 = ap (λ (n : ℕ). get_or t n 0) (sym (zero-add k)) ∙ beyond k 0 t (xor_front p s) s o ∙ ap (λ (n : ℕ). get_or s n 0) (zero-add k) in
      over_one k t (xor_front p s) s (bit_xor (get_or w (place + k) 0) (get_or t k 0)) (omega (arith, o.long)) (omega (arith, length_front p s))
      (ap₂ bit_xor (sym (get_or-take 1856 w (place + k) 0 (omega arith)) ∙ sym (get_or-drop place (take 1856 w) k 0)) was ∙ sym (owed_at p s k inside le)) o

  pub paid_all : (k : ℕ) (t : List ℕ) → k ≡ 1856 - place → Over k t (xor_front p s) s → t ≡ xor_front p s
  paid_all k t e o = all_paid k t p s (e ∙ sym length_p) (omega (arith, length_p)) o

pub pay_one : (k place : ℕ) (w t s : List ℕ) → length w ≡ 5952 → length s ≡ 1856 → (place ≤ 1856) × (k < 1856 - place) → Over k t (xor_front (drop place (take 1856 w)) s) s
    → Over (k + 1) (set t k (bit_xor (get_or w (place + k) 0) (get_or t k 0))) (xor_front (drop place (take 1856 w)) s) s
pay_one k place w t s full room bounds o = pays place w s full room bounds.0 k t bounds.1 o

pub paid_up : (k place : ℕ) (w t s : List ℕ) → length w ≡ 5952 → length s ≡ 1856 → place ≤ 1856 → k ≡ 1856 - place → Over k t (xor_front (drop place (take 1856 w)) s) s
    → t ≡ xor_front (drop place (take 1856 w)) s
paid_up k place w t s full room h e o = paid_all place w s full room h k t e o

-- ---- all seven places, and a block of bytes

pub all_owed : (h s : List ℕ) {t₁ t₂ t₃ t₄ t₅ t₆ t₇ : List ℕ} → t₁ ≡ xor_front (drop 1556 h) s → t₂ ≡ xor_front (drop 1310 h) t₁ → t₃ ≡ xor_front (drop 1180 h) t₂
    → t₄ ≡ xor_front (drop 753 h) t₃ → t₅ ≡ xor_front (drop 256 h) t₄ → t₆ ≡ xor_front (drop 236 h) t₅ → t₇ ≡ xor_front (drop 0 h) t₆ → t₇ ≡ owed places h s
unfolding owed
all_owed h s e₁ e₂ e₃ e₄ e₅ e₆ e₇ =
    e₇ ∙ ap (xor_front (drop 0 h)) (e₆ ∙ ap (xor_front (drop 236 h)) (e₅ ∙ ap (xor_front (drop 256 h)) (e₄ ∙ ap (xor_front (drop 753 h))
    (e₃ ∙ ap (xor_front (drop 1180 h)) (e₂ ∙ ap (xor_front (drop 1310 h)) e₁)))))

take_none : (m : ℕ) → take {A = ℕ} m [] ≡ []
take_none zero = refl
take_none (suc m) = refl

pub drop_take : (n m : ℕ) (l : List ℕ) → take m (drop n l) ≡ drop n (take (m + n) l)
drop_take zero m l = ap (λ (k : ℕ). take k l) (sym (add-zero m))
drop_take (suc n) m [] = take_none m ∙ sym (ap (drop (suc n)) (take_none (m + suc n)))
drop_take (suc n) m (x ∷ l) = drop_take n m l ∙ ap (λ (k : ℕ). drop (suc n) (take k (x ∷ l))) (sym (add-suc m n))

pub block_left : (n i : ℕ) (s w w' : List ℕ) {h : List ℕ} → length w ≡ 5952 → i + n + 1856 ≤ length s
    → take (1856 + n) w' ≡ filled n (take 1856 w) (drop i s) → h ≡ take 1856 (drop n w')
    → fold 0 (owed places h (drop (i + n) s)) ≡ fold 0 (owed places (take 1856 w) (drop i s))
block_left n i s w w' full room gone moved =
    ap₂ (λ (h t : List ℕ). fold 0 (owed places h t)) (moved ∙ drop_take n 1856 w' ∙ ap (drop n) gone) (sym (drop-drop n i s))
    ∙ sym (left n (take 1856 w) (drop i s) (length-take-le 1856 w (omega arith)) (omega (arith, length-drop i s)))
