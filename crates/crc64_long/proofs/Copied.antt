-- Blocks that leave out of their copies: what the output holds after each, and that the copy leaves as the bytes do. Assumes nothing.
use mathlib.Core.Path.{◌≡◌, refl, sym, ap, ap₂, ◌∙◌, subst}
use mathlib.Core.List.{List, [], ◌∷◌, ◌++◌, append-nil}
use Prim.Native.Nat.{ℕ, zero, suc, ◌+◌, ◌-◌, ◌≤◌}
use native.Mathlib.Nat.{add_comm}
use native.Mathlib.Omega.{arith}
use lib.ListN.{length, take, drop, get_or, length-drop, take-append-drop}
use lib.Seq.{get_or-take, drop-drop, length-take-le, take_at}
use borrow.Rule.Slice.PartMut.{mid_of, put_mid}
use Rattle.words.specs.Buffer.{over, fitted}
use Rattle.words.specs.Stages.{Filling}
use Rattle.words.proofs.BufferLaws.{fitted_fits}
use Rattle.words.proofs.FillingLaws.{step, leaves, front, closes}
use Rattle.crc64_sparse.specs.Stages.{places, leaving, filled}
use Rattle.crc64_long.proofs.Kept.{drop_take}

-- what leaves depends on the bytes that leave alone
pub filled_same : (k n : ℕ) (h s t : List ℕ) → k ≤ n → take n s ≡ take n t → filled k h s ≡ filled k h t
unfolding filled
filled_same zero n h s t le e = refl
filled_same (suc k) n h s t le e =
    ap₂ (λ (f : List ℕ) (b : ℕ). f ++ (leaving places (drop k f) b ∷ [])) (filled_same k n h s t (omega arith) e)
    (sym (get_or-take n s k 0 (omega arith)) ∙ ap (λ (l : List ℕ). get_or l k 0) e ∙ get_or-take n t k 0 (omega arith))

module _ (s : List ℕ) (i n : ℕ) (there : i + n ≤ length s) {before now : List ℕ} (f : Filling s (drop i s) before now i) where
  pub bytes_copied : (m : ℕ) {after : List ℕ} → m ≡ n → after ≡ fitted (take m (drop i s)) (mid_of i (length now - i) now)
      → Filling s (drop (i + n) s) before (put_mid i (length now - i) now after) (i + n)
  bytes_copied m as_many e =
      let next : drop i s ≡ take n (drop i s) ++ drop (i + n) s =
      sym (take-append-drop n (drop i s)) ∙ ap (λ (t : List ℕ). take n (drop i s) ++ t) (drop-drop n i s) in
      let f' = subst (λ (rest : List ℕ). Filling s rest before now i) next f in
      step (take n (drop i s)) (drop (i + n) s) (i + n) f'
      (ap (λ (k : ℕ). i + k) (length-take-le n (drop i s) (omega (arith, length-drop i s)))) (leaves (take n (drop i s)) (drop (i + n) s) f'
      (e ∙ ap (λ (k : ℕ). fitted (take k (drop i s)) (mid_of i (length now - i) now)) as_many))

pub copy_same : (s : List ℕ) (i n : ℕ) {before now : List ℕ} → Filling s (drop (i + n) s) before now (i + n) → take n (drop i now) ≡ take n (drop i s)
copy_same s i n {before} {now} f =
    let joined : n + i ≡ i + n = add_comm n i in
    drop_take i n now
    ∙ ap (drop i) (ap (λ (k : ℕ). take k now) joined ∙ front f ∙ ap (λ (k : ℕ). take k s) (sym joined))
    ∙ sym (drop_take i n s)

pub all_copied : (s : List ℕ) (i : ℕ) {before now : List ℕ} → Filling s (drop i s) before now i → now ≡ over (take i s) before
all_copied s i {before} f =
    f.holds ∙ ap (λ (ws : List ℕ). over ws before)
    (sym (take_at f.done (drop i s) i f.reached) ∙ ap (take i) f.joins)

-- the rest of the bytes, put behind those that are copied
pub rest_copied : (s before : List ℕ) (i : ℕ) {now rest after : List ℕ} → i ≤ length s → length s ≤ length before → now ≡ over (take i s) before
    → rest ≡ drop i s → after ≡ fitted rest (mid_of i (length now - i) now) → put_mid i (length now - i) now after ≡ fitted s before
rest_copied s before i {now} there room so_far is e =
    let f : Filling s (drop i s) before now i =
    record { done = take i s; joins = take-append-drop i s; reached = length-take-le i s there; fits = room; holds = so_far } in
    let f' : Filling s (drop i s ++ []) before now i = rw (append-nil (drop i s)) f in
    ap (put_mid i (length now - i) now) (e ∙ ap (λ (u : List ℕ). fitted u (mid_of i (length now - i) now)) is)
    ∙ closes (drop i s) f (leaves (drop i s) [] f' refl)
    ∙ sym (fitted_fits s before room)
