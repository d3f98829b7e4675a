-- Laws of what is written from an entry on: the inner errors of every depth that begin there or behind it, the deepest first.
-- Assumes nothing.
use mathlib.Core.Path.{◌≡◌, refl, sym, ◌∙◌, ap}
use mathlib.Core.Logic.{⊎_elim}
use mathlib.Core.List.{List, [], ◌++◌, append_assoc, append-nil}
use Prim.Native.Nat.{ℕ, zero, suc, ◌+◌, ◌-◌, ◌<◌, ◌≤◌}
use native.Mathlib.Nat.{eq-or-lt_of_le}
use native.Mathlib.Omega.{arith}
use lib.ListN.{length, take, drop, length-append, length-drop, drop_of_length-le}
use lib.Seq.{drop-drop, drop_at, length-take-le}
use borrow.Rule.Slice.PartMut.{mid_of, put_mid}
use Rattle.words.specs.Buffer.{over}
use Rattle.words.proofs.DecideLaws.{le_or_gt}
use Rattle.words.proofs.LentLaws.{tail_is_drop}
use Rattle.error_table.specs.Table.{errors_in, depth_in, deepest}
use Rattle.error_table.specs.Statement.{Sound}
use Rattle.error_table.proofs.SoundLaws.{depth_good, depth_first}
use Rattle.error_write.specs.Written.{lead, delimited, own_bytes, error_bytes}
use Rattle.error_write.proofs.InnersLaws.{inners, inners_end, inners_lower, inners_deeper, inners_own, inners_above}

module _ (area errors attributes : List ℕ) where
  -- those of depth k + 1 down to 2
  unfoldable pub stack : ℕ → ℕ → List ℕ
  stack zero i = []
  stack (suc k) i = inners area errors attributes (k + 2) i ++ stack k i

  -- nothing is deeper than k + 1
  stack_high : (m k i : ℕ) → k ≤ m → ((d : ℕ) → k + 1 < d → inners area errors attributes d i ≡ []) → stack m i ≡ stack k i
  unfolding stack
  stack_high zero k i h none = let z : k ≡ 0 = omega arith in rw z
  stack_high (suc m) k i h none =
      ⊎_elim (λ (same : k ≡ suc m). rw same)
      (λ (less : k < suc m). ap (λ (ws : List ℕ). ws ++ stack m i) (none (m + 2) (omega arith)) ∙ stack_high m k i (omega arith) none) (eq-or-lt_of_le h)

  stack_low : (k i : ℕ) → i < errors_in errors → k + 1 < depth_in errors i → stack k i ≡ stack k (i + 1)
  unfolding stack
  stack_low zero i below h = refl
  stack_low (suc k) i below h =
      ap (λ (ws : List ℕ). ws ++ stack k i) (inners_deeper area errors attributes (k + 2) i below (omega arith)) ∙ ap (λ (ws : List ℕ). inners area errors attributes (k + 2) (i + 1) ++ ws) (stack_low k i below (omega arith))

  pub stack_end : (i : ℕ) → errors_in errors ≤ i → stack 16 i ≡ []
  unfolding stack
  stack_end i h = stack_high 16 0 i (omega arith) (λ d low. inners_end area errors attributes d i h)

module _ {area errors attributes : List ℕ} (sound : Sound area errors attributes) where
  -- an entry's bytes, then those from the next entry on
  pub stack_on : (i : ℕ) → 0 < i → i < errors_in errors
      → stack area errors attributes 16 i ≡ (lead 0x22 (length (own_bytes area errors attributes i ++ inners area errors attributes (depth_in errors i + 1) (i + 1))) ++ own_bytes area errors attributes i) ++ stack area errors attributes 16 (i + 1)
  unfolding stack
  stack_on i later below =
      let good : (2 ≤ depth_in errors i) × (depth_in errors i ≤ deepest) × (depth_in errors i ≤ depth_in errors (i - 1) + 1) = depth_good sound i below later in
      let k : ℕ = depth_in errors i - 2 in
      let is : depth_in errors i ≡ k + 2 = omega (arith, good.0) in
      let own : List ℕ = own_bytes area errors attributes i in
      let inner : List ℕ = inners area errors attributes (depth_in errors i + 1) (i + 1) in
      let head : List ℕ = lead 0x22 (length (own ++ inner)) in
      let same : List ℕ = inners area errors attributes (k + 2) (i + 1) in
      let rest : List ℕ = stack area errors attributes k (i + 1) in
      let mine : inners area errors attributes (k + 2) i ≡ (head ++ (own ++ inner)) ++ same = ap (λ (d : ℕ). inners area errors attributes d i) (sym is) ∙ inners_own area errors attributes (depth_in errors i) i below refl ∙ ap (λ (d : ℕ). delimited 0x22 (own ++ inner) ++ inners area errors attributes d (i + 1)) is in
      let left : stack area errors attributes 16 i ≡ ((head ++ (own ++ inner)) ++ same) ++ rest = stack_high area errors attributes 16 (suc k) i (omega (arith, good.1)) (λ d low. inners_lower area errors attributes d i below (omega arith)) ∙ ap (λ (ws : List ℕ). ws ++ stack area errors attributes k i) mine ∙ ap (λ (ws : List ℕ). ((head ++ (own ++ inner)) ++ same) ++ ws) (stack_low area errors attributes k i below (omega arith)) in
      let next : inners area errors attributes (suc k + 2) (i + 1) ≡ inner = ap (λ (d : ℕ). inners area errors attributes d (i + 1)) (omega arith) in
      let right : stack area errors attributes 16 (i + 1) ≡ inner ++ (same ++ rest) = stack_high area errors attributes 16 (suc (suc k)) (i + 1) (omega (arith, good.1)) (λ d low. inners_above sound i later below d (omega arith)) ∙ ap (λ (ws : List ℕ). ws ++ (same ++ rest)) next in
      let regroup : ((head ++ (own ++ inner)) ++ same) ++ rest ≡ (head ++ own) ++ (inner ++ (same ++ rest)) = simp append_assoc in
      left ∙ regroup ∙ sym (ap (λ (ws : List ℕ). (head ++ own) ++ ws) right)

  -- an entry's inner errors are among them
  pub stack_inner : (i : ℕ) → 0 < i → i < errors_in errors → length (inners area errors attributes (depth_in errors i + 1) (i + 1)) ≤ length (stack area errors attributes 16 (i + 1))
  unfolding stack
  stack_inner i later below =
      let good : (2 ≤ depth_in errors i) × (depth_in errors i ≤ deepest) × (depth_in errors i ≤ depth_in errors (i - 1) + 1) = depth_good sound i below later in
      let k : ℕ = depth_in errors i - 1 in
      let is : depth_in errors i + 1 ≡ k + 2 = omega (arith, good.0) in
      let inner : List ℕ = inners area errors attributes (k + 2) (i + 1) in
      let rest : List ℕ = stack area errors attributes k (i + 1) in
      let right : stack area errors attributes 16 (i + 1) ≡ inner ++ rest = stack_high area errors attributes 16 (suc k) (i + 1) (omega (arith, good.1)) (λ d low. inners_above sound i later below d (omega (arith, good.0))) in
      let same : length (inners area errors attributes (depth_in errors i + 1) (i + 1)) ≡ length inner = ap (λ (d : ℕ). length (inners area errors attributes d (i + 1))) is in
      let sizes : length (stack area errors attributes 16 (i + 1)) ≡ length inner + length rest = ap length right ∙ length-append inner rest in
      omega arith

  -- the outermost error, then all others
  pub whole_is : error_bytes area errors attributes ≡ own_bytes area errors attributes 0 ++ stack area errors attributes 16 1
  unfolding error_bytes inners stack
  whole_is =
      ap (λ (ws : List ℕ). own_bytes area errors attributes 0 ++ ws) (sym (stack_high area errors attributes 16 1 1 (omega arith) none ∙ append-nil (inners area errors attributes 2 1)))
    where
      none : (d : ℕ) → 1 + 1 < d → inners area errors attributes d 1 ≡ []
      none d low =
          ⊎_elim (λ (last : errors_in errors ≤ 1). inners_end area errors attributes d 1 last)
          (λ (more : 1 < errors_in errors).
          let good : depth_in errors 1 ≤ depth_in errors 0 + 1 = (depth_good sound 1 more (omega arith)).2 in
          inners_lower area errors attributes d 1 more (omega (arith, depth_first sound)))
          (le_or_gt (errors_in errors) 1)

-- An output of which the bytes from `at` on to the total stand
pub record Behind (total : ℕ) (before now : List ℕ) (at : ℕ) (rest : List ℕ) : Type 0 where
  pub fits : total ≤ length before
  pub same : length now ≡ length before
  pub reach : at + length rest ≡ total
  pub holds : drop at now ≡ rest ++ drop total before

pub behind_begin : (total : ℕ) (before rest : List ℕ) → total ≤ length before → rest ≡ [] → Behind total before before total rest
behind_begin total before rest h none = record { fits = h; same = refl; reach = ap (λ (ws : List ℕ). total + length ws) none ∙ omega arith; holds = ap (λ (ws : List ℕ). ws ++ drop total before) (sym none) }

module _ {total : ℕ} {before now : List ℕ} {at : ℕ} {rest : List ℕ} (behind : Behind total before now at rest) where
  pub behind_on : (ws : List ℕ) (at' : ℕ) (after : List ℕ) → at' + length ws ≡ at → after ≡ over ws (mid_of at' (length now - at') now) → Behind total before (put_mid at' (length now - at') now after) at' (ws ++ rest)
  behind_on ws at' after place e =
      let reach : at + length rest ≡ total = behind.reach in
      let fits : total ≤ length before = behind.fits in
      let same : length now ≡ length before = behind.same in
      let nothing : drop (length now - at') (drop at' now) ≡ [] = drop_of_length-le (drop at' now) {i = length now - at'} (rw (length-drop at' now) (omega arith)) in
      let tail : drop (length ws) (mid_of at' (length now - at') now) ≡ drop at now = ap (drop (length ws)) (tail_is_drop now at') ∙ drop-drop (length ws) at' now ∙ ap (λ (k : ℕ). drop k now) place in
      let left : after ++ drop (length now - at') (drop at' now) ≡ ws ++ drop at now = ap (λ (l : List ℕ). after ++ l) nothing ∙ append-nil after ∙ e ∙ ap (λ (l : List ℕ). ws ++ l) tail in
      let front : length (take at' now) ≡ at' = length-take-le at' now (omega arith) in
      let whole : put_mid at' (length now - at') now after ≡ take at' now ++ (ws ++ drop at now) = ap (λ (l : List ℕ). take at' now ++ l) left in
      let size : length (drop at now) ≡ length now - at = length-drop at now in
      record {
        fits = fits;
        same = ap length whole ∙ length-append (take at' now) (ws ++ drop at now) ∙ (let both : length (ws ++ drop at now) ≡ length ws + length (drop at now) = length-append ws (drop at now) in omega arith);
        reach = (let both : length (ws ++ rest) ≡ length ws + length rest = length-append ws rest in omega arith);
        holds = ap (drop at') whole ∙ drop_at (take at' now) (ws ++ drop at now) at' front ∙ ap (λ (l : List ℕ). ws ++ l) behind.holds ∙ sym (append_assoc ws rest (drop total before));
      }

  -- the front goes before it
  pub behind_end : (ws after : List ℕ) → length ws ≡ at → after ≡ over ws now → after ≡ over (ws ++ rest) before
  behind_end ws after place e =
      e ∙ ap (λ (l : List ℕ). ws ++ l) (ap (λ (k : ℕ). drop k now) place ∙ behind.holds) ∙ sym (append_assoc ws rest (drop total before))
      ∙ ap (λ (k : ℕ). (ws ++ rest) ++ drop k before) (sym (length-append ws rest ∙ ap (λ (k : ℕ). k + length rest) place ∙ behind.reach))
