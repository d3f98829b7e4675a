-- Laws of the shortest varint of a number, and of writing it group by group. Assumes nothing.
use mathlib.Core.Path.{◌≡◌, sym, ◌∙◌, ap}
use mathlib.Core.List.{List, [], ◌∷◌, ◌++◌, append_assoc}
use Prim.Native.Nat.{ℕ, zero, suc, ◌+◌, ◌*◌, ◌/◌, ◌%◌, ◌^◌, ◌<◌, ◌≤◌, ◌-◌}
use native.Mathlib.Nat.{pow-succ', zero-add}
use native.Mathlib.Omega.{arith}
use borrow.Author.Tests.{lt-ltb, le-ltb}
use lib.ListN.{length, set, length-append}
use Rattle.words.specs.Buffer.{fitted}
use Rattle.words.specs.Stages.{Filling}
use Rattle.words.specs.Decide.{◌<?◌}
use Rattle.words.proofs.DecideLaws.{pick_case, le_or_gt}
use mathlib.Core.Logic.{⊎_elim}
use Rattle.words.proofs.FillingLaws.{room_left, length_now, ends}
use Rattle.words.proofs.BufferLaws.{over_store, fitted_fits}
use Rattle.varint.specs.Varint.{groups, varint}

pub groups_last : (k n : ℕ) → n < 128 → groups (suc k) n ≡ n ∷ []
unfolding groups
groups_last k n h = rw (lt-ltb n 128 h)

pub groups_more : (k n : ℕ) → 128 ≤ n → groups (suc k) n ≡ (n % 128 + 128) ∷ groups k (n / 128)
unfolding groups
groups_more k n h = rw (le-ltb n 128 h)

groups_some : (k n : ℕ) → 1 ≤ length (groups (suc k) n)
unfolding groups
groups_some k n = pick_case (n <? 128) (n ∷ []) ((n % 128 + 128) ∷ groups k (n / 128)) (λ (ws : List ℕ). 1 ≤ length ws) (λ e. omega arith) (λ e. omega arith)

pub varint_some : (n : ℕ) → 1 ≤ length (varint n)
varint_some n = groups_some 9 n

pub length_groups : (k n : ℕ) → length (groups (suc k) n) ≤ suc k
unfolding groups
length_groups zero n = pick_case (n <? 128) (n ∷ []) ((n % 128 + 128) ∷ []) (λ (ws : List ℕ). length ws ≤ 1) (λ e. omega arith) (λ e. omega arith)
length_groups (suc k) n =
    pick_case (n <? 128) (n ∷ []) ((n % 128 + 128) ∷ groups (suc k) (n / 128)) (λ (ws : List ℕ). length ws ≤ suc (suc k)) (λ e. omega arith) (λ e. omega (arith, length_groups k (n / 128)))

pub shrinks : (k n : ℕ) → n < 128 ^ suc k → n / 128 < 128 ^ k
shrinks k n h = let wide : n < 128 * 128 ^ k = rw pow-succ' at h in omega arith

two_left : (k n : ℕ) → n < 128 ^ k → 128 ≤ n → 1 < k
two_left zero n h low = absurd (omega arith)
two_left (suc zero) n h low = absurd (omega arith)
two_left (suc (suc k)) n h low = omega arith

-- i groups of n are done, and those of `rest` are still to come
pub record Shrinking (n rest i : ℕ) : Type 0 where
  pub few : i < 10
  pub within : rest < 128 ^ (10 - i)
  pub size : i + length (groups (10 - i) rest) ≡ length (varint n)

pub shrinking : (n : ℕ) → n < 0x1_0000_0000_0000_0000 → Shrinking n n 0
shrinking n h = record { few = omega arith; within = within_all; size = zero-add (length (varint n)) }
  where
    within_all : n < 128 ^ 10
    within_all = omega arith

module _ {n rest i : ℕ} (r : Shrinking n rest i) where
  one_less : 10 - i ≡ suc (10 - (i + 1))
  one_less = omega (arith, r.few)

  pub size_end : rest < 128 → i + 1 ≡ length (varint n)
  size_end h =
      let one : groups (10 - i) rest ≡ rest ∷ [] = rw one_less (groups_last (10 - (i + 1)) rest h) in
      rw one at r.size

  module _ (low : 128 ≤ rest) where
    further : i + 1 < 10
    further = let two : 1 < 10 - i = two_left (10 - i) rest r.within low in omega arith

    pub shrinks_on : Shrinking n (rest / 128) (i + 1)
    shrinks_on =
        let more : groups (10 - i) rest ≡ (rest % 128 + 128) ∷ groups (10 - (i + 1)) (rest / 128) = rw one_less (groups_more (10 - (i + 1)) rest low) in
        let size : i + suc (length (groups (10 - (i + 1)) (rest / 128))) ≡ length (varint n) = rw more at r.size in
        record { few = further; within = shrinks (10 - (i + 1)) rest (rw one_less at r.within); size = omega arith }

  -- how many groups are still to come says whether this is the last
  pub more_left : i + 1 < length (varint n) → 128 ≤ rest
  more_left h =
      ⊎_elim (λ (high : 128 ≤ rest). high) (λ (low : rest < 128). let last : i + 1 ≡ length (varint n) = size_end low in absurd (omega arith)) (le_or_gt 128 rest)

  pub last_left : i + 1 ≡ length (varint n) → rest < 128
  last_left e =
      ⊎_elim
      (λ (high : 128 ≤ rest).
      let next : Shrinking n (rest / 128) (i + 1) = shrinks_on high in
      let one : 10 - (i + 1) ≡ suc (10 - (i + 1 + 1)) = omega (arith, next.few) in
      let some : 1 ≤ length (groups (10 - (i + 1)) (rest / 128)) = rw one (groups_some (10 - (i + 1 + 1)) (rest / 128)) in
      absurd (omega (arith, next.size)))
      (λ (low : rest < 128). low) (le_or_gt 128 rest)

-- writing: the same, over the lent part
module _ {n rest i : ℕ} {before now : List ℕ} (r : Shrinking n rest i) (f : Filling (varint n) (groups (10 - i) rest) before now i) where
  pub store_room : i < length now
  store_room =
      let left : i + length (groups (10 - i) rest) ≤ length before = room_left f in
      let same : length now ≡ length before = length_now f in
      let size : i + length (groups (10 - i) rest) ≡ length (varint n) = r.size in
      let some : 1 ≤ length (groups (10 - i) rest) = rw (one_less r) (groups_some (10 - (i + 1)) rest) in
      omega arith

  -- a group is stored
  stored : (v : ℕ) (ws : List ℕ) → groups (10 - i) rest ≡ v ∷ ws → Filling (varint n) ws before (set now i v) (i + 1)
  stored v ws e =
      let room : i < length now = store_room in
      let same : length now ≡ length before = length_now f in
      record {
        done = f.done ++ (v ∷ []);
        joins = append_assoc f.done (v ∷ []) ws ∙ ap (λ (l : List ℕ). f.done ++ l) (sym e) ∙ f.joins;
        reached = length-append f.done (v ∷ []) ∙ ap (λ (k : ℕ). k + 1) f.reached;
        fits = f.fits;
        holds = ap (λ (l : List ℕ). set l i v) f.holds ∙ over_store f.done before i v 0 f.reached (omega arith);
      }

  pub stores : 128 ≤ rest → Filling (varint n) (groups (10 - (i + 1)) (rest / 128)) before (set now i (rest % 128 + 128)) (i + 1)
  stores low = stored (rest % 128 + 128) (groups (10 - (i + 1)) (rest / 128)) (rw (one_less r) (groups_more (10 - (i + 1)) rest low))

  pub stores_last : rest < 128 → Filling (varint n) [] before (set now i rest) (i + 1)
  stores_last h = stored rest [] (rw (one_less r) (groups_last (10 - (i + 1)) rest h))

pub written : {whole before now : List ℕ} {at : ℕ} → Filling whole [] before now at → now ≡ fitted whole before
written {whole} {before} f = ends f ∙ sym (fitted_fits whole before f.fits)
