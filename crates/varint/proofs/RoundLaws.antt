-- The shortest varint of a number is read back wherever it stands. Assumes nothing.
use mathlib.Core.Path.{◌≡◌, ◌∙◌}
use mathlib.Core.Bool.{true}
use mathlib.Core.List.{List, [], ◌∷◌}
use Prim.Native.Nat.{ℕ, zero, suc, ◌+◌, ◌/◌, ◌%◌, ◌^◌, ◌<◌, ◌≤◌}
use native.Mathlib.Nat.{add-zero}
use native.Mathlib.Omega.{arith}
use borrow.Author.Tests.{ltb-true, ltb-false}
use lib.ListN.{length, get_or}
use Rattle.words.specs.Decide.{◌<?◌}
use Rattle.words.proofs.DecideLaws.{pick_case}
use Rattle.varint.specs.Varint.{size_in, value_in, varint_size, varint_at, whole_varint, groups, varint}
use Rattle.varint.specs.Round.{Stands}
use Rattle.varint.proofs.VarintLaws.{size_last, value_last, size_more, value_more, whole_is}
use Rattle.varint.proofs.WriteLaws.{groups_last, groups_more, length_groups, shrinks}

stands_head : (v : ℕ) (ws s : List ℕ) (at : ℕ) → Stands (v ∷ ws) s at → get_or s at 0 ≡ v
stands_head v ws s at h = rw add-zero at (h 0 (omega arith))

pub stands_tail : (v : ℕ) (ws s : List ℕ) (at : ℕ) → Stands (v ∷ ws) s at → Stands ws s (at + 1)
stands_tail v ws s at h i below = let e : at + 1 + i ≡ at + suc i = omega arith in rw e (h (suc i) (omega arith))

abbrev Back : ℕ → ℕ → List ℕ → ℕ → Type 0
Back k n s at = (size_in k s at ≡ length (groups k n)) × (value_in k s at ≡ n)

back_last : (k n : ℕ) (s : List ℕ) (at : ℕ) → n < 128 → Stands (groups (suc k) n) s at → Back (suc k) n s at
back_last k n s at low stands =
    let one : groups (suc k) n ≡ n ∷ [] = groups_last k n low in
    let here : get_or s at 0 ≡ n = stands_head n [] s at (rw one at stands) in
    let byte : get_or s at 0 < 128 = omega arith in
    (size_last k s at byte ∙ rw one, value_last k s at byte ∙ here)

pub back : (k n : ℕ) (s : List ℕ) (at : ℕ) → n < 128 ^ suc k → Stands (groups (suc k) n) s at → Back (suc k) n s at
back zero n s at h stands = back_last 0 n s at (omega arith) stands
back (suc k) n s at h stands =
    pick_case (n <? 128) 0 1 (λ (z : ℕ). Back (suc (suc k)) n s at)
    (λ e. back_last (suc k) n s at (ltb-true n 128 e) stands)
    (λ e.
    let high : 128 ≤ n = ltb-false n 128 e in
    let rest : ℕ = n / 128 in
    let more : groups (suc (suc k)) n ≡ (n % 128 + 128) ∷ groups (suc k) (n / 128) = groups_more (suc k) n high in
    let both : Stands ((n % 128 + 128) ∷ groups (suc k) (n / 128)) s at = rw more at stands in
    let here : get_or s at 0 ≡ n % 128 + 128 = stands_head (n % 128 + 128) (groups (suc k) (n / 128)) s at both in
    let byte : 128 ≤ get_or s at 0 = omega arith in
    let others : Back (suc k) (n / 128) s (at + 1) = back k (n / 128) s (at + 1) (shrinks (suc k) n h) (stands_tail (n % 128 + 128) (groups (suc k) (n / 128)) s at both) in
    (size_more (suc k) s at byte ∙ rw (more, others.0) (omega arith), value_more (suc k) s at byte ∙ rw (others.1, here) (omega arith)))

-- what is written of a number below 2 ^ 64 is a whole varint of that number, wherever it stands
module _ (n : ℕ) (fits : n < 0x1_0000_0000_0000_0000) (s : List ℕ) (at : ℕ) (stands : Stands (varint n) s at) where
  both : Back 10 n s at
  both = back 9 n s at within stands
    where
      within : n < 128 ^ 10
      within = omega arith

  pub varint_value : varint_at s at ≡ n
  varint_value = both.1

  pub varint_size_lem : varint_size s at ≡ length (varint n)
  varint_size_lem = both.0

  pub varint_whole : (end : ℕ) → end ≤ length s → at + length (varint n) ≤ end → whole_varint s at end ≡ true
  varint_whole end there h =
      let size : varint_size s at ≡ length (varint n) = varint_size_lem in
      let value : varint_at s at ≡ n = varint_value in
      let few : length (varint n) ≤ 10 = length_groups 9 n in
      whole_is s at end there (omega arith) (omega arith) (omega arith)
