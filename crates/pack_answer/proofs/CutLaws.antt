-- A stretch of an area, by where it begins and ends. Assumes nothing.
use mathlib.Core.Path.{◌≡◌, sym, ◌∙◌, ap}
use mathlib.Core.List.{List, []}
use Prim.Native.Nat.{ℕ, ◌+◌, ◌-◌, ◌<◌, ◌≤◌}
use native.Mathlib.Omega.{arith}
use lib.ListN.{length, take, drop, drop_of_length-le, length-drop}
use lib.Seq.{take_all}
use Rattle.words.specs.Buffer.{stretch}

module _ (area : List ℕ) (start n : ℕ) where
  -- it begins past the end
  pub cut_past : length area ≤ start → [] ≡ stretch area start n
  cut_past h =
      let none : drop start area ≡ [] = drop_of_length-le area h in
      sym (ap (take n) none ∙ take_all n [] (omega arith))

  -- it ends past the end
  pub cut_rest : length area - start < n → take (length area - start) (drop start area) ≡ stretch area start n
  cut_rest h =
      take_all (length area - start) (drop start area) (omega (arith, length-drop start area))
      ∙ sym (take_all n (drop start area) (omega (arith, length-drop start area)))

  pub cut_whole : take (start + n - start) (drop start area) ≡ stretch area start n
  cut_whole = let whole : start + n - start ≡ n = omega arith in ap (λ (k : ℕ). take k (drop start area)) whole
