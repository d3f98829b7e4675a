-- A search that goes up by one: what is found from i on is z, which is what is found from the front. Assumes nothing.
use mathlib.Core.Path.{◌≡◌, sym, ◌∙◌, ap}
use mathlib.Core.Bool.{Bool, true, false}
use Prim.Native.Nat.{ℕ, ◌+◌, ◌-◌, ◌<◌, ◌≤◌}
use native.Mathlib.Nat.{sub-zero}
use native.Mathlib.Omega.{arith}
use Rattle.words.specs.Decide.{first, first_from}
use Rattle.words.proofs.DecideLaws.{first_miss, first_hit, first_end}

module _ (test : ℕ → Bool) (n : ℕ) where
  pub search_starts : first_from test 0 (n - 0) ≡ first test n
  search_starts = ap (first_from test 0) (sub-zero n)

  module _ (i : ℕ) {z : ℕ} (found : first_from test i (n - i) ≡ z) where
    pub search_on : i < n → test i ≡ false → first_from test (i + 1) (n - (i + 1)) ≡ z
    search_on h e = sym (first_miss test i n h e) ∙ found

    pub search_hits : i < n → test i ≡ true → i ≡ z
    search_hits h e = sym (first_hit test i n h e) ∙ found

    pub search_ends : n ≤ i → i ≤ n → i ≡ z
    search_ends low high =
        let e : i ≡ n = omega arith in
        e ∙ sym (first_end test n) ∙ ap (λ (k : ℕ). first_from test k (n - k)) (sym e) ∙ found
