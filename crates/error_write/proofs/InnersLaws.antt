-- Laws of the inner errors of each depth, entry by entry from the last to the first. Assumes nothing.
use mathlib.Core.Path.{◌≡◌, refl, sym, ◌∙◌, ap}
use mathlib.Core.Logic.{⊎_elim}
use mathlib.Core.List.{List, [], ◌++◌}
use Prim.Native.Nat.{ℕ, zero, suc, ◌+◌, ◌-◌, ◌<◌, ◌≤◌}
use native.Mathlib.Nat.{eq-or-lt_of_le}
use native.Mathlib.Omega.{arith}
use borrow.Author.Tests.{lt-ltb, le-ltb}
use lib.ListN.{length, get_or, set, replicate, length-append, length-set}
use lib.Seq.{get_or-set_same, get_or-set_other}
use Rattle.words.proofs.DecideLaws.{le_or_gt}
use Rattle.error_table.specs.Table.{errors_in, depth_in, deepest}
use Rattle.error_table.specs.Statement.{Sound}
use Rattle.error_table.proofs.SoundLaws.{depth_good}
use Rattle.error_write.specs.Written.{delimited, own_bytes, inners_bytes}
use Rattle.error_write.specs.Writing.{capped}
use Rattle.error_write.specs.Stages.{delimited_size}
use Rattle.error_write.proofs.CappedLaws.{capped_small, capped_add, capped_delimited}
use Rattle.error_write.proofs.LengthLaws.{length_delimited}

module _ (area errors attributes : List ℕ) where
  -- the inner errors of depth d from the entry number i on
  unfoldable pub inners : ℕ → ℕ → List ℕ
  inners d i = inners_bytes area errors attributes d (errors_in errors - i) i

  pub inners_end : (d i : ℕ) → errors_in errors ≤ i → inners d i ≡ []
  unfolding inners inners_bytes
  inners_end d i h = let none : errors_in errors - i ≡ 0 = omega arith in rw none

  module _ (d i : ℕ) (below : i < errors_in errors) where
    one_more : errors_in errors - i ≡ suc (errors_in errors - (i + 1))
    one_more = omega arith

    pub inners_lower : depth_in errors i < d → inners d i ≡ []
    unfolding inners inners_bytes
    inners_lower h = rw (one_more, lt-ltb (depth_in errors i) d h)

    pub inners_deeper : d < depth_in errors i → inners d i ≡ inners d (i + 1)
    unfolding inners inners_bytes
    inners_deeper h = rw (one_more, le-ltb (depth_in errors i) d (omega arith), lt-ltb d (depth_in errors i) h)

    pub inners_own : depth_in errors i ≡ d → inners d i ≡ delimited 0x22 (own_bytes area errors attributes i ++ inners (d + 1) (i + 1)) ++ inners d (i + 1)
    unfolding inners inners_bytes
    inners_own h = rw (one_more, le-ltb (depth_in errors i) d (omega arith), le-ltb d (depth_in errors i) (omega arith))

module _ {area errors attributes : List ℕ} (sound : Sound area errors attributes) (i : ℕ) (later : 0 < i) (below : i < errors_in errors) where
  -- nothing more than one level deeper than an error follows it
  pub inners_above : (d : ℕ) → depth_in errors i + 1 < d → inners area errors attributes d (i + 1) ≡ []
  inners_above d h =
      ⊎_elim (λ (last : errors_in errors ≤ i + 1). inners_end area errors attributes d (i + 1) last)
      (λ (more : i + 1 < errors_in errors).
      let back : i + 1 - 1 ≡ i = omega arith in
      let good : depth_in errors (i + 1) ≤ depth_in errors i + 1 = rw back at (depth_good sound (i + 1) more (omega arith)).2 in
      inners_lower area errors attributes d (i + 1) more (omega arith))
      (le_or_gt (errors_in errors) (i + 1))

-- a sum for each depth from 2 to 17
module _ (area errors attributes : List ℕ) where
  pub record Sums (sums : List ℕ) (i : ℕ) : Type 0 where
    pub long : length sums ≡ 18
    pub each : (d : ℕ) → 2 ≤ d → d < 18 → get_or sums d 0 ≡ capped (length (inners area errors attributes d i))

  get_d_zeros : (n d : ℕ) → ◌≡◌ {A = ℕ} (get_or (replicate n 0) d 0) 0
  get_d_zeros zero d = refl
  get_d_zeros (suc n) zero = refl
  get_d_zeros (suc n) (suc d) = get_d_zeros n d

  pub sums_begin : (i : ℕ) → errors_in errors ≤ i → Sums (replicate 18 0) i
  sums_begin i h =
      record {
        long = refl;
        each = λ d low high. get_d_zeros 18 d ∙ sym (rw (inners_end area errors attributes d i h) (capped_small 0 (omega arith)));
      }

module _ {area errors attributes : List ℕ} (sound : Sound area errors attributes) (i : ℕ) (later : 0 < i) (below : i < errors_in errors) {sums : List ℕ} (s : Sums area errors attributes sums (i + 1)) where
  abbrev e : ℕ
  e = depth_in errors i

  pub depth_low : (2 ≤ depth_in errors i) × (depth_in errors i + 1 < 18)
  depth_low = let good : (2 ≤ depth_in errors i) × (depth_in errors i ≤ deepest) × (depth_in errors i ≤ depth_in errors (i - 1) + 1) = depth_good sound i below later in (good.0, omega (arith, good.1))

  module _ {own body : ℕ} (own_is : own ≡ capped (length (own_bytes area errors attributes i))) (body_is : body ≡ capped (own + get_or sums (depth_in errors i + 1) 0)) where
    pub body_size : body ≡ capped (length (own_bytes area errors attributes i ++ inners area errors attributes (depth_in errors i + 1) (i + 1)))
    body_size =
        let a : ℕ = length (own_bytes area errors attributes i) in
        let b : ℕ = length (inners area errors attributes (depth_in errors i + 1) (i + 1)) in
        let held : get_or sums (depth_in errors i + 1) 0 ≡ capped b = s.each (depth_in errors i + 1) (omega (arith, depth_low.0)) depth_low.1 in
        body_is ∙ rw (own_is, held) (capped_add a b) ∙ ap capped (sym (length-append (own_bytes area errors attributes i) (inners area errors attributes (depth_in errors i + 1) (i + 1))))

    pub sum_size : {field sum : ℕ} → field ≡ capped (delimited_size body) → sum ≡ capped (field + get_or sums (depth_in errors i) 0) → sum ≡ capped (length (inners area errors attributes (depth_in errors i) i))
    sum_size {field} {sum} field_is sum_is_lem =
        let ws : List ℕ = own_bytes area errors attributes i ++ inners area errors attributes (depth_in errors i + 1) (i + 1) in
        let rest : List ℕ = inners area errors attributes (depth_in errors i) (i + 1) in
        let held : get_or sums (depth_in errors i) 0 ≡ capped (length rest) = s.each (depth_in errors i) depth_low.0 (omega (arith, depth_low.1)) in
        let whole : field ≡ capped (length (delimited 0x22 ws)) = field_is ∙ ap (λ (n : ℕ). capped (delimited_size n)) body_size ∙ capped_delimited (length ws) ∙ ap capped (sym (length_delimited 0x22 ws)) in
        let joined : length (inners area errors attributes (depth_in errors i) i) ≡ length (delimited 0x22 ws) + length rest = ap length (inners_own area errors attributes (depth_in errors i) i below refl) ∙ length-append (delimited 0x22 ws) rest in
        sum_is_lem ∙ rw (whole, held) (capped_add (length (delimited 0x22 ws)) (length rest)) ∙ ap capped (sym joined)

    pub sums_on : {sum : ℕ} → sum ≡ capped (length (inners area errors attributes (depth_in errors i) i)) → Sums area errors attributes (set (set sums (depth_in errors i + 1) 0) (depth_in errors i) sum) i
    sums_on {sum} is =
        let high : depth_in errors i + 1 < 18 = depth_low.1 in
        let inner : List ℕ = set sums (depth_in errors i + 1) 0 in
        let long : length inner ≡ 18 = length-set sums (depth_in errors i + 1) 0 ∙ s.long in
        record {
          long = length-set inner (depth_in errors i) sum ∙ long;
          each = λ d low d-high.
              ⊎_elim (λ (deep : depth_in errors i ≤ d).
              ⊎_elim (λ (same : depth_in errors i ≡ d). rw (← same) (get_or-set_same inner (depth_in errors i) sum 0 (omega arith) ∙ is))
              (λ (deeper : depth_in errors i < d).
              get_or-set_other inner (depth_in errors i) d sum 0 (λ x. omega arith)
              ∙ ⊎_elim (λ (next : depth_in errors i + 1 ≡ d). rw (← next) (get_or-set_same sums (depth_in errors i + 1) 0 0 (omega (arith, s.long)) ∙ sym (ap (λ (l : List ℕ). capped (length l)) (inners_lower area errors attributes (depth_in errors i + 1) i below (omega arith)) ∙ capped_small 0 (omega arith))))
              (λ (far : depth_in errors i + 1 < d).
              get_or-set_other sums (depth_in errors i + 1) d 0 0 (λ x. omega arith) ∙ s.each d low d-high
              ∙ ap (λ (l : List ℕ). capped (length l)) (inners_above sound i later below d far ∙ sym (inners_lower area errors attributes d i below deeper)))
              (eq-or-lt_of_le (let more : depth_in errors i + 1 ≤ d = omega arith in more)))
              (eq-or-lt_of_le deep))
              (λ (shallow : d < depth_in errors i).
              get_or-set_other inner (depth_in errors i) d sum 0 (λ x. omega arith) ∙ get_or-set_other sums (depth_in errors i + 1) d 0 0 (λ x. omega arith) ∙ s.each d low d-high
              ∙ ap (λ (l : List ℕ). capped (length l)) (sym (inners_deeper area errors attributes d i below shallow)))
              (le_or_gt (depth_in errors i) d);
        }
