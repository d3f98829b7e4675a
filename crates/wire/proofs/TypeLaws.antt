-- Which types are known, and what payload each has. Assumes nothing.
use mathlib.Core.Path.{◌≡◌}
use mathlib.Core.Bool.{true, false}
use Prim.Native.Nat.{ℕ, ◌<◌, ◌≤◌}
use native.Mathlib.Omega.{arith}
use borrow.Author.Tests.{lt-ltb, le-ltb, eq-eqb, ne_eqb}
use Rattle.wire.specs.Layout.{scalar, blob, known, padded, payload}

module _ (type : ℕ) where
  pub scalar_yes : 2 < type → type < 7 → scalar type ≡ true
  scalar_yes low high = simp (lt-ltb 2 type low, lt-ltb type 7 high)

  pub scalar_low : type ≤ 2 → scalar type ≡ false
  scalar_low h = simp (le-ltb 2 type h)

  pub scalar_high : 7 ≤ type → scalar type ≡ false
  scalar_high h = simp (lt-ltb 2 type (omega arith), le-ltb type 7 h)

  pub blob_yes : 15 < type → type < 19 → blob type ≡ true
  blob_yes low high = simp (lt-ltb 15 type low, lt-ltb type 19 high)

  pub blob_low : type ≤ 15 → blob type ≡ false
  blob_low h = simp (le-ltb 15 type h)

  pub blob_high : 19 ≤ type → blob type ≡ false
  blob_high h = simp (lt-ltb 15 type (omega arith), le-ltb type 19 h)

  pub known_null : type ≡ 2 → known type ≡ true
  known_null h = simp (eq-eqb type 2 h)

  pub known_scalar : 2 < type → type < 7 → known type ≡ true
  known_scalar low high = simp (ne_eqb type 2 (λ e. omega arith), lt-ltb 2 type low, lt-ltb type 7 high)

  pub known_blob : 15 < type → type < 19 → known type ≡ true
  known_blob low high = simp (ne_eqb type 2 (λ e. omega arith), lt-ltb 2 type (omega arith), le-ltb type 7 (omega arith), lt-ltb 15 type low, lt-ltb type 19 high)

  pub unknown_low : type < 2 → known type ≡ false
  unknown_low h = simp (ne_eqb type 2 (λ e. omega arith), le-ltb 2 type (omega arith), le-ltb 15 type (omega arith))

  pub unknown_middle : 7 ≤ type → type < 16 → known type ≡ false
  unknown_middle low high = simp (ne_eqb type 2 (λ e. omega arith), lt-ltb 2 type (omega arith), le-ltb type 7 low, le-ltb 15 type (omega arith))

  pub unknown_high : 18 < type → known type ≡ false
  unknown_high h = simp (ne_eqb type 2 (λ e. omega arith), lt-ltb 2 type (omega arith), le-ltb type 7 (omega arith), lt-ltb 15 type (omega arith), le-ltb type 19 (omega arith))

  pub payload_none : (n : ℕ) → scalar type ≡ false → blob type ≡ false → payload type n ≡ 0
  unfolding payload
  payload_none n s b = rw (b, s)

  pub payload_scalar : (n : ℕ) → 2 < type → type < 7 → payload type n ≡ 8
  unfolding payload
  payload_scalar n low high = rw (blob_low (omega arith), scalar_yes low high)

  pub payload_blob : (n : ℕ) → 15 < type → type < 19 → payload type n ≡ padded n
  unfolding payload
  payload_blob n low high = rw (blob_yes low high)
