-- Words as signed numbers and as floats. Assumes nothing.
use mathlib.Core.Path.{◌≡◌, refl, sym, ◌∙◌}
use mathlib.Core.Bool.{Bool, true, false, not}
use Prim.Native.Nat.{ℕ, suc, ◌-◌, ◌%◌, ◌^◌, ◌<◌, ◌≤◌}
use lib.Dec.{T, ltb}
use lib.IntN.{pos, negsuc}
use mir.Syntax.{w64}
use mir.Val.{sel, to_z}
use lib.Ieee.{Float, nan, inf, fin, binary64, of_bits, nan_bits, is_nan}
use lib.Ieee.Bits.{nan_bits_is, nan_bits_above}
use borrow.Author.Tests.{lt-ltb, le-ltb}
use Rattle.words.specs.Decide.{pick}
use Rattle.wire_value.specs.ValueOf.{signed}

only_nan : (x : Float) → is_nan x ≡ true → x ≡ nan
unfolding is_nan
only_nan nan e = refl
only_nan (inf s) e = cc
only_nan (fin s m p) e = cc

-- a NaN's pattern
pub double_nan : (bits : ℕ) → 0x7ff0_0000_0000_0000 < bits % 0x8000_0000_0000_0000 → nan ≡ of_bits binary64 bits
double_nan bits h =
    sym (only_nan (of_bits binary64 bits) (sym (nan_bits_is binary64 bits) ∙ nan_bits_above binary64 bits ∙ lt-ltb _ _ h))

-- any other
pub no_nan : (bits : ℕ) → bits % 0x8000_0000_0000_0000 ≤ 0x7ff0_0000_0000_0000 → nan_bits binary64 bits ≡ false
no_nan bits h = nan_bits_above binary64 bits ∙ le-ltb _ _ h

pub no_nan_not : (bits : ℕ) → bits % 0x8000_0000_0000_0000 ≤ 0x7ff0_0000_0000_0000 → T (not (nan_bits binary64 bits))
no_nan_not bits h = rw (no_nan bits h) tt

-- two's complement is how the machine reads signed bits
pub signed_is : (bits : ℕ) → to_z w64 bits ≡ signed bits
unfolding signed
signed_is bits = by_test (ltb bits (2 ^ 63))
  where
    by_test : (b : Bool) → sel b (pos bits) (negsuc (2 ^ 64 - suc bits)) ≡ pick b (pos bits) (negsuc (2 ^ 64 - suc bits))
    by_test true = refl
    by_test false = refl
