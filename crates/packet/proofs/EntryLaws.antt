-- Laws of a part table's entries: where one lies outside, and what is lent for it. Assumes nothing.
use mathlib.Core.Path.{◌≡◌, refl}
use mathlib.Core.Bool.{Bool, true, false, not, ◌&&◌}
use mathlib.Core.List.{List, []}
use Prim.Native.Nat.{ℕ, ◌+◌, ◌<◌, ◌≤◌}
use native.Mathlib.Nat.{add-zero, add_comm}
use borrow.Author.Tests.{ltb-false, lt-ltb, le-ltb}
use Rattle.packet.specs.Entries.{room, is_null, is_outside, null_at, outside_at, offset_at, stretch_at, is_lent, lent_at, lent_from}
use Rattle.words.specs.Decide.{◌<?◌}

module _ (given offset size : ℕ) where
  pub inside : is_null offset size ≡ false → is_outside given offset size ≡ false → offset + size ≤ given
  inside e out = ltb-false given (offset + size) (rw e at out)

-- whether anything is lent for index i
module _ (input table : List ℕ) (i : ℕ) where
  pub none_past : room table ≤ i → is_lent input table i ≡ false
  unfolding is_lent
  none_past h = rw (le-ltb i (room table) h)

  pub none_null : null_at table i ≡ true → is_lent input table i ≡ false
  unfolding is_lent
  none_null e = rw e (go (i <? room table) _)
    where
      go : (b c : Bool) → (b && false && c) ≡ false
      go true c = refl
      go false c = refl

  pub none_outside : outside_at input table i ≡ true → is_lent input table i ≡ false
  unfolding is_lent
  none_outside out = rw out (go (i <? room table) (not (null_at table i)))
    where
      go : (b c : Bool) → (b && c && false) ≡ false
      go true true = refl
      go true false = refl
      go false c = refl

  pub some_inside : i < room table → null_at table i ≡ false → outside_at input table i ≡ false → is_lent input table i ≡ true
  unfolding is_lent
  some_inside h e out = rw (lt-ltb i (room table) h, out, e)

  -- what is lent then
  pub lent_none : is_lent input table i ≡ false → [] ≡ lent_at input table i
  lent_none e = rw e

  pub lent_some : is_lent input table i ≡ true → stretch_at input table i ≡ lent_at input table i
  lent_some e = rw e

  -- and where it lies, in an input that lies at b
  pub from_none : (b : ℕ) → is_lent input table i ≡ false → b ≡ b + lent_from input table i
  from_none b e = rw (e, add-zero b)

  pub from_some : (b : ℕ) → is_lent input table i ≡ true → offset_at table i + b ≡ b + lent_from input table i
  from_some b e = rw e (add_comm (offset_at table i) b)
