-- Laws of the room that entries take, of sums that are capped, and of the table and the bytes that packing gives.
-- Assumes nothing.
use mathlib.Core.Path.{◌≡◌, refl, sym, ◌∙◌, ap}
use mathlib.Core.Bool.{Bool, true, false, ◌&&◌}
use mathlib.Core.Logic.{⊎_elim}
use mathlib.Core.List.{List, [], ◌∷◌, ◌++◌}
use Prim.Native.Nat.{ℕ, zero, suc, ◌+◌, ◌*◌, ◌/◌, ◌%◌, ◌^◌, ◌<◌, ◌≤◌}
use native.Mathlib.Nat.{eq-or-lt_of_le}
use native.Mathlib.Numerals.{add-one}
use native.Mathlib.Omega.{arith}
use lib.ListN.{length, get_or, take, drop, length-append, length-drop}
use lib.Seq.{length-take-le, ext_get_or}
use borrow.Author.Tests.{lt-ltb, le-ltb, eq-eqb, ne_eqb}
use Rattle.words.specs.Decide.{pick, ◌<?◌}
use Rattle.words.specs.Buffer.{stretch}
use Rattle.words.proofs.DecideLaws.{le_or_gt}
use Rattle.wire.specs.Layout.{blob, entry_words}
use Rattle.wire_check.specs.Writing.{entries_in}
use Rattle.pack_pairs.specs.Pairs.{type_at, offset_at, length_at, stored}
use Rattle.pack_pairs.specs.Packing.{table, capped}
use Rattle.pack_pairs.specs.Stages.{first_use, is_new, room_of, room, packed_bytes, new_offset, new_word, packed_word, Inside}
use Rattle.pack_pairs.proofs.UseLaws.{both_true}

-- The room

pub room_more : (values : List ℕ) (i : ℕ) → room values (i + 1) ≡ room values i + room_of values i
unfolding room
room_more values i = rw (add-one i)

pub room_grows : (values : List ℕ) (i n : ℕ) → i ≤ n → room values i ≤ room values n
unfolding room
room_grows values i zero h = let e : i ≡ 0 = omega arith in rw e (omega arith)
room_grows values i (suc n) h = ⊎_elim (λ (e : i ≡ suc n). rw e (omega arith)) (λ (less : i < suc n). omega (arith, room_grows values i n (omega arith))) (eq-or-lt_of_le h)

pub choose : (b c : Bool) (x y o : ℕ) → ((b && c) ≡ true → x ≡ y) → pick b (pick c x 0) o ≡ pick b (pick c y 0) o
choose true true x y o e = e refl
choose true false x y o e = refl
choose false c x y o e = refl

-- what a word is that is no fourth one
pub packed_else : (values : List ℕ) (k : ℕ) → (k % entry_words ≡ 3 → ⊥) → packed_word values k ≡ get_or values k 0
packed_else values k other = rw (ne_eqb (k % entry_words) 3 other)

pub packed_fourth : (values : List ℕ) (i : ℕ) → packed_word values (entry_words * i + 3) ≡ new_word values i
packed_fourth values i =
    let is-third : (entry_words * i + 3) % entry_words ≡ 3 = omega arith in
    let is-i : (entry_words * i + 3) / entry_words ≡ i = omega arith in
    rw (eq-eqb ((entry_words * i + 3) % entry_words) 3 is-third, is-i)

pub new_word_stored : (values : List ℕ) (i : ℕ) → stored values i ≡ true → new_word values i ≡ new_offset values i
unfolding new_word
new_word_stored values i e = let both = both_true (blob (type_at values i)) (0 <? length_at values i) e in rw (both.0, both.1)

-- Sums

-- a sum that is capped at each step is capped at the end
pub capped_add : (a b : ℕ) → capped (capped a + b) ≡ capped (a + b)
capped_add a b =
    ⊎_elim
    (λ (h : a ≤ 0xffff_ffff_ffff_ffff). rw (le-ltb 0xffff_ffff_ffff_ffff a h))
    (λ (h : 0xffff_ffff_ffff_ffff < a). rw (lt-ltb 0xffff_ffff_ffff_ffff a h, lt-ltb 0xffff_ffff_ffff_ffff (a + b) (omega arith)) (full b))
    (le_or_gt a 0xffff_ffff_ffff_ffff)
  where
    full : (b : ℕ) → capped (0xffff_ffff_ffff_ffff + b) ≡ 0xffff_ffff_ffff_ffff
    full zero = refl
    full (suc b) = rw (lt-ltb 0xffff_ffff_ffff_ffff (0xffff_ffff_ffff_ffff + suc b) (omega arith))

pub capped_most : (n : ℕ) → capped n ≤ n
capped_most n =
    ⊎_elim (λ (h : n ≤ 0xffff_ffff_ffff_ffff). rw (le-ltb 0xffff_ffff_ffff_ffff n h) (omega arith)) (λ (h : 0xffff_ffff_ffff_ffff < n). rw (lt-ltb 0xffff_ffff_ffff_ffff n h) (omega arith))
    (le_or_gt n 0xffff_ffff_ffff_ffff)

-- a sum that fits a room of less than 2 ^ 63 bytes was not capped
pub capped_small : (n size : ℕ) → capped n ≤ size → size < 2 ^ 63 → capped n ≡ n
capped_small n size fits small =
    ⊎_elim (λ (h : n ≤ 0xffff_ffff_ffff_ffff). rw (le-ltb 0xffff_ffff_ffff_ffff n h))
    (λ (h : 0xffff_ffff_ffff_ffff < n). let full : capped n ≡ 0xffff_ffff_ffff_ffff = rw (lt-ltb 0xffff_ffff_ffff_ffff n h) in absurd (omega arith))
    (le_or_gt n 0xffff_ffff_ffff_ffff)

-- A list by its words

pub length_table : (f : ℕ → ℕ) (k n : ℕ) → length (table f k n) ≡ n
unfolding table
length_table f k zero = refl
length_table f k (suc n) = ap suc (length_table f (k + 1) n)

pub get_d_table : (f : ℕ → ℕ) (k n i : ℕ) → i < n → get_or (table f k n) i 0 ≡ f (k + i)
unfolding table
get_d_table f k zero i h = absurd (omega arith)
get_d_table f k (suc n) zero h = ap f (omega arith)
get_d_table f k (suc n) (suc i) h = get_d_table f (k + 1) n i (omega arith) ∙ ap f (omega arith)

pub table_same : (f : ℕ → ℕ) (l : List ℕ) → ((i : ℕ) → i < length l → get_or l i 0 ≡ f i) → l ≡ table f 0 (length l)
table_same f l same =
    ext_get_or 0 l (table f 0 (length l)) (sym (length_table f 0 (length l))) (λ i h. same i h ∙ sym (get_d_table f 0 (length l) i h ∙ ap f (omega arith)))

-- Bytes

pub length_stretch : (s : List ℕ) (at n : ℕ) → (0 < n → at + n ≤ length s) → length (stretch s at n) ≡ n
length_stretch s at zero inside = refl
length_stretch s at (suc n) inside = length-take-le (suc n) (drop at s) (simp length-drop (omega (arith, inside (omega arith))))

module _ (area values : List ℕ) (inside : Inside area values) where
  pub room_inside : (i : ℕ) → i < entries_in values → 0 < room_of values i → offset_at values i + room_of values i ≤ length area
  room_inside i h = cases (is_new values i) refl
    where
      cases : (b : Bool) → is_new values i ≡ b → 0 < pick b (length_at values i) 0 → offset_at values i + pick b (length_at values i) 0 ≤ length area
      cases true e some = inside i h (both_true (stored values i) _ e).0
      cases false e none = absurd (omega arith)

  pub length_bytes : (n : ℕ) → n ≤ entries_in values → length (packed_bytes area values n) ≡ room values n
  unfolding room packed_bytes
  length_bytes zero h = refl
  length_bytes (suc n) h =
      rw (length-append (packed_bytes area values n) (stretch area (offset_at values n) (room_of values n)), length_bytes n (omega arith), length_stretch area (offset_at values n) (room_of values n) (room_inside n (omega arith)))
