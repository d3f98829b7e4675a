-- The walk: the first stretch loaded alone, and what the output holds after each word.
-- The register's laws are those of crc64_fast's Turn. Assumes nothing.
use mathlib.Core.Path.{◌≡◌, refl, sym, ap, ap₂, ◌∙◌, subst}
use mathlib.Core.Bool.{Bool, true, false, true≢false}
use mathlib.Core.List.{List, [], ◌∷◌, ◌++◌}
use Prim.Native.Nat.{ℕ, ◌+◌, ◌-◌, ◌*◌, ◌/◌, ◌%◌, ◌^◌, ◌≤◌, ◌<◌}
use native.Mathlib.Nat.{suc-ne-zero, add-zero, mul-zero}
use native.Mathlib.Omega.{arith}
use lib.ListN.{length, take, drop, take-append-drop, drop_of_length-le}
use lib.Seq.{drop-drop, drop_at, length-take-le, take_all}
use borrow.Rule.Slice.PartMut.{mid_of, put_mid}
use Rattle.words.specs.Word.{word, bytes_of, Bytes}
use Rattle.words.specs.Decide.{pick}
use Rattle.words.specs.Buffer.{over, fitted}
use Rattle.words.specs.Stages.{Filling}
use Rattle.words.proofs.WordLaws.{word_split, word_past, bytes_of_word, length_bytes_of}
use Rattle.words.proofs.BufferLaws.{fitted_fits, fitted_short, length_over}
use Rattle.words.proofs.FillingLaws.{word_step, ends, place, length_now}
use Rattle.crc64.specs.Polynomial.{fold}
use Rattle.crc64.specs.Table.{swapped}
use Rattle.crc64.proofs.Folding.{fold_append}
use Rattle.crc64.proofs.Burst.{bytes_take}
use Rattle.crc64_fast.proofs.Stretch.{after}
use Rattle.crc64_fast.proofs.Turn.{start}
use lib.Bits.{bit_xor}

pub low_length : (w i : ℕ) (xs now : List ℕ) → now ≡ over (bytes_of i w) xs → i ≤ length xs → length now ≡ length xs
low_length w i xs now e h = ap length e ∙ length_over (bytes_of i w) xs (rw (length_bytes_of i w) h)

-- the first stretch, of one byte and `more`: `start` speaks of it alone, and what follows it is folded behind
module _ (s : List ℕ) (more : ℕ) (hs : Bytes s) (few : more < 8) (there : more + 1 ≤ length s) {w : ℕ} (known : w ≡ word 8 (take (more + 1) s) 0) where
  first_length : length (take (more + 1) s) ≡ more + 1
  first_length = length-take-le (more + 1) s there

  alone : drop (more + 1) (take (more + 1) s) ≡ []
  alone = drop_of_length-le (take (more + 1) s) {i = more + 1} (omega (arith, first_length))

  pub first_folded : (q : ℕ) → q < 2 ^ 64
      → fold (after (bit_xor q w * 2 ^ (56 - 8 * more) % 2 ^ 64) (q / 2 ^ 8 / 2 ^ (8 * more))) (drop (more + 1) s) ≡ fold (swapped 8 q) s
  unfolding fold
  first_folded q hq =
      let r : ℕ = after (bit_xor q w * 2 ^ (56 - 8 * more) % 2 ^ 64) (q / 2 ^ 8 / 2 ^ (8 * more)) in
      let met : r ≡ fold (swapped 8 q) (take (more + 1) s) =
      ap (fold r) (sym alone) ∙ start q (take (more + 1) s) more known hq (bytes_take (more + 1) s hs) few (omega (arith, first_length)) in
      ap (λ (z : ℕ). fold z (drop (more + 1) s)) met
      ∙ sym (fold_append (swapped 8 q) (take (more + 1) s) (drop (more + 1) s))
      ∙ ap (fold (swapped 8 q)) (take-append-drop (more + 1) s)

  spelt : bytes_of (more + 1) w ≡ take (more + 1) s
  spelt =
      let t : List ℕ = take (more + 1) s in
      let free : more + 1 + (7 - more) ≡ 8 = omega arith in
      let beyond : word (7 - more) t (0 + (more + 1)) ≡ 0 = word_past (7 - more) t (0 + (more + 1)) (omega (arith, first_length)) in
      let narrow : w ≡ word (more + 1) t 0 =
      known ∙ ap (λ (k : ℕ). word k t 0) (sym free) ∙ word_split (more + 1) (7 - more) t 0
      ∙ ap (λ (z : ℕ). word (more + 1) t 0 + 256 ^ (more + 1) * z) beyond
      ∙ ap (λ (z : ℕ). word (more + 1) t 0 + z) (mul-zero (256 ^ (more + 1))) ∙ add-zero (word (more + 1) t 0) in
      ap (bytes_of (more + 1)) narrow ∙ bytes_of_word (more + 1) t 0 (bytes_take (more + 1) s hs) (omega (arith, first_length))
      ∙ take_all (more + 1) t (omega (arith, first_length))

  -- the stretch over the front of an output
  module _ (before : List ℕ) {now : List ℕ} (room : length s ≤ length before) (e : now ≡ over (bytes_of (more + 1) w) before) where
    laid : now ≡ take (more + 1) s ++ drop (more + 1) before
    laid = e ∙ ap₂ (λ (ws : List ℕ) (n : ℕ). ws ++ drop n before) spelt (length_bytes_of (more + 1) w)

    beyond : drop (more + 1) now ≡ drop (more + 1) before
    beyond = ap (drop (more + 1)) laid ∙ drop_at (take (more + 1) s) (drop (more + 1) before) (more + 1) first_length

    long : length now ≡ length before
    long = low_length w (more + 1) before now e (omega arith)

    pub first_copied : Filling s (drop (more + 1) s) now now (more + 1)
    first_copied = record {
      done = take (more + 1) s;
      joins = take-append-drop (more + 1) s;
      reached = first_length;
      fits = omega (arith, long);
      holds = laid ∙ ap (λ (rest : List ℕ). take (more + 1) s ++ rest) (sym beyond) ∙ ap (λ (n : ℕ). take (more + 1) s ++ drop n now) (sym first_length);
    }

    -- all, over the output as it was
    pub all_over : {last : List ℕ} → last ≡ over s now → last ≡ fitted s before
    all_over last-is =
        let left : ℕ = length s - (more + 1) in
        let reach : more + 1 + left ≡ length s = omega arith in
        let same : drop (length s) now ≡ drop (length s) before =
        ap (λ (n : ℕ). drop n now) (sym reach) ∙ sym (drop-drop left (more + 1) now) ∙ ap (drop left) beyond
        ∙ drop-drop left (more + 1) before ∙ ap (λ (n : ℕ). drop n before) reach in
        last-is ∙ ap (λ (rest : List ℕ). s ++ rest) same ∙ sym (fitted_fits s before room)

pub none_copied : (s before : List ℕ) → length s ≡ 0 → before ≡ fitted s before
none_copied [] before e = sym (fitted_fits [] before (omega arith))
none_copied (b ∷ s) before e = absurd (suc-ne-zero _ e)

-- one word more, and none
module _ (s : List ℕ) (i : ℕ) {before now : List ℕ} (f : Filling s (drop i s) before now i) where
  pub word_copied : {w : ℕ} {after : List ℕ} → w ≡ word 8 s i → Bytes s → 8 ≤ length s - i → after ≡ fitted (bytes_of 8 w) (mid_of i (length now - i) now)
      → Filling s (drop (i + 8) s) before (put_mid i (length now - i) now after) (i + 8)
  word_copied {w} known hs h e =
      let there : i + 8 ≤ length s = omega arith in
      let next : drop i s ≡ bytes_of 8 w ++ drop (i + 8) s =
      sym (take-append-drop 8 (drop i s))
      ∙ ap₂ (λ (a b : List ℕ). a ++ b) (sym (bytes_of_word 8 s i hs there) ∙ ap (bytes_of 8) (sym known)) (drop-drop 8 i s) in
      word_step 8 w (drop (i + 8) s) (i + 8) (subst (λ (rest : List ℕ). Filling s rest before now i) next f) refl e

  pub all_copied : length s ≤ i → now ≡ over s before
  all_copied h = ends (subst (λ (rest : List ℕ). Filling s rest before now i) (drop_of_length-le s {i = i} h) f)

-- where the output is too short for all, nothing is put: the word and the output after it, by that test
pub only_read : {A : Type 0} {short : Bool} (x y : A) {z : A} → short ≡ true → z ≡ x → z ≡ pick short x y
only_read x y {z} e known = subst (λ (b : Bool). z ≡ pick b x y) (sym e) known

pub also_put : {A : Type 0} {short : Bool} (x y : A) {z : A} → short ≡ false → z ≡ y → z ≡ pick short x y
also_put x y {z} e known = subst (λ (b : Bool). z ≡ pick b x y) (sym e) known

-- what is to be copied by the i-th byte is copied
abbrev pub So-far : Bool → List ℕ → ℕ → List ℕ → List ℕ → Type 0
So-far true s i before now = now ≡ before
So-far false s i before now = Filling s (drop i s) before now i

pub started : (short : Bool) (s : List ℕ) (more : ℕ) → Bytes s → more < 8 → more + 1 ≤ length s
    → {w : ℕ} → w ≡ pick short (word 8 s 0) (word 8 (take (more + 1) s) 0) → (q : ℕ) → q < 2 ^ 64
    → fold (after (bit_xor q w * 2 ^ (56 - 8 * more) % 2 ^ 64) (q / 2 ^ 8 / 2 ^ (8 * more))) (drop (more + 1) s) ≡ fold (swapped 8 q) s
started true s more hs few there known q hq = start q s more known hq hs few there
started false s more hs few there known q hq = first_folded s more hs few there known q hq

pub first_so_far : (short : Bool) (s : List ℕ) (more : ℕ) → Bytes s → more < 8 → more + 1 ≤ length s
    → {w : ℕ} → w ≡ pick short (word 8 s 0) (word 8 (take (more + 1) s) 0) → (before : List ℕ) {now : List ℕ}
    → (short ≡ false → length s ≤ length before) → now ≡ pick short before (over (bytes_of (more + 1) w) before) → So-far short s (more + 1) now now
first_so_far true s more hs few there known before room e = refl
first_so_far false s more hs few there known before room e = first_copied s more hs few there known before (room refl) e

pub next_so_far : (short : Bool) (s : List ℕ) (i : ℕ) (before now : List ℕ) → So-far short s i before now → {w : ℕ} {after : List ℕ} → w ≡ word 8 s i → Bytes s → 8 ≤ length s - i
    → after ≡ pick short now (put_mid i (length now - i) now (fitted (bytes_of 8 w) (mid_of i (length now - i) now))) → So-far short s (i + 8) before after
next_so_far true s i before now f known hs h e = e ∙ f
next_so_far false s i before now f known hs h e =
    subst (λ (z : List ℕ). Filling s (drop (i + 8) s) before z (i + 8)) (sym e) (word_copied s i f known hs h refl)

pub length_so_far : (short : Bool) (s : List ℕ) (i : ℕ) (before now : List ℕ) → So-far short s i before now → length now ≡ length before
length_so_far true s i before now f = ap length f
length_so_far false s i before now f = length_now f

pub place_so_far : (short : Bool) (s : List ℕ) (i : ℕ) (before now : List ℕ) → So-far short s i before now → short ≡ false → i ≤ length now
place_so_far true s i before now f e = absurd (true≢false e)
place_so_far false s i before now f e = place f

pub all_so_far : (short : Bool) (s : List ℕ) (more : ℕ) → Bytes s → more < 8 → more + 1 ≤ length s
    → {w : ℕ} → w ≡ pick short (word 8 s 0) (word 8 (take (more + 1) s) 0) → (before : List ℕ) {now : List ℕ}
    → (short ≡ false → length s ≤ length before) → (short ≡ true → length before < length s) → now ≡ pick short before (over (bytes_of (more + 1) w) before)
    → (i : ℕ) {last : List ℕ} → So-far short s i now last → length s ≤ i → last ≡ fitted s before
all_so_far true s more hs few there known before room lack e i f h = f ∙ e ∙ sym (fitted_short s before (lack refl))
all_so_far false s more hs few there known before room lack e i f h = all_over s more hs few there known before (room refl) e (all_copied s i f h)

pub first_kept : (short : Bool) (n w : ℕ) (before : List ℕ) {now : List ℕ} → (short ≡ false → n ≤ length before) → now ≡ pick short before (over (bytes_of n w) before) → length now ≡ length before
first_kept true n w before room e = ap length e
first_kept false n w before {now} room e = low_length w n before now e (room refl)
