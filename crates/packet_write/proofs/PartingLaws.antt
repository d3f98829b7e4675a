-- An output with two places that are filled side by side: the checksum words at its front, and the parts from `m` on. It is taken as
-- a front of m bytes and what is behind, and what is written into the one leaves the other. Assumes nothing.
use mathlib.Core.Path.{◌≡◌, refl, sym, ◌∙◌, ap, ap₂}
use mathlib.Core.List.{List, [], ◌++◌, append_assoc, append-nil}
use Prim.Native.Nat.{ℕ, ◌+◌, ◌-◌, ◌≤◌}
use native.Mathlib.Nat.{add-zero}
use native.Mathlib.Omega.{arith}
use lib.ListN.{length, take, drop, length-append, length-drop, take-append-drop, drop_of_length-le}
use lib.Seq.{length-take-le, take-append-le, drop-append-le, take-append-add, drop-append-add}
use borrow.Rule.Slice.PartMut.{mid_of, put_mid}
use Rattle.words.specs.Word.{bytes_of}
use Rattle.words.specs.Buffer.{over, fitted}
use Rattle.words.specs.Stages.{Filling}
use Rattle.words.proofs.WordLaws.{length_bytes_of}
use Rattle.words.proofs.BufferLaws.{fitted_fits}
use Rattle.words.proofs.LentLaws.{tail_is_drop}
use Rattle.words.proofs.FillingLaws.{begins, ends, room_left, length_now, step}

-- xs with ws at `at`, as a writer leaves it that is lent the part from there on
abbrev written : ℕ → List ℕ → List ℕ → List ℕ
written at ws xs = put_mid at (length xs - at) xs (over ws (mid_of at (length xs - at) xs))

written_is : (at : ℕ) (ws xs : List ℕ) → written at ws xs ≡ take at xs ++ over ws (drop at xs)
written_is at ws xs =
    let nothing : drop (length xs - at) (drop at xs) ≡ [] = drop_of_length-le (drop at xs) {i = length xs - at} (simp length-drop (omega arith)) in
    rw (nothing, append-nil (over ws (mid_of at (length xs - at) xs)), tail_is_drop xs at)

-- into the front, and behind it
written_front : (at : ℕ) (ws front back : List ℕ) → at + length ws ≤ length front → written at ws (front ++ back) ≡ written at ws front ++ back
written_front at ws front back h =
    let low : at ≤ length front = omega arith in
    let left : length ws ≤ length (drop at front) = rw (length-drop at front) (omega arith) in
    written_is at ws (front ++ back)
    ∙ rw (take-append-le at front back low, drop-append-le at front back low, drop-append-le (length ws) (drop at front) back left)
    (ap (λ (z : List ℕ). take at front ++ z) (sym (append_assoc ws (drop (length ws) (drop at front)) back)) ∙ sym (append_assoc (take at front) (over ws (drop at front)) back))
    ∙ ap (λ (z : List ℕ). z ++ back) (sym (written_is at ws front))

written_behind : (off : ℕ) (ws front back : List ℕ) → written (length front + off) ws (front ++ back) ≡ front ++ written off ws back
written_behind off ws front back =
    written_is (length front + off) ws (front ++ back)
    ∙ rw (take-append-add front back off, drop-append-add front back off) (append_assoc front (take off back) (over ws (drop off back)))
    ∙ ap (λ (z : List ℕ). front ++ z) (sym (written_is off ws back))

-- an output that held `before` holds all of `words` but `words_left`, which go to `word_at`, and all of `parts` but `parts-left`, which
-- go to `part_at`
pub record Parting (words parts words_left parts-left before now : List ℕ) (m word_at part_at : ℕ) : Type 0 where
  pub front : List ℕ
  pub back : List ℕ
  pub off : ℕ
  pub joined : now ≡ front ++ back
  pub reached : m + off ≡ part_at
  pub room : m ≤ length before
  pub in_front : Filling words words_left (take m before) front word_at
  pub behind : Filling parts parts-left (drop m before) back off

pub parting : (words parts before : List ℕ) (m : ℕ) → length words ≤ m → m + length parts ≤ length before → Parting words parts words parts before before m 0 m
parting words parts before m narrow fits = record {
  front = take m before;
  back = drop m before;
  off = 0;
  joined = sym (take-append-drop m before);
  reached = add-zero m;
  room = omega arith;
  in_front = begins words (take m before) (rw (length-take-le m before (omega arith)) narrow);
  behind = begins parts (drop m before) (rw (length-drop m before) (omega arith));
}

module _ {words parts words_left parts-left before now : List ℕ} {m word_at part_at : ℕ} (p : Parting words parts words_left parts-left before now m word_at part_at) where
  front_length : length p.front ≡ m
  front_length = length_now p.in_front ∙ length-take-le m before p.room

  pub parting_length : length now ≡ length before
  parting_length =
      let room : m ≤ length before = p.room in
      ap length p.joined ∙ length-append p.front p.back
      ∙ ap₂ (λ (a b : ℕ). a + b) front_length (length_now p.behind ∙ length-drop m before) ∙ omega arith

  pub word_room : word_at + length words_left ≤ m
  word_room = omega (arith, room_left p.in_front, length-take-le m before p.room)

  pub part_room : part_at + length parts-left ≤ length now
  part_room =
      let room : m ≤ length before = p.room in
      let reach : m + p.off ≡ part_at = p.reached in
      omega (arith, room_left p.behind, length-drop m before, parting_length)

  pub word_place : word_at ≤ length now
  word_place =
      let room : m ≤ length before = p.room in
      omega (arith, word_room, parting_length)

  pub part_place : part_at ≤ length now
  part_place = omega (arith, part_room)

-- what a writer left of the part that it was lent
lent : (ws xs : List ℕ) (at : ℕ) {after : List ℕ} → at + length ws ≤ length xs → after ≡ fitted ws (mid_of at (length xs - at) xs) → put_mid at (length xs - at) xs after ≡ written at ws xs
lent ws xs at h e =
    let there : length ws ≤ length (mid_of at (length xs - at) xs) = rw (tail_is_drop xs at, length-drop at xs) (omega arith) in
    ap (put_mid at (length xs - at) xs) (e ∙ fitted_fits ws (mid_of at (length xs - at) xs) there)

-- a part is copied
pub part_written : (ws rest : List ℕ) (next : ℕ) {words parts words_left before now after : List ℕ} {m word_at part_at : ℕ}
    → Parting words parts words_left (ws ++ rest) before now m word_at part_at → part_at + length ws ≡ next → after ≡ fitted ws (mid_of part_at (length now - part_at) now)
    → Parting words parts words_left rest before (put_mid part_at (length now - part_at) now after) m word_at next
part_written ws rest next {now = now} {after = after} {m = m} {part_at = part_at} p reach e =
    let both : length (ws ++ rest) ≡ length ws + length rest = length-append ws rest in
    let fits : part_at + length (ws ++ rest) ≤ length now = part_room p in
    let place : part_at ≡ length p.front + p.off = sym p.reached ∙ ap (λ (n : ℕ). n + p.off) (sym (front_length p)) in
    let so_far : m + p.off ≡ part_at = p.reached in
    record {
      front = p.front;
      back = written p.off ws p.back;
      off = p.off + length ws;
      joined =
          lent ws now part_at (omega arith) e
          ∙ ap₂ (λ (n : ℕ) (xs : List ℕ). written n ws xs) place p.joined
          ∙ written_behind p.off ws p.front p.back;
      reached = omega arith;
      room = p.room;
      in_front = p.in_front;
      behind = step ws rest (p.off + length ws) p.behind refl refl;
    }

-- a word is put
pub word_put : (w : ℕ) (rest : List ℕ) {words parts parts-left before now after : List ℕ} {m word_at part_at : ℕ}
    → Parting words parts (bytes_of 8 w ++ rest) parts-left before now m word_at part_at → after ≡ fitted (bytes_of 8 w) (mid_of word_at (length now - word_at) now)
    → Parting words parts rest parts-left before (put_mid word_at (length now - word_at) now after) m (word_at + 8) part_at
word_put w rest {before = before} {now = now} {m = m} {word_at = word_at} p e =
    let ws : List ℕ = bytes_of 8 w in
    let eight : length ws ≡ 8 = length_bytes_of 8 w in
    let both : length (ws ++ rest) ≡ length ws + length rest = length-append ws rest in
    let fits : word_at + length (ws ++ rest) ≤ m = word_room p in
    let long : length now ≡ length before = parting_length p in
    let room : m ≤ length before = p.room in
    record {
      front = written word_at ws p.front;
      back = p.back;
      off = p.off;
      joined =
          lent ws now word_at (omega arith) e
          ∙ ap (written word_at ws) p.joined
          ∙ written_front word_at ws p.front p.back (omega (arith, front_length p));
      reached = p.reached;
      room = p.room;
      in_front = step ws rest (word_at + 8) p.in_front (ap (λ (n : ℕ). word_at + n) eight) refl;
      behind = p.behind;
    }

-- all is written
pub parting_ends : {words parts before now : List ℕ} {m word_at part_at : ℕ} → Parting words parts [] [] before now m word_at part_at
    → now ≡ over words (take m before) ++ over parts (drop m before)
parting_ends p = p.joined ∙ ap₂ (λ (a b : List ℕ). a ++ b) (ends p.in_front) (ends p.behind)
