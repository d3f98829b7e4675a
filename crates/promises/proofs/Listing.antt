-- What `list` prints: the lines by their steps, each packet behind the one before it. Assumes nothing.
use Rattle.std.specs.declared.result.Result.TheVariants.{Ok}
use mathlib.Core.Path.{◌≡◌, refl, sym, ◌∙◌, ap, subst}
use mathlib.Core.List.{List, ◌++◌}
use mathlib.Core.Logic.{⊎_elim}
use Prim.Native.Nat.{ℕ, zero, suc, ◌+◌, ◌<◌, ◌≤◌}
use native.Mathlib.Omega.{arith}
use borrow.Author.Tests.{lt-ltb, le-ltb, le-leb, lt-leb}
use lib.ListN.{length, take, drop, length-drop}
use lib.Seq.{take_at}
use Rattle.words.specs.Answer.{Answer, accepted, more, refused}
use Rattle.words.proofs.AcceptLaws.{accepted_count}
use Rattle.words.proofs.DecideLaws.{le_or_gt}
use Rattle.packet_read.specs.Reading.{reading}
use Rattle.listing.specs.Statement.{Lists}
use Rattle.listing.specs.Output.{most_bytes, text_room, answered, lines_then, lines_from, output}
use Rattle.listing.proofs.WalkLaws.{accepts}
use Rattle.promises.specs.Listing.{limits, Printed, ends, waits, refuses, goes_on, ListPrints}

module _ (s : List ℕ) where
  -- by the reader's answer at an offset inside
  by_answer : (offset : ℕ) (later : ℕ → List ℕ) → offset < length s → (a : Answer) → reading (drop offset s) limits ≡ a
      → ((consumed : ℕ) → 0 < consumed → offset + consumed ≤ length s → Printed s (offset + consumed) (later (offset + consumed)))
      → Printed s offset (answered s offset later a)
  by_answer offset later inside (accepted consumed fields) e onward =
      let known = accepts (drop offset s) limits consumed fields e in
      goes_on offset consumed fields (later (offset + consumed)) inside e
      (onward consumed (omega (arith, known.some)) (omega (arith, known.inside, length-drop offset s)))
  by_answer offset later inside more e onward = waits offset inside e
  by_answer offset later inside (refused number values consumed) e onward = refuses offset number values consumed inside e

  lines_printed : (left offset : ℕ) → length s ≤ offset + left → Printed s offset (lines_from (suc left) s offset)
  unfolding lines_from lines_then
  lines_printed zero offset enough =
      let past : length s ≤ offset = omega arith in
      rw (le-leb (length s) offset past) (ends offset past)
  lines_printed (suc left) offset enough =
      ⊎_elim
      (λ (past : length s ≤ offset). rw (le-leb (length s) offset past) (ends offset past))
      (λ (inside : offset < length s). rw (lt-leb (length s) offset inside)
      (by_answer offset (lines_from (suc left) s) inside (reading (drop offset s) limits) refl
      (λ consumed some there. lines_printed left (offset + consumed) (omega arith))))
      (le_or_gt (length s) offset)

-- What `list` wrote is its whole output.
written_whole : (s before : List ℕ) (n : ℕ) (after : List ℕ) → Lists s before (Ok n) after → text_room ≤ length before
    → take n after ≡ output s
written_whole s before n after told fits =
    let roomy = le-ltb (length before) text_room fits in
    let count : n ≡ length (output s) = ap accepted_count (rw roomy at told.0) in
    let holds : after ≡ output s ++ drop (length (output s)) before = rw roomy at told.1 in
    ap (take n) holds ∙ take_at (output s) (drop (length (output s)) before) n (sym count)

pub list_prints : ListPrints
unfolding output
list_prints s before n after told fits =
    let whole = written_whole s before n after told fits in (
      λ few.
          let one_more : length s + 1 ≡ suc (length s) = omega arith in
          let lines : take n after ≡ lines_from (suc (length s)) s 0 =
          whole ∙ rw (le-ltb most_bytes (length s) few) (ap (λ (k : ℕ). lines_from k s 0) one_more) in
          subst (Printed s 0) (sym lines) (lines_printed s (length s) 0 (omega arith)),
      (λ long. whole ∙ rw (lt-ltb most_bytes (length s) long)),
    )
