-- Each strict prefix of a written packet asks for more. Assumes nothing.
use mathlib.Core.Path.{◌≡◌, refl, sym, ◌∙◌, ap}
use mathlib.Core.Bool.{Bool, true, false, not, ◌&&◌}
use mathlib.Core.List.{List, [], ◌++◌, append-nil}
use mathlib.Core.Logic.{⊎_elim}
use Prim.Native.Nat.{ℕ, zero, suc, ◌+◌, ◌*◌, ◌<◌, ◌≤◌}
use native.Mathlib.Nat.{zero-add}
use native.Mathlib.Omega.{arith}
use borrow.Author.Tests.{lt-ltb, le-ltb}
use lib.ListN.{length, get_or, take, drop, length-take, length-drop}
use lib.Seq.{ext_get_or, get_or-take, get_or-drop, take-take, length-take-le}
use Rattle.words.specs.Answer.{more}
use Rattle.words.specs.Buffer.{stretch}
use Rattle.words.specs.Decide.{◌=?◌, ◌<?◌}
use Rattle.words.proofs.WordLaws.{word_take}
use Rattle.words.proofs.DecideLaws.{first_same, le_or_gt}
use Rattle.packet.specs.Layout.{null_size, largest_part, fixed_header_size, has_variable_header, headers, type, count, size, taken_before, variable, variable_sum, whole}
use Rattle.packet_read.specs.Reading.{Limits, fails, too_large, first_too_large, fixed_lines, variable_lines, size_lines, reading}
use Rattle.packet.specs.Wire.{packet_size}
use Rattle.promises.specs.RoundTrip.{Message, wire, wire_size, Valid, Held, StrictPrefix}
use Rattle.promises.proofs.Acceptance.{before_of, behind_of}
use Rattle.packet_write.proofs.PieceLaws.{length_packet}
use Rattle.packet_read.proofs.Lines.{Before, Behind, rest, reading_is, pass_before}
use Rattle.promises.proofs.RoundTrip.{is_count, is_type, fixed_ok, variable_ok, is_whole}

-- a stretch that a front still holds
stretch_take : (s : List ℕ) (k from long : ℕ) → from + long ≤ k → stretch (take k s) from long ≡ stretch s from long
stretch_take s k from long h = ext_get_or 0 (stretch (take k s) from long) (stretch s from long) lengths at
  where
    lengths : length (stretch (take k s) from long) ≡ length (stretch s from long)
    lengths = simp (length-take, length-drop) (omega arith)

    at : (i : ℕ) → i < length (stretch (take k s) from long) → get_or (stretch (take k s) from long) i 0 ≡ get_or (stretch s from long) i 0
    at i below =
        let short : i < long = omega (arith, simp length-take at below) in
        get_or-take long (drop from (take k s)) i 0 short ∙ get_or-drop from (take k s) i 0 ∙ get_or-take k s (from + i) 0 (omega arith)
        ∙ sym (get_or-drop from s i 0) ∙ sym (get_or-take long (drop from s) i 0 short)

-- any front that is shorter than the fixed header
short_more : (p : List ℕ) (limits : Limits) → length p < fixed_header_size → reading p limits ≡ more
unfolding fixed_lines
short_more p limits h = reading_is p (count p) limits refl ∙ rw (lt-ltb (length p) fixed_header_size h)

module _ (s : List ℕ) (n : ℕ) (limits : Limits) (k : ℕ) (there : k ≤ length s) (counted : count s ≡ n) (before : Before s n limits) (long : fixed_header_size ≤ k) where
  abbrev p : List ℕ
  p = take k s

  length_is : length p ≡ k
  length_is = length-take-le k s there

  same_type : type p ≡ type s
  same_type = word_take 2 k s 4 (omega arith)

  before_too : Before p n limits
  before_too =
      record {
        there = le-ltb (length p) fixed_header_size (rw length_is long);
        signed = rw (word_take 4 k s 0 (omega arith)) before.signed;
        known = rw same_type before.known;
        current = rw same_type before.current;
        guarded = rw (word_take 8 k s 28 (omega arith), take-take 28 k s (omega arith)) before.guarded;
        few = before.few;
      }

  module _ (with-header : has_variable_header (type s) n ≡ true) (behind : Behind s n limits) where
    answer_is : reading p limits ≡ rest p n limits
    answer_is =
        reading_is p n limits (word_take 4 k s 24 (omega arith) ∙ counted)
        ∙ pass_before p n limits before_too (rest p n limits) (rw same_type with-header)

    headers_more : k < headers n → reading p limits ≡ more
    unfolding variable_lines
    headers_more h = answer_is ∙ rw (behind.short, lt-ltb (length p) (headers n) (rw length_is h))

    module _ (past : headers n ≤ k) where
      same_size : (i : ℕ) → i < n → size p i ≡ size s i
      same_size i h = word_take 4 k s (36 + 4 * i) (omega arith)

      same_taken : (i : ℕ) → i ≤ n → taken_before p i ≡ taken_before s i
      unfolding taken_before
      same_taken zero h = refl
      same_taken (suc i) h = rw (same_taken i (omega arith), same_size i (omega arith))

      same_large : first_too_large p n ≡ first_too_large s n
      same_large = first_same (too_large p) (too_large s) 0 n (λ i low high. ap (λ (w : ℕ). not (w =? null_size) && largest_part <? w) (same_size i (omega (arith, zero-add n))))

      whole_is : whole p n ≡ whole s n
      whole_is = ap (λ (w : ℕ). headers n + w) (same_taken n (omega arith))

      variable_too : fails (variable_sum p n) (variable p n) ≡ false
      variable_too = rw (word_take 8 k s (36 + 12 * n) (omega arith), stretch_take s k 36 (12 * n) (omega arith)) behind.guarded

      whole_more : k < whole s n → reading p limits ≡ more
      unfolding variable_lines size_lines
      whole_more h =
          answer_is
          ∙ rw (
            behind.short,
            le-ltb (length p) (headers n) (rw length_is past),
            variable_too,
            same_large,
            behind.sizes,
            whole_is,
            behind.within,
            lt-ltb (length p) (whole s n) (rw length_is h),
          )

    more_is : k < whole s n → reading p limits ≡ more
    more_is h = ⊎_elim (λ (past : headers n ≤ k). whole_more past h) (λ (short : k < headers n). headers_more short) (le_or_gt (headers n) k)

module _ (m : Message) (limits : Limits) (k : ℕ) (ok : Valid m) (held : Held m limits) (h : k < wire_size m) where
  abbrev whole_packet : List ℕ
  whole_packet = wire m ++ []

  all_there : length whole_packet ≡ wire_size m
  all_there = ap length (append-nil (wire m)) ∙ length_packet m.type m.flags m.id m.parts

  past_fixed : fixed_header_size ≤ k → reading (take k whole_packet) limits ≡ more
  unfolding packet_size
  past_fixed long = by_header (has_variable_header m.type (length m.parts)) refl
    where
      by_header : (b : Bool) → has_variable_header m.type (length m.parts) ≡ b → reading (take k whole_packet) limits ≡ more
      by_header false e =
          let bare : wire_size m ≡ fixed_header_size = rw e in
          absurd (omega arith)
      by_header true e =
          more_is whole_packet (count whole_packet) limits k (omega (arith, all_there)) refl
          (before_of whole_packet limits (fixed_ok m [] ok limits held.current held.counted)) long
          (rw (is_type m [] ok, is_count m [] ok) e)
          (behind_of whole_packet limits (count whole_packet) (rw (is_count m [] ok) (variable_ok m [] ok e limits (held.within e) held.roomy)))
          (rw (is_count m [] ok, is_whole m [] ok e) h)

  prefix_more : reading (take k whole_packet) limits ≡ more
  prefix_more =
      ⊎_elim past_fixed
      (λ (short : k < fixed_header_size). short_more (take k whole_packet) limits (omega (arith, length-take k whole_packet)))
      (le_or_gt fixed_header_size k)

-- Each strict prefix of a written packet asks for more, so a packet that arrives in pieces is neither refused nor taken
-- early.
pub strict_prefix : StrictPrefix
strict_prefix m limits k ok held h =
    ap (λ (l : List ℕ). reading (take k l) limits) (sym (append-nil (wire m))) ∙ prefix_more m limits k ok held h
