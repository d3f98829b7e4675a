-- Writing a packet and reading it: what comes back. Assumes nothing.
use mathlib.Core.Path.{◌≡◌, refl, sym, ◌∙◌, ap}
use mathlib.Core.Bool.{Bool, true, false, or-true}
use mathlib.Core.List.{List, [], ◌∷◌, ◌++◌, append_assoc}
use mathlib.Core.Logic.{inr}
use Prim.Native.Nat.{ℕ, zero, suc, ◌+◌, ◌*◌, ◌<◌, ◌≤◌}
use native.Mathlib.Nat.{add-zero, add_assoc, le-min}
use native.Mathlib.Omega.{arith}
use borrow.Author.Tests.{ne_eqb, lt-ltb}
use lib.ListN.{length, get_or, take, drop, length-append}
use lib.Seq.{take_at, drop_at, drop-drop, take-suc, take-length}
use Rattle.words.proofs.WordLaws.{length_bytes_of}
use Rattle.words.specs.Word.{word, bytes_of}
use Rattle.words.specs.Decide.{pick, ◌=?◌}
use Rattle.crc64.specs.Polynomial.{checksum}
use Rattle.guid.specs.Guid.{wire_bytes}
use Rattle.packet.specs.Mode.{is_retired}
use Rattle.packet_read.specs.Reading.{Limits}
use Rattle.packet.specs.Layout.{packet_signature, null_size, largest_part, has_variable_header, headers, signature, type, flags, count, fixed_sum, fields, size, taken, taken_before, part_sum, variable, variable_sum, whole, part}
use Rattle.packet.specs.Wire.{Part, null, bytes, size_word, sum_word, content, sizes, sums, contents, sealed, fixed_fields, body, packet_bytes, packet_size}
use Rattle.promises.specs.Acceptance.{FixedHeader, VariableHeader, Acceptable, consumed}
use Rattle.promises.specs.RoundTrip.{Message, wire, wire_size, fields_for, Valid, Held, ReadsPart, RoundTrip}
use Rattle.promises.proofs.Acceptance.{acceptance}
use Rattle.packet_write.proofs.PieceLaws.{length_fixed, length_sealed, length_sizes, length_sums, length_packet}
use Rattle.promises.proofs.Written.{word_front, word_next, word_past_front, checksum_fits, sizes_at, sums_at, contents_at}

module _ (m : Message) (tail : List ℕ) where
  abbrev s : List ℕ
  s = wire m ++ tail

  abbrev n : ℕ
  n = length m.parts

  abbrev fixed : List ℕ
  fixed = fixed_fields m.type m.flags m.id n

  abbrev rest : List ℕ
  rest = pick (has_variable_header m.type n) (body m.parts) [] ++ tail

  -- the fixed header, word by word
  abbrev words : List ℕ
  words =
      bytes_of 4 packet_signature
      ++ (bytes_of 2 m.type ++ (bytes_of 2 m.flags ++ (bytes_of 4 m.id.w0 ++ (bytes_of 4 m.id.w1 ++ (bytes_of 4 m.id.w2 ++ (bytes_of 4 m.id.w3 ++ (bytes_of 4 n ++ (bytes_of 8 (checksum fixed) ++ rest))))))))

  by_words : s ≡ words
  unfolding packet_bytes sealed fixed_fields wire_bytes
  by_words = simp append_assoc

  by_fixed : s ≡ fixed ++ (bytes_of 8 (checksum fixed) ++ rest)
  unfolding packet_bytes sealed
  by_fixed = simp append_assoc

  by_header : s ≡ sealed fixed ++ rest
  unfolding packet_bytes
  by_header = append_assoc (sealed fixed) (pick (has_variable_header m.type n) (body m.parts) []) tail

  at : (k off : ℕ) → word k s off ≡ word k words off
  at k off = ap (λ (l : List ℕ). word k l off) by_words

  module _ (ok : Valid m) where
    is_signature : signature s ≡ packet_signature
    is_signature = at 4 0 ∙ word_front 4 packet_signature _ (omega arith)

    pub is_type : type s ≡ m.type
    is_type = at 2 4 ∙ word_next 2 4 _ 0 _ ∙ word_front 2 m.type _ (omega (arith, ok.known))

    is_flags : flags s ≡ m.flags
    is_flags = at 2 6 ∙ word_next 2 4 _ 2 _ ∙ word_next 2 2 _ 0 _ ∙ word_front 2 m.flags _ ok.flags_fit

    is_w0 : word 4 s 8 ≡ m.id.w0
    is_w0 = at 4 8 ∙ word_next 4 4 _ 4 _ ∙ word_next 4 2 _ 2 _ ∙ word_next 4 2 _ 0 _ ∙ word_front 4 m.id.w0 _ ok.id_fits.fits0

    is_w1 : word 4 s 12 ≡ m.id.w1
    is_w1 = at 4 12 ∙ word_next 4 4 _ 8 _ ∙ word_next 4 2 _ 6 _ ∙ word_next 4 2 _ 4 _ ∙ word_next 4 4 _ 0 _ ∙ word_front 4 m.id.w1 _ ok.id_fits.fits1

    is_w2 : word 4 s 16 ≡ m.id.w2
    is_w2 = at 4 16 ∙ word_next 4 4 _ 12 _ ∙ word_next 4 2 _ 10 _ ∙ word_next 4 2 _ 8 _ ∙ word_next 4 4 _ 4 _ ∙ word_next 4 4 _ 0 _ ∙ word_front 4 m.id.w2 _ ok.id_fits.fits2

    is_w3 : word 4 s 20 ≡ m.id.w3
    is_w3 =
        at 4 20 ∙ word_next 4 4 _ 16 _ ∙ word_next 4 2 _ 14 _ ∙ word_next 4 2 _ 12 _ ∙ word_next 4 4 _ 8 _ ∙ word_next 4 4 _ 4 _ ∙ word_next 4 4 _ 0 _
        ∙ word_front 4 m.id.w3 _ ok.id_fits.fits3

    pub is_count : count s ≡ n
    is_count =
        at 4 24 ∙ word_next 4 4 _ 20 _ ∙ word_next 4 2 _ 18 _ ∙ word_next 4 2 _ 16 _ ∙ word_next 4 4 _ 12 _ ∙ word_next 4 4 _ 8 _ ∙ word_next 4 4 _ 4 _ ∙ word_next 4 4 _ 0 _
        ∙ word_front 4 n _ (omega (arith, ok.few))

    fixed_long : length fixed ≡ 28
    fixed_long = length_fixed m.type m.flags m.id n

    is_fixed : take 28 s ≡ fixed
    is_fixed = ap (take 28) by_fixed ∙ take_at fixed _ 28 fixed_long

    is_fixed_sum : fixed_sum s ≡ checksum fixed
    is_fixed_sum = ap (λ (l : List ℕ). word 8 l 28) by_fixed ∙ word_past_front 8 28 0 fixed _ fixed_long ∙ word_front 8 (checksum fixed) _ (checksum_fits fixed)

    header_long : length (sealed fixed) ≡ 36
    header_long = length_sealed fixed ∙ ap (λ (k : ℕ). k + 8) fixed_long

    fields_are : fields s ≡ fields_for m
    fields_are = rw (is_type, is_flags, is_w0, is_w1, is_w2, is_w3, is_count)

    -- with a variable header
    module _ (with-header : has_variable_header m.type n ≡ true) where
      abbrev ps : List Part
      ps = m.parts

      abbrev sheet : List ℕ
      sheet = sizes ps ++ sums ps

      abbrev behind : List ℕ
      behind = bytes_of 8 (checksum sheet) ++ (contents ps ++ tail)

      rest_is : rest ≡ sheet ++ behind
      unfolding body sealed
      rest_is = rw with-header (simp append_assoc)

      by_sheet : s ≡ sealed fixed ++ (sheet ++ behind)
      by_sheet = by_header ∙ ap (λ (l : List ℕ). sealed fixed ++ l) rest_is

      past_header : (k off : ℕ) → word k s (36 + off) ≡ word k (sheet ++ behind) off
      past_header k off = ap (λ (l : List ℕ). word k l (36 + off)) by_sheet ∙ word_past_front k 36 off (sealed fixed) (sheet ++ behind) header_long

      sheet_long : length sheet ≡ 12 * n
      sheet_long = length-append (sizes ps) (sums ps) ∙ rw (length_sizes ps, length_sums ps) (omega arith)

      is_variable : variable s n ≡ sheet
      is_variable =
          ap (λ (l : List ℕ). take (12 * n) (drop 36 l)) by_sheet ∙ ap (take (12 * n)) (drop_at (sealed fixed) (sheet ++ behind) 36 header_long)
          ∙ take_at sheet behind (12 * n) sheet_long

      is_variable_sum : variable_sum s n ≡ checksum sheet
      is_variable_sum =
          past_header 8 (12 * n) ∙ ap (word 8 (sheet ++ behind)) (sym (add-zero (12 * n))) ∙ word_past_front 8 (12 * n) 0 sheet behind sheet_long
          ∙ word_front 8 (checksum sheet) _ (checksum_fits sheet)

      is_size : (i : ℕ) → i < n → size s i ≡ size_word (get_or ps i null)
      is_size i h =
          past_header 4 (4 * i) ∙ ap (λ (l : List ℕ). word 4 l (4 * i)) (append_assoc (sizes ps) (sums ps) behind) ∙ sizes_at ps (sums ps ++ behind) i h (ok.small i h)

      pub is_sum : (i : ℕ) → i < n → part_sum s n i ≡ sum_word (get_or ps i null)
      is_sum i h =
          ap (word 8 s) (add_assoc 36 (4 * n) (8 * i)) ∙ past_header 8 (4 * n + 8 * i) ∙ ap (λ (l : List ℕ). word 8 l (4 * n + 8 * i)) (append_assoc (sizes ps) (sums ps) behind)
          ∙ word_past_front 8 (4 * n) (8 * i) (sizes ps) (sums ps ++ behind) (length_sizes ps) ∙ sums_at ps behind i h

      -- what a part takes is what it holds
      takes : (p : Part) → length (content p) ≤ largest_part → pick (size_word p =? null_size) 0 (size_word p) ≡ length (content p)
      takes null h = refl
      takes (bytes b) h = rw (ne_eqb (length b) null_size (λ (e : length b ≡ null_size). omega arith))

      is_taken_lem : (i : ℕ) → i < n → taken s i ≡ length (content (get_or ps i null))
      is_taken_lem i h = ap (λ (w : ℕ). pick (w =? null_size) 0 w) (is_size i h) ∙ takes (get_or ps i null) (ok.small i h)

      contents_append : (a b : List Part) → contents (a ++ b) ≡ contents a ++ contents b
      unfolding contents
      contents_append [] b = refl
      contents_append (p ∷ a) b = ap (λ (l : List ℕ). content p ++ l) (contents_append a b) ∙ sym (append_assoc (content p) (contents a) (contents b))

      is_before : (i : ℕ) → i ≤ n → taken_before s i ≡ length (contents (take i ps))
      unfolding taken_before contents
      is_before zero h = refl
      is_before (suc i) h =
          rw (is_before i (omega arith), is_taken_lem i h, take-suc ps i null h, contents_append (take i ps) (get_or ps i null ∷ []), length-append (contents (take i ps)) (content (get_or ps i null) ++ []), length-append (content (get_or ps i null)) [])
          (omega arith)

      abbrev front : List ℕ
      front = sealed fixed ++ (sheet ++ bytes_of 8 (checksum sheet))

      front_long : length front ≡ headers n
      front_long =
          length-append (sealed fixed) (sheet ++ bytes_of 8 (checksum sheet))
          ∙ rw (header_long, length-append sheet (bytes_of 8 (checksum sheet)), sheet_long, length_bytes_of 8 (checksum sheet)) (omega arith)

      by_front : s ≡ front ++ (contents ps ++ tail)
      by_front = by_sheet ∙ simp append_assoc

      body_there : drop (headers n) s ≡ contents ps ++ tail
      body_there = ap (drop (headers n)) by_front ∙ drop_at front (contents ps ++ tail) (headers n) front_long

      is_part : (i : ℕ) → i < n → part s n i ≡ content (get_or ps i null)
      is_part i h =
          ap (λ (k : ℕ). take k (drop (headers n + taken_before s i) s)) (is_taken_lem i h)
          ∙ ap (λ (c : ℕ). take (length (content (get_or ps i null))) (drop (headers n + c) s)) (is_before i (omega arith))
          ∙ ap (take (length (content (get_or ps i null)))) (sym (drop-drop (length (contents (take i ps))) (headers n) s) ∙ ap (drop (length (contents (take i ps)))) body_there)
          ∙ contents_at ps tail i h

      pub is_whole : whole s n ≡ wire_size m
      unfolding packet_size
      is_whole = rw with-header (ap (λ (c : ℕ). headers n + c) (is_before n (omega arith) ∙ ap (λ (l : List Part). length (contents l)) (take-length ps)))

      reads_part : (i : ℕ) → i < n → ReadsPart s n i (get_or ps i null)
      reads_part i h = told (get_or ps i null) (is_size i h) (is_part i h)
        where
          told : (p : Part) → size s i ≡ size_word p → part s n i ≡ content p → ReadsPart s n i p
          told null is there = is
          told (bytes b) is there = (is, there)

      pub variable_ok : (limits : Limits) → wire_size m ≤ limits.bytes → n ≤ limits.room → VariableHeader s n limits
      variable_ok limits within roomy =
          record {
            short = omega (arith, is_whole);
            headers_there = omega (arith, there);
            guarded = inr (is_variable_sum ∙ ap checksum (sym is_variable));
            sizes = λ i h some. omega (arith, small_size i h some);
            within = rw is_whole within;
            there = there;
            parts = λ i h some. inr (is_sum i h ∙ sum_is (get_or ps i null) (λ (e : get_or ps i null ≡ null). some (is_size i h ∙ ap size_word e)) ∙ ap checksum (sym (is_part i h)));
            roomy = roomy;
          }
        where
          there : whole s n ≤ length s
          there = rw (is_whole, length-append (wire m) tail, length_packet m.type m.flags m.id ps) (omega arith)

          small_size : (i : ℕ) → i < n → (size s i ≡ null_size → ⊥) → size s i ≤ largest_part
          small_size i h some = rw (is_size i h) (of (get_or ps i null) (λ (e : get_or ps i null ≡ null). some (is_size i h ∙ ap size_word e)) (ok.small i h))
            where
              of : (p : Part) → (p ≡ null → ⊥) → length (content p) ≤ largest_part → size_word p ≤ largest_part
              of null some small = absurd (some refl)
              of (bytes b) some small = small

          sum_is : (p : Part) → (p ≡ null → ⊥) → sum_word p ≡ checksum (content p)
          sum_is null some = absurd (some refl)
          sum_is (bytes b) some = refl

    pub fixed_ok : (limits : Limits) → is_retired limits.mode m.type ≡ false → n ≤ limits.parts → FixedHeader s limits
    fixed_ok limits current counted =
        record {
          there = rw (by_header, length-append (sealed fixed) rest, header_long) (omega arith);
          signed = is_signature;
          known = rw is_type ok.known;
          current = rw is_type current;
          guarded = inr (is_fixed_sum ∙ ap checksum (sym is_fixed));
          few = rw is_count (le-min ok.few counted);
        }

    same_header : has_variable_header (type s) (count s) ≡ has_variable_header m.type n
    same_header = rw (is_type, is_count)

    acceptable : (limits : Limits) → Held m limits → Acceptable s limits
    acceptable limits held = (
      fixed_ok limits held.current held.counted,
      (λ h. let there : has_variable_header m.type n ≡ true = sym same_header ∙ h in
          rw is_count (variable_ok there limits (held.within there) held.roomy)),
    )

    consumed_is : consumed s ≡ wire_size m
    unfolding packet_size
    consumed_is = by_case (has_variable_header m.type n) refl
      where
        by_case : (b : Bool) → has_variable_header m.type n ≡ b → consumed s ≡ wire_size m
        by_case true e = rw (same_header, e, is_count) (rw e at (is_whole e))
        by_case false e = rw (same_header, e)

-- Writing a valid packet and reading it with any tail, under limits and room that hold it, gives back its type, flags,
-- id, nulls and part bytes, and consumes exactly its bytes.
pub round_trip : RoundTrip
round_trip m limits tail ok held = (
  (acceptance (wire m ++ tail) limits).0 (acceptable m tail ok limits held)
      ∙ rw (consumed_is m tail ok, fields_are m tail ok),
  (λ i h. reads_part m tail ok (rw (lt-ltb 0 (length m.parts) (omega arith)) (or-true (m.type =? 0))) i h),
)
