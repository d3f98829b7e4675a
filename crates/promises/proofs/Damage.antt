-- Demand 3: damage is named. Each stretch rests on the law of 64 bits; the lines of the order before it see the same bytes
-- as in the input that was accepted. Assumes nothing.
use mathlib.Core.Path.{◌≡◌, refl, sym, ◌∙◌, ap, subst}
use mathlib.Core.Bool.{Bool, true, false, not, ◌&&◌, or-true}
use mathlib.Core.List.{List, [], ◌∷◌}
use mathlib.Core.Logic.{⊎_elim, inl, inr}
use Prim.Native.Nat.{ℕ, zero, suc, ◌+◌, ◌-◌, ◌*◌, ◌/◌, ◌<◌, ◌≤◌}
use native.Mathlib.Nat.{zero-add, le_refl}
use native.Mathlib.Omega.{arith}
use borrow.Author.Tests.{lt-ltb, ne_eqb}
use lib.ListN.{length}
use Rattle.words.specs.Word.{word}
use Rattle.words.specs.Answer.{Answer, accepted, refuse, NotTaken}
use Rattle.words.specs.Buffer.{stretch}
use Rattle.words.specs.Decide.{pick, ◌=?◌, ◌≠?◌, ◌<?◌}
use Rattle.words.proofs.DecideLaws.{first_at, first_same}
use Rattle.crc64.specs.Polynomial.{checksum}
use Rattle.crc64.specs.Damage.{Damaged}
use Rattle.packet.specs.Layout.{packet_signature, null_size, largest_part, last_type, fixed_fields_size, fixed_header_size, has_variable_header, headers, signature, type, count, fixed_sum, fixed_fields, size, is_null, taken, taken_before, part_sum, variable, variable_sum, start, whole, part}
use Rattle.packet.specs.declared.Mode.{Mode}
use Rattle.packet.specs.Mode.{is_retired}
use Rattle.packet_answer.specs.Paper.{paper}
use Rattle.packet.specs.Paper.{fields_of}
use Rattle.promises.proofs.TablesKeep.{packet_tables_keep}
use Rattle.packet.specs.Entries.{entry_words}
use Rattle.packet_read.specs.Statement.{Decodes, default_ceiling}
use Rattle.packet_read.specs.Reading.{Limits, limited, fails, too_large, part_fails, first_too_large, first_failing, fixed_lines, variable_lines, size_lines, part_lines, reading}
use Rattle.packet_read.proofs.SizeLaws.{taken_below}
use Rattle.promises.specs.Damage.{Stretch, fixed_header, variable_header, part_at, from, long, Names, Confined, Hit, HitInBytes, ConfinedIsNamed, DamageIsNamed, BytesAreNamed, DecodeWithNamesDamage, DecodeNamesDamage}
use Rattle.promises.proofs.Agreement.{same_word, same_stretch, damaged_stretch, damaged_within, bytes_stretch}
use Rattle.promises.proofs.BitRuns.{bits_64_seen, bytes_are_bits}
use Rattle.promises.proofs.Acceptance.{guards, present, none_of, not_null, passed_before, passed_behind}
use Rattle.packet_read.proofs.Lines.{Before, Behind, front, rest, reading_is, pass_before}

-- a word that guarded one stretch fails another of another checksum
broken : (word : ℕ) (a b : List ℕ) → (word ≡ 0 → ⊥) → fails word a ≡ false → (checksum a ≡ checksum b → ⊥) → fails word b ≡ true
broken word a b kept passed other =
    ⊎_elim (λ (zero : word ≡ 0). absurd (kept zero))
    (λ (same : word ≡ checksum a). rw (ne_eqb word 0 kept, ne_eqb word (checksum b) (λ e. other (sym same ∙ e))))
    (guards word a passed)

module _ (s t : List ℕ) (limits : Limits) {at run : ℕ} (damaged : Damaged at run s t) where
  -- a stretch that holds the run has another checksum
  abbrev Changed : ℕ → ℕ → Type 0
  Changed from long = checksum (stretch s from long) ≡ checksum (stretch t from long) → ⊥

  module _ (before : Before s (count s) limits) where
    -- bytes 0 to 27
    fixed_named : (fixed_sum s ≡ 0 → ⊥) → at + run ≤ fixed_fields_size → Changed 0 fixed_fields_size → Names t limits.mode fixed_header (reading t limits)
    unfolding fixed_lines
    fixed_named kept high changed = reading_is t (count t) limits refl ∙ by_signature (signature t ≠? packet_signature) refl
      where
        long_enough : (length t <? fixed_header_size) ≡ false
        long_enough = rw (← damaged.same_length) before.there

        word_is : fixed_sum s ≡ fixed_sum t
        word_is = same_word damaged 8 fixed_fields_size (inr high)

        failed : fails (fixed_sum t) (fixed_fields t) ≡ true
        failed = rw (← word_is) (broken (fixed_sum s) (fixed_fields s) (fixed_fields t) kept before.guarded changed)

        by_retired : (b : Bool) → (signature t ≠? packet_signature) ≡ false → (last_type <? type t) ≡ false → is_retired limits.mode (type t) ≡ b
            → Names t limits.mode fixed_header (front t (count t) limits (rest t (count t) limits))
        by_retired true e₁ e₂ e₃ = rw (long_enough, e₁, e₂, e₃)
        by_retired false e₁ e₂ e₃ = rw (long_enough, e₁, e₂, e₃, failed)

        by_type : (b : Bool) → (signature t ≠? packet_signature) ≡ false → (last_type <? type t) ≡ b → Names t limits.mode fixed_header (front t (count t) limits (rest t (count t) limits))
        by_type true e₁ e₂ = rw (long_enough, e₁, e₂)
        by_type false e₁ e₂ = by_retired (is_retired limits.mode (type t)) e₁ e₂ refl

        by_signature : (b : Bool) → (signature t ≠? packet_signature) ≡ b → Names t limits.mode fixed_header (front t (count t) limits (rest t (count t) limits))
        by_signature true e = rw (long_enough, e)
        by_signature false e = by_type (last_type <? type t) e refl

    -- where the run lies behind the fixed header, that header is read as before
    module _ (behind_fixed : 36 ≤ at) where
      same_count : count s ≡ count t
      same_count = same_word damaged 4 24 (inl (omega arith))

      same_type : type s ≡ type t
      same_type = same_word damaged 2 4 (inl (omega arith))

      before_too : Before t (count s) limits
      before_too =
          record {
            there = rw (← damaged.same_length) before.there;
            signed = rw (← same_word damaged 4 0 (inl (omega arith))) before.signed;
            known = rw (← same_type) before.known;
            current = rw (← same_type) before.current;
            guarded = rw (← same_word damaged 8 28 (inl (omega arith)), ← same_stretch damaged 0 28 (inl (omega arith))) before.guarded;
            few = before.few;
          }

      module _ (with-header : has_variable_header (type s) (count s) ≡ true) (behind : Behind s (count s) limits) where
        abbrev n : ℕ
        n = count s

        header_too : has_variable_header (type t) n ≡ true
        header_too = rw (← same_type) with-header

        -- the reader's answer to t, past the fixed header
        answer_is : reading t limits ≡ rest t n limits
        answer_is = reading_is t n limits (sym same_count) ∙ pass_before t n limits before_too (rest t n limits) header_too

        length_too : (m : ℕ) → (length s <? m) ≡ false → (length t <? m) ≡ false
        length_too m e = rw (← damaged.same_length) e

        -- bytes 36 to 36 + 12n
        variable_named : (variable_sum s n ≡ 0 → ⊥) → at + run ≤ 36 + 12 * n → Changed 36 (12 * n) → Names t limits.mode variable_header (reading t limits)
        unfolding variable_lines
        variable_named kept high changed = rw (← same_count) (answer_is ∙ rw (behind.short, length_too (headers n) behind.headers_there, failed))
          where
            word_is : variable_sum s n ≡ variable_sum t n
            word_is = same_word damaged 8 (36 + 12 * n) (inr high)

            failed : fails (variable_sum t n) (variable t n) ≡ true
            failed = rw (← word_is) (broken (variable_sum s n) (variable s n) (variable t n) kept behind.guarded changed)

        -- where it lies behind the variable header, that is read as before too
        module _ (behind-headers : headers n ≤ at) where
          same_size : (i : ℕ) → i < n → size s i ≡ size t i
          same_size i h = same_word damaged 4 (36 + 4 * i) (inl (omega arith))

          same_taken : (i : ℕ) → i ≤ n → taken_before s i ≡ taken_before t i
          unfolding taken_before
          same_taken zero h = refl
          same_taken (suc i) h = rw (same_taken i (omega arith), same_size i (omega arith))

          same_sum : (i : ℕ) → i < n → part_sum s n i ≡ part_sum t n i
          same_sum i h = same_word damaged 8 (36 + 4 * n + 8 * i) (inl (omega arith))

          same_large : first_too_large s n ≡ first_too_large t n
          same_large = first_same (too_large s) (too_large t) 0 n (λ k low high. ap (λ (w : ℕ). not (w =? null_size) && largest_part <? w) (same_size k (omega (arith, zero-add n))))

          module _ (i : ℕ) (below : i < n) (some : size s i ≡ null_size → ⊥) (kept : part_sum s n i ≡ 0 → ⊥)
              (low : start s n i ≤ at) (changed : Changed (start s n i) (taken s i)) where
            -- part k is looked for where it stood
            part_there : (k : ℕ) → k < n → part t n k ≡ stretch t (start s n k) (taken s k)
            part_there k h =
                ap (λ (w : ℕ). stretch t (headers n + w) (taken t k)) (sym (same_taken k (omega arith)))
                ∙ ap (λ (w : ℕ). stretch t (start s n k) (pick (w =? null_size) 0 w)) (sym (same_size k h))

            -- an earlier part lies before the run
            same_part : (k : ℕ) → k < i → part s n k ≡ part t n k
            same_part k h =
                same_stretch damaged (start s n k) (taken s k) (inl (omega (arith, taken_below s k i h))) ∙ sym (part_there k (omega arith))

            none : (k : ℕ) → k < n → part_fails s n k ≡ false
            none k h = none_of s n (part_fails s n) behind.parts k h

            earlier : (k : ℕ) → k < i → part_fails t n k ≡ false
            earlier k h = sym (failing_same k (omega arith) (same_part k h)) ∙ none k (omega arith)
              where
                failing_same : (k : ℕ) → k < n → part s n k ≡ part t n k → part_fails s n k ≡ part_fails t n k
                failing_same k h same =
                    ap (λ (w : ℕ). not (w =? null_size) && fails (part_sum s n k) (part s n k)) (same_size k h)
                    ∙ ap (λ (w : ℕ). not (is_null t k) && fails w (part s n k)) (same_sum k h)
                    ∙ ap (λ (b : List ℕ). not (is_null t k) && fails (part_sum t n k) b) same

            failed : part_fails t n i ≡ true
            failed =
                ap (λ (b : List ℕ). not (is_null t i) && fails (part_sum t n i) b) (part_there i below)
                ∙ ap (λ (w : ℕ). not (is_null t i) && fails w (stretch t (start s n i) (taken s i))) (sym (same_sum i below))
                ∙ ap (λ (w : ℕ). not (w =? null_size) && fails (part_sum s n i) (stretch t (start s n i) (taken s i))) (sym (same_size i below))
                ∙ ap (λ (b : Bool). not b && fails (part_sum s n i) (stretch t (start s n i) (taken s i))) (ne_eqb (size s i) null_size some)
                ∙ broken (part_sum s n i) (part s n i) (stretch t (start s n i) (taken s i)) kept
                (present (is_null s i) (fails (part_sum s n i) (part s n i)) (not_null s n i some) (none i below))
                changed

            first_is : first_failing t n ≡ i
            first_is = first_at (part_fails t n) n i below earlier failed

            variable_too : fails (variable_sum t n) (variable t n) ≡ false
            variable_too = rw (← same_word damaged 8 (36 + 12 * n) (inl (omega arith)), ← same_stretch damaged 36 (12 * n) (inl (omega arith))) behind.guarded

            whole_too : whole s n ≡ whole t n
            whole_too = ap (λ (w : ℕ). headers n + w) (same_taken n (omega arith))

            part_named : Names t limits.mode (part_at i) (reading t limits)
            unfolding variable_lines size_lines part_lines
            part_named =
                rw (← same_count)
                (answer_is
                ∙ rw (
                  behind.short,
                  length_too (headers n) behind.headers_there,
                  variable_too,
                  ← same_large,
                  behind.sizes,
                  ← whole_too,
                  behind.within,
                  length_too (whole s n) behind.there,
                  first_is,
                  lt-ltb i n below,
                ))

-- a packet with parts has a variable header
counted_header : (s : List ℕ) (i : ℕ) → i < count s → has_variable_header (type s) (count s) ≡ true
counted_header s i h = rw (lt-ltb 0 (count s) (omega arith)) (or-true (type s =? 0))

reading_names : (s t : List ℕ) (limits : Limits) (n : ℕ) (f : List ℕ) (part : Stretch) (at run : ℕ)
    → reading s limits ≡ accepted n f → Confined s t part at run → Names t limits.mode part (reading t limits)
reading_names s t limits n f fixed_header at run e c =
    fixed_named s t limits c.inside.damaged (passed_before s limits n f e) c.guarded (rw (zero-add fixed_fields_size) at c.inside.ends) c.changed
reading_names s t limits n f variable_header at run e c =
    variable_named s t limits c.inside.damaged (passed_before s limits n f e) c.inside.starts c.inside.has
    (passed_behind s limits n f e c.inside.has)
    c.guarded
    c.inside.ends
    c.changed
reading_names s t limits n f (part_at i) at run e c =
    let low : start s (count s) i ≤ at = c.inside.starts in
    let there : has_variable_header (type s) (count s) ≡ true = counted_header s i c.inside.has.0 in
    part_named s t limits c.inside.damaged (passed_before s limits n f e) (omega arith) there (passed_behind s limits n f e there) (omega arith) i
    c.inside.has.0
    c.inside.has.1
    c.guarded
    low
    c.changed

-- an answer that names a stretch is no acceptance
pub not_taken : (t : List ℕ) (mode : Mode) (part : Stretch) (a : Answer) → Names t mode part a → NotTaken a
not_taken t mode fixed_header a named = rw named (by_tests (signature t ≠? packet_signature) (last_type <? type t) (is_retired mode (type t)))
  where
    by_tests : (unsigned unknown retired : Bool)
        → NotTaken (pick unsigned (refuse 1 (signature t ∷ [])) (pick unknown (refuse 2 (type t ∷ [])) (pick retired (refuse 24 (type t ∷ [])) (refuse 5 (fixed_sum t ∷ checksum (fixed_fields t) ∷ [])))))
    by_tests true unknown retired = tt
    by_tests false true retired = tt
    by_tests false false true = tt
    by_tests false false false = tt
not_taken t mode variable_header a named = rw named tt
not_taken t mode (part_at i) a named = rw named tt

-- Damage that is confined to one checksummed stretch whose stored word is not 0, and that changed its checksum, is
-- named, and the lent table is left as it was.
pub confined_is_named : ConfinedIsNamed
confined_is_named s t limits table lent packet consumed filled r after part at run taken hit told =
    let named : Names t limits.mode part (paper r) = rw told.answer (reading_names s t limits consumed (fields_of packet) part at run (sym taken.answer) hit) in
    (named, (packet_tables_keep t limits lent r after told).0 (not_taken t limits.mode part (paper r) named))

-- Demand 3: damage is named. An accepted packet, damaged only inside one run of at most 64 bits of one checksummed
-- stretch whose stored word is not 0, is refused by that stretch's checksum (or by 1 or 2, where its signature or type
-- is none any more, or in live mode by 24, where its type is now a retired one): an altered term does not pass for another term.
pub damage_is_named : DamageIsNamed
damage_is_named s t limits table lent packet consumed filled r after part at run taken hit =
    confined_is_named s t limits table lent packet consumed filled r after part (from s part) (long s part) taken
    (record {
      guarded = hit.guarded;
      inside = hit.inside;
      changed =
          bits_64_seen (stretch s (from s part) (long s part)) (stretch t (from s part) (long s part)) at run _ _
          (bytes_stretch (from s part) (long s part) s hit.bytes_before_lem)
          (bytes_stretch (from s part) (long s part) t hit.bytes_after)
          hit.few
          hit.flipped
          refl
          refl;
    })

-- a run of at most eight bytes in a stretch is a run of eight times as many of its bits
pub bytes_hit : (s t : List ℕ) (part : Stretch) (at run : ℕ) → HitInBytes s t part at run
    → Hit s t part (8 * (at - from s part)) (8 * run)
bytes_hit s t part at run hit =
    let within = hit.inside in
    record {
      bytes_before_lem = hit.bytes_before_lem;
      bytes_after = hit.bytes_after;
      few = omega (arith, hit.few);
      guarded = hit.guarded;
      inside =
          record {
            has = within.has;
            starts = le_refl (from s part);
            ends = le_refl (from s part + long s part);
            damaged = damaged_within within.damaged (from s part) (long s part) within.starts within.ends;
          };
      flipped =
          bytes_are_bits (stretch s (from s part) (long s part)) (stretch t (from s part) (long s part)) (at - from s part) run
          (bytes_stretch (from s part) (long s part) s hit.bytes_before_lem)
          (bytes_stretch (from s part) (long s part) t hit.bytes_after)
          (damaged_stretch within.damaged (from s part) (long s part) within.starts within.ends);
    }

-- The same in bytes, at most eight of them.
pub bytes_are_named : BytesAreNamed
bytes_are_named s t limits table lent packet consumed filled r after part at run taken hit =
    damage_is_named s t limits table lent packet consumed filled r after part (8 * (at - from s part)) (8 * run) taken (bytes_hit s t part at run hit)

-- Of a call of `decode_with`, and of one of `decode`: tables of one length have one room.
pub decode_with_names_damage : DecodeWithNamesDamage
decode_with_names_damage mode ceiling s t limit table lent packet consumed filled r after part at run even taken hit told =
    damage_is_named s t (limited mode limit ceiling table) table lent packet consumed filled r after part at run taken hit
    (subst (λ (n : ℕ). Decodes t (record { mode = mode; bytes = limit; parts = ceiling; room = n / entry_words }) lent r after) (sym even) told)

pub decode_names_damage : DecodeNamesDamage
decode_names_damage mode = decode_with_names_damage mode default_ceiling
