-- Live mode answers as archive mode does, but for 24. Each result follows from the answer that its statement fixes, since a
-- statement has one result. Assumes nothing.
use Rattle.std.specs.declared.result.Result.TheVariants.{Err}
use mathlib.Core.Path.{◌≡◌, refl, sym, ◌∙◌, ap}
use mathlib.Core.Bool.{Bool, true, false, ◌&&◌, true≢false}
use mathlib.Core.List.{List, [], ◌∷◌}
use Prim.Native.Nat.{ℕ, ◌%◌}
use native.Mathlib.Nat.{zero-add}
use native.Mathlib.Omega.{arith}
use borrow.Author.Tests.{le-ltb, eq-eqb, ltb-false, eqb-true, not-false}
use lib.ListN.{length}
use Rattle.words.specs.Answer.{Answer, accepted, more, refused, refuse, afterwards}
use Rattle.words.specs.Decide.{Line, ◌⇒◌, decide, ◌=?◌, ◌≠?◌, ◌<?◌}
use Rattle.words.specs.Note.{answers}
use Rattle.words.proofs.DecideLaws.{decide_append, first_none, first_all}
use Rattle.packet.specs.declared.Mode.{Mode}
use Rattle.packet.specs.declared.Mode.TheVariants.{Archive, Live}
use Rattle.packet.specs.declared.PacketType.{PacketType}
use Rattle.packet.specs.declared.PacketType.TheVariants.{Message, Ack, SslAck}
use Rattle.packet.specs.declared.PacketError.TheVariants.{RetiredType}
use Rattle.packet.specs.Layout.{packet_signature, fixed_header_size, signature, type, count, fields, whole}
use Rattle.packet.specs.Entries.{entry_words, entries, room, outside_at}
use Rattle.packet.specs.Mode.{retired_type}
use Rattle.packet.specs.Paper.{type_number}
use Rattle.packet.specs.Wire.{packet_size, parts_of}
use Rattle.packet_answer.specs.Paper.{Decoded}
use Rattle.packet_read.specs.Reading.{limited, order, fixed_lines, count_lines, variable_lines, size_lines, part_lines, room_lines, reading}
use Rattle.packet_read.specs.Stages.{through}
use Rattle.packet_read.specs.Statement.{Decodes}
use Rattle.packet_read.proofs.Lines.{rest, reading_is}
use Rattle.packet_read.proofs.Unique.{decode_with_unique}
use Rattle.packet_check.specs.Checks.{first_outside, table_lines, retired_lines, limit_lines, checks, validating, sizing}
use Rattle.packet_check.proofs.Unique.{validate_unique, encoded_size_unique}
use Rattle.packet_write.specs.Paper.{Encoded}
use Rattle.packet_write.specs.Statement.{Encodes, bytes_for}
use Rattle.packet_write.specs.Writing as Writing
use Rattle.packet_write.specs.Writing.{writing}
use Rattle.packet_write.proofs.Unique.{encode_unique}
use Rattle.promises.specs.Live.{Retired, ReadingLiveIsArchiveBut24, RetiredToWrite, WritingLiveIsArchiveBut24, WrittenIsCurrent, NotBy24, ArchiveIsNeverBy24}
use Rattle.promises.proofs.Encoded.{written_current}

-- Reading

module _ (s : List ℕ) where
  retired_answer : (rest : Answer) → Retired s → through (fixed_lines s Live) rest ≡ refuse 24 (retired_type ∷ [])
  unfolding fixed_lines
  retired_answer rest so = rw (le-ltb (length s) fixed_header_size so.there, so.signed, so.retired)

  same_answer : (rest : Answer) → (Retired s → ⊥) → through (fixed_lines s Live) rest ≡ through (fixed_lines s Archive) rest
  unfolding fixed_lines
  same_answer rest other = by_length (length s <? fixed_header_size) refl
    where
      by_type : (b : Bool) → (length s <? fixed_header_size) ≡ false → (signature s ≠? packet_signature) ≡ false → (type s =? retired_type) ≡ b
          → through (fixed_lines s Live) rest ≡ through (fixed_lines s Archive) rest
      by_type true e₁ e₂ e₃ =
          absurd (other (record {
            there = ltb-false (length s) fixed_header_size e₁;
            signed = eqb-true (signature s) packet_signature (not-false (signature s =? packet_signature) e₂);
            retired = eqb-true (type s) retired_type e₃;
          }))
      by_type false e₁ e₂ e₃ = rw e₃

      by_signature : (b : Bool) → (length s <? fixed_header_size) ≡ false → (signature s ≠? packet_signature) ≡ b
          → through (fixed_lines s Live) rest ≡ through (fixed_lines s Archive) rest
      by_signature true e₁ e₂ = rw (e₁, e₂)
      by_signature false e₁ e₂ = by_type (type s =? retired_type) e₁ e₂ refl

      by_length : (b : Bool) → (length s <? fixed_header_size) ≡ b → through (fixed_lines s Live) rest ≡ through (fixed_lines s Archive) rest
      by_length true e = rw e
      by_length false e = by_signature (signature s ≠? packet_signature) e refl

-- The answer of the reader in live mode is that in archive mode, except exactly where 36 bytes are there, the signature
-- is right and the type is 2: there it is 24 (2).
pub reading_live_is_archive_but_24 : ReadingLiveIsArchiveBut24
reading_live_is_archive_but_24 s bytes ceiling table archive live archived after in-archive in-live = (
  λ so.
      let answer : reading s (limited Live bytes ceiling table) ≡ refuse 24 (retired_type ∷ []) =
      reading_is s (count s) (limited Live bytes ceiling table) refl ∙ retired_answer s _ so in
      by_one (Err record { error = RetiredType retired_type; consumed = 0 }) table (record {
        answer = sym answer;
        tables = ap (λ (a : Answer). afterwards a (entries s) table) (sym answer);
      }),
  λ other.
      let same : reading s (limited Live bytes ceiling table) ≡ reading s (limited Archive bytes ceiling table) =
      reading_is s (count s) (limited Live bytes ceiling table) refl ∙ same_answer s _ other ∙ sym (reading_is s (count s) (limited Archive bytes ceiling table) refl) in
      by_one archive archived (record {
        answer = in-archive.answer ∙ sym same;
        tables = in-archive.tables ∙ ap (λ (a : Answer). afterwards a (entries s) table) (sym same);
      }),
)
  where
    by_one : (r : Decoded) (left : List ℕ) → Decodes s (limited Live bytes ceiling table) table r left → (live ≡ r) × (after ≡ left)
    by_one r left told =
        let same = decode_with_unique s (limited Live bytes ceiling table) table (live, after) (r, left) in-live told in
        (ap (λ (x : Decoded × List ℕ). x.0) same, ap (λ (x : Decoded × List ℕ). x.1) same)

-- Writing

module _ (area table : List ℕ) where
  retired_checks : (last : Answer) (t : PacketType) → RetiredToWrite t area table → decide (checks Live (type_number t) area table) last ≡ refuse 24 (retired_type ∷ [])
  unfolding checks table_lines retired_lines limit_lines
  retired_checks last t so =
      rw (
        so.retired,
        so.whole,
        le-ltb (first_outside area table) (room table) (omega (arith, first_all (outside_at area table) 0 (room table) (λ i low high. so.inside i (omega (arith, zero-add (room table)))))),
      )

  same_checks : (last : Answer) (t : PacketType) → (RetiredToWrite t area table → ⊥) → decide (checks Live (type_number t) area table) last ≡ decide (checks Archive (type_number t) area table) last
  unfolding checks table_lines retired_lines limit_lines
  same_checks last Message other = refl
  same_checks last Ack other = refl
  same_checks last SslAck other = by_whole ((length table % entry_words) ≠? 0) refl
    where
      by_inside : (b : Bool) → ((length table % entry_words) ≠? 0) ≡ false → (first_outside area table <? room table) ≡ b
          → decide (checks Live (type_number SslAck) area table) last ≡ decide (checks Archive (type_number SslAck) area table) last
      by_inside true e₁ e₂ = rw (e₁, e₂)
      by_inside false e₁ e₂ =
          absurd (other (record {
            retired = refl;
            whole = eqb-true (length table % entry_words) 0 (not-false ((length table % entry_words) =? 0) e₁);
            inside = λ i h. first_none (outside_at area table) 0 (room table) i (omega arith) (omega (arith, ltb-false (first_outside area table) (room table) e₂));
          }))

      by_whole : (b : Bool) → ((length table % entry_words) ≠? 0) ≡ b
          → decide (checks Live (type_number SslAck) area table) last ≡ decide (checks Archive (type_number SslAck) area table) last
      by_whole true e = rw e
      by_whole false e = by_inside (first_outside area table <? room table) e refl

  -- the writer's own check of the room comes behind them
  by_checks : (mode : Mode) (n given : ℕ) → writing mode n area table given
      ≡ decide (checks mode n area table) (decide (Writing.room_lines (packet_size n (parts_of area table)) given) (accepted (packet_size n (parts_of area table)) []))
  unfolding writing
  by_checks mode n given = decide_append (checks mode n area table) (Writing.room_lines (packet_size n (parts_of area table)) given) (accepted (packet_size n (parts_of area table)) [])

-- The answers of `encode`, `encoded_size` and `validate` in live mode are those in archive mode, except exactly where the
-- type is 2 and 18 does not refuse: there they are 24 (2).
pub writing_live_is_archive_but_24 : WritingLiveIsArchiveBut24
unfolding sizing validating
writing_live_is_archive_but_24 type area table = (
  (λ flags id out archive live archived after in-archive in-live.
      let by_one : (r : Encoded) (over : List ℕ) → Encodes Live type flags id area table out r over → (live ≡ r) × (after ≡ over) =
      λ r over told.
      let same = encode_unique Live type flags id area table out (live, after) (r, over) in-live told in
      (ap (λ (x : Encoded × List ℕ). x.0) same, ap (λ (x : Encoded × List ℕ). x.1) same) in
      let n = type_number type in
      let left : Answer → List ℕ = λ (a : Answer). afterwards a (bytes_for type flags id area table) out in (
        λ so.
            let answer : writing Live n area table (length out) ≡ refuse 24 (retired_type ∷ []) =
            by_checks area table Live n (length out) ∙ retired_checks area table _ type so in
            by_one (Err (RetiredType retired_type)) out (record { answer = sym answer; output = ap left (sym answer) }),
        λ other.
            let same : writing Live n area table (length out) ≡ writing Archive n area table (length out) =
            by_checks area table Live n (length out) ∙ same_checks area table _ type other ∙ sym (by_checks area table Archive n (length out)) in
            by_one archive archived (record { answer = in-archive.answer ∙ sym same; output = in-archive.output ∙ ap left (sym same) }),
      )),
  (λ archive live in-archive in-live. (
    (λ so. encoded_size_unique Live type area table live (Err (RetiredType retired_type)) in-live (sym (retired_checks area table _ type so))),
    (λ other. encoded_size_unique Live type area table live archive in-live (in-archive ∙ sym (same_checks area table _ type other))),
  )),
  (λ archive live in-archive in-live. (
    (λ so. validate_unique Live type area table live (Err (RetiredType retired_type)) in-live (sym (retired_checks area table _ type so))),
    (λ other. validate_unique Live type area table live archive in-live (in-archive ∙ sym (same_checks area table _ type other))),
  )),
)

-- What a mode writes is of no type that it calls retired.
pub written_is_current : WrittenIsCurrent
written_is_current = written_current

-- 24 in archive mode

abbrev numbered : Answer → ℕ
numbered (accepted n f) = 0
numbered more = 0
numbered (refused number values consumed) = number

-- no line whose test holds answers by 24
abbrev Without24 : List (Line Answer) → Type 0
Without24 [] = Unit {0}
Without24 ((test ⇒ answer) ∷ lines) = ((numbered answer =? 24 && test) ≡ false) × Without24 lines

never : (lines : List (Line Answer)) (last : Answer) → Without24 lines → (numbered last ≡ 24 → ⊥) → numbered (decide lines last) ≡ 24 → ⊥
never [] last others end e = end e
never ((true ⇒ answer) ∷ lines) last others end e = true≢false (sym (ap (λ (b : Bool). b && true) (eq-eqb (numbered answer) 24 e)) ∙ others.0)
never ((false ⇒ answer) ∷ lines) last others end e = never lines last others.1 end e

not_by_24 : {a b : Answer} → a ≡ b → (numbered b ≡ 24 → ⊥) → NotBy24 a
not_by_24 e other values consumed so = other (ap numbered (sym e ∙ so))

read_never : (s : List ℕ) (bytes ceiling : ℕ) (table : List ℕ) → numbered (reading s (limited Archive bytes ceiling table)) ≡ 24 → ⊥
unfolding reading order fixed_lines count_lines variable_lines size_lines part_lines room_lines
read_never s bytes ceiling table =
    never (answers (order s (count s) (limited Archive bytes ceiling table))) (accepted (whole s (count s)) (fields s))
    (refl, (refl, (refl, (refl, (refl, (refl, (refl, (refl, (refl, (refl, (refl, (refl, (refl, (refl, (refl, tt)))))))))))))))
    (λ e. omega arith)

check_never : (n : ℕ) (area table : List ℕ) (last : Answer) → (numbered last ≡ 24 → ⊥) → numbered (decide (checks Archive n area table) last) ≡ 24 → ⊥
unfolding checks table_lines retired_lines limit_lines
check_never n area table last = never (checks Archive n area table) last (refl, (refl, (refl, (refl, (refl, tt)))))

room_never : (needed given : ℕ) → numbered (decide (Writing.room_lines needed given) (accepted needed [])) ≡ 24 → ⊥
unfolding Writing.room_lines
room_never needed given = never (Writing.room_lines needed given) (accepted needed []) (refl, tt) (λ e. omega arith)

-- In archive mode 24 never arises.
pub archive_is_never_by_24 : ArchiveIsNeverBy24
unfolding sizing validating
archive_is_never_by_24 = (
  (λ s bytes ceiling table r after told. not_by_24 told.answer (read_never s bytes ceiling table)),
  (λ type flags id area table out r after told.
      not_by_24 (told.answer ∙ by_checks area table Archive (type_number type) (length out))
      (check_never (type_number type) area table _ (room_never (packet_size (type_number type) (parts_of area table)) (length out)))),
  (λ type area table r told. not_by_24 told (check_never (type_number type) area table _ (λ e. omega arith))),
  (λ type area table r told. not_by_24 told (check_never (type_number type) area table _ (λ e. omega arith))),
)
