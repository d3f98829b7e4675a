-- The witnesses: damage that happens, and a counterexample to each wrong promise. Assumes nothing.
use Rattle.std.specs.declared.option.Option.TheVariants.{Some}
use Rattle.std.specs.declared.result.Result.TheVariants.{Ok, Err}
use mathlib.Core.Path.{◌≡◌, refl, sym, ◌∙◌, ap}
use mathlib.Core.Bool.{Bool, true, false, ◌&&◌}
use mathlib.Core.List.{List, [], ◌∷◌, ◌++◌}
use Prim.Native.Nat.{ℕ, zero, suc, ◌+◌, ◌≤◌, ◌<◌}
use native.Mathlib.Omega.{arith}
use borrow.Author.Tests.{ltb-true}
use lib.ListN.{length, get_or, take, drop, drop_of_length-le}
use Rattle.words.specs.Word as Word
use Rattle.words.specs.Word.{bytes_of, Bytes}
use Rattle.words.specs.Decide as Decide
use Rattle.words.specs.Decide.{◌<?◌}
use Rattle.words.specs.Answer.{Answer, accepted, more, refused}
use Rattle.crc64.specs.Polynomial as Polynomial
use Rattle.crc64.specs.Polynomial.{checksum}
use Rattle.crc64.specs.Damage.{Damaged}
use Rattle.packet.specs.Layout as Layout
use Rattle.packet.specs.Layout.{packet_signature}
use Rattle.packet_read.specs.Reading as Reading
use Rattle.packet_read.specs.Reading.{limited, reading}
use Rattle.packet.specs.declared.Mode.TheVariants.{Archive}
use Rattle.packet.specs.Entries as Entries
use Rattle.guid.specs.Guid.{guid_of, wire_bytes}
use Rattle.packet.specs.declared.PacketType.TheVariants.{Message as Plain, Ack}
use Rattle.packet.specs.declared.PacketError.TheVariants.{Signature, RetiredType}
use Rattle.packet.specs.declared.Packet.{Packet}
use Rattle.packet_answer.specs.Paper.{paper}
use Rattle.packet_read.specs.Statement.{Decodes}
use Rattle.packet.specs.Wire as Wire
use Rattle.packet.specs.Wire.{sealed}
use Rattle.promises.specs.BitRuns as BitRuns
use Rattle.promises.specs.BitRuns.{bits, Unseen}
use Rattle.promises.specs.Damage.{Stretch, fixed_header, Inside, NamedWhere, nothing, DamageHappens}
use Rattle.promises.specs.RoundTrip.{Message, Valid, Held}
use Rattle.promises.specs.Refuted as Wrong
use Rattle.promises.specs.Refuted.{HitOf65, SixtyFiveAreNamed, HitLowFirst, LowFirstIsNamed, HitUnguarded, UnguardedIsNamed, HitPast, PastIsNamed, UnseenIn64, SixtyFourUnseen, EightBytesUnseen, AlwaysBy5, NamedWithout24, PrefixOrWhole, RoundTripUnderAnyLimit, CeilingAlone, AcceptanceLeavesTables}
use Rattle.promises.proofs.BitRuns.{bits_64_seen, length_bits}
use Rattle.promises.proofs.Damage.{not_taken, bytes_hit}

abbrev all_small : List ℕ → Bool
all_small [] = true
all_small (b ∷ s) = b <? 256 && all_small s

small : (s : List ℕ) → all_small s ≡ true → Bytes s
small [] e i = omega arith
small (b ∷ s) e zero = ltb-true b 256 (left (b <? 256) (all_small s) e)
  where
    left : (x y : Bool) → (x && y) ≡ true → x ≡ true
    left true y e = refl
    left false y e = e
small (b ∷ s) e (suc i) = small s (right (b <? 256) (all_small s) e) i
  where
    right : (x y : Bool) → (x && y) ≡ true → y ≡ true
    right true y e = e
    right false y e = absurd (let z : ◌≡◌ {A = ℕ} 0 1 = ap count e in omega arith)
      where
        count : Bool → ℕ
        count true = 1
        count false = 0

abbrev kind : Answer → ℕ
kind (accepted n fields) = 0
kind more = 1
kind (refused number values consumed) = number + 2

-- bytes 0 to 27: flags 0
abbrev header : ℕ → ℕ → List ℕ → ℕ → List ℕ
header sign type id n = bytes_of 4 sign ++ bytes_of 2 type ++ bytes_of 2 0 ++ id ++ bytes_of 4 n

abbrev zeros : List ℕ
zeros = bytes_of 8 0 ++ bytes_of 8 0

-- ids that differ from it in one byte, and in nine
abbrev one : List ℕ
one = 1 ∷ bytes_of 7 0 ++ bytes_of 8 0

abbrev nine : List ℕ
nine = 0x01 ∷ 0xe5 ∷ 0x43 ∷ 0x27 ∷ 0x97 ∷ 0x65 ∷ 0x92 ∷ 0x78 ∷ 0x81 ∷ bytes_of 7 0

-- a multiple of the polynomial whose ones lie within 62 bits, if each byte's low bit came first
abbrev multiple : List ℕ
multiple = 0xf0 ∷ 0x8e ∷ 0x56 ∷ 0xa3 ∷ 0x0b ∷ 0x67 ∷ 0x8a ∷ 0xc9 ∷ 0x03 ∷ bytes_of 7 0

abbrev ack : ℕ → ℕ → ℕ → ℕ → Packet
ack a b c d = record { packet_type = Ack; flags = record { 0 = 0 }; id = record { w0 = a; w1 = b; w2 = c; w3 = d }; parts = 0 }

-- an Ack, that Ack with one byte of its id altered, and with nine
abbrev sent : List ℕ
sent = sealed (header packet_signature 1 zeros 0)

abbrev altered : List ℕ
altered = header packet_signature 1 one 0 ++ bytes_of 8 (checksum (header packet_signature 1 zeros 0))

abbrev altered_in_nine : List ℕ
altered_in_nine = header packet_signature 1 nine 0 ++ bytes_of 8 (checksum (header packet_signature 1 zeros 0))

abbrev altered_by_multiple : List ℕ
altered_by_multiple = header packet_signature 1 multiple 0 ++ bytes_of 8 (checksum (header packet_signature 1 zeros 0))

-- with a stored word of 0, whole and altered
abbrev unguarded : List ℕ
unguarded = header packet_signature 1 zeros 0 ++ bytes_of 8 0

abbrev unguarded_altered : List ℕ
unguarded_altered = header packet_signature 1 one 0 ++ bytes_of 8 0

-- with another signature
abbrev unsigned : List ℕ
unsigned = header 0 1 zeros 0 ++ bytes_of 8 (checksum (header packet_signature 1 zeros 0))

-- with another type
abbrev retyped : List ℕ
retyped = header packet_signature 2 zeros 0 ++ bytes_of 8 (checksum (header packet_signature 1 zeros 0))

sent_read : Decodes sent nothing [] (Ok (Some record { packet = ack 0 0 0 0; consumed = 36 })) []
unfolding sealed Word.bytes_of Word.word Decide.first_from Polynomial.step Polynomial.steps Polynomial.fold_byte Polynomial.fold Layout.taken_before Reading.fixed_lines Reading.count_lines Reading.variable_lines Reading.size_lines Reading.part_lines Reading.room_lines Reading.order Reading.reading Entries.entries_from
sent_read = record { answer = refl; tables = refl }

nine_read : Decodes altered_in_nine nothing [] (Ok (Some record { packet = ack 0x2743_e501 0x7892_6597 0x81 0; consumed = 36 })) []
unfolding sealed Word.bytes_of Word.word Decide.first_from Polynomial.step Polynomial.steps Polynomial.fold_byte Polynomial.fold Layout.taken_before Reading.fixed_lines Reading.count_lines Reading.variable_lines Reading.size_lines Reading.part_lines Reading.room_lines Reading.order Reading.reading Entries.entries_from
nine_read = record { answer = refl; tables = refl }

multiple_read : Decodes altered_by_multiple nothing [] (Ok (Some record { packet = ack 0xa356_8ef0 0xc98a_670b 3 0; consumed = 36 })) []
unfolding sealed Word.bytes_of Word.word Decide.first_from Polynomial.step Polynomial.steps Polynomial.fold_byte Polynomial.fold Layout.taken_before Reading.fixed_lines Reading.count_lines Reading.variable_lines Reading.size_lines Reading.part_lines Reading.room_lines Reading.order Reading.reading Entries.entries_from
multiple_read = record { answer = refl; tables = refl }

unguarded_read : Decodes unguarded nothing [] (Ok (Some record { packet = ack 0 0 0 0; consumed = 36 })) []
unfolding sealed Word.bytes_of Word.word Decide.first_from Polynomial.step Polynomial.steps Polynomial.fold_byte Polynomial.fold Layout.taken_before Reading.fixed_lines Reading.count_lines Reading.variable_lines Reading.size_lines Reading.part_lines Reading.room_lines Reading.order Reading.reading Entries.entries_from
unguarded_read = record { answer = refl; tables = refl }

unguarded_altered_read : Decodes unguarded_altered nothing [] (Ok (Some record { packet = ack 1 0 0 0; consumed = 36 })) []
unfolding sealed Word.bytes_of Word.word Decide.first_from Polynomial.step Polynomial.steps Polynomial.fold_byte Polynomial.fold Layout.taken_before Reading.fixed_lines Reading.count_lines Reading.variable_lines Reading.size_lines Reading.part_lines Reading.room_lines Reading.order Reading.reading Entries.entries_from
unguarded_altered_read = record { answer = refl; tables = refl }

unsigned_refused : Decodes unsigned nothing [] (Err record { error = Signature 0; consumed = 0 }) []
unfolding sealed Word.bytes_of Word.word Decide.first_from Polynomial.step Polynomial.steps Polynomial.fold_byte Polynomial.fold Layout.taken_before Reading.fixed_lines Reading.count_lines Reading.variable_lines Reading.size_lines Reading.part_lines Reading.room_lines Reading.order Reading.reading Entries.entries_from
unsigned_refused = record { answer = refl; tables = refl }

retyped_refused : Decodes retyped nothing [] (Err record { error = RetiredType 2; consumed = 0 }) []
unfolding sealed Word.bytes_of Word.word Decide.first_from Polynomial.step Polynomial.steps Polynomial.fold_byte Polynomial.fold Layout.taken_before Reading.fixed_lines Reading.count_lines Reading.variable_lines Reading.size_lines Reading.part_lines Reading.room_lines Reading.order Reading.reading Entries.entries_from
retyped_refused = record { answer = refl; tables = refl }

-- two strings that differ at one place differ
other : (s t : List ℕ) (i a b : ℕ) → get_or s i 0 ≡ a → get_or t i 0 ≡ b → a < b → s ≡ t → ⊥
other s t i a b p q less e = let same : a ≡ b = sym p ∙ ap (λ (l : List ℕ). get_or l i 0) e ∙ q in omega arith

-- inside the fixed header's 28 bytes
within : (s t : List ℕ) → Damaged 0 28 s t → Inside s t fixed_header 0 28
within s t damaged = record { has = tt; starts = omega arith; ends = omega arith; damaged = damaged }

-- Demand 3's premises can be met: an Ack whose id is altered in one bit, the lowest of its first byte.
pub damage_happens : DamageHappens
unfolding sealed Word.bytes_of Word.word Polynomial.step Polynomial.steps Polynomial.fold_byte Polynomial.fold BitRuns.bits BitRuns.bits_of
damage_happens =
    record {
      sent = sent;
      received = altered;
      packet = ack 0 0 0 0;
      read = sent_read;
      hit =
          record {
            bytes_before_lem = small sent refl;
            bytes_after = small altered refl;
            few = omega arith;
            guarded = λ e. omega arith;
            inside = within sent altered (record { same_length = refl; same_front = refl; same_rest = refl; differ = other sent altered 8 0 1 refl refl (omega arith) });
            flipped = record { same_length = refl; same_front = refl; same_rest = refl; differ = other (bits (take 28 sent)) (bits (take 28 altered)) 71 0 1 refl refl (omega arith) };
          };
    }

-- damage after which the packet is still read is not named
unnamed : (Altered : List ℕ → List ℕ → Stretch → ℕ → ℕ → Type 0) (s t : List ℕ) (p q : Packet) (part : Stretch) (at run : ℕ)
    → Decodes s nothing [] (Ok (Some record { packet = p; consumed = 36 })) [] → Decodes t nothing [] (Ok (Some record { packet = q; consumed = 36 })) [] → Altered s t part at run → NamedWhere Altered → ⊥
unnamed Altered s t p q part at run whole damaged hit wrong =
    not_taken t nothing.mode part (paper (Ok (Some record { packet = q; consumed = 36 }))) (wrong s t nothing [] [] p 36 [] (Ok (Some record { packet = q; consumed = 36 })) [] part at run whole hit damaged).0

pub sixty_five_are_not_named : SixtyFiveAreNamed → ⊥
unfolding sealed Word.bytes_of Word.word Polynomial.step Polynomial.steps Polynomial.fold_byte Polynomial.fold BitRuns.bits BitRuns.bits_of
sixty_five_are_not_named =
    unnamed HitOf65 sent altered_in_nine (ack 0 0 0 0) (ack 0x2743_e501 0x7892_6597 0x81 0) fixed_header 71 65 sent_read nine_read
    (record {
      bytes_before_lem = small sent refl;
      bytes_after = small altered_in_nine refl;
      few = omega arith;
      guarded = λ e. omega arith;
      inside = within sent altered_in_nine (record { same_length = refl; same_front = refl; same_rest = refl; differ = other sent altered_in_nine 8 0 1 refl refl (omega arith) });
      flipped = record { same_length = refl; same_front = refl; same_rest = refl; differ = other (bits (take 28 sent)) (bits (take 28 altered_in_nine)) 71 0 1 refl refl (omega arith) };
    })

pub low_first_is_not_named : LowFirstIsNamed → ⊥
unfolding sealed Word.bytes_of Word.word Polynomial.step Polynomial.steps Polynomial.fold_byte Polynomial.fold BitRuns.bits BitRuns.bits_of Wrong.low_bits Wrong.low_first
low_first_is_not_named =
    unnamed HitLowFirst sent altered_by_multiple (ack 0 0 0 0) (ack 0xa356_8ef0 0xc98a_670b 3 0) fixed_header 68 62 sent_read multiple_read
    (record {
      bytes_before_lem = small sent refl;
      bytes_after = small altered_by_multiple refl;
      few = omega arith;
      guarded = λ e. omega arith;
      inside = within sent altered_by_multiple (record { same_length = refl; same_front = refl; same_rest = refl; differ = other sent altered_by_multiple 8 0 0xf0 refl refl (omega arith) });
      flipped = record { same_length = refl; same_front = refl; same_rest = refl; differ = other (Wrong.low_bits (take 28 sent)) (Wrong.low_bits (take 28 altered_by_multiple)) 68 0 1 refl refl (omega arith) };
    })

pub unguarded_is_not_named : UnguardedIsNamed → ⊥
unfolding Word.bytes_of BitRuns.bits BitRuns.bits_of
unguarded_is_not_named =
    unnamed HitUnguarded unguarded unguarded_altered (ack 0 0 0 0) (ack 1 0 0 0) fixed_header 71 1 unguarded_read unguarded_altered_read
    (record {
      bytes_before_lem = small unguarded refl;
      bytes_after = small unguarded_altered refl;
      few = omega arith;
      inside = within unguarded unguarded_altered (record { same_length = refl; same_front = refl; same_rest = refl; differ = other unguarded unguarded_altered 8 0 1 refl refl (omega arith) });
      flipped = record { same_length = refl; same_front = refl; same_rest = refl; differ = other (bits (take 28 unguarded)) (bits (take 28 unguarded_altered)) 71 0 1 refl refl (omega arith) };
    })

-- the stored word itself, made 0
pub past_is_not_named : PastIsNamed → ⊥
unfolding sealed Word.bytes_of Word.word Polynomial.step Polynomial.steps Polynomial.fold_byte Polynomial.fold BitRuns.bits BitRuns.bits_of
past_is_not_named =
    unnamed HitPast sent unguarded (ack 0 0 0 0) (ack 0 0 0 0) fixed_header 224 64 sent_read unguarded_read
    (record {
      bytes_before_lem = small sent refl;
      bytes_after = small unguarded refl;
      few = omega arith;
      guarded = λ e. omega arith;
      has = tt;
      starts = omega arith;
      ends = omega arith;
      flipped = record { same_length = refl; same_front = refl; same_rest = refl; differ = λ e. other (bits unguarded) (bits sent) 224 0 1 refl refl (omega arith) (sym e) };
    })

-- eight bytes of zeros: all damage to them is seen
abbrev eight : List ℕ
eight = bytes_of 8 0

eight_bytes : Bytes eight
unfolding Word.bytes_of
eight_bytes = small eight refl

pub sixty_four_are_not_unseen : SixtyFourUnseen → ⊥
unfolding Word.bytes_of
sixty_four_are_not_unseen wrong =
    let unseen : UnseenIn64 eight 0 = wrong eight 0 eight_bytes (omega arith) in
    bits_64_seen eight unseen.other 0 64 (checksum eight) (checksum eight) eight_bytes unseen.are_bytes (omega arith) unseen.damaged refl
    (unseen.same_checksum (checksum eight) refl)
    refl

-- 65 bits from the first on are no more than the 64 that eight bytes have
pub eight_bytes_are_not_unseen : EightBytesUnseen → ⊥
unfolding Word.bytes_of
eight_bytes_are_not_unseen wrong =
    let unseen : Unseen eight 0 = wrong eight eight_bytes refl in
    let end : (l : List ℕ) → length l ≡ 64 → drop 64 l ≡ [] = λ l e. drop_of_length-le l {i = 64} (omega (arith, e)) in
    let long : length (bits unseen.other) ≡ 64 = sym unseen.damaged.same_length ∙ length_bits eight in
    bits_64_seen eight unseen.other 0 64 (checksum eight) (checksum eight) eight_bytes unseen.are_bytes (omega arith)
    (record {
      same_length = unseen.damaged.same_length;
      same_front = unseen.damaged.same_front;
      same_rest = end (bits eight) (length_bits eight) ∙ sym (end (bits unseen.other) long);
      differ = unseen.damaged.differ;
    })
    refl
    (unseen.same_checksum (checksum eight) refl)
    refl

pub not_always_by_5 : AlwaysBy5 → ⊥
unfolding sealed Word.bytes_of Word.word Polynomial.step Polynomial.steps Polynomial.fold_byte Polynomial.fold
not_always_by_5 wrong =
    let named = wrong sent unsigned nothing [] (ack 0 0 0 0) 36 [] (Err record { error = Signature 0; consumed = 0 }) [] 0 32 sent_read (bytes_hit sent unsigned fixed_header 0 4 (record {
      bytes_before_lem = small sent refl;
      bytes_after = small unsigned refl;
      few = omega arith;
      guarded = λ e. omega arith;
      inside =
          record {
            has = tt;
            starts = omega arith;
            ends = omega arith;
            damaged = record { same_length = refl; same_front = refl; same_rest = refl; differ = λ e. other unsigned sent 0 0 0x4f refl refl (omega arith) (sym e) };
          };
    })) unsigned_refused in
    let z : ◌≡◌ {A = ℕ} 3 7 = ap kind named in
    omega arith

-- the Ack's type made that of an SslAck
pub not_named_without_24 : NamedWithout24 → ⊥
unfolding sealed Word.bytes_of Word.word Polynomial.step Polynomial.steps Polynomial.fold_byte Polynomial.fold
not_named_without_24 wrong =
    let named = wrong sent retyped nothing [] (ack 0 0 0 0) 36 [] (Err record { error = RetiredType 2; consumed = 0 }) [] 32 8 sent_read (bytes_hit sent retyped fixed_header 4 1 (record {
      bytes_before_lem = small sent refl;
      bytes_after = small retyped refl;
      few = omega arith;
      guarded = λ e. omega arith;
      inside =
          record {
            has = tt;
            starts = omega arith;
            ends = omega arith;
            damaged = record { same_length = refl; same_front = refl; same_rest = refl; differ = other sent retyped 4 1 2 refl refl (omega arith) };
          };
    })) retyped_refused in
    let z : ◌≡◌ {A = ℕ} 26 7 = ap kind named in
    omega arith

-- a packet without parts
abbrev bare : ℕ → Message
bare kind = record { type = kind; flags = 0; id = guid_of 0 0 0 0; parts = [] }

bare_valid : (kind : ℕ) → kind ≤ 2 → Valid (bare kind)
bare_valid kind known =
    record {
      known = known;
      flags_fit = omega arith;
      id_fits = record { fits0 = omega arith; fits1 = omega arith; fits2 = omega arith; fits3 = omega arith };
      few = omega arith;
      small = λ i h. omega arith;
    }

pub whole_is_no_prefix : PrefixOrWhole → ⊥
unfolding Wire.sealed Wire.packet_bytes Wire.fixed_fields wire_bytes Wire.packet_size Word.bytes_of Word.word Decide.first_from Polynomial.step Polynomial.steps Polynomial.fold_byte Polynomial.fold Layout.taken_before Reading.fixed_lines Reading.count_lines Reading.variable_lines Reading.size_lines Reading.part_lines Reading.room_lines Reading.order Reading.reading Entries.entries_from
whole_is_no_prefix wrong =
    let held : Held (bare 1) (limited Archive 36 0 []) = record { current = refl; counted = omega arith; within = λ e. omega arith; roomy = omega arith } in
    let z : ◌≡◌ {A = ℕ} 0 1 = ap kind (wrong (bare 1) (limited Archive 36 0 []) 36 (bare_valid 1 (omega arith)) held (omega arith)) in
    omega arith

pub no_round_trip_under_any_limit : RoundTripUnderAnyLimit → ⊥
unfolding Wire.sealed Wire.packet_bytes Wire.fixed_fields wire_bytes Wire.body Wire.sizes Wire.sums Wire.contents Word.bytes_of Word.word Decide.first_from Polynomial.step Polynomial.steps Polynomial.fold_byte Polynomial.fold Layout.taken_before Reading.fixed_lines Reading.count_lines Reading.variable_lines Reading.size_lines Reading.part_lines Reading.room_lines Reading.order Reading.reading Entries.entries_from
no_round_trip_under_any_limit wrong =
    wrong (bare 0) (limited Archive 43 0 []) (bare_valid 0 (omega arith)) (omega arith) (omega arith) (44 ∷ 43 ∷ []) refl

pub not_the_ceiling_alone : CeilingAlone → ⊥
unfolding Word.bytes_of Word.word Decide.first_from Polynomial.step Polynomial.steps Polynomial.fold_byte Polynomial.fold Layout.taken_before Reading.fixed_lines Reading.count_lines Reading.variable_lines Reading.size_lines Reading.part_lines Reading.room_lines Reading.order Reading.reading Entries.entries_from
not_the_ceiling_alone wrong =
    wrong (header packet_signature 1 zeros 0x1000_0001 ++ bytes_of 8 0) (limited Archive 0 0x1000_0001 []) (omega arith) (0x1000_0001 ∷ []) refl

-- a Message with one empty part, and a table that held other words
pub acceptance_does_not_leave_tables : AcceptanceLeavesTables → ⊥
unfolding Word.bytes_of Word.word Decide.first_from Polynomial.step Polynomial.steps Polynomial.fold_byte Polynomial.fold Layout.taken_before Reading.fixed_lines Reading.count_lines Reading.variable_lines Reading.size_lines Reading.part_lines Reading.room_lines Reading.order Reading.reading Entries.entries_from
acceptance_does_not_leave_tables wrong =
    let packet : Packet = record { packet_type = Plain; flags = record { 0 = 0 }; id = record { w0 = 0; w1 = 0; w2 = 0; w3 = 0 }; parts = 1 } in
    let left = wrong (header packet_signature 0 zeros 1 ++ bytes_of 8 0 ++ bytes_of 4 0 ++ bytes_of 8 0 ++ bytes_of 8 0) (limited Archive 56 1 (7 ∷ 7 ∷ 7 ∷ [])) (7 ∷ 7 ∷ 7 ∷ []) (Ok (Some record { packet = packet; consumed = 56 })) (56 ∷ 0 ∷ 0 ∷ [])
    (record { answer = refl; tables = refl }) in
    let z : ◌≡◌ {A = ℕ} 56 7 = ap (λ (l : List ℕ). get_or l 0 0) left in
    omega arith
