-- The stages put together: what each return of the two top functions has to show, from what the stages told. Assumes
-- nothing.
use mathlib.Core.Path.{◌≡◌, refl, sym, ◌∙◌, ap}
use mathlib.Core.Bool.{Bool, true, false, ◌||◌, true≢false}
use mathlib.Core.List.{List}
use Prim.Native.Nat.{ℕ, ◌<◌, ◌≤◌, min}
use native.Mathlib.Omega.{arith}
use borrow.Author.Tests.{ltb-false}
use lib.ListN.{get_or}
use Rattle.words.specs.Answer.{Answer, accepted, afterwards}
use Rattle.words.specs.Buffer.{over}
use Rattle.words.specs.Decide.{◌=?◌, ◌<?◌}
use Rattle.words.specs.declared.outcome.Room.TheVariants as Room
use Rattle.packet.specs.declared.Mode.{Mode}
use Rattle.packet.specs.declared.Packet.{Packet}
use Rattle.packet.specs.declared.PacketError.{PacketError}
use Rattle.packet.specs.declared.PacketError.TheVariants.{TooManyParts, NoRoom}
use Rattle.packet.specs.Layout.{most_parts, fixed_header_size, has_variable_header, type, count, fields, whole}
use Rattle.packet.specs.Entries.{room, entries, entries_from}
use Rattle.packet.specs.Paper.{type_number, fields_of}
use Rattle.std.specs.declared.option.Option.TheVariants.{Some, None}
use Rattle.std.specs.declared.result.Result.TheVariants.{Ok, Err}
use Rattle.packet_answer.specs.declared.Refusal.{Refusal}
use Rattle.std.specs.Result.{IsErr, IsErrAnd}
use Rattle.packet_answer.specs.Statement.{IsPlain}
use Rattle.packet_read.specs.Reading.{Limits, limited, reading, fixed_lines, count_lines}
use Rattle.packet_answer.specs.Paper.{Decoded, paper}
use Rattle.packet_read.specs.Statement.{Decodes}
use Rattle.packet_read.specs.Stages.{through, behind, FixedStage, VariableStage, PartsStage, BodyStage}
use Rattle.packet_read.proofs.OrderLaws.{order_split, room_short, room_pass, count_high, count_bare, count_pass}

right_false : (a b : Bool) → (a || b) ≡ false → b ≡ false
right_false true b e = absurd (true≢false e)
right_false false b e = e

module _ (s : List ℕ) (n limit : ℕ) (table : List ℕ) where
  pub body_more : VariableStage s n limit (Ok None) → BodyStage s n limit table (Ok None) table
  body_more told = record { answer = told _; tables = refl }

  pub body_refused : (error : PacketError) (refused : Refusal) → IsPlain error refused → VariableStage s n limit (Err error) → BodyStage s n limit table (Err refused) table
  body_refused error refused plain told = rw plain record { answer = told _; tables = refl }

  module _ (total : ℕ) (sized : VariableStage s n limit (Ok (Some total))) where
    pub body_fails : (refused : Refusal) → PartsStage s n (Err refused) → BodyStage s n limit table (Err refused) table
    body_fails refused told = record { answer = sized.0 _ ∙ told _; tables = refl }

    module _ (good : PartsStage s n (Ok tt)) where
      abbrev last : Answer
      last = accepted (whole s n) (fields s)

      pub body_no_room : (refused : Refusal) → room table < n → IsPlain (NoRoom (record { room = Room.Parts; needed = n; given = room table })) refused
          → BodyStage s n limit table (Err refused) table
      body_no_room refused short plain =
          rw plain record {
            answer = sized.0 _ ∙ good _ ∙ room_short n (room table) last short;
            tables = refl;
          }

      pub body_read : (packet : Packet) (after : List ℕ) → fields_of packet ≡ fields s → n ≡ count s → n ≤ room table → after ≡ over (entries_from s n 0 n) table
          → BodyStage s n limit table (Ok (Some record { packet = packet; consumed = total })) after
      body_read packet after is counted enough filled =
          record {
            answer =
                sized.0 _ ∙ good _ ∙ room_pass n (room table) last enough
                ∙ rw (is, sized.2);
            tables = filled ∙ ap (λ (k : ℕ). over (entries_from s k 0 k) table) counted;
          }

pub parts_counted : (s : List ℕ) (packet : Packet) → fields_of packet ≡ fields s → packet.parts ≡ count s
parts_counted s packet is = ap (λ (l : List ℕ). get_or l 6 0) is

-- what the table holds after an answer that is the reading's
decodes : {s : List ℕ} {limits : Limits} {table : List ℕ} {r : Decoded} {after : List ℕ} → paper r ≡ reading s limits
    → after ≡ afterwards (paper r) (entries s) table → Decodes s limits table r after
decodes {s} {limits} {table} told holds =
    record { answer = told; tables = holds ∙ ap (λ (a : Answer). afterwards a (entries s) table) told }

module _ (mode : Mode) (s : List ℕ) (limit ceiling : ℕ) (table : List ℕ) where
  abbrev limits : Limits
  limits = limited mode limit ceiling table

  abbrev end : Answer
  end = behind s (count s) limit (room table) (accepted (whole s (count s)) (fields s))

  reading_split : reading s limits ≡ through (fixed_lines s mode) (through (count_lines s (count s) ceiling) end)
  unfolding reading
  reading_split = order_split s (count s) limits (accepted (whole s (count s)) (fields s))

  pub read_more : FixedStage mode s (Ok None) → Decodes s limits table (Ok None) table
  read_more told = decodes (sym (reading_split ∙ told _)) refl

  pub read_refused : (error : PacketError) (refused : Refusal) → IsPlain error refused → FixedStage mode s (Err error) → Decodes s limits table (Err refused) table
  read_refused error refused plain told = rw plain (decodes (sym (reading_split ∙ told _)) refl)

  -- the same of what `?` hands on
  pub read_err : (error : PacketError) (r : Decoded) → IsErr r × IsErrAnd r (IsPlain error) → FixedStage mode s (Err error) → Decodes s limits table r table
  read_err error (Ok read) told stage = absurd (true≢false (sym told.0))
  read_err error (Err refused) told stage = read_refused error refused told.1 stage

  -- with a fixed header that passed
  module _ (packet : Packet) (header : FixedStage mode s (Ok (Some packet))) (most : ℕ) (most-is : most ≡ min most_parts ceiling) where
    counted : packet.parts ≡ count s
    counted = parts_counted s packet header.2

    typed : type_number packet.packet_type ≡ type s
    typed = ap (λ (l : List ℕ). get_or l 0 0) header.2

    behind_fixed : reading s limits ≡ through (count_lines s (count s) ceiling) end
    behind_fixed = reading_split ∙ header.0 _

    pub read_too_many : (refused : Refusal) → most < packet.parts → IsPlain (TooManyParts packet.parts) refused → Decodes s limits table (Err refused) table
    read_too_many refused high plain =
        rw plain (decodes (sym (behind_fixed ∙ count_high s (count s) ceiling end most most-is (rw (← counted) high) ∙ rw (← counted))) refl)

    module _ (few : packet.parts ≤ most) (has : Bool) (has-is : has ≡ has_variable_header (type_number packet.packet_type) packet.parts) where
      has_there : has ≡ has_variable_header (type s) (count s)
      has_there = has-is ∙ rw (typed, counted)

      -- a packet without a variable header has no parts, so the table stays as it is
      pub read_bare : has ≡ false → Decodes s limits table (Ok (Some record { packet = packet; consumed = fixed_header_size })) table
      unfolding entries_from
      read_bare without =
          let none : count s ≡ 0 = omega (arith, ltb-false 0 (count s) (right_false (type s =? 0) (0 <? count s) (sym has_there ∙ without))) in
          decodes
          (sym (behind_fixed ∙ count_bare s (count s) ceiling end most most-is has (rw (← counted) few) has_there without ∙ rw header.2))
          (sym (ap (λ (k : ℕ). over (entries_from s k 0 k) table) none))

      pub read_body : (r : Decoded) (after : List ℕ) → has ≡ true → BodyStage s packet.parts limit table r after → Decodes s limits table r after
      read_body r after with told =
          decodes
          (sym (behind_fixed ∙ count_pass s (count s) ceiling end most most-is has (rw (← counted) few) has_there with ∙ rw counted at told.answer))
          told.tables
