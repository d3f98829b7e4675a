-- A whole packet, and the answers of writing. Assumes nothing.
use mathlib.Core.Path.{◌≡◌, refl, sym, ◌∙◌, ap, subst}
use mathlib.Core.Bool.{Bool, true, false, true≢false}
use Rattle.std.specs.Result.{IsErr, IsErrAnd}
use Rattle.std.specs.declared.result.Result.TheVariants.{Ok, Err}
use mathlib.Core.List.{List, [], ◌∷◌, ◌++◌, append-nil}
use Prim.Native.Nat.{ℕ, ◌+◌, ◌<◌, ◌≤◌}
use native.Mathlib.Omega.{arith}
use lib.ListN.{length, length-append}
use borrow.Author.Tests.{lt-ltb, le-ltb}
use Rattle.words.specs.Decide.{pick, decide}
use Rattle.words.specs.Answer.{Answer, accepted, refuse, afterwards}
use Rattle.words.specs.Buffer.{over}
use Rattle.words.proofs.DecideLaws.{decide_append}
use Rattle.guid.specs.declared.Guid.{Guid}
use Rattle.packet.specs.Layout.{has_variable_header}
use Rattle.packet.specs.Entries.{room}
use Rattle.packet.specs.Paper.{type_number, refusal}
use Rattle.packet.specs.declared.Mode.{Mode}
use Rattle.packet.specs.declared.PacketType.{PacketType}
use Rattle.packet.specs.declared.PacketFlags.{PacketFlags}
use Rattle.packet_write.specs.Paper.{Encoded, paper}
use Rattle.packet_write.specs.Statement.{Encodes, bytes_for}
use Rattle.packet.specs.declared.PacketError.{PacketError}
use Rattle.packet.specs.Wire.{sealed, fixed_fields, body, packet_bytes, packet_size, parts_of}
use Rattle.packet_check.specs.Checks.{checks, sizing}
use Rattle.packet_check.proofs.WireLaws.{length_parts}
use Rattle.words.proofs.AcceptLaws.{decided}
use Rattle.packet_check.proofs.CheckLaws.{checks_pass, sized}
use Rattle.words.specs.Stages.{Filling}
use Rattle.packet_write.specs.Writing.{room_lines, writing}
use Rattle.packet_write.proofs.FillingLaws.{opens}
use Rattle.packet_write.proofs.PieceLaws.{length_sealed, length_fixed, length_packet}

-- the fixed header first
module _ (type flags : ℕ) (id : Guid) (area table before : List ℕ)
    (fits : length (packet_bytes type flags id (parts_of area table)) ≤ length before) where
  -- with the count of the table's entries
  abbrev pub header : List ℕ
  header = sealed (fixed_fields type flags id (room table))

  abbrev pub rest : List ℕ
  rest = pick (has_variable_header type (room table)) (body (parts_of area table)) []

  pub header_length : length header ≡ 36
  header_length = length_sealed (fixed_fields type flags id (room table)) ∙ ap (λ (n : ℕ). n + 8) (length_fixed type flags id (room table))

  pub packet_is : packet_bytes type flags id (parts_of area table) ≡ header ++ rest
  unfolding packet_bytes
  packet_is = rw (length_parts table area 0 (room table))

  pub header_room : 36 ≤ length before
  header_room =
      let whole : length (packet_bytes type flags id (parts_of area table)) ≡ length header + length rest = ap length packet_is ∙ length-append header rest in
      let first : length header ≡ 36 = header_length in
      omega arith

  module _ {now : List ℕ} (written : now ≡ over header before) where
    pub header_all : has_variable_header type (room table) ≡ false → now ≡ over (packet_bytes type flags id (parts_of area table)) before
    header_all none =
        let same : header ++ rest ≡ header = ap (λ (b : Bool). header ++ pick b (body (parts_of area table)) []) none ∙ append-nil header in
        written ∙ ap (λ (ws : List ℕ). over ws before) (sym same ∙ sym packet_is)

    pub header_first : has_variable_header type (room table) ≡ true → Filling (packet_bytes type flags id (parts_of area table)) (body (parts_of area table)) before now 36
    header_first some =
        let same : header ++ rest ≡ header ++ body (parts_of area table) = ap (λ (b : Bool). header ++ pick b (body (parts_of area table)) []) some in
        let joined : header ++ body (parts_of area table) ≡ packet_bytes type flags id (parts_of area table) = sym same ∙ sym packet_is in
        subst (λ (w : List ℕ). Filling w (body (parts_of area table)) before now 36) joined (opens header (body (parts_of area table)) 36 (rw joined fits) header_length written)

-- the answers, from that of `encoded_size`
module _ (mode : Mode) (type : ℕ) (area table : List ℕ) (given : ℕ) where
  pub writing_refuses : (error : PacketError) → refusal error 0 ≡ sizing mode type area table → refusal error 0 ≡ writing mode type area table given
  unfolding sizing writing
  writing_refuses error e =
      let needed : ℕ = packet_size type (parts_of area table) in
      let last : Answer = accepted needed [] in
      sym (decide_append (checks mode type area table) (room_lines needed given) last
      ∙ decided (checks mode type area table) last (decide (room_lines needed given) last) refl (sym e) refl)

  module _ {needed : ℕ} (e : accepted needed [] ≡ sizing mode type area table) where
    writing_room : decide (room_lines needed given) (accepted needed []) ≡ writing mode type area table given
    unfolding writing
    writing_room =
        let found = sized mode type area table e in
        sym (decide_append (checks mode type area table) (room_lines (packet_size type (parts_of area table)) given) (accepted (packet_size type (parts_of area table)) [])
        ∙ checks_pass mode type area table found.0 found.1 (decide (room_lines (packet_size type (parts_of area table)) given) (accepted (packet_size type (parts_of area table)) []))
        ∙ ap (λ (n : ℕ). decide (room_lines n given) (accepted n [])) found.2)

    pub writing_short : given < needed → refuse 17 (4 ∷ needed ∷ given ∷ []) ≡ writing mode type area table given
    unfolding room_lines
    writing_short h = rw (lt-ltb given needed h) at writing_room

    pub writing_accepts : needed ≤ given → accepted needed [] ≡ writing mode type area table given
    unfolding room_lines
    writing_accepts h = rw (le-ltb given needed h) at writing_room

    -- so that the packet fits
    pub packet_fits : (flags : ℕ) (id : Guid) → needed ≤ given → length (packet_bytes type flags id (parts_of area table)) ≤ given
    packet_fits flags id h = rw (length_packet type flags id (parts_of area table) ∙ (sized mode type area table e).2) h

-- what the output holds after an answer that is the writing's
pub encodes : {mode : Mode} {type : PacketType} {flags : PacketFlags} {id : Guid} {area table out : List ℕ} {r : Encoded} {after : List ℕ}
    → paper r ≡ writing mode (type_number type) area table (length out) → after ≡ afterwards (paper r) (bytes_for type flags id area table) out
    → Encodes mode type flags id area table out r after
encodes {mode} {type} {flags} {id} {area} {table} {out} told holds =
    record { answer = told; output = holds ∙ ap (λ (a : Answer). afterwards a (bytes_for type flags id area table) out) told }

-- what `?` hands on of a refusal by `encoded_size`, the output as it was
pub encodes_err : (mode : Mode) (type : PacketType) (flags : PacketFlags) (id : Guid) (area table out : List ℕ) (error : PacketError) (r : Encoded)
    → IsErr r × IsErrAnd r (λ e. e ≡ error) → refusal error 0 ≡ sizing mode (type_number type) area table
    → Encodes mode type flags id area table out r out
encodes_err mode type flags id area table out error (Ok size) told e = absurd (true≢false (sym told.0))
encodes_err mode type flags id area table out error (Err other) told e =
    encodes (rw told.1 (writing_refuses mode (type_number type) area table (length out) error e)) refl
