-- The third word of a part's entry is the stored checksum, and the writer does not read it. Assumes nothing.
use Rattle.std.specs.declared.option.Option.TheVariants.{Some}
use Rattle.std.specs.declared.result.Result.TheVariants.{Ok}
use mathlib.Core.Path.{◌≡◌, refl, ◌∙◌, ap, ap₂}
use mathlib.Core.Bool.{true, or-true}
use mathlib.Core.List.{List, ◌∷◌, ◌++◌}
use Prim.Native.Nat.{ℕ, zero, suc, ◌+◌, ◌/◌}
use native.Mathlib.Omega.{arith}
use borrow.Author.Tests.{lt-ltb}
use lib.ListN.{length, take}
use Rattle.words.specs.Decide.{pick, ◌=?◌, first}
use Rattle.words.proofs.DecideLaws.{first_same}
use Rattle.packet.specs.Layout.{has_variable_header, count, part_sum}
use Rattle.packet.specs.Entries.{entry_words, room, is_outside, is_too_large, outside_at, too_large_at, is_null}
use Rattle.packet.specs.Paper.{type_number}
use Rattle.packet.specs.Wire.{Part, null, bytes, parts_from, parts_of}
use Rattle.packet.specs.declared.Mode.{Mode}
use Rattle.packet.specs.declared.Packet.{Packet}
use Rattle.packet_read.specs.Statement.{Decodes}
use Rattle.packet_check.specs.Checks.{table_lines, limit_lines, checks, first_outside, first_too_large, validating, sizing}
use Rattle.packet_write.specs.Writing.{writing}
use Rattle.words.specs.Buffer.{stretch}
use Rattle.promises.specs.RoundTrip.{Valid, given, wire}
use Rattle.promises.specs.Guarded.{SameStretches, WrittenIsGuarded, ThirdWordUnread}
use Rattle.promises.proofs.Parts.{sums_are_told, written_is_lent}
use Rattle.promises.proofs.Encoded.{written_bytes, given_valid}
use Rattle.promises.proofs.RoundTrip.{is_count, is_sum}

-- What `encode` wrote, read back: each part's checksum, 0 for a null one.
pub written_is_guarded : WrittenIsGuarded
written_is_guarded mode type flags id area table out n after tail limits lent r filled flags_fit id_fits told roomy held read i h =
    let s : List ℕ = take n after ++ tail in
    let m = given type flags id area table in
    let p : Packet = record { packet_type = type; flags = flags; id = id; parts = length (parts_of area table) } in
    let ok : Valid m = given_valid mode type flags id area table out n after flags_fit id_fits told in
    let same = (written_is_lent mode type flags id area table out n after tail limits lent r filled flags_fit id_fits told roomy held read).0 in
    let read-so : Decodes s limits lent (Ok (Some record { packet = p; consumed = n })) filled = rw same at read in
    let as-wire : s ≡ wire m ++ tail = ap (λ (l : List ℕ). l ++ tail) (written_bytes mode type flags id area table out n after told) in
    let counted : count s ≡ length (parts_of area table) = ap count as-wire ∙ is_count m tail ok in
    let there : has_variable_header (type_number type) (length (parts_of area table)) ≡ true =
    rw (lt-ltb 0 (length (parts_of area table)) (omega arith)) (or-true (type_number type =? 0)) in
    sums_are_told s limits lent p n filled roomy read-so i (rw counted h)
    ∙ ap₂ (λ (l : List ℕ) (k : ℕ). part_sum l k i) as-wire counted
    ∙ is_sum m tail ok there i h

-- ---- the writer

module _ (area table other : List ℕ) (same : SameStretches table other) where
  same_room : room table ≡ room other
  same_room = ap (λ (n : ℕ). n / entry_words) same.same_length

  outside_same : first_outside area table ≡ first_outside area other
  outside_same =
      first_same (outside_at area table) (outside_at area other) 0 (room table)
      (λ k low high. ap₂ (λ (o l : ℕ). is_outside (length area) o l) (same.offsets k) (same.sizes k))
      ∙ ap (first (outside_at area other)) same_room

  large_same : first_too_large table ≡ first_too_large other
  large_same =
      first_same (too_large_at table) (too_large_at other) 0 (room table) (λ k low high. ap₂ is_too_large (same.offsets k) (same.sizes k))
      ∙ ap (first (too_large_at other)) same_room

  checks_same : (mode : Mode) (type : ℕ) → checks mode type area table ≡ checks mode type area other
  unfolding checks table_lines limit_lines
  checks_same mode type = rw (outside_same, large_same, same.same_length, same.sizes (first_too_large other))

  parts_from_same : (i k : ℕ) → parts_from area table i k ≡ parts_from area other i k
  unfolding parts_from
  parts_from_same i zero = refl
  parts_from_same i (suc k) =
      ap₂ (λ (p : Part) (ps : List Part). p ∷ ps)
      (ap₂ (λ (o l : ℕ). pick (is_null o l) null (bytes (stretch area o l))) (same.offsets i) (same.sizes i))
      (parts_from_same (i + 1) k)

  parts_of_same : parts_of area table ≡ parts_of area other
  parts_of_same = parts_from_same 0 (room table) ∙ ap (parts_from area other 0) same_room

  writing_same : (mode : Mode) (type given : ℕ) → writing mode type area table given ≡ writing mode type area other given
  unfolding writing
  writing_same mode type given = rw (checks_same mode type, parts_of_same)

  sizing_same : (mode : Mode) (type : ℕ) → sizing mode type area table ≡ sizing mode type area other
  unfolding sizing
  sizing_same mode type = rw (checks_same mode type, parts_of_same)

  validating_same : (mode : Mode) (type : ℕ) → validating mode type area table ≡ validating mode type area other
  unfolding validating
  validating_same mode type = rw (checks_same mode type)

-- Tables that differ at most in their third words are answered alike.
pub third_word_unread : ThirdWordUnread
third_word_unread mode type area table other same = (
  λ flags id out r after told.
      record {
        answer = rw (← writing_same area table other same mode (type_number type) (length out)) told.answer;
        output = rw (← writing_same area table other same mode (type_number type) (length out), ← parts_of_same area table other same) told.output;
      },
  λ r told. rw (← sizing_same area table other same mode (type_number type)) told,
  λ r told. rw (← validating_same area table other same mode (type_number type)) told,
)
