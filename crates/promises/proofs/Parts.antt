-- The lent table of an accepted packet lends each part. Assumes nothing.
use Rattle.std.specs.declared.option.Option.TheVariants.{Some, None}
use Rattle.std.specs.declared.result.Result.TheVariants.{Ok}
use mathlib.Core.Path.{◌≡◌, refl, sym, ◌∙◌, ap}
use mathlib.Core.Bool.{Bool, true, false, or-true}
use mathlib.Core.List.{List, [], ◌∷◌, ◌++◌}
use mathlib.Core.Logic.{⊎_elim, ◌⊎◌}
use Prim.Native.Nat.{ℕ, ◌+◌, ◌*◌, ◌<◌, ◌≤◌}
use native.Mathlib.Nat.{add-zero, zero-add}
use native.Mathlib.Omega.{arith}
use borrow.Author.Tests.{lt-ltb, le-ltb, ne_eqb, eq-eqb}
use lib.ListN.{length, get_or, take, drop, get_or-append}
use lib.Seq.{take-take}
use Rattle.words.specs.Answer.{Answer, more, afterwards}
use Rattle.words.proofs.Unique.{holds_kept}
use Rattle.words.specs.Buffer.{over, stretch}
use Rattle.words.specs.Decide.{pick, ◌=?◌}
use Rattle.words.proofs.BufferLaws.{length_over}
use Rattle.packet.specs.Layout.{null_size, largest_part, type, count, fields, size, taken, start, whole, part_sum}
use Rattle.packet.specs.Layout.{is_null}
use Rattle.packet.specs.Entries.{entry_words, entry, entries_from, entries, room}
use Rattle.packet_read.specs.Reading.{Limits, reading}
use Rattle.packet.specs.Paper.{fields_of}
use Rattle.packet.specs.declared.Packet.{Packet}
use Rattle.packet_read.specs.Statement.{Decodes}
use Rattle.packet_read.proofs.EntryLaws.{length_entries, words_at}
use Rattle.packet_read.proofs.SizeLaws.{taken_below}
use Rattle.packet_answer.proofs.Back.{paper_injective}
use Rattle.packet.specs.Entries.{null_length, offset_at, size_at, sum_at, null_at, outside_at, is_lent}
use Rattle.packet.specs.Wire.{Part, null, bytes, content, parts_of}
use Rattle.packet.proofs.EntryLaws.{none_past, none_null, none_outside, some_inside, lent_none, lent_some, from_none, from_some}
use Rattle.promises.specs.Acceptance.{Acceptable, VariableHeader, consumed as consumedOf}
use Rattle.promises.specs.RoundTrip.{ReadsPart, Valid, given, wire}
use Rattle.promises.specs.Guarded.{SumsAreTold}
use Rattle.promises.specs.Parts.{LendsFront, LendsStretch, PartsAreLent, FrontIsLent, Lends, WrittenIsLent, PrefixAsksForMore}
use Rattle.promises.proofs.Acceptance.{acceptance}
use Rattle.promises.proofs.Encoded.{written_reads, written_bytes, written_size, given_valid}
use Rattle.promises.proofs.Prefix.{strict_prefix}

module _ (s table : List ℕ) (i : ℕ) where
  front : is_lent s table i ≡ false → LendsFront s table i
  front none from b at lent =
      (lent.bytes ∙ sym (lent_none s table i none), (λ j. (lent.block j, (lent.offset ∙ sym (from_none s table i from.1 none)) j)))

-- A null part, or an i or entry outside the table or input, gives the empty stretch at the front.
pub front_is_lent : FrontIsLent
front_is_lent s table i none =
    front s table i
    (⊎_elim (none_past s table i)
    (λ (inside : (null_at table i ≡ true) ⊎ (outside_at s table i ≡ true)). ⊎_elim (none_null s table i) (none_outside s table i) inside)
    none)

module _ (s table : List ℕ) (n : ℕ) (there : whole s n ≤ length s) (roomy : n ≤ room table) (i : ℕ) (below : i < n) where
  abbrev filled : List ℕ
  filled = over (entries_from s n 0 n) table

  word_at : (w : ℕ) → w < entry_words → get_or filled (entry_words * i + w) 0 ≡ get_or (entry s n i) w 0
  word_at w hw =
      get_or-append (entries_from s n 0 n) (drop (length (entries_from s n 0 n)) table) 0 (entry_words * i + w) (rw (length_entries s n 0 n) (omega arith))
      ∙ words_at s n 0 n i w hw below
      ∙ ap (λ (m : ℕ). get_or (entry s n m) w 0) (zero-add i)

  offset_is : offset_at filled i ≡ get_or (entry s n i) 0 0
  offset_is = ap (λ (m : ℕ). get_or filled m 0) (sym (add-zero (entry_words * i))) ∙ word_at 0 (omega arith)

  size_is : size_at filled i ≡ get_or (entry s n i) 1 0
  size_is = word_at 1 (omega arith)

  sum_is : sum_at filled i ≡ part_sum s n i
  sum_is = word_at 2 (omega arith) ∙ go (is_null s i)
    where
      go : (b : Bool) → get_or (pick b (0 ∷ null_length ∷ part_sum s n i ∷ []) (start s n i ∷ size s i ∷ part_sum s n i ∷ [])) 2 0 ≡ part_sum s n i
      go true = refl
      go false = refl

  listed : i < room filled
  listed = rw (length_over (entries_from s n 0 n) table (rw (length_entries s n 0 n) (omega arith))) (omega arith)

  null_lent : is_null s i ≡ true → (null_at filled i ≡ true) × LendsFront s filled i
  null_lent e =
      let null : null_at filled i ≡ true = rw (offset_is, size_is, e) in
      (null, front s filled i (none_null s filled i null))

  bytes_lent : is_null s i ≡ false → (null_at filled i ≡ false) × LendsStretch s filled i (start s n i) (size s i)
  bytes_lent e =
      let place : offset_at filled i ≡ start s n i = offset_is ∙ rw e in
      let long : size_at filled i ≡ size s i = size_is ∙ rw e in
      let some : null_at filled i ≡ false = rw (place, ne_eqb (start s n i) 0 (λ (z : start s n i ≡ 0). omega arith)) in
      let takes : taken s i ≡ size s i = rw e in
      let within : start s n i + size s i ≤ length s = omega (arith, taken_below s i n below) in
      let inside : outside_at s filled i ≡ false = rw (some, place, long, le-ltb (length s) (start s n i + size s i) within) in
      let is-lent : is_lent s filled i ≡ true = some_inside s filled i listed some inside in (
        some,
        λ from b at lent. (
          lent.bytes ∙ sym (lent_some s filled i is-lent) ∙ rw (place, long),
          lent.block,
          omega (arith, lent.offset, from_some s filled i from.1 is-lent, place),
        ),
      )

-- what an accepted packet says of its parts, and what its table holds
module _ (s : List ℕ) (limits : Limits) (table : List ℕ) (packet : Packet) (consumed : ℕ) (after : List ℕ)
    (read : Decodes s limits table (Ok (Some record { packet = packet; consumed = consumed })) after) where
  all : Acceptable s limits × (consumed ≡ consumedOf s) × (fields_of packet ≡ fields s)
  all = (acceptance s limits).1 consumed (fields_of packet) (sym read.answer)

  counted : packet.parts ≡ count s
  counted = ap (λ (l : List ℕ). get_or l 6 0) all.2

  behind : (i : ℕ) → i < count s → VariableHeader s (count s) limits
  behind i h = all.0.1 (rw (lt-ltb 0 (count s) (omega arith)) (or-true (type s =? 0)))

  filled_so : after ≡ over (entries s) table
  filled_so = read.tables ∙ ap (λ (a : Answer). afterwards a (entries s) table) (sym read.answer)

-- The table has each part's stored checksum.
pub sums_are_told : SumsAreTold
sums_are_told s limits table packet consumed after roomy read i h =
    let v = behind s limits table packet consumed after read i h in
    let enough : count s ≤ room table = rw roomy at v.roomy in
    ap (λ (l : List ℕ). sum_at l i) (filled_so s limits table packet consumed after read) ∙ sum_is s table (count s) v.there enough i h

-- The lent table of an accepted packet gives back each part: a null one as null, with the empty stretch at the input's
-- front, and any other as the bytes that stand in the input, there.
pub parts_are_lent : PartsAreLent
parts_are_lent s limits table packet consumed after roomy read = (counted s limits table packet consumed after read, at)
  where
    at : (i : ℕ) → i < count s
        → (is_null s i ≡ true → (null_at after i ≡ true) × LendsFront s after i)
        × (is_null s i ≡ false → (null_at after i ≡ false) × LendsStretch s after i (start s (count s) i) (size s i))
    at i h =
        let v = behind s limits table packet consumed after read i h in
        let enough : count s ≤ room table = rw roomy at v.roomy in
        rw (filled_so s limits table packet consumed after read) (null_lent s table (count s) v.there enough i h, bytes_lent s table (count s) v.there enough i h)

-- what is read as a part and is lent
lends : (s after : List ℕ) (n i : ℕ) (p : Part) → length (content p) ≤ largest_part → ReadsPart s n i p
    → (is_null s i ≡ true → (null_at after i ≡ true) × LendsFront s after i)
    → (is_null s i ≡ false → (null_at after i ≡ false) × LendsStretch s after i (start s n i) (size s i))
    → Lends s after i p
lends s after n i null small is nulls others = nulls (eq-eqb (size s i) null_size is)
lends s after n i (bytes b) small is nulls others =
    let some : is_null s i ≡ false = ne_eqb (size s i) null_size (λ (e : size s i ≡ null_size). omega (arith, sym is.0 ∙ e)) in
    let found = others some in
    let takes : taken s i ≡ size s i = rw some in
    (found.0, (λ from r at lent. (found.1 from r at lent).0 ∙ ap (λ (k : ℕ). stretch s (start s n i) k) (sym takes) ∙ is.1))

-- What `encode` wrote, `decode_with` answers and `part` lends.
pub written_is_lent : WrittenIsLent
written_is_lent mode type flags id area table out n after tail limits lent r filled flags_fit id_fits told roomy held read =
    let s : List ℕ = take n after ++ tail in
    let p : Packet = record { packet_type = type; flags = flags; id = id; parts = length (parts_of area table) } in
    let back = written_reads mode type flags id area table out n after told tail limits flags_fit id_fits held in
    let ok : Valid _ = given_valid mode type flags id area table out n after flags_fit id_fits told in
    let same : r ≡ Ok (Some record { packet = p; consumed = n }) = paper_injective r (Ok (Some record { packet = p; consumed = n })) (read.answer ∙ back.0) in
    let read-so : Decodes s limits lent (Ok (Some record { packet = p; consumed = n })) filled = rw same at read in
    let parts = parts_are_lent s limits lent p n filled roomy read-so in (
      same,
      λ i h.
          let below : i < count s = rw (← parts.0) h in
          let at = parts.1 i below in
          lends s filled (length (parts_of area table)) i (get_or (parts_of area table) i null) (ok.small i h) (back.1 i h) at.0 (rw (← parts.0) at at.1),
    )

-- Each strict prefix of what `encode` wrote is answered by need-more, and the table is left as it was.
pub prefix_asks_for_more : PrefixAsksForMore
prefix_asks_for_more mode type flags id area table out n after limits lent r filled k flags_fit id_fits told held short read =
    let m = given type flags id area table in
    let ok : Valid m = given_valid mode type flags id area table out n after flags_fit id_fits told in
    let front : take k after ≡ take k (wire m) =
    sym (take-take k n after (omega arith)) ∙ ap (take k) (written_bytes mode type flags id area table out n after told) in
    let waits : reading (take k after) limits ≡ more =
    ap (λ (s : List ℕ). reading s limits) front
    ∙ strict_prefix m limits k ok held (rw (written_size mode type flags id area table out n after told) short) in
    let same : r ≡ Ok None = paper_injective r (Ok None) (read.answer ∙ waits) in
    (same, holds_kept (reading (take k after) limits) (entries (take k after)) lent filled (rw waits tt) read.tables)
