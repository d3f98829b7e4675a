-- The promises of packing. Assumes nothing.
use mathlib.Core.Path.{◌≡◌, refl, sym, ◌∙◌, ap}
use mathlib.Core.Bool.{true, false}
use mathlib.Core.Logic.{⊎_elim}
use mathlib.Core.List.{List, ◌++◌}
use Prim.Native.Nat.{ℕ, ◌+◌, ◌*◌, ◌/◌, ◌%◌, ◌<◌, ◌≤◌}
use native.Mathlib.Omega.{arith}
use lib.ListN.{length, get_or, take, drop, get_or-eq_default}
use lib.ListN.{take-append-drop}
use lib.Seq.{take_at, drop_at}
use borrow.Author.Tests.{ltb-true, eqb-true, eqb-false}
use Rattle.words.specs.Answer.{Answer, accepted, afterwards}
use Rattle.words.specs.Buffer.{over}
use Rattle.words.specs.Decide.{◌<?◌, ◌=?◌, ◌≠?◌}
use Rattle.words.specs.Paper.{no_room_values}
use Rattle.words.specs.declared.outcome.NoRoom as words
use Rattle.words.specs.declared.outcome.Room.TheVariants.{Output}
use Rattle.words.proofs.DecideLaws.{le_or_gt}
use Rattle.words.proofs.PaperLaws.{no_room_of, no_room_back}
use Rattle.wire.specs.Layout.{entry_words, blob, rowset_bytes}
use Rattle.wire.specs.declared.error.WireError.{WireError}
use Rattle.wire.specs.declared.error.WireError.TheVariants.{NoRoom}
use Rattle.wire.proofs.PaperLaws.{paper_keeps}
use Rattle.wire_check.specs.Writing.{entries_in, first_bad, writing}
use Rattle.wire_write.proofs.Unique.{encode_rowset_unique}
use Rattle.wire_write.specs.Statement.{Encodes}
use Rattle.pack_pairs.specs.Pairs.{type_at}
use Rattle.pack_pairs.specs.Packing.{packing, packed_table, packed_area, needed_bytes, capped}
use Rattle.pack_pairs.specs.Stages.{packed, packed_bytes, room, needed, Inside}
use Rattle.pack_pairs.proofs.PackingLaws.{needed_is, area_is}
use Rattle.pack_pairs.proofs.PairLaws.{either, has_in}
use Rattle.pack_pairs.proofs.RoomLaws.{length_bytes}
use Rattle.pack_pairs.proofs.RuleLaws.{good_inside}
use Rattle.pack_pairs.proofs.UseLaws.{not_true_false}
use Rattle.pack_answer.specs.Statement.{Packs}
use Rattle.std.specs.declared.result.Result.{Result}
use Rattle.std.specs.declared.result.Result.TheVariants.{Ok, Err}
use Rattle.pack_answer.proofs.Unique.{packs_unique}
use Rattle.pack_promises.specs.Packing.{Begins, PackKeepsContent, PackMovesOffsetsAlone, PackWritesTheSame, PackTwice, PackPairs, PackRoom, PackAccepts, PackRefusalKeeps}
use Rattle.pack_promises.proofs.TwiceLaws.{packed_long, packed_other, offset_new, room_kept, packed_twice, bytes_twice}
use Rattle.pack_promises.proofs.SameLaws.{content_as_before, bytes_as_before, writing_as_before}
use Rattle.pack_promises.proofs.PackedLaws.{packed_same, found_same, none_after, word_other}
use Rattle.pack_promises.proofs.OnceLaws.{once, none_had}
use Rattle.pack_promises.proofs.FilledLaws.{Filling, filling, packs, none_found, last_decided}

-- An area that begins with the filled bytes is the packed bytes and something behind them

module _ (area values out : List ℕ) (n : ℕ) (values' out' : List ℕ) (told : Packs area values out (Ok n) values' out') where
  is : Filling area values out n values' out'
  is = filling area values out n values' out' told

  as_long : length (packed_bytes area values (entries_in values)) ≡ n
  as_long = length_bytes area values (good_inside area values is.whole is.good) (entries_in values) (omega arith) ∙ sym is.sum

  front : take n out' ≡ packed_bytes area values (entries_in values)
  front = ap (take n) is.bytes ∙ take_at (packed_bytes area values (entries_in values)) _ n as_long

  rest : drop n out' ≡ drop n out
  rest = ap (drop n) is.bytes ∙ drop_at (packed_bytes area values (entries_in values)) _ n as_long ∙ ap (λ (k : ℕ). drop k out) as_long

  begins : (second : List ℕ) → Begins n out' second → second ≡ packed_bytes area values (entries_in values) ++ drop n second
  begins second same = sym (take-append-drop n second) ∙ ap (λ (l : List ℕ). l ++ drop n second) (same ∙ front)

-- Values keep their order and content.
pub pack_keeps_content : PackKeepsContent
pack_keeps_content area values out n values' out' told second same rows =
    let f = filling area values out n values' out' told in
    rw (begins area values out n values' out' told second same, f.table)
    (content_as_before area values (packed_bytes area values (entries_in values) ++ drop n second) (packed values) (packed_same area values (drop n second) f.whole f.good) rows)

-- The rowset is written as before.
pub pack_writes_the_same : PackWritesTheSame
pack_writes_the_same area values out n values' out' told second same rows output w w' after after' before now =
    let f = filling area values out n values' out' told in
    let each = packed_same area values (drop n second) f.whole f.good in
    let at : second ≡ packed_bytes area values (entries_in values) ++ drop n second = begins area values out n values' out' told second same in
    let answers : writing second rows values' (length output) ≡ writing area rows values (length output) =
    rw (at, f.table) (writing_as_before area values (packed_bytes area values (entries_in values) ++ drop n second) (packed values) each (packed_long values) (found_same area values (drop n second) f.whole f.good) rows (length output)) in
    let bytes : rowset_bytes second rows values' ≡ rowset_bytes area rows values =
    rw (at, f.table) (bytes_as_before area values (packed_bytes area values (entries_in values) ++ drop n second) (packed values) each rows) in
    let as_before : Encodes area rows values output w' after' = (now.0 ∙ answers, now.1 ∙ ap (λ (a : Answer). afterwards a (rowset_bytes second rows values') output) answers ∙ ap (λ (l : List ℕ). afterwards (writing area rows values (length output)) l output) bytes) in
    let one = encode_rowset_unique area rows values output (w', after') (w, after) as_before before in
    (ap (λ (x : Result ℕ WireError × List ℕ). x.0) one, ap (λ (x : Result ℕ WireError × List ℕ). x.1) one)

-- Of the table, the offsets of blobs change alone.

offsets_alone : (values : List ℕ) (k : ℕ) → length values % 5 ≡ 0 → (k % entry_words ≡ 3 → blob (type_at values (k / entry_words)) ≡ true → ⊥) → get_or (packed values) k 0 ≡ get_or values k 0
offsets_alone values k whole other =
    ⊎_elim
    (λ (past : length values ≤ k). get_or-eq_default (packed values) 0 (omega (arith, packed_long values)) ∙ sym (get_or-eq_default values 0 past))
    (λ (below : k < length values).
    ⊎_elim
    (λ (e : ((k % 5) =? 3) ≡ true).
    let at : k % 5 ≡ 3 = eqb-true (k % 5) 3 e in
    let place : 5 * (k / 5) + 3 ≡ k = omega arith in
    rw place at (offset_new values (k / 5) (omega arith) ∙ word_other values (k / 5) (not_true_false (blob (type_at values (k / 5))) (other at))))
    (λ (e : ((k % 5) =? 3) ≡ false). packed_other values k (eqb-false (k % 5) 3 e))
    (either ((k % 5) =? 3)))
    (le_or_gt (length values) k)

-- A refusal changes nothing.
pub pack_refusal_keeps : PackRefusalKeeps
pack_refusal_keeps area values out refusal values' out' told = (
  told.1 ∙ ap (λ (a : Answer). afterwards a (packed_table values) values) (sym told.0) ∙ paper_keeps refusal (packed_table values) values,
  told.2 ∙ ap (λ (a : Answer). afterwards a (packed_area area values) out) (sym told.0) ∙ paper_keeps refusal (packed_area area values) out,
)

pub pack_moves_offsets_alone : PackMovesOffsetsAlone
pack_moves_offsets_alone area values out (Ok n) values' out' told =
    let f = filling area values out n values' out' told in
    (ap length f.table ∙ packed_long values, λ k other. ap (λ (l : List ℕ). get_or l k 0) f.table ∙ offsets_alone values k f.whole other)
pack_moves_offsets_alone area values out (Err refusal) values' out' told =
    let same : values' ≡ values = (pack_refusal_keeps area values out refusal values' out' told).0 in
    (ap length same, λ k other. ap (λ (l : List ℕ). get_or l k 0) same)

-- What is packed packs to itself.
pub pack_twice : PackTwice
pack_twice area values out n values' out' told second same third r values'' third' fits again =
    let f = filling area values out n values' out' told in
    let at : second ≡ packed_bytes area values (entries_in values) ++ drop n second = begins area values out n values' out' told second same in
    let inside : Inside area values = good_inside area values f.whole f.good in
    let entries-kept : entries_in (packed values) ≡ entries_in values = ap (λ (k : ℕ). k / 5) (packed_long values) in
    let needs : needed (packed values) ≡ needed values = ap (room (packed values)) entries-kept ∙ room_kept values (entries_in values) (omega arith) in
    let none : first_bad (length second) values' ≡ entries_in values' =
    rw (f.table, entries-kept) (rw (at) (none_after area values (drop n second) f.whole f.good)) in
    let bytes : packed_bytes second values' (entries_in values') ≡ packed_bytes area values (entries_in values) =
    rw (f.table, entries-kept, at) (bytes_twice values area (drop n second) inside (entries_in values) (omega arith)) in
    let sum : needed values' ≡ n = ap needed f.table ∙ needs ∙ sym f.sum in
    let there = packs second values' third (rw (f.table, packed_long values) f.whole) none (omega (arith, sum)) in
    let one = packs_unique second values' third (r, values'', third') (Ok (needed values'), packed values', over (packed_bytes second values' (entries_in values')) third) again there in (
      ap (λ (x : Result ℕ WireError × List ℕ × List ℕ). x.0) one ∙ ap Ok sum,
      ap (λ (x : Result ℕ WireError × List ℕ × List ℕ). x.1) one ∙ ap packed f.table ∙ packed_twice values f.whole ∙ sym f.table,
      ap (λ (x : Result ℕ WireError × List ℕ × List ℕ). take n x.2) one ∙ ap (λ (l : List ℕ). take n (over l third)) bytes
          ∙ take_at (packed_bytes area values (entries_in values)) _ n (as_long area values out n values' out' told) ∙ sym (front area values out n values' out' told),
    )

-- The pairs.
pub pack_pairs : PackPairs
pack_pairs values = (
  (λ i h s. has_in values i (entries_in values) i h s (refl, refl)),
  (λ p none. none_had values p (entries_in values) none),
  once values (entries_in values),
)

-- The room.

no_room : (area values out : List ℕ) (short : words.NoRoom) (values' out' : List ℕ) → Packs area values out (Err (NoRoom short)) values' out'
    → (short ≡ record { room = Output; needed = capped (needed_bytes values); given = length out }) × (length out < needed_bytes values)
unfolding packing
no_room area values out short values' out' told =
    let by-17 = last_decided ((length values % entry_words) ≠? 0) (first_bad (length area) values <? entries_in values) (length out <? needed_bytes values) _ _ _ (no_room_values short) (needed_bytes values) told.0 in (
      sym (no_room_back short) ∙ ap no_room_of by-17.1 ∙ no_room_back (record { room = Output; needed = capped (needed_bytes values); given = length out }),
      ltb-true (length out) (needed_bytes values) by-17.0,
    )

pub pack_room : PackRoom
unfolding needed_bytes packed_area
pack_room area values out r values' out' told = (
  (λ n e.
      let filled : Packs area values out (Ok n) values' out' = rw e at told in
      let f = filling area values out n values' out' filled in
      (f.sum ∙ needed_is values, omega (arith, f.sum, f.fits), front area values out n values' out' filled ∙ area_is values area, rest area values out n values' out' filled)),
  (λ short e. no_room area values out short values' out' (rw e at told)),
)

-- What is accepted.
pub pack_accepts : PackAccepts
unfolding needed_bytes
pack_accepts area values out r values' out' told = (
  (λ n e.
      let f = filling area values out n values' out' (rw e at told) in
      record { whole = f.whole; good = λ i h. f.good (entry_words * i) (omega arith) (omega arith) }),
  (λ able fits.
      let there = packs area values out able.whole (none_found area values able.good) (omega (arith, needed_is values, fits)) in
      let one = packs_unique area values out (r, values', out') (Ok (needed values), packed values, over (packed_bytes area values (entries_in values)) out) told there in
      ap (λ (x : Result ℕ WireError × List ℕ × List ℕ). x.0) one ∙ ap Ok (needed_is values)),
)
