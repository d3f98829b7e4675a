-- What document 02's A11 asks of packing, over `Packs`, the statement of `pack`, and `Encodes`, that of
-- `encode_rowset`. Assumes nothing.
use Rattle.std.specs.Prelude.{ℕ, ◌*◌, ◌/◌, ◌%◌, ◌<◌, ◌≤◌, true, false, List, [], ◌∷◌, ◌≡◌, length, get_or, take, drop, Result, Ok, Err}
use Rattle.words.specs.Answer.{accepted}
use Rattle.words.specs.Paper.{no_room}
use Rattle.words.specs.Text.{text}
use Rattle.words.specs.declared.outcome.NoRoom as words
use Rattle.words.specs.declared.outcome.Room.TheVariants.{Output}
use Rattle.wire.specs.Content.{rows_in}
use Rattle.wire.specs.Layout.{entry_words, int64, string, any, composite, blob}
use Rattle.wire.specs.declared.error.WireError.{WireError}
use Rattle.wire.specs.declared.error.WireError.TheVariants.{NoRoom}
use Rattle.wire_check.specs.Writing.{entries_in, bad_entry}
use Rattle.wire_write.specs.Statement.{Encodes}
use Rattle.pack_pairs.specs.Pairs.{type_at, stored, Pair, has, pair_at, distinct, sizes, bytes_of_pairs}
use Rattle.pack_pairs.specs.Packing.{capped, packing, packed_table, packed_area}
use Rattle.pack_answer.specs.Statement.{Packs}

-- an area that begins with the n bytes that were filled: the second area itself, or those bytes alone
abbrev pub Begins : ℕ → List ℕ → List ℕ → Type 0
Begins n out second = take n second ≡ take n out

-- "Values keep their order and content": with any row table the rows have the content that they had, offsets apart.
abbrev pub PackKeepsContent : Type 0
PackKeepsContent =
    (area values out : List ℕ) (n : ℕ) (values' out' : List ℕ) → Packs area values out (Ok n) values' out'
    → (second : List ℕ) → Begins n out' second
    → (rows : List ℕ) → rows_in second rows values' ≡ rows_in area rows values

-- Of the table the offsets of blobs change and nothing else: it is as long, and each word that is not the fourth of a
-- blob's entry stays.
abbrev pub PackMovesOffsetsAlone : Type 0
PackMovesOffsetsAlone =
    (area values out : List ℕ) (r : Result ℕ WireError) (values' out' : List ℕ) → Packs area values out r values' out'
    → (length values' ≡ length values)
    × ((k : ℕ) → (k % entry_words ≡ 3 → blob (type_at values (k / entry_words)) ≡ true → ⊥)
    → get_or values' k 0 ≡ get_or values k 0)

-- "Writing the rowset before and after gives the same bytes": with any row table and any output, the same answer, a
-- refusal too, and the same output afterwards.
abbrev pub PackWritesTheSame : Type 0
PackWritesTheSame =
    (area values out : List ℕ) (n : ℕ) (values' out' : List ℕ) → Packs area values out (Ok n) values' out'
    → (second : List ℕ) → Begins n out' second
    → (rows output : List ℕ) (w w' : Result ℕ WireError) (after after' : List ℕ)
    → Encodes area rows values output w after → Encodes second rows values' output w' after'
    → (w' ≡ w) × (after' ≡ after)

-- "Packing twice changes no more than packing once": the same table, and the same bytes in front of a third area that
-- has the room.
abbrev pub PackTwice : Type 0
PackTwice =
    (area values out : List ℕ) (n : ℕ) (values' out' : List ℕ) → Packs area values out (Ok n) values' out'
    → (second : List ℕ) → Begins n out' second
    → (third : List ℕ) (r : Result ℕ WireError) (values'' third' : List ℕ) → n ≤ length third
    → Packs second values' third r values'' third'
    → (r ≡ Ok n) × (values'' ≡ values') × (take n third' ≡ take n out')

-- no pair stands in the list twice
abbrev pub Once : List Pair → Type 0
Once [] = Unit {0}
Once (p ∷ ps) = (has p ps ≡ false) × Once ps

-- "Each distinct non-empty pair of offset and length is stored once": the list has a pair exactly where an entry
-- stores it, and has it once.
abbrev pub PackPairs : Type 0
PackPairs =
    (values : List ℕ)
    → ((i : ℕ) → i < entries_in values → stored values i ≡ true → has (pair_at values i) (distinct values) ≡ true)
    × ((p : Pair) → ((i : ℕ) → i < entries_in values → stored values i ≡ true → pair_at values i ≡ p → ⊥)
    → has p (distinct values) ≡ false)
    × Once (distinct values)

-- "The room needed is the sum of the distinct pairs' lengths", "and nothing else is kept": so many bytes are filled,
-- they are those of the pairs, and the rest of the area is left; 17 says that sum, at most 2^64-1, exactly where it
-- is more than there is.
abbrev pub PackRoom : Type 0
PackRoom =
    (area values out : List ℕ) (r : Result ℕ WireError) (values' out' : List ℕ) → Packs area values out r values' out'
    → ((n : ℕ) → r ≡ Ok n
    → (n ≡ sizes (distinct values)) × (n ≤ length out) × (take n out' ≡ bytes_of_pairs area (distinct values))
    × (drop n out' ≡ drop n out))
    × ((short : words.NoRoom) → r ≡ Err (NoRoom short)
    → (short ≡ record { room = Output; needed = capped (sizes (distinct values)); given = length out })
    × (length out < sizes (distinct values)))

-- whole entries, none of them bad: what rules 1 and 3 of 18 ask
pub record Packable (area values : List ℕ) : Type 0 where
  pub whole : length values % entry_words ≡ 0
  pub good : (i : ℕ) → i < entries_in values → bad_entry (length area) values (entry_words * i) ≡ false

-- It packs exactly where rules 1 and 3 are kept and the room is there.
abbrev pub PackAccepts : Type 0
PackAccepts =
    (area values out : List ℕ) (r : Result ℕ WireError) (values' out' : List ℕ) → Packs area values out r values' out'
    → ((n : ℕ) → r ≡ Ok n → Packable area values)
    × (Packable area values → sizes (distinct values) ≤ length out → r ≡ Ok (sizes (distinct values)))

-- A refusal changes nothing.
abbrev pub PackRefusalKeeps : Type 0
PackRefusalKeeps =
    (area values out : List ℕ) (refusal : WireError) (values' out' : List ℕ)
    → Packs area values out (Err refusal) values' out' → (values' ≡ values) × (out' ≡ out)

-- An example, computed: "old Dorsch new Kabeljau" under the values String (4, 6), Any (15, 8), Int64 99, Composite
-- (4, 6), String (5, 5), String (23, 0).

abbrev pub example_area : List ℕ
example_area = text "old Dorsch new Kabeljau"

-- with these fourth words
abbrev pub example_table : ℕ → ℕ → ℕ → ℕ → ℕ → List ℕ
example_table a b d e f =
    1 ∷ string ∷ 0 ∷ a ∷ 6
    ∷ 2 ∷ any ∷ 0 ∷ b ∷ 8
    ∷ 3 ∷ int64 ∷ 0 ∷ 99 ∷ 0
    ∷ 4 ∷ composite ∷ 1 ∷ d ∷ 6
    ∷ 5 ∷ string ∷ 0 ∷ e ∷ 5
    ∷ 6 ∷ string ∷ 0 ∷ f ∷ 0
    ∷ []

abbrev pub example_values : List ℕ
example_values = example_table 4 15 4 5 23

abbrev pub PackExample : Type 0
PackExample =
    (packing example_area example_values 19 ≡ accepted 19 [])
    × (packed_table example_values ≡ example_table 0 6 0 14 0)
    × (packed_area example_area example_values ≡ text "DorschKabeljauorsch")
    × (packing example_area example_values 18 ≡ no_room Output 19 18)
