-- What the private stages of the second walk hand on: nobody has to believe it. A stage is for a text whose reading
-- comes to its end, and says where and in which state that reading goes on, for whatever rows and values were read
-- before. Assumes nothing.
use Rattle.std.specs.Prelude.{ℕ, zero, suc, ◌+◌, ◌*◌, ◌≤◌, ◌<◌, true, ◌≡◌, List, [], ◌∷◌, ◌++◌, length, get_or}
use Rattle.std.proofs.lemmas.List.Edits.{sets}
use Rattle.places.specs.Machine.{read}
use Rattle.wire.specs.Layout.{entry_words, known}
use Rattle.wire.specs.Content.{Content, word, bytes, Cell, Row}
use Rattle.text_form.specs.Walk.{Phase, fresh, number, letter, digits, full, percent, at, cell_of, small_value}
use Rattle.text_steps.specs.Tables.{blob_of, blobs, all_cells, cells_of, row_word, fourth_word, fifth_word, entries_from, row_table, value_table, area_bytes}
use Rattle.text_walk.specs.Statement.{walking}
use Rattle.text_steps.specs.Stages.{from, is_digit, opened, Signless, EndsThere, behind_value}
use Rattle.text_read.specs.declared.fill.Number.{Number}
use Rattle.text_read.specs.declared.fill.Head.{Head}
use Rattle.text_read.specs.declared.fill.Copied.{Copied}
use Rattle.text_read.specs.declared.fill.Payload.{Payload}
use Rattle.text_read.specs.declared.fill.Value.{Value}
use Rattle.text_read.specs.declared.fill.Line.{Line}

-- some reading is in this phase at the place i, and comes to its end
abbrev pub Has : List ℕ → ℕ → Phase → Type 0
Has s i p = (rows : List Row) × (cells : List Cell) × (final : List Row) × (from s i (at rows cells p) ≡ read final)

abbrev pub HasNumber : List ℕ → ℕ → ℕ → Type 0
HasNumber s i n = Has s i (number n)

abbrev pub ReadsId : List ℕ → ℕ → ℕ → Number → Type 0
ReadsId s i n r =
    (rows : List Row) (cells : List Cell) (final : List Row) → from s i (at rows cells (number n)) ≡ read final
    → (i ≤ r.next) × (from s r.next (at rows cells (letter r.value 0)) ≡ read final)

abbrev pub HasLetter : List ℕ → ℕ → ℕ → ℕ → Type 0
HasLetter s i id aggregate = Has s i (letter id aggregate) × Signless s i aggregate

abbrev pub ReadsLetter : List ℕ → ℕ → ℕ → ℕ → Head → Type 0
ReadsLetter s i id aggregate r =
    (rows : List Row) (cells : List Cell) (final : List Row) → from s i (at rows cells (letter id aggregate))
    ≡ read final
    → (i ≤ r.next) × (known r.kind ≡ true) × (r.id ≡ id) × (r.aggregate ≡ aggregate)
    × (from s r.next (at rows cells (opened id aggregate r.kind)) ≡ read final)

abbrev pub ReadsHead : List ℕ → ℕ → ℕ → Head → Type 0
ReadsHead s i n r =
    (rows : List Row) (cells : List Cell) (final : List Row) → from s i (at rows cells (number n)) ≡ read final
    → (i ≤ r.next) × (known r.kind ≡ true)
    × (from s r.next (at rows cells (opened r.id r.aggregate r.kind)) ≡ read final)

-- k digits from the place i on; their values, the first in the lowest byte of a word; the number that they spell behind
-- w
abbrev pub Digits : ℕ → List ℕ → ℕ → Type 0
Digits zero s i = Unit {0}
Digits (suc k) s i = (small_value (get_or s i 0) ≤ 15) × Digits k s (i + 1)

abbrev pub digit_values : ℕ → List ℕ → ℕ → ℕ
digit_values zero s i = 0
digit_values (suc k) s i = small_value (get_or s i 0) + 256 * digit_values k s (i + 1)

abbrev pub spelling : ℕ → List ℕ → ℕ → ℕ → ℕ
spelling zero s i w = w
spelling (suc k) s i w = spelling k s (i + 1) (w * 16 + small_value (get_or s i 0))

abbrev pub HasWord : List ℕ → ℕ → ℕ → Type 0
HasWord s i type = (id : ℕ) × (aggregate : ℕ) × Has s i (digits id aggregate type 15 0)

abbrev pub ReadsWord : List ℕ → ℕ → ℕ → ℕ → Type 0
ReadsWord s i type r =
    (rows : List Row) (cells : List Cell) (id aggregate : ℕ) (final : List Row)
    → from s i (at rows cells (digits id aggregate type 15 0)) ≡ read final
    → from s (i + 16) (at rows cells (full (cell_of id aggregate type (word r)))) ≡ read final

abbrev pub HasEscape : List ℕ → ℕ → Type 0
HasEscape s i = (id : ℕ) × (aggregate : ℕ) × (type : ℕ) × (t : List ℕ) × Has s i (percent id aggregate type t)

abbrev pub ReadsEscape : List ℕ → ℕ → ℕ → Type 0
ReadsEscape s i r =
    (rows : List Row) (cells : List Cell) (id aggregate type : ℕ) (t : List ℕ) (final : List Row)
    → from s i (at rows cells (percent id aggregate type t)) ≡ read final
    → (i + 2 ≤ length s)
    × (from s (i + 2) (at rows cells (full (cell_of id aggregate type (bytes (t ++ r ∷ []))))) ≡ read final)

-- so much of the area is used by the rows and values read, and it has room for all that come
abbrev pub AreaRoom : List Row → List Cell → List Row → ℕ → List ℕ → Type 0
AreaRoom rows cells final used area =
    (used ≡ length (blobs (all_cells rows)) + length (blobs cells)) × (length (area_bytes final) ≤ length area)

abbrev pub TableRoom : List Row → List Cell → List Row → ℕ → List ℕ → Type 0
TableRoom rows cells final k values =
    (k ≡ entry_words * (length (all_cells rows) + length cells)) × (entry_words * length (all_cells final) ≤ length values)

abbrev pub HasBlob : List ℕ → ℕ → ℕ → List ℕ → Type 0
HasBlob s i used area =
    (rows : List Row) × (cells : List Cell) × (id : ℕ) × (aggregate : ℕ) × (type : ℕ) × (final : List Row)
    × (from s i (at rows cells (full (cell_of id aggregate type (bytes [])))) ≡ read final)
    × AreaRoom rows cells final used area

abbrev pub CopiesUnits : List ℕ → ℕ → ℕ → List ℕ → List ℕ → Copied → Type 0
CopiesUnits s i used area area' r =
    (rows : List Row) (cells : List Cell) (id aggregate type : ℕ) (final : List Row)
    → from s i (at rows cells (full (cell_of id aggregate type (bytes [])))) ≡ read final
    → (t : List ℕ) × (i ≤ r.next) × EndsThere s r.next × (r.used ≡ used + length t) × (area' ≡ sets area used t)
    × (from s r.next (at rows cells (full (cell_of id aggregate type (bytes t)))) ≡ read final)

abbrev pub HasContent : List ℕ → ℕ → ℕ → ℕ → List ℕ → Type 0
HasContent s i type used area =
    (rows : List Row) × (cells : List Cell) × (id : ℕ) × (aggregate : ℕ) × (final : List Row)
    × (from s i (at rows cells (opened id aggregate type)) ≡ read final) × (known type ≡ true)
    × AreaRoom rows cells final used area

-- the words of an entry that this content has, where the area is used so far
abbrev pub Stores : ℕ → Content → List ℕ → List ℕ → Payload → Type 0
Stores used content area area' r =
    (r.used ≡ used + length (blob_of content)) × (area' ≡ sets area used (blob_of content))
    × (r.fourth ≡ fourth_word used content) × (r.fifth ≡ fifth_word content)

abbrev pub ReadsContent : List ℕ → ℕ → ℕ → ℕ → List ℕ → List ℕ → Payload → Type 0
ReadsContent s i type used area area' r =
    (rows : List Row) (cells : List Cell) (id aggregate : ℕ) (final : List Row)
    → from s i (at rows cells (opened id aggregate type)) ≡ read final
    → (content : Content) × (i ≤ r.next) × EndsThere s r.next × Stores used content area area' r
    × (from s r.next (at rows cells (full (cell_of id aggregate type content))) ≡ read final)

abbrev pub HasValue : List ℕ → ℕ → ℕ → List ℕ → ℕ → List ℕ → ℕ → Type 0
HasValue s i n values k area used =
    (rows : List Row) × (cells : List Cell) × (final : List Row)
    × (from s i (at rows cells (number n)) ≡ read final) × TableRoom rows cells final k values
    × AreaRoom rows cells final used area

abbrev pub FillsValue : List ℕ → ℕ → ℕ → ℕ → ℕ → List ℕ → List ℕ → List ℕ → List ℕ → Value → Type 0
FillsValue s i n k used values area values' area' r =
    (rows : List Row) (cells : List Cell) (final : List Row) → from s i (at rows cells (number n)) ≡ read final
    → (c : Cell) × (i < r.next) × (r.next ≤ length s) × (r.used ≡ used + length (blob_of c.content))
    × (values' ≡ sets values k (entries_from used (c ∷ []))) × (area' ≡ sets area used (blob_of c.content))
    × (from s r.next (behind_value r.last rows cells c) ≡ read final)

-- a line begins, and there is room
abbrev pub HasLine : List ℕ → ℕ → List ℕ → ℕ → List ℕ → ℕ → Type 0
HasLine s i values k area used =
    (i < length s)
    × ((rows : List Row) × (final : List Row)
    × (from s i (at rows [] fresh) ≡ read final) × TableRoom rows [] final k values × AreaRoom rows [] final used area)

abbrev pub HasValues : List ℕ → ℕ → List ℕ → ℕ → List ℕ → ℕ → Type 0
HasValues s i values k area used = HasLine s i values k area used × (is_digit (get_or s i 0) ≡ true)

abbrev pub FillsLine : List ℕ → ℕ → ℕ → ℕ → List ℕ → List ℕ → List ℕ → List ℕ → Line → Type 0
FillsLine s i k used values area values' area' r =
    (rows : List Row) (final : List Row) → from s i (at rows [] fresh) ≡ read final
    → (row : Row) × (i < r.next) × (r.next ≤ length s) × (r.word ≡ row_word row)
    × (r.k ≡ k + entry_words * length (cells_of row)) × (r.used ≡ used + length (blobs (cells_of row)))
    × (values' ≡ sets values k (entries_from used (cells_of row))) × (area' ≡ sets area used (blobs (cells_of row)))
    × (from s r.next (at (rows ++ row ∷ []) [] fresh) ≡ read final)

abbrev pub HasText : List ℕ → List ℕ → List ℕ → List ℕ → Type 0
HasText s rows values area =
    (final : List Row) × (walking s ≡ read final) × (length final ≤ length rows)
    × (entry_words * length (all_cells final) ≤ length values) × (length (area_bytes final) ≤ length area)

abbrev pub FillsText : List ℕ → List ℕ → List ℕ → List ℕ → List ℕ → List ℕ → List ℕ → Type 0
FillsText s rows values area rows' values' area' =
    (final : List Row) → walking s ≡ read final
    → (rows' ≡ sets rows 0 (row_table final)) × (values' ≡ sets values 0 (value_table final))
    × (area' ≡ sets area 0 (area_bytes final))
