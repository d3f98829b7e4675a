-- What the private stages keep in the table while they run. Each of an entry's words id, type and aggregate, which
-- fit 16 bits, holds a link above them: the number of an entry and 1, or 0 for none. The link over an id is the first
-- of its bucket; those over the type and the aggregate of an entry go on from it. So each bucket is a tree, in which
-- the search for a pair turns by the bits of its offset and its length in turn: two pairs part after 128 turns at the
-- latest. Nothing that is proved depends on which bucket a pair has. Assumes nothing.
use Rattle.std.specs.Prelude.{ℕ, ◌+◌, ◌*◌, ◌-◌, ◌/◌, ◌%◌, ◌^◌, ◌<◌, ◌≤◌, ◌≡◌, ◌⊎◌, Bool, true, false, ◌&&◌, ◌||◌, List, length, get_or, set, Option, Some, None}
use Rattle.words.specs.Decide.{pick, ◌<?◌, ◌=?◌}
use Rattle.wire.specs.Layout.{blob, entry_words}
use Rattle.pack_pairs.specs.Pairs.{type_at, offset_at, length_at, stored}
use Rattle.pack_pairs.specs.Stages.{Alike, New, first_use, needed}
use Rattle.pack_links.specs.declared.Place.{Place}
use Rattle.pack_links.specs.declared.Place.TheVariants.{Known, Free}

-- the link over the word s of the table
abbrev pub link : List ℕ → ℕ → ℕ
link t s = get_or t s 0 / 65_536

-- the word over which what lies behind the entry k is linked
abbrev pub behind : ℕ → ℕ → ℕ
behind k x = entry_words * k + 1 + x % 2

-- the search that stands at the word s, with x and y still to turn by, comes by the entry j
pub data Leads (t : List ℕ) : ℕ → ℕ → ℕ → ℕ → Type 0 where
  here : {s x y j : ℕ} → link t s ≡ j + 1 → Leads t s x y j
  onward : {s x y j : ℕ} (k : ℕ) → link t s ≡ k + 1 → Leads t (behind k x) y (x / 2) j → Leads t s x y j

-- some link names the entry k
pub record Linked (t : List ℕ) (k : ℕ) : Type 0 where
  pub at : ℕ
  pub over : at % entry_words < 3
  pub names : link t at ≡ k + 1

-- a linked entry is one of the table, and what lies behind it comes after it
pub record Climbs (t : List ℕ) : Type 0 where
  pub within : (k : ℕ) → Linked t k → entry_words * k + entry_words ≤ length t
  pub upward : (k : ℕ) → Linked t k → (x m : ℕ) → link t (behind k x) ≡ m + 1 → k < m

-- u has the links of t, and perhaps more
abbrev pub Grows : List ℕ → List ℕ → Type 0
Grows t u = (s k : ℕ) → s % entry_words < 3 → link t s ≡ k + 1 → link u s ≡ k + 1

-- a word that a search comes to
pub record Comes (t : List ℕ) (s : ℕ) : Type 0 where
  pub over : s % entry_words < 3
  pub inside : s < length t
  pub from : (s % entry_words ≡ 0) ⊎ Linked t (s / entry_words)

-- a search from the word `head` that comes by the entry j
abbrev pub Reaches : List ℕ → ℕ → ℕ → Type 0
Reaches t head j = Leads t head (offset_at t j) (length_at t j) j

-- the search for the pair of the entry i, from the word `head`, has come to the word s with x and y to turn by
pub record Sought (t : List ℕ) (i head s x y : ℕ) : Type 0 where
  pub comes : Comes t s
  pub ahead : (j : ℕ) → Alike t j i → Reaches t head j → Leads t s x y j
  pub back : (u : List ℕ) → Grows t u → Leads u s x y i → Leads u head (offset_at t i) (length_at t i) i

-- it ends at an entry with this pair, or at a word with no link, where no entry with this pair is linked, and a link
-- leads to i
pub record Ends (t : List ℕ) (i head s : ℕ) : Type 0 where
  pub comes : Comes t s
  pub free : link t s ≡ 0
  pub none : (j : ℕ) → Alike t j i → Reaches t head j → ⊥
  pub leads : (u : List ℕ) → Grows t u → link u s ≡ i + 1 → Leads u head (offset_at t i) (length_at t i) i

abbrev pub Finds : List ℕ → ℕ → ℕ → Place → Type 0
Finds t i head (Known j) = Linked t j × Alike t j i
Finds t i head (Free s) = Ends t i head s

-- where the buckets of a block of the area begin
abbrev pub block_start : ℕ → ℕ
block_start offset = offset / 65_536 % 1_048_576 * 2_654_435_769 / 1_024

-- the bucket of a pair among as many as there are entries, by the word over which its tree is linked
unfoldable pub bucket : ℕ → ℕ → ℕ → ℕ
bucket offset n size = entry_words * ((block_start offset + offset / 16 + n % 65_536) % size)

abbrev pub head_of : List ℕ → ℕ → ℕ
head_of t i = bucket (offset_at t i) (length_at t i) (length t / entry_words)

-- whether the entry i, under its links, stores something
abbrev pub stored_under : List ℕ → ℕ → Bool
stored_under t i = blob (type_at t i % 65_536) && 0 <? length_at t i

-- the search for the pair of the entry i from its bucket; no place where it stores nothing
abbrev pub Looks : List ℕ → ℕ → Option Place → Type 0
Looks t i (Some place) = (stored_under t i ≡ true) × Finds t i (head_of t i) place
Looks t i None = stored_under t i ≡ false

-- t with a link to the entry k over the word s
abbrev pub linked_to : List ℕ → ℕ → ℕ → List ℕ
linked_to t s k = set t s (get_or t s 0 + 65_536 * (k + 1))

-- words that leave the room for links, and few enough entries
pub record Spare (values : List ℕ) : Type 0 where
  pub small : (s : ℕ) → s % entry_words < 3 → get_or values s 0 < 65_536
  pub few : length values < 2 ^ 48
  pub whole : length values % entry_words ≡ 0

-- t is `values` with links over its words
pub record Over (values t : List ℕ) : Type 0 where
  pub as_long : length t ≡ length values
  pub words : (s : ℕ) → s % entry_words < 3 → get_or t s 0 % 65_536 ≡ get_or values s 0
  pub pairs : (s : ℕ) → 3 ≤ s % entry_words → get_or t s 0 ≡ get_or values s 0

-- the entry j is new and linked, or the link over its type names the first use of its pair
abbrev pub Settled : List ℕ → List ℕ → ℕ → Type 0
Settled values t j =
    (New values j × Linked t j) ⊎ ((first_use values j < j) × (link t (entry_words * j + 1) ≡ first_use values j + 1))

-- the links after the first i entries
pub record Linking (values t : List ℕ) (i : ℕ) : Type 0 where
  pub over : Over values t
  pub nodes : (k : ℕ) → Linked t k → (k < i) × New values k
  pub upward : (k : ℕ) → Linked t k → (x m : ℕ) → link t (behind k x) ≡ m + 1 → k < m
  pub fresh : (k x : ℕ) → i ≤ k → link t (behind k x) ≡ 0
  pub reached : (j : ℕ) → j < i → New values j → Leads t (head_of values j) (offset_at values j) (length_at values j) j
  pub settled : (j : ℕ) → j < i → stored values j ≡ true → Settled values t j

-- the entry i of a linked table is the first use of its pair where the link over its type does not go back
abbrev pub goes_on : List ℕ → ℕ → Bool
goes_on t i = (link t (entry_words * i + 1) =? 0) || i <? link t (entry_words * i + 1)

-- the fourth word of the entry i, once those before it have theirs, where the next pair goes to `at`
abbrev pub word_for : List ℕ → ℕ → ℕ → ℕ
word_for t i at =
    pick (blob (type_at t i % 65_536))
    (pick (0 <? length_at t i) (pick (goes_on t i) at (offset_at t (link t (entry_words * i + 1) - 1))) 0) (offset_at t i)

-- the room that the entry i takes
abbrev pub room_for : List ℕ → ℕ → ℕ
room_for t i = pick (stored_under t i && goes_on t i) (length_at t i) 0

-- a linked table, and one whose pairs can be moved
pub record Movable (values t : List ℕ) : Type 0 where
  pub links : Linking values t (length values / entry_words)
  pub whole : length values % entry_words ≡ 0
  pub fits : needed values < 2 ^ 64

-- the entry i of t without its links, its fourth word being w
abbrev pub settled : List ℕ → ℕ → ℕ → List ℕ
settled t i w =
    let k = entry_words * i in
    set
    (set (set (set t k (get_or t k 0 % 65_536)) (k + 1) (get_or t (k + 1) 0 % 65_536)) (k + 2) (get_or t (k + 2) 0 % 65_536))
    (k + 3)
    w
