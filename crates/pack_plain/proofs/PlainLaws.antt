-- The walks without links: the search for a first use, the sum, and the offsets from the last entry to the first.
-- Assumes nothing.
use mathlib.Core.Path.{◌≡◌, refl, sym, ◌∙◌, ap}
use mathlib.Core.Bool.{Bool, true, false, ◌&&◌}
use mathlib.Core.Logic.{inl, inr, ⊎_elim}
use mathlib.Core.List.{List}
use Prim.Native.Nat.{ℕ, zero, suc, ◌+◌, ◌*◌, ◌-◌, ◌/◌, ◌%◌, ◌^◌, ◌<◌, ◌≤◌}
use native.Mathlib.Nat.{sub-zero, eq-or-lt_of_le}
use native.Mathlib.Numerals.{add-one}
use native.Mathlib.Omega.{arith}
use lib.Dec.{eqb}
use lib.ListN.{length, get_or, set, length-set}
use lib.Seq.{get_or-set_same, get_or-set_other}
use borrow.Author.Tests.{lt-ltb, le-ltb, eq-eqb, ne_eqb}
use borrow.Rule.Slice.PartMut.{mid_of, put_mid}
use Rattle.words.specs.Decide.{first_from}
use Rattle.words.specs.Buffer.{stretch, over, fitted}
use Rattle.words.proofs.DecideLaws.{first_miss, first_hit, first_end, first_same, le_or_gt}
use Rattle.words.proofs.BufferLaws.{length_over}
use Rattle.words.proofs.LentLaws.{lent_fitted}
use Rattle.wire.specs.Layout.{blob, entry_words}
use Rattle.wire_check.specs.Writing.{entries_in}
use Rattle.pack_pairs.specs.Pairs.{type_at, offset_at, length_at, stored}
use Rattle.pack_pairs.specs.Packing.{table, capped}
use Rattle.pack_pairs.specs.Stages.{same, first_use, room_of, room, new_offset, new_word, packed_word, packed, packed_bytes, needed, Inside}
use Rattle.pack_pairs.proofs.UseLaws.{use_most}
use Rattle.pack_pairs.proofs.RoomLaws.{room_grows, room_more, packed_else, packed_fourth, capped_add, table_same, length_stretch, room_inside, length_bytes}

-- The search for a first use: from j on it finds what the whole finds

abbrev pub Seeks : List ℕ → ℕ → ℕ → Type 0
Seeks values i j = first_from (λ (k : ℕ). stored values k && same values k i) j (i - j) ≡ first_use values i

module _ (values : List ℕ) (i : ℕ) where
  pub seek_begin : Seeks values i 0
  unfolding first_use
  seek_begin = ap (λ (n : ℕ). first_from (λ (k : ℕ). stored values k && same values k i) 0 n) (sub-zero i)

  module _ (j : ℕ) (seeks : Seeks values i j) (r : Bool) (is : r ≡ (stored values j && same values j i)) where
    pub seek_hit : j < i → r ≡ true → j ≡ first_use values i
    seek_hit h hit = sym (first_hit _ j i h (sym is ∙ hit)) ∙ seeks

    pub seek_miss : j < i → r ≡ false → Seeks values i (j + 1)
    seek_miss h miss = sym (first_miss _ j i h (sym is ∙ miss)) ∙ seeks

  pub seek_end : (j : ℕ) → Seeks values i j → j ≤ i → i ≤ j → j ≡ first_use values i
  seek_end j seeks most least =
      let e : j ≡ i = omega arith in
      e ∙ sym (first_end _ i) ∙ rw e at seeks

pub capped_fits : (n : ℕ) → n < 2 ^ 64 → capped n ≡ n
capped_fits n h = rw (le-ltb 0xffff_ffff_ffff_ffff n (omega arith))

pub use_within : (values : List ℕ) (i named : ℕ) → named ≡ first_use values i → entry_words * i + entry_words ≤ length values → entry_words * named ≤ length values
use_within values i named first h = omega (arith, use_most values i)

-- Whether the entry j stores the pair of the entry i, test by test

module _ (values : List ℕ) (j i : ℕ) where
  pub uses_not : stored values j ≡ false → false ≡ (stored values j && same values j i)
  uses_not none = rw none

  module _ (is : stored values j ≡ true) where
    pub uses_other : (offset_at values j ≡ offset_at values i → ⊥) → false ≡ (stored values j && same values j i)
    uses_other h = rw (is, ne_eqb (offset_at values j) (offset_at values i) h)

    pub uses_length : offset_at values j ≡ offset_at values i → eqb (length_at values j) (length_at values i) ≡ (stored values j && same values j i)
    uses_length h = rw (is, eq-eqb (offset_at values j) (offset_at values i) h)

-- The room of one entry, and its new word

module _ (values : List ℕ) (i : ℕ) where
  pub room_none : stored values i ≡ false → 0 ≡ room_of values i
  room_none none = rw none

  module _ (is : stored values i ≡ true) (named : ℕ) (first : named ≡ first_use values i) where
    pub room_used : (named ≡ i → ⊥) → 0 ≡ room_of values i
    room_used h = rw (is, ← first, ne_eqb named i h)

    pub room_new : named ≡ i → length_at values i ≡ room_of values i
    room_new h = rw (is, ← first, eq-eqb named i h)

  pub word_other : blob (type_at values i) ≡ false → offset_at values i ≡ new_word values i
  unfolding new_word
  word_other isnt = rw isnt

  module _ (is : blob (type_at values i) ≡ true) where
    pub word_empty : length_at values i ≡ 0 → 0 ≡ new_word values i
    unfolding new_word
    word_empty e = rw (is, le-ltb 0 (length_at values i) (omega arith))

    pub word_stored : (length_at values i ≡ 0 → ⊥) → new_offset values i < 2 ^ 64 → (named r : ℕ) → named ≡ first_use values i → r ≡ capped (room values named) → r ≡ new_word values i
    unfolding new_word
    word_stored some fits named r first e =
        rw (is, lt-ltb 0 (length_at values i) (omega arith)) (e ∙ rw first (capped_fits (new_offset values i) fits))

-- The sum

pub sum_begin : (values : List ℕ) → 0 ≡ capped (room values 0)
unfolding room
sum_begin values = refl

pub sum_more : (values : List ℕ) (i sum more : ℕ) → sum ≡ capped (room values i) → more ≡ room_of values i → (next : ℕ) → next ≡ capped (sum + more) → next ≡ capped (room values (i + 1))
sum_more values i sum more so_far is next e = e ∙ rw (so_far, is, room_more values i) (capped_add (room values i) (room_of values i))

pub sum_end : (values : List ℕ) (n sum i : ℕ) → sum ≡ capped (room values i) → i ≤ n → n ≤ i → sum ≡ capped (room values n)
sum_end values n sum i so_far most least = let all : i ≡ n = omega arith in rw all at so_far

-- Two tables that agree up to the entry i give it one word

module _ (t u : List ℕ) (i : ℕ) (agree : (k : ℕ) → k < entry_words * i + entry_words → get_or t k 0 ≡ get_or u k 0) where
  stored_same : (j : ℕ) → j ≤ i → stored t j ≡ stored u j
  stored_same j h = rw (agree (entry_words * j + 1) (omega arith), agree (entry_words * j + 4) (omega arith))

  same_same : (j k : ℕ) → j ≤ i → k ≤ i → same t j k ≡ same u j k
  same_same j k h h' = rw (agree (entry_words * j + 3) (omega arith), agree (entry_words * j + 4) (omega arith), agree (entry_words * k + 3) (omega arith), agree (entry_words * k + 4) (omega arith))

  use_same : (j : ℕ) → j ≤ i → first_use t j ≡ first_use u j
  unfolding first_use
  use_same j h = first_same _ _ 0 j (λ k low high. rw (stored_same k (omega arith), same_same k j (omega arith) h))

  room_of_same : (j : ℕ) → j ≤ i → room_of t j ≡ room_of u j
  room_of_same j h = rw (stored_same j h, use_same j h, agree (entry_words * j + 4) (omega arith))

  room_same : (n : ℕ) → n ≤ i + 1 → room t n ≡ room u n
  unfolding room
  room_same zero h = refl
  room_same (suc n) h = rw (room_same n (omega arith), room_of_same n (omega arith))

  pub offset_same : new_offset t i ≡ new_offset u i
  offset_same = ap (room t) (use_same i (omega arith)) ∙ room_same (first_use u i) (omega (arith, use_most u i))

  pub word_same : new_word t i ≡ new_word u i
  unfolding new_word
  word_same = rw (agree (entry_words * i + 1) (omega arith), agree (entry_words * i + 4) (omega arith), agree (entry_words * i + 3) (omega arith), offset_same)

-- The new words from the entry i on

pub record Placed (values u : List ℕ) (i : ℕ) : Type 0 where
  pub as_long : length u ≡ length values
  pub below : i ≤ entries_in values
  pub front : (k : ℕ) → k < entry_words * i → get_or u k 0 ≡ get_or values k 0
  pub done : (k : ℕ) → entry_words * i ≤ k → k < length values → get_or u k 0 ≡ packed_word values k

pub place_begin : (values : List ℕ) → length values % entry_words ≡ 0 → Placed values values (length values / entry_words)
place_begin values whole = record { as_long = refl; below = omega arith; front = λ k h. refl; done = λ k low high. absurd (omega arith) }

module _ (values u : List ℕ) (i : ℕ) (placed : Placed values u i) where
  pub place_end : i ≤ 0 → u ≡ packed values
  unfolding packed
  place_end h =
      table_same (packed_word values) u (λ k below. placed.done k (omega arith) (omega (arith, placed.as_long)))
      ∙ ap (table (packed_word values) 0) placed.as_long

  module _ (j : ℕ) (is : j ≡ i - 1) (some : 0 < i) where
    agree : (k : ℕ) → k < entry_words * j + entry_words → get_or u k 0 ≡ get_or values k 0
    agree k h = placed.front k (omega arith)

    pub place_inside : entry_words * j + entry_words ≤ length u
    place_inside = omega (arith, placed.as_long, placed.below)

    pub place_fits : needed values < 2 ^ 64 → new_offset u j < 2 ^ 64
    place_fits fits = omega (arith, offset_same u values j agree, use_most values j, room_grows values (first_use values j) (entries_in values) (omega (arith, use_most values j, placed.below)))

    pub place_go : (word : ℕ) → word ≡ new_word u j → Placed values (set u (entry_words * j + 3) word) j
    place_go word e =
        record {
          as_long = length-set u (entry_words * j + 3) word ∙ placed.as_long;
          below = omega (arith, placed.below);
          front = λ k h. get_or-set_other u (entry_words * j + 3) k word 0 (λ same. omega arith) ∙ placed.front k (omega arith);
          done = λ k low high. by k low high;
        }
      where
        other : (k : ℕ) → entry_words * j ≤ k → k < length values → (k ≡ entry_words * j + 3 → ⊥) → get_or u k 0 ≡ packed_word values k
        other k low high apart =
            ⊎_elim (λ (past : entry_words * i ≤ k). placed.done k past high)
            (λ (here : k < entry_words * i). placed.front k here ∙ sym (packed_else values k (λ e. omega arith)))
            (le_or_gt (entry_words * i) k)

        by : (k : ℕ) → entry_words * j ≤ k → k < length values → get_or (set u (entry_words * j + 3) word) k 0 ≡ packed_word values k
        by k low high =
            ⊎_elim
            (λ (h : k < entry_words * j + 3). get_or-set_other u (entry_words * j + 3) k word 0 (λ same. omega arith) ∙ other k low high (λ same. omega arith))
            (λ (h : entry_words * j + 3 ≤ k).
            ⊎_elim
            (λ (e' : entry_words * j + 3 ≡ k). ap (λ (m : ℕ). get_or (set u (entry_words * j + 3) word) m 0) (sym e')
            ∙ get_or-set_same u (entry_words * j + 3) word 0 (omega (arith, place_inside)) ∙ e ∙ word_same u values j agree ∙ sym (packed_fourth values j) ∙ ap (packed_word values) e')
            (λ (h' : entry_words * j + 3 < k). get_or-set_other u (entry_words * j + 3) k word 0 (λ same. omega arith) ∙ other k low high (λ same. omega arith))
            (eq-or-lt_of_le h))
            (⊎_elim (λ (h : entry_words * j + 3 ≤ k). inr h) (λ (h : k < entry_words * j + 3). inl h) (le_or_gt (entry_words * j + 3) k))

-- The bytes of the first i entries are copied, and the next ones go to `at`

abbrev pub Copying : List ℕ → List ℕ → List ℕ → List ℕ → ℕ → ℕ → Type 0
Copying area values out₀ out at i = (i ≤ entries_in values) × (at ≡ room values i) × (out ≡ over (packed_bytes area values i) out₀)

pub copy_begin : (area values out : List ℕ) → Copying area values out out 0 0
unfolding room packed_bytes
copy_begin area values out = (omega arith, refl, refl)

module _ (area values : List ℕ) (inside : Inside area values) (out₀ : List ℕ) (fits : needed values ≤ length out₀) (out : List ℕ) (at i : ℕ)
    (so_far : Copying area values out₀ out at i) where
  pub copy_end : entries_in values ≤ i → out ≡ over (packed_bytes area values (entries_in values)) out₀
  copy_end h = let all : i ≡ entries_in values = omega arith in rw all at so_far.2

  pub copy_long : length out ≡ length out₀
  copy_long =
      ap length so_far.2
      ∙ length_over (packed_bytes area values i) out₀ (omega (arith, length_bytes area values inside i so_far.0, room_grows values i (entries_in values) so_far.0))

  pub copy_place : at ≤ length out
  copy_place = omega (arith, copy_long, room_grows values i (entries_in values) so_far.0)

  module _ (h : i < entries_in values) (n : ℕ) (is : n ≡ room_of values i) where
    pub copy_next : at + n ≤ length out
    copy_next = omega (arith, copy_long, room_more values i, room_grows values (i + 1) (entries_in values) (omega arith))

    pub copy_go : (bytes last : List ℕ) → bytes ≡ stretch area (offset_at values i) n → last ≡ fitted bytes (mid_of at (length out - at) out)
        → Copying area values out₀ (put_mid at (length out - at) out last) (at + n) (i + 1)
    unfolding packed_bytes
    copy_go bytes last bytes_are wrote =
        let piece : bytes ≡ stretch area (offset_at values i) (room_of values i) = bytes_are ∙ rw is in
        let size : length bytes ≡ room_of values i = ap length piece ∙ length_stretch area (offset_at values i) (room_of values i) (room_inside area values inside i h) in
        let reach : length (packed_bytes area values i) ≡ at = length_bytes area values inside i so_far.0 ∙ sym so_far.1 in (
          omega arith,
          omega (arith, room_more values i),
          rw (add-one i, ← piece) (lent_fitted (packed_bytes area values i) bytes out₀ out last at so_far.2 reach (omega (arith, size, copy_next, copy_long)) wrote),
        )
