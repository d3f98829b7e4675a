-- The walk that gives each blob its new offset. Assumes nothing.
use mathlib.Core.Path.{◌≡◌, refl, sym, ◌∙◌, ap}
use mathlib.Core.Bool.{Bool, true, false}
use mathlib.Core.Logic.{⊎_elim}
use mathlib.Core.List.{List}
use Prim.Native.Nat.{ℕ, ◌+◌, ◌*◌, ◌-◌, ◌/◌, ◌%◌, ◌^◌, ◌<◌, ◌≤◌}
use native.Mathlib.Numerals.{add-one}
use native.Mathlib.Omega.{arith}
use lib.ListN.{length, get_or, set}
use borrow.Author.Tests.{lt-ltb, le-ltb, eq-eqb, ne_eqb}
use Rattle.words.specs.Decide.{pick, ◌<?◌}
use Rattle.words.proofs.DecideLaws.{le_or_gt}
use Rattle.wire.specs.Layout.{blob, entry_words}
use Rattle.pack_pairs.specs.Pairs.{type_at, offset_at, length_at, stored}
use Rattle.pack_pairs.specs.Stages.{first_use, room_of, room, new_offset, new_word, packed_word, packed}
use Rattle.pack_pairs.specs.Packing.{table}
use Rattle.wire_check.specs.Writing.{entries_in}
use Rattle.pack_links.specs.Statement.{plain_word, plain}
use Rattle.pack_links.specs.Stages.{link, behind, Linked, stored_under, Over, goes_on, word_for, room_for, Movable, settled}
use Rattle.pack_pairs.specs.Stages.{New}
use Rattle.pack_pairs.proofs.UseLaws.{use_new, use_alike, new_use}
use Rattle.pack_pairs.proofs.RoomLaws.{room_grows, choose, packed_else, packed_fourth, new_word_stored, table_same, length_table}
use Rattle.pack_links.proofs.TurnLaws.{Turned, turned_begin, turned_end, turned_keep, turned_set}

-- The ways out of the functions of one entry

module _ (t : List ℕ) (i at : ℕ) where
  pub word_other : blob (type_at t i % 65_536) ≡ false → offset_at t i ≡ word_for t i at
  word_other isnt = rw isnt

  pub goes_none : link t (entry_words * i + 1) ≡ 0 → goes_on t i ≡ true
  goes_none e = rw (eq-eqb (link t (entry_words * i + 1)) 0 e)

  pub goes_on_lem : (link t (entry_words * i + 1) ≡ 0 → ⊥) → i < link t (entry_words * i + 1) → goes_on t i ≡ true
  goes_on_lem some h = rw (ne_eqb (link t (entry_words * i + 1)) 0 some, lt-ltb i (link t (entry_words * i + 1)) h)

  pub goes_back : (link t (entry_words * i + 1) ≡ 0 → ⊥) → link t (entry_words * i + 1) ≤ i → goes_on t i ≡ false
  goes_back some h = rw (ne_eqb (link t (entry_words * i + 1)) 0 some, le-ltb i (link t (entry_words * i + 1)) h)

  module _ (is : blob (type_at t i % 65_536) ≡ true) where
    pub word_empty : length_at t i ≡ 0 → 0 ≡ word_for t i at
    word_empty e = rw (is, le-ltb 0 (length_at t i) (omega arith))

    module _ (some : length_at t i ≡ 0 → ⊥) where
      pub word_new : goes_on t i ≡ true → at ≡ word_for t i at
      word_new on = rw (is, lt-ltb 0 (length_at t i) (omega arith), on)

      pub word_used : goes_on t i ≡ false → offset_at t (link t (entry_words * i + 1) - 1) ≡ word_for t i at
      word_used back = rw (is, lt-ltb 0 (length_at t i) (omega arith), back)

module _ (t : List ℕ) (i at : ℕ) where
  pub room_for_none : stored_under t i ≡ false → at ≡ at + room_for t i
  room_for_none e = rw e (omega arith)

  pub room_for_new : stored_under t i ≡ true → goes_on t i ≡ true → at + length_at t i ≡ at + room_for t i
  room_for_new e on = rw (e, on)

  pub room_for_used : stored_under t i ≡ true → goes_on t i ≡ false → at ≡ at + room_for t i
  room_for_used e back = rw (e, back) (omega arith)

-- A table without its links

pub plain_is : (values t : List ℕ) → Over values t → plain t ≡ values
unfolding plain
plain_is values t over =
    ap (table (plain_word t) 0) over.as_long
    ∙ sym (table_same (plain_word t) values (λ k h. word k))
  where
    word : (k : ℕ) → get_or values k 0 ≡ plain_word t k
    word k = ⊎_elim (λ (h : 3 ≤ k % entry_words). rw (le-ltb (k % entry_words) 3 h) (sym (over.pairs k h))) (λ (h : k % entry_words < 3). rw (lt-ltb (k % entry_words) 3 h) (sym (over.words k h))) (le_or_gt 3 (k % entry_words))

pub plain_long : (t : List ℕ) → length (plain t) ≡ length t
unfolding plain
plain_long t = length_table (plain_word t) 0 (length t)

-- the walk that takes the links out
pub unlink_go : (t u : List ℕ) (k w : ℕ) → Turned (plain_word t) t u k → k < length u → w ≡ plain_word u k → Turned (plain_word t) t (set u k w) (k + 1)
unlink_go t u k w turned h e = turned_set (plain_word t) t u k turned w (k + 1) (e ∙ rw (turned.rest k (omega arith))) (omega (arith, turned.as_long)) refl

pub unlink_end : (t u : List ℕ) (k : ℕ) → Turned (plain_word t) t u k → length u ≤ k → u ≡ plain t
unfolding plain
unlink_end t u k turned h = turned_end (plain_word t) t u k turned (omega (arith, turned.as_long))

-- The walk

-- entries that store more take no less room
-- the first i entries have their new words, and the next pair goes to `at`
abbrev pub Moving : List ℕ → List ℕ → List ℕ → ℕ → ℕ → Type 0
Moving values t u at i = (i ≤ entries_in values) × (at ≡ room values i) × Turned (packed_word values) t u (entry_words * i)

module _ (values t : List ℕ) (movable : Movable values t) where
  over : Over values t
  over = movable.links.over

  pub move_begin : Moving values t t 0 0
  unfolding room
  move_begin = (omega arith, refl, turned_begin _ t)

  -- the entry i of a table u that is t from there on
  module _ (u : List ℕ) (i : ℕ) (here-is : (k : ℕ) → entry_words * i ≤ k → get_or u k 0 ≡ get_or t k 0) (h : i < entries_in values) where
    type_is : type_at u i % 65_536 ≡ type_at values i
    type_is = ap (λ (w : ℕ). w % 65_536) (here-is (entry_words * i + 1) (omega arith)) ∙ over.words (entry_words * i + 1) (omega arith)

    pub offset_is : offset_at u i ≡ offset_at values i
    offset_is = here-is (entry_words * i + 3) (omega arith) ∙ over.pairs (entry_words * i + 3) (omega arith)

    length_is : length_at u i ≡ length_at values i
    length_is = here-is (entry_words * i + 4) (omega arith) ∙ over.pairs (entry_words * i + 4) (omega arith)

    link_is : link u (entry_words * i + 1) ≡ link t (entry_words * i + 1)
    link_is = ap (λ (w : ℕ). w / 65_536) (here-is (entry_words * i + 1) (omega arith))

    stored_is : stored_under u i ≡ stored values i
    stored_is = rw (type_is, length_is)

    -- what is new goes on, and what is used goes back
    new_goes : New values i → Linked t i → goes_on u i ≡ true
    new_goes new linked = ⊎_elim (λ (some : 1 ≤ link u (entry_words * i + 1)). goes_on_lem u i 0 (λ e. omega arith) (above some)) (λ (none : link u (entry_words * i + 1) < 1). goes_none u i 0 (omega arith)) (le_or_gt 1 (link u (entry_words * i + 1)))
      where
        above : 1 ≤ link u (entry_words * i + 1) → i < link u (entry_words * i + 1)
        above some =
            let own : behind i 0 ≡ entry_words * i + 1 = omega arith in
            omega (arith, movable.links.upward i linked 0 (link u (entry_words * i + 1) - 1) (ap (link t) own ∙ sym link_is ∙ omega arith))

    used_goes : first_use values i < i → link t (entry_words * i + 1) ≡ first_use values i + 1 → goes_on u i ≡ false
    used_goes less e = goes_back u i 0 (λ none. omega (arith, link_is)) (omega (arith, link_is))

    pub room_for_is : room_for u i ≡ room_of values i
    room_for_is = either (stored values i) refl
      where
        either : (b : Bool) → stored values i ≡ b → room_for u i ≡ room_of values i
        either false none = rw (stored_is, none)
        either true is =
            ⊎_elim (λ new. rw (stored_is, is, new_goes new.0 new.1, length_is, eq-eqb (first_use values i) i (new_use values i new.0)))
            (λ used. rw (stored_is, is, used_goes used.0 used.1, ne_eqb (first_use values i) i (omega (arith, used.0))))
            (movable.links.settled i h is)

  pub room_next : (i : ℕ) → room values (i + 1) ≡ room values i + room_of values i
  unfolding room
  room_next i = rw (add-one i)

  module _ (u : List ℕ) (at i : ℕ) (so_far : Moving values t u at i) where
    pub move_long : length u ≡ length t
    move_long = so_far.2.as_long

    pub move_end : entries_in values ≤ i → u ≡ packed values
    unfolding packed
    move_end h = turned_end _ t u (entry_words * i) so_far.2 (omega (arith, over.as_long, movable.whole)) ∙ ap (table (packed_word values) 0) over.as_long

    module _ (h : i < entries_in values) where
      pub move_inside : entry_words * i + entry_words ≤ length u
      move_inside = omega (arith, move_long, over.as_long)

      here : (k : ℕ) → entry_words * i ≤ k → get_or u k 0 ≡ get_or t k 0
      here k low = so_far.2.rest k low

      used_word : first_use values i < i → link t (entry_words * i + 1) ≡ first_use values i + 1 → stored values i ≡ true → offset_at u (link u (entry_words * i + 1) - 1) ≡ new_offset values i
      used_word less e is =
          let back : link u (entry_words * i + 1) - 1 ≡ first_use values i = omega (arith, link_is u i here h) in
          ap (offset_at u) back
          ∙ so_far.2.done (entry_words * first_use values i + 3) (omega arith)
          ∙ packed_fourth values (first_use values i)
          ∙ new_word_stored values (first_use values i) (use_alike values i is).0
          ∙ ap (room values) (new_use values (first_use values i) (use_new values i is))

      moved_to : stored values i ≡ true → pick (goes_on u i) at (offset_at u (link u (entry_words * i + 1) - 1)) ≡ new_offset values i
      moved_to is =
          ⊎_elim (λ new. rw (new_goes u i here h new.0 new.1) (so_far.1 ∙ ap (room values) (sym (new_use values i new.0))))
          (λ used. rw (used_goes u i here h used.0 used.1) (used_word used.0 used.1 is))
          (movable.links.settled i h is)

      word_is : word_for u i at ≡ new_word values i
      unfolding new_word
      word_is = rw (type_is u i here h, length_is u i here h, offset_is u i here h) (choose (blob (type_at values i)) (0 <? length_at values i) _ (new_offset values i) (offset_at values i) moved_to)

      room_is : at + room_for u i ≡ room values (i + 1)
      room_is = rw (so_far.1, room_for_is u i here h) (sym (room_next i))

      pub next_asks : (entry_words * i + entry_words ≤ length u) × (at + room_for u i < 2 ^ 64)
      next_asks = (move_inside, omega (arith, room_is, room_grows values (i + 1) (entries_in values) (omega arith), movable.fits))

      plain_here : (k : ℕ) → entry_words * i ≤ k → k % entry_words < 3 → get_or u k 0 % 65_536 ≡ packed_word values k
      plain_here k low small = ap (λ (w : ℕ). w % 65_536) (here k low) ∙ over.words k small ∙ sym (packed_else values k (λ e. omega arith))

      pub move_go : (v : List ℕ) (word next : ℕ) → word ≡ word_for u i at → next ≡ at + room_for u i → v ≡ settled u i word → Moving values t v next (i + 1)
      move_go v word next is goes e =
          let inside : entry_words * i + entry_words ≤ length t = omega (arith, move_inside, move_long) in
          let one = turned_set _ t u (entry_words * i) so_far.2 _ (entry_words * i + 1) (plain_here (entry_words * i) (omega arith) (omega arith)) (omega arith) (omega arith) in
          let two = turned_set _ t _ (entry_words * i + 1) one _ (entry_words * i + 2) (plain_here (entry_words * i + 1) (omega arith) (omega arith)) (omega arith) (omega arith) in
          let three = turned_set _ t _ (entry_words * i + 2) two _ (entry_words * i + 3) (plain_here (entry_words * i + 2) (omega arith) (omega arith)) (omega arith) (omega arith) in
          let four = turned_set _ t _ (entry_words * i + 3) three word (entry_words * i + 4) (is ∙ word_is ∙ sym (packed_fourth values i)) (omega arith) (omega arith) in
          let five = turned_keep _ t _ (entry_words * i + 4) four (over.pairs (entry_words * i + 4) (omega arith) ∙ sym (packed_else values (entry_words * i + 4) (λ e. omega arith))) in
          let on : entry_words * i + 4 + 1 ≡ entry_words * (i + 1) = omega arith in
          (omega arith, goes ∙ room_is, rw e (rw on at five))
