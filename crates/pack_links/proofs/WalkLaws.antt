-- The walk that links all entries: what each step asks and leaves. Assumes nothing.
use mathlib.Core.Path.{◌≡◌, refl, sym, ◌∙◌}
use mathlib.Core.Bool.{true, false}
use mathlib.Core.List.{List}
use Prim.Native.Nat.{ℕ, ◌+◌, ◌*◌, ◌^◌, ◌<◌, ◌≤◌}
use native.Mathlib.Numerals.{add-one}
use native.Mathlib.Omega.{arith}
use lib.ListN.{length}
use Rattle.pack_pairs.specs.Pairs.{length_at, stored}
use Rattle.pack_pairs.specs.Stages.{first_use, room, needed}
use Rattle.pack_pairs.specs.Packing.{capped}
use Rattle.wire_check.specs.Writing.{entries_in}
use Rattle.pack_links.specs.Stages.{link, behind, Climbs, Ends, head_of, stored_under, Looks, linked_to, Spare, Linking}
use Rattle.pack_links.specs.declared.Place.{Place}
use Rattle.pack_links.specs.declared.Place.TheVariants.{Known, Free}
use Rattle.std.specs.declared.option.Option.{Option}
use Rattle.std.specs.declared.option.Option.TheVariants.{Some, None}
use Rattle.pack_pairs.proofs.UseLaws.{room_new, room_used, room_none}
use Rattle.pack_pairs.proofs.RoomLaws.{capped_add}
use Rattle.pack_links.proofs.TableLaws.{Puts, puts, climbs, new_entry, links_begin, links_skip, links_new, links_used, use_known}
use Rattle.wire.specs.Layout.{entry_words}

-- the first i entries are linked, and this is the sum of their first uses' lengths
abbrev pub SoFar : List ℕ → List ℕ → ℕ → ℕ → Type 0
SoFar values t sum i = (i ≤ entries_in values) × (sum ≡ capped (room values i)) × Linking values t i

pub begin : (values : List ℕ) → Spare values → SoFar values values 0 0
unfolding room
begin values spare = (omega arith, refl, links_begin values spare)

module _ (values t : List ℕ) (sum i : ℕ) (so_far : SoFar values t sum i) where
  pub end : entries_in values ≤ i → (sum ≡ capped (needed values)) × Linking values t (entries_in values)
  end h = let all : i ≡ entries_in values = omega arith in (rw all at so_far.1, rw all at so_far.2)

  module _ (spare : Spare values) (h : i < entries_in values) where
    as_long : length t ≡ length values
    as_long = so_far.2.over.as_long

    pub look_asks : (entry_words * i + entry_words ≤ length t) × (length t < 2 ^ 48) × Climbs t
    look_asks = (omega (arith, as_long), omega (arith, as_long, spare.few), climbs values t i so_far.2 (omega arith))

    stored_under_lem : stored_under t i ≡ stored values i
    stored_under_lem = rw (so_far.2.over.words (entry_words * i + 1) (omega arith), so_far.2.over.pairs (entry_words * i + 4) (omega arith))

    head_under : head_of t i ≡ head_of values i
    head_under = rw (so_far.2.over.pairs (entry_words * i + 3) (omega arith), so_far.2.over.pairs (entry_words * i + 4) (omega arith), as_long)

    -- it stores nothing
    pub skip_go : (r : Option Place) → Looks t i r → r ≡ None → SoFar values t sum (i + 1)
    skip_go r looks e =
        let none : stored_under t i ≡ false = rw e at looks in
        let nothing : stored values i ≡ false = sym stored_under_lem ∙ none in
        (omega arith, rw (add-one i, room_none values i nothing) so_far.1, links_skip values t i so_far.2 nothing)

    -- its pair is known
    module _ (j : ℕ) (r : Option Place) (looks : Looks t i r) (e : r ≡ Some (Known j)) where
      found : Looks t i (Some (Known j))
      found = rw e at looks

      stores : stored values i ≡ true
      stores = sym stored_under_lem ∙ found.0

      first_one : (j < i) × (first_use values i ≡ j)
      first_one = use_known values t i so_far.2 stores j found.1.0 found.1.1

      pub used_asks : (entry_words * i + 1 < length t) × (link t (entry_words * i + 1) ≡ 0) × (j < 2 ^ 47)
      used_asks =
          let own : behind i 0 ≡ entry_words * i + 1 = omega arith in
          (omega (arith, as_long), rw own at (so_far.2.fresh i 0 (omega arith)), omega (arith, first_one.0, spare.few))

      pub used_go : (u : List ℕ) → u ≡ linked_to t (entry_words * i + 1) j → SoFar values u sum (i + 1)
      used_go u is = (
        omega arith,
        rw (add-one i, room_used values i (omega (arith, first_one.0, first_one.1))) so_far.1,
        rw is (links_used values t i so_far.2 stores j found.1.0 found.1.1 _ (puts t (entry_words * i + 1) (j + 1) used_asks.0 (omega arith) used_asks.1)),
      )

    -- it is new
    module _ (s : ℕ) (r : Option Place) (looks : Looks t i r) (e : r ≡ Some (Free s)) where
      ended : Looks t i (Some (Free s))
      ended = rw e at looks

      stores_new : stored values i ≡ true
      stores_new = sym stored_under_lem ∙ ended.0

      ends : Ends t i (head_of values i) s
      ends = rw head_under at ended.1

      pub new_asks : (s < length t) × (link t s ≡ 0) × (i < 2 ^ 47)
      new_asks = (ends.comes.inside, ends.free, omega (arith, spare.few))

      pub new_go : (u : List ℕ) → u ≡ linked_to t s i → (more : ℕ) → more ≡ capped (sum + length_at u i) → SoFar values u more (i + 1)
      new_go u is more e' =
          let put : Puts t (linked_to t s i) s (i + 1) = puts t s (i + 1) ends.comes.inside ends.comes.over ends.free in
          let links : Linking values u (i + 1) = rw is (links_new values t i so_far.2 stores_new s ends _ put) in
          let n : length_at u i ≡ length_at values i = links.over.pairs (entry_words * i + 4) (omega arith) in
          (omega arith, e' ∙ rw (add-one i, n, so_far.1, room_new values i (new_entry values t i so_far.2 stores_new s ends)) (capped_add (room values i) (length_at values i)), links)
