-- What the writers leave, piece by piece. Assumes nothing.
use mathlib.Core.Path.{◌≡◌, refl, sym, ◌∙◌, ap, subst}
use mathlib.Core.Bool.{Bool, true, false}
use mathlib.Core.List.{List, [], ◌∷◌, ◌++◌, append_assoc, append-nil}
use Prim.Native.Nat.{ℕ, ◌+◌, ◌-◌, ◌<◌, ◌≤◌}
use native.Mathlib.Omega.{arith}
use lib.ListN.{length, set, length-append, take, drop}
use borrow.Rule.Slice.PartMut.{mid_of, put_mid}
use Rattle.words.specs.Buffer.{fitted, stretch}
use Rattle.words.specs.Stages.{Filling}
use Rattle.words.proofs.BufferLaws.{over_store}
use Rattle.words.proofs.FillingLaws.{begins, opens, ends, room_left, place, mid_fits, leaves, step, closes}
use Rattle.varint.specs.Varint.{varint}
use borrow.Author.Tests.{eq-eqb, ne_eqb}
use Rattle.error_table.specs.Table.{code_in, text_in, text_length_in, attributes_in, index_in, key_in, key_length_in, value_in, value_length_in}
use Rattle.error_table.specs.Statement.{Sound}
use Rattle.error_write.specs.Writing.{most_bytes, capped}
use Rattle.error_write.specs.Written.{lead, delimited, attribute_bytes, rows_of, all_rows, entries_bytes, dictionary_bytes, own_bytes}
use Rattle.error_write.specs.Stages.{Puts, Covers, row_bytes, attribute_size, delimited_size}
use Rattle.error_write.proofs.LengthLaws.{length_stretch, length_delimited, length_attribute}
use Rattle.error_write.proofs.CappedLaws.{capped_small}
use Rattle.error_write.proofs.SizeLaws.{rows_end, rows_more}
use Rattle.words.specs.Decide.{pick, ◌=?◌}

-- two pieces, the second over the part that is lent behind the first
module _ (a b before now : List ℕ) (at : ℕ) (room : length (a ++ b) ≤ length before) (first : Puts a before now at) where
  pub two_filling : Filling (a ++ b) b before now at
  two_filling = opens a b at room (sym first.0) first.1

  pub two_place : at ≤ length now
  two_place = place two_filling

  pub two_room : length b ≤ length (mid_of at (length now - at) now)
  two_room =
      let all : Filling (a ++ b) (b ++ []) before now at = rw (append-nil b) two_filling in
      mid_fits b [] all

  pub two_fits : {r : ℕ} → r ≡ length b → at + r ≤ length before
  two_fits e = omega (arith, first.0, length-append a b)

  pub two_put : (after : List ℕ) (r : ℕ) → Puts b (mid_of at (length now - at) now) after r → Puts (a ++ b) before (put_mid at (length now - at) now after) (at + r)
  two_put after r second = (omega (arith, first.0, second.0, length-append a b), closes b two_filling second.1)

  pub two_left : (after : List ℕ) (r : ℕ) → r ≡ length b → after ≡ fitted b (mid_of at (length now - at) now) → Puts (a ++ b) before (put_mid at (length now - at) now after) (at + r)
  two_left after r is e =
      let all : Filling (a ++ b) (b ++ []) before now at = rw (append-nil b) two_filling in
      two_put after r (is, leaves b [] all e)

-- a tag, and a varint behind it
module _ (tag n : ℕ) (before : List ℕ) (room : length (lead tag n) ≤ length before) where
  stored : Puts (tag ∷ []) before (set before 0 tag) 1
  stored = (refl, over_store [] before 0 tag 0 refl (omega arith))

  pub lead_place : 1 ≤ length (set before 0 tag)
  lead_place = two_place (tag ∷ []) (varint n) before (set before 0 tag) 1 room stored

  pub lead_put : (after : List ℕ) (r : ℕ) → r ≡ length (varint n) → after ≡ fitted (varint n) (mid_of 1 (length (set before 0 tag) - 1) (set before 0 tag))
      → Puts (lead tag n) before (put_mid 1 (length (set before 0 tag) - 1) (set before 0 tag) after) (1 + r)
  lead_put after r is e = two_left (tag ∷ []) (varint n) before (set before 0 tag) 1 room stored after r is e

-- a field of a stretch of the area
module _ (tag : ℕ) (area : List ℕ) (offset n : ℕ) (inside : offset + n ≤ length area) (before : List ℕ) (room : length (delimited tag (stretch area offset n)) ≤ length before) where
  size_is : length (stretch area offset n) ≡ n
  size_is = length_stretch area offset n inside

  pieces : delimited tag (stretch area offset n) ≡ lead tag n ++ stretch area offset n
  pieces = ap (λ (k : ℕ). lead tag k ++ stretch area offset n) size_is

  both_room : length (lead tag n ++ stretch area offset n) ≤ length before
  both_room = let e : length (delimited tag (stretch area offset n)) ≡ length (lead tag n ++ stretch area offset n) = ap length pieces in omega arith

  pub stretch_lead : length (lead tag n) ≤ length before
  stretch_lead = let both : length (lead tag n ++ stretch area offset n) ≡ length (lead tag n) + length (stretch area offset n) = length-append (lead tag n) (stretch area offset n) in omega (arith, both_room)

  module _ (now : List ℕ) (at : ℕ) (first : Puts (lead tag n) before now at) where
    pub stretch_place : at ≤ length now
    stretch_place = two_place (lead tag n) (stretch area offset n) before now at both_room first

    pub stretch_fits : at + n ≤ length before
    stretch_fits = two_fits (lead tag n) (stretch area offset n) before now at both_room first (sym size_is)

    pub stretch_put : (after : List ℕ) → after ≡ fitted (take (offset + n - offset) (drop offset area)) (mid_of at (length now - at) now) → Puts (delimited tag (stretch area offset n)) before (put_mid at (length now - at) now after) (at + n)
    stretch_put after e =
        let same : offset + n - offset ≡ n = omega arith in
        let bytes : after ≡ fitted (stretch area offset n) (mid_of at (length now - at) now) = e ∙ ap (λ (k : ℕ). fitted (take k (drop offset area)) (mid_of at (length now - at) now)) same in
        subst (λ (ws : List ℕ). Puts ws before (put_mid at (length now - at) now after) (at + n)) (sym pieces) (two_left (lead tag n) (stretch area offset n) before now at both_room first after n (sym size_is) bytes)

-- a whole of two pieces: the first is put over the front, the second over the part that is lent behind it
module _ (whole a b before : List ℕ) (is : whole ≡ a ++ b) (room : length whole ≤ length before) where
  joined : length (a ++ b) ≤ length before
  joined = let e : length whole ≡ length (a ++ b) = ap length is in omega arith

  pub first_room : length a ≤ length before
  first_room = let both : length (a ++ b) ≡ length a + length b = length-append a b in omega (arith, joined)

  module _ (now : List ℕ) (at : ℕ) (first : Puts a before now at) where
    pub next_place : at ≤ length now
    next_place = two_place a b before now at joined first

    pub next_room : length b ≤ length (mid_of at (length now - at) now)
    next_room = two_room a b before now at joined first

    pub next_fits : {r : ℕ} → r ≡ length b → at + r ≤ length before
    next_fits e = two_fits a b before now at joined first e

    pub next_put : (after : List ℕ) (r : ℕ) → Puts b (mid_of at (length now - at) now) after r → Puts whole before (put_mid at (length now - at) now after) (at + r)
    next_put after r second = subst (λ (ws : List ℕ). Puts ws before (put_mid at (length now - at) now after) (at + r)) (sym is) (two_put a b before now at joined first after r second)

-- The pieces

pub attribute_is : (area attributes : List ℕ) (k : ℕ) → attribute_bytes area attributes k
    ≡ delimited 0x0a (stretch area (key_in attributes k) (key_length_in attributes k)) ++ delimited 0x12 (stretch area (value_in attributes k) (value_length_in attributes k))
unfolding attribute_bytes
attribute_is area attributes k = refl

module _ {area errors attributes : List ℕ} (sound : Sound area errors attributes) (i k : ℕ) (below : k < attributes_in attributes) where
  pub row_none : (index_in attributes k ≡ i → ⊥) → (before : List ℕ) → Puts (row_bytes area attributes i k) before before 0
  row_none h before = rw (ne_eqb (index_in attributes k) i h) (refl, refl)

  -- its length as it was reckoned, which is not capped: the output holds it
  pub row_is : index_in attributes k ≡ i → (before : List ℕ) → length (row_bytes area attributes i k) ≤ length before → length before ≤ most_bytes → {size : ℕ} → size ≡ capped (attribute_size attributes k)
      → row_bytes area attributes i k ≡ lead 0x0a size ++ attribute_bytes area attributes k
  row_is h before room fits {size} is =
      let own : row_bytes area attributes i k ≡ delimited 0x0a (attribute_bytes area attributes k) = rw (eq-eqb (index_in attributes k) i h) in
      let long : length (row_bytes area attributes i k) ≡ delimited_size (length (attribute_bytes area attributes k)) = ap length own ∙ length_delimited 0x0a (attribute_bytes area attributes k) in
      let small : capped (attribute_size attributes k) ≡ attribute_size attributes k = capped_small (attribute_size attributes k) (omega (arith, length_attribute sound k below)) in
      own ∙ ap (λ (n : ℕ). lead 0x0a n ++ attribute_bytes area attributes k) (length_attribute sound k below ∙ sym (is ∙ small))

-- The rows from k on are still to be put
module _ (area attributes : List ℕ) (i : ℕ) where
  rows_split : (till k : ℕ) → k < till → entries_bytes area attributes (rows_of attributes i (till - k) k) ≡ row_bytes area attributes i k ++ entries_bytes area attributes (rows_of attributes i (till - (k + 1)) (k + 1))
  unfolding entries_bytes
  rows_split till k h = ap (entries_bytes area attributes) (rows_more attributes i till k h) ∙ either (index_in attributes k =? i) (rows_of attributes i (till - (k + 1)) (k + 1))
    where
      either : (b : Bool) (ks : List ℕ) → entries_bytes area attributes (pick b (k ∷ ks) ks) ≡ pick b (delimited 0x0a (attribute_bytes area attributes k)) [] ++ entries_bytes area attributes ks
      either true ks = refl
      either false ks = refl

  pub record Putting (from till : ℕ) (before now : List ℕ) (at k : ℕ) : Type 0 where
    pub placed : k ≤ till
    pub filling : Filling (entries_bytes area attributes (all_rows attributes i)) (entries_bytes area attributes (rows_of attributes i (till - k) k)) before now at

  pub putting : (from till : ℕ) → Covers attributes i from till → (before : List ℕ) → length (entries_bytes area attributes (all_rows attributes i)) ≤ length before → Putting from till before before 0 from
  putting from till covers before room =
      record { placed = covers.ordered; filling = rw covers.all (begins (entries_bytes area attributes (all_rows attributes i)) before room) }

  module _ {from till : ℕ} {before now : List ℕ} {at k : ℕ} (p : Putting from till before now at k) where
    pub put_all : till ≤ k → Puts (entries_bytes area attributes (all_rows attributes i)) before now at
    unfolding entries_bytes
    put_all h =
        let done : Filling (entries_bytes area attributes (all_rows attributes i)) [] before now at = rw (rows_end attributes i till k h) at p.filling in
        (sym done.reached ∙ ap length (sym (append-nil done.done) ∙ done.joins), ends done)

    module _ (more : k < till) where
      next : Filling (entries_bytes area attributes (all_rows attributes i)) (row_bytes area attributes i k ++ entries_bytes area attributes (rows_of attributes i (till - (k + 1)) (k + 1))) before now at
      next = subst (λ (ws : List ℕ). Filling (entries_bytes area attributes (all_rows attributes i)) ws before now at) (rows_split till k more) p.filling

      pub row_place_lem : at ≤ length now
      row_place_lem = place next

      pub row_room : length (row_bytes area attributes i k) ≤ length (mid_of at (length now - at) now)
      row_room = mid_fits (row_bytes area attributes i k) _ next

      pub row_fits : {r : ℕ} → r ≡ length (row_bytes area attributes i k) → at + r ≤ length before
      row_fits e =
          let rest : List ℕ = entries_bytes area attributes (rows_of attributes i (till - (k + 1)) (k + 1)) in
          let both : length (row_bytes area attributes i k ++ rest) ≡ length (row_bytes area attributes i k) + length rest = length-append (row_bytes area attributes i k) rest in
          omega (arith, room_left next)

      pub puts_on : (after : List ℕ) (r : ℕ) → Puts (row_bytes area attributes i k) (mid_of at (length now - at) now) after r → Putting from till before (put_mid at (length now - at) now after) (at + r) (k + 1)
      puts_on after r puts =
          record {
            placed = omega arith;
            filling = step (row_bytes area attributes i k) (entries_bytes area attributes (rows_of attributes i (till - (k + 1)) (k + 1))) (at + r) next (ap (λ (n : ℕ). at + n) (sym puts.0)) puts.1;
          }

-- One dictionary if any
module _ (ws : List ℕ) (entries : ℕ) (is : entries ≡ length ws) where
  pub dictionary_none_put : entries ≡ 0 → (before : List ℕ) → Puts (dictionary_bytes ws) before before 0
  dictionary_none_put z before = go ws (sym is ∙ z)
    where
      go : (vs : List ℕ) → length vs ≡ 0 → Puts (dictionary_bytes vs) before before 0
      go [] e = (refl, refl)
      go (v ∷ vs) e = absurd (omega arith)

  pub dictionary_is : (entries ≡ 0 → ⊥) → dictionary_bytes ws ≡ lead 0x1a entries ++ ws
  dictionary_is some = go ws is
    where
      go : (vs : List ℕ) → entries ≡ length vs → dictionary_bytes vs ≡ lead 0x1a entries ++ vs
      go [] e = absurd (some e)
      go (v ∷ vs) e = ap (λ (n : ℕ). lead 0x1a n ++ (v ∷ vs)) (sym e)

-- An error without its inner errors
pub own_is : (area errors attributes : List ℕ) (i : ℕ) → own_bytes area errors attributes i
    ≡ (lead 0x08 (code_in errors i) ++ delimited 0x12 (stretch area (text_in errors i) (text_length_in errors i))) ++ dictionary_bytes (entries_bytes area attributes (all_rows attributes i))
unfolding own_bytes
own_is area errors attributes i = sym (append_assoc (lead 0x08 (code_in errors i)) (delimited 0x12 (stretch area (text_in errors i) (text_length_in errors i))) (dictionary_bytes (entries_bytes area attributes (all_rows attributes i))))

module _ (area errors attributes : List ℕ) (i : ℕ) (before : List ℕ) (room : length (own_bytes area errors attributes i) ≤ length before) where
  abbrev code_lead : List ℕ
  code_lead = lead 0x08 (code_in errors i)

  abbrev text_field : List ℕ
  text_field = delimited 0x12 (stretch area (text_in errors i) (text_length_in errors i))

  abbrev dictionary_field : List ℕ
  dictionary_field = dictionary_bytes (entries_bytes area attributes (all_rows attributes i))

  front_room : length (code_lead ++ text_field) ≤ length before
  front_room = first_room (own_bytes area errors attributes i) (code_lead ++ text_field) dictionary_field before (own_is area errors attributes i) room

  pub code_room : length (lead 0x08 (code_in errors i)) ≤ length before
  code_room = first_room (code_lead ++ text_field) code_lead text_field before refl front_room

  module _ (now : List ℕ) (at : ℕ) (first : Puts (lead 0x08 (code_in errors i)) before now at) where
    pub text_place : at ≤ length now
    text_place = next_place (code_lead ++ text_field) code_lead text_field before refl front_room now at first

    pub text_room_lem : length (delimited 0x12 (stretch area (text_in errors i) (text_length_in errors i))) ≤ length (mid_of at (length now - at) now)
    text_room_lem = next_room (code_lead ++ text_field) code_lead text_field before refl front_room now at first

    module _ (after : List ℕ) (r : ℕ) (second : Puts (delimited 0x12 (stretch area (text_in errors i) (text_length_in errors i))) (mid_of at (length now - at) now) after r) where
      pub text_fits : at + r ≤ length before
      text_fits = next_fits (code_lead ++ text_field) code_lead text_field before refl front_room now at first second.0

      abbrev now_two : List ℕ
      now_two = put_mid at (length now - at) now after

      front_put : Puts (code_lead ++ text_field) before now_two (at + r)
      front_put = next_put (code_lead ++ text_field) code_lead text_field before refl front_room now at first after r second

      pub dictionary_place : at + r ≤ length (put_mid at (length now - at) now after)
      dictionary_place = next_place (own_bytes area errors attributes i) (code_lead ++ text_field) dictionary_field before (own_is area errors attributes i) room now_two (at + r) front_put

      pub dictionary_room : length (dictionary_bytes (entries_bytes area attributes (all_rows attributes i))) ≤ length (mid_of (at + r) (length (put_mid at (length now - at) now after) - (at + r)) (put_mid at (length now - at) now after))
      dictionary_room = next_room (own_bytes area errors attributes i) (code_lead ++ text_field) dictionary_field before (own_is area errors attributes i) room now_two (at + r) front_put

      pub own_fits : {q : ℕ} → q ≡ length (dictionary_bytes (entries_bytes area attributes (all_rows attributes i))) → at + r + q ≤ length before
      own_fits e = next_fits (own_bytes area errors attributes i) (code_lead ++ text_field) dictionary_field before (own_is area errors attributes i) room now_two (at + r) front_put e

      pub own_put : (last : List ℕ) (q : ℕ) → Puts (dictionary_bytes (entries_bytes area attributes (all_rows attributes i))) (mid_of (at + r) (length (put_mid at (length now - at) now after) - (at + r)) (put_mid at (length now - at) now after)) last q
          → Puts (own_bytes area errors attributes i) before (put_mid (at + r) (length (put_mid at (length now - at) now after) - (at + r)) (put_mid at (length now - at) now after) last) (at + r + q)
      own_put last q third = next_put (own_bytes area errors attributes i) (code_lead ++ text_field) dictionary_field before (own_is area errors attributes i) room now_two (at + r) front_put last q third
