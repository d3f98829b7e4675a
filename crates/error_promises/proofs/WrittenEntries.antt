-- Attributes and dictionaries that were written are read back wherever they stand. Assumes nothing.
use mathlib.Core.Path.{◌≡◌, refl, sym, ◌∙◌, ap}
use mathlib.Core.Bool.{Bool, true, false}
use mathlib.Core.List.{List, [], ◌∷◌, ◌++◌}
use Prim.Native.Nat.{ℕ, ◌+◌, ◌≤◌}
use native.Mathlib.Omega.{arith}
use borrow.Author.Tests.{eq-eqb}
use lib.ListN.{length, length-append}
use Rattle.words.specs.Buffer.{stretch}
use Rattle.words.specs.Decide.{pick, ◌=?◌}
use Rattle.varint.specs.Round.{Stands}
use Rattle.field.specs.Field.{number_at, value_at, content_at, stop_at}
use Rattle.error_tree.specs.Message.{dictionary_fields, attribute_fields, wire_type, fields, inside, latest}
use Rattle.error_tree.specs.Tree.{Parts, attribute_of, dictionary, place_of, length_of}
use Rattle.error_tree.proofs.MessageLaws.{fields_end}
use Rattle.error_table.specs.Table.{key_in, key_length_in, value_in, value_length_in}
use Rattle.error_write.specs.Written.{lead, delimited, attribute_bytes, entries_bytes}
use Rattle.error_write.specs.Writing.{most_bytes}
use Rattle.error_promises.specs.Form.{Message, reached, field, Anything, Entry}
use Rattle.error_promises.specs.Round.{row}
use Rattle.error_promises.proofs.WrittenField.{stands_front, stands_back, stands_stretch, Placed, bytes_placed, bytes_stand, placed_in, placed_first}
use Rattle.error_promises.proofs.Seen.{seen_errors, seen_rows, rows_as}

-- the last of each number, of two fields
module _ (f : ℕ → ℕ) (s : List ℕ) (a b d : ℕ) (one : number_at s a ≡ 1) (two : number_at s b ≡ 2) where
  first_of_two : latest f 1 s (a ∷ b ∷ []) d ≡ f a
  unfolding latest
  first_of_two = rw (one, two)

  second_of_two : latest f 2 s (a ∷ b ∷ []) d ≡ f b
  unfolding latest
  second_of_two = rw (one, two)

-- a dictionary has no errors
pub dictionary_seen : (s : List ℕ) (depth : ℕ) (fs : List ℕ) (more : Parts) → seen_errors s depth (dictionary s fs more) ≡ seen_errors s depth more
unfolding seen_errors dictionary
dictionary_seen s depth [] more = refl
dictionary_seen s depth (f ∷ fs) more = choose (number_at s f =? 1) (dictionary_seen s depth fs more)
  where
    choose : (b : Bool) → seen_errors s depth (dictionary s fs more) ≡ seen_errors s depth more
        → seen_errors s depth (pick b (attribute_of s (inside attribute_fields s f) (dictionary s fs more)) (dictionary s fs more)) ≡ seen_errors s depth more
    choose true e = e
    choose false e = e

module _ (s : List ℕ) (short : length s ≤ most_bytes) where
  -- the attribute that the message from `at` to `end` is
  pub record ReadsAttribute (key value : List ℕ) (at end : ℕ) : Type 0 where
    pub form : Message attribute_fields Anything s end at
    pub key_size : length_of 1 s (fields attribute_fields s at end) ≡ length key
    pub value_size_lem : length_of 2 s (fields attribute_fields s at end) ≡ length value
    pub key_is : stretch s (place_of 1 s (fields attribute_fields s at end)) (length_of 1 s (fields attribute_fields s at end)) ≡ key
    pub value_is : stretch s (place_of 2 s (fields attribute_fields s at end)) (length_of 2 s (fields attribute_fields s at end)) ≡ value

  pub attribute_read : (key value : List ℕ) (at end : ℕ) → Stands (delimited 0x0a key ++ delimited 0x12 value) s at → at + length (delimited 0x0a key ++ delimited 0x12 value) ≡ end → end ≤ length s → ReadsAttribute key value at end
  unfolding wire_type
  attribute_read key value at end stands size reach =
      let a : List ℕ = delimited 0x0a key in
      let b : List ℕ = delimited 0x12 value in
      let next : ℕ = at + length a in
      let sum : length (a ++ b) ≡ length a + length b = length-append a b in
      let key_size : length a ≡ length (lead 0x0a (length key)) + length key = length-append (lead 0x0a (length key)) key in
      let value_size_lem : length b ≡ length (lead 0x12 (length value)) + length value = length-append (lead 0x12 (length value)) value in
      let key_fits : length key ≤ most_bytes = omega arith in
      let value_fits : length value ≤ most_bytes = omega arith in
      let a-stands : Stands a s at = stands_front a b s at stands in
      let b-stands : Stands b s next = stands_back a b s at stands in
      let pa : Placed 1 2 (length key) (length key) s at next = bytes_placed 0x0a (omega arith) (omega arith) refl key s at key_fits a-stands in
      let pb : Placed 2 2 (length value) (length value) s next (next + length b) = bytes_placed 0x12 (omega arith) (omega arith) refl value s next value_fits b-stands in
      let far : next ≤ end = omega arith in
      let far-b : next + length b ≤ end = omega arith in
      let last : end ≤ next + length b = omega arith in
      let list : fields attribute_fields s at end ≡ at ∷ next ∷ [] =
      placed_first attribute_fields pa refl end reach far ∙ ap (λ (l : List ℕ). at ∷ l) (placed_first attribute_fields pb refl end reach far-b)
      ∙ ap (λ (l : List ℕ). at ∷ next ∷ l) (fields_end attribute_fields s end (next + length b) last) in
      let key-there : content_at s at + length key ≤ length s = omega (arith, pa.ends) in
      let value_there : content_at s next + length value ≤ length s = omega (arith, pb.ends) in
      record {
        form = field (placed_in attribute_fields pa refl end reach far) tt (rw pa.stop_at_lem (field (placed_in attribute_fields pb refl end reach far-b) tt (rw pb.stop_at_lem (reached last))));
        key_size = rw list (first_of_two (value_at s) s at next 0 pa.number_at_lem pb.number_at_lem ∙ pa.value_at_lem);
        value_size_lem = rw list (second_of_two (value_at s) s at next 0 pa.number_at_lem pb.number_at_lem ∙ pb.value_at_lem);
        key_is =
            rw (list, first_of_two (content_at s) s at next 0 pa.number_at_lem pb.number_at_lem, first_of_two (value_at s) s at next 0 pa.number_at_lem pb.number_at_lem, pa.value_at_lem)
            (stands_stretch key s (content_at s at) (bytes_stand 0x0a (omega arith) (omega arith) refl key s at key_fits a-stands) key-there);
        value_is =
            rw (list, second_of_two (content_at s) s at next 0 pa.number_at_lem pb.number_at_lem, second_of_two (value_at s) s at next 0 pa.number_at_lem pb.number_at_lem, pb.value_at_lem)
            (stands_stretch value s (content_at s next) (bytes_stand 0x12 (omega arith) (omega arith) refl value s next value_fits b-stands) value_there);
      }

  module _ (area attributes : List ℕ) where
    -- the dictionary that the message from `at` to `end` is
    pub record ReadsEntries (ks : List ℕ) (at end : ℕ) : Type 0 where
      pub form : Message dictionary_fields (Entry s) s end at
      pub rows_are : (i next : ℕ) (more : Parts) → seen_rows s i next (dictionary s (fields dictionary_fields s at end) more) ≡ rows_as area attributes i ks ++ seen_rows s i next more

    pub entries_read : (ks : List ℕ) (at end : ℕ) → Stands (entries_bytes area attributes ks) s at → at + length (entries_bytes area attributes ks) ≡ end → end ≤ length s → ReadsEntries ks at end
    unfolding entries_bytes dictionary rows_as attribute_bytes seen_rows wire_type
    entries_read [] at end stands size reach =
        let last : end ≤ at = omega arith in
        record {
          form = reached last;
          rows_are = λ i next more. rw (fields_end dictionary_fields s end at last);
        }
    entries_read (k ∷ ks) at end stands size reach =
        let key : List ℕ = stretch area (key_in attributes k) (key_length_in attributes k) in
        let value : List ℕ = stretch area (value_in attributes k) (value_length_in attributes k) in
        let ws : List ℕ = delimited 0x0a key ++ delimited 0x12 value in
        let a : List ℕ = delimited 0x0a ws in
        let b : List ℕ = entries_bytes area attributes ks in
        let sum : length (a ++ b) ≡ length a + length b = length-append a b in
        let a-size : length a ≡ length (lead 0x0a (length ws)) + length ws = length-append (lead 0x0a (length ws)) ws in
        let fits : length ws ≤ most_bytes = omega arith in
        let a-stands : Stands a s at = stands_front a b s at stands in
        let b-stands : Stands b s (at + length a) = stands_back a b s at stands in
        let pa : Placed 1 2 (length ws) (length ws) s at (at + length a) = bytes_placed 0x0a (omega arith) (omega arith) refl ws s at fits a-stands in
        let far : at + length a ≤ end = omega arith in
        let inner-end : content_at s at + length ws ≡ stop_at s at = pa.ends ∙ sym pa.stop_at_lem in
        let inner-reach : stop_at s at ≤ length s = omega (arith, pa.stop_at_lem) in
        let one : ReadsAttribute key value (content_at s at) (stop_at s at) = attribute_read key value (content_at s at) (stop_at s at) (bytes_stand 0x0a (omega arith) (omega arith) refl ws s at fits a-stands) inner-end inner-reach in
        let others : ReadsEntries ks (at + length a) end = entries_read ks (at + length a) end b-stands (omega arith) reach in
        record {
          form = field (placed_in dictionary_fields pa refl end reach far) (λ n. one.form) (rw pa.stop_at_lem others.form);
          rows_are = λ i next more. rw (placed_first dictionary_fields pa refl end reach far, eq-eqb (number_at s at) 1 pa.number_at_lem) (λ j. row i (one.key_size j) (one.key_is j) (one.value_size_lem j) (one.value_is j) ∷ others.rows_are i next more j);
        }
