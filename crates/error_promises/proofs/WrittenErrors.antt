-- Errors that were written from sound tables are read back wherever they stand, with all that they hold. Assumes nothing.
use mathlib.Core.Path.{◌≡◌, refl, sym, ◌∙◌, ap, subst}
use mathlib.Core.List.{List, [], ◌∷◌, ◌++◌, append_assoc}
use mathlib.Core.Logic.{⊎_elim, ◌⊎◌, inl, inr}
use Prim.Native.Nat.{ℕ, zero, suc, ◌+◌, ◌-◌, ◌<◌, ◌≤◌}
use native.Mathlib.Omega.{arith}
use native.Mathlib.Nat.{eq-or-lt_of_le}
use borrow.Author.Tests.{lt-ltb, le-ltb, eq-eqb, ne_eqb}
use lib.ListN.{length, length-append}
use Rattle.words.specs.Buffer.{stretch}
use Rattle.words.specs.Decide.{pick, ◌<?◌}
use Rattle.words.proofs.DecideLaws.{le_or_gt}
use Rattle.varint.specs.Round.{Stands}
use Rattle.field.specs.Field.{number_at, value_at, content_at, stop_at}
use Rattle.error_tree.specs.Message.{error_fields, dictionary_fields, wire_type, fields, inside, latest}
use Rattle.error_tree.specs.Tree.{Parts, inner, dictionary, field_parts, parts_with, inner_part, parts, code_of, place_of, length_of, error_count}
use Rattle.error_tree.proofs.MessageLaws.{fields_end}
use Rattle.error_tree.proofs.TreeLaws.{dictionary_errors}
use Rattle.error_table.specs.Table.{errors_in, code_in, depth_in, text_in, text_length_in, attributes_in, key_in, key_length_in, value_in, value_length_in, deepest}
use Rattle.error_table.specs.Statement.{Sound}
use Rattle.error_table.proofs.SoundLaws.{code_fits, text_inside, depth_good, key_inside, value_inside}
use Rattle.error_write.specs.Written.{lead, delimited, all_rows, entries_bytes, dictionary_bytes, own_bytes, inners_bytes}
use Rattle.error_write.specs.Writing.{most_bytes}
use Rattle.error_write.proofs.LengthLaws.{length_stretch}
use Rattle.error_promises.specs.Form.{Message, reached, field, Held, Entry, ErrorField}
use Rattle.error_promises.specs.Round.{Error, error, Row, error_in, rows_over, listed, of_error, by_error}
use Rattle.error_promises.proofs.WrittenField.{stands_front, stands_back, stands_stretch, Placed, code_placed, bytes_placed, bytes_stand, placed_in, placed_first}
use Rattle.error_promises.proofs.Seen.{seen_errors, seen_rows, listed_add, by_error_add, rows_as, of_rows}
use Rattle.error_promises.proofs.WrittenEntries.{dictionary_seen, ReadsEntries, entries_read}

-- a field without an inner error or a dictionary adds nothing
pub plain_field : (deeper : ℕ → Parts → Parts) (s : List ℕ) (at : ℕ) (rest : Parts) → number_at s at < 3 → field_parts deeper s at rest ≡ rest
unfolding field_parts
plain_field deeper s at rest h = rw (ne_eqb (number_at s at) 3 (λ e. omega arith), ne_eqb (number_at s at) 4 (λ e. omega arith))

pub dictionary_field : (deeper : ℕ → Parts → Parts) (s : List ℕ) (at : ℕ) (rest : Parts) → number_at s at ≡ 3 → field_parts deeper s at rest ≡ dictionary s (inside dictionary_fields s at) rest
unfolding field_parts
dictionary_field deeper s at rest e = rw (eq-eqb (number_at s at) 3 e)

pub inner_field : (deeper : ℕ → Parts → Parts) (s : List ℕ) (at : ℕ) (rest : Parts) → number_at s at ≡ 4 → field_parts deeper s at rest ≡ deeper at rest
unfolding field_parts
inner_field deeper s at rest e = rw (ne_eqb (number_at s at) 3 (λ x. omega arith), eq-eqb (number_at s at) 4 e)

plain_form : (left : ℕ) (s : List ℕ) (at : ℕ) → number_at s at < 3 → ErrorField left s at
unfolding ErrorField
plain_form zero s at h = ((λ e. absurd (omega arith)), (λ e. omega arith))
plain_form (suc left) s at h = ((λ e. absurd (omega arith)), (λ e. absurd (omega arith)))

dictionary_form : (left : ℕ) (s : List ℕ) (at : ℕ) → number_at s at ≡ 3 → Held dictionary_fields (Entry s) s at → ErrorField left s at
unfolding ErrorField
dictionary_form zero s at three held = ((λ e. held), (λ e. omega arith))
dictionary_form (suc left) s at three held = ((λ e. held), (λ e. absurd (omega arith)))

inner_form : (left : ℕ) (s : List ℕ) (at : ℕ) → number_at s at ≡ 4 → Held error_fields (ErrorField left s) s at → ErrorField (suc left) s at
unfolding ErrorField
inner_form left s at four held = ((λ e. absurd (omega arith)), (λ e. held))

-- the last field of a number, field by field
module _ (f : ℕ → ℕ) (number : ℕ) (s : List ℕ) (at : ℕ) (fs : List ℕ) (z : ℕ) where
  pub latest_own : number_at s at ≡ number → latest f number s (at ∷ fs) z ≡ latest f number s fs (f at)
  unfolding latest
  latest_own e = rw (eq-eqb (number_at s at) number e)

  pub latest_other : (number_at s at ≡ number → ⊥) → latest f number s (at ∷ fs) z ≡ latest f number s fs z
  unfolding latest
  latest_other e = rw (ne_eqb (number_at s at) number e)

module _ (area errors attributes : List ℕ) (sound : Sound area errors attributes) (s : List ℕ) (short : length s ≤ most_bytes) where
  abbrev rows : List Row
  rows = rows_over area attributes (attributes_in attributes)

  abbrev parts_at : ℕ → ℕ → ℕ → Parts
  parts_at left at end = parts left s (fields error_fields s at end)

  -- What an error's message holds from `at` to its end: no code and no text; the attributes of the error number i that are told
  -- to stand there; and `count` errors from the number `first` on, the outermost of them of depth d
  pub record Holding (left d first count : ℕ) (i : ℕ) (own : List Row) (at end : ℕ) : Type 0 where
    pub form : Message error_fields (ErrorField left s) s end at
    pub quiet : (f : ℕ → ℕ) (number z : ℕ) → number < 3 → latest f number s (fields error_fields s at end) z ≡ z
    pub counted : error_count (parts_at left at end) ≡ count
    pub errors_are : seen_errors s d (parts_at left at end) ≡ listed (error_in area errors) count first
    pub rows_are : seen_rows s i first (parts_at left at end) ≡ own ++ by_error count first rows

  -- the whole message of the error number i
  pub record Whole (left d count i : ℕ) (at end : ℕ) : Type 0 where
    pub form : Message error_fields (ErrorField left s) s end at
    pub code_is : code_of s (fields error_fields s at end) ≡ code_in errors i
    pub text_size : length_of 2 s (fields error_fields s at end) ≡ text_length_in errors i
    pub text_is : stretch s (place_of 2 s (fields error_fields s at end)) (length_of 2 s (fields error_fields s at end)) ≡ stretch area (text_in errors i) (text_length_in errors i)
    pub counted : error_count (parts_at left at end) ≡ count
    pub errors_are : seen_errors s (d + 1) (parts_at left at end) ≡ listed (error_in area errors) count (i + 1)
    pub rows_are : seen_rows s i (i + 1) (parts_at left at end) ≡ by_error (suc count) i rows

  module _ (left d first count i : ℕ) (ws : List ℕ) (end : ℕ) (reach : end ≤ length s) (inners : (at : ℕ) → Stands ws s at → at + length ws ≡ end → Holding left d first count i [] at end) where
    -- a dictionary before the inner errors
    with_dictionary : (ks : List ℕ) (at : ℕ) → Stands (delimited 0x1a (entries_bytes area attributes ks) ++ ws) s at → at + length (delimited 0x1a (entries_bytes area attributes ks) ++ ws) ≡ end → Holding left d first count i (rows_as area attributes i ks) at end
    unfolding parts_with wire_type
    with_dictionary ks at stands size =
        let entries : List ℕ = entries_bytes area attributes ks in
        let a : List ℕ = delimited 0x1a entries in
        let next : ℕ = at + length a in
        let sum : length (a ++ ws) ≡ length a + length ws = length-append a ws in
        let a-size : length a ≡ length (lead 0x1a (length entries)) + length entries = length-append (lead 0x1a (length entries)) entries in
        let fits : length entries ≤ most_bytes = omega arith in
        let a-stands : Stands a s at = stands_front a ws s at stands in
        let placed : Placed 3 2 (length entries) (length entries) s at next = bytes_placed 0x1a (omega arith) (omega arith) refl entries s at fits a-stands in
        let far : next ≤ end = omega arith in
        let rest : Holding left d first count i [] next end = inners next (stands_back a ws s at stands) (omega arith) in
        let dict : ReadsEntries s short area attributes ks (content_at s at) (stop_at s at) = entries_read s short area attributes ks (content_at s at) (stop_at s at) (bytes_stand 0x1a (omega arith) (omega arith) refl entries s at fits a-stands) (placed.ends ∙ sym placed.stop_at_lem) (omega (arith, placed.stop_at_lem)) in
        let list : fields error_fields s at end ≡ at ∷ fields error_fields s next end = placed_first error_fields placed refl end reach far in
        let split : parts_at left at end ≡ dictionary s (inside dictionary_fields s at) (parts_at left next end) = ap (parts left s) list ∙ dictionary_field (inner_part left s) s at (parts_at left next end) placed.number_at_lem in
        record {
          form = field (placed_in error_fields placed refl end reach far) (dictionary_form left s at placed.number_at_lem dict.form) (rw placed.stop_at_lem rest.form);
          quiet = λ f number z low. rw list (latest_other f number s at (fields error_fields s next end) z (λ e. omega (arith, placed.number_at_lem)) ∙ rest.quiet f number z low);
          counted = ap error_count split ∙ dictionary_errors s (inside dictionary_fields s at) (parts_at left next end) ∙ rest.counted;
          errors_are = ap (seen_errors s d) split ∙ dictionary_seen s d (inside dictionary_fields s at) (parts_at left next end) ∙ rest.errors_are;
          rows_are = ap (seen_rows s i first) split ∙ dict.rows_are i first (parts_at left next end) ∙ ap (λ (l : List Row). rows_as area attributes i ks ++ l) rest.rows_are;
        }

    behind_text : (ks : List ℕ) (at : ℕ) → Stands (dictionary_bytes (entries_bytes area attributes ks) ++ ws) s at → at + length (dictionary_bytes (entries_bytes area attributes ks) ++ ws) ≡ end → Holding left d first count i (rows_as area attributes i ks) at end
    unfolding entries_bytes rows_as
    behind_text [] at stands size = inners at stands size
    behind_text (k ∷ ks) at stands size = with_dictionary (k ∷ ks) at stands size

  row_sizes : (k : ℕ) → k < 0 + attributes_in attributes
      → (length (stretch area (key_in attributes k) (key_length_in attributes k)) ≡ key_length_in attributes k) × (length (stretch area (value_in attributes k) (value_length_in attributes k)) ≡ value_length_in attributes k)
  row_sizes k below = (
    length_stretch area (key_in attributes k) (key_length_in attributes k) (key_inside sound k (omega arith)),
    length_stretch area (value_in attributes k) (value_length_in attributes k) (value_inside sound k (omega arith)),
  )

  -- code and text before them
  pub whole_read : (left d count i : ℕ) (ws : List ℕ) (end : ℕ) → end ≤ length s → ((at : ℕ) → Stands ws s at → at + length ws ≡ end → Holding left (d + 1) (i + 1) count i [] at end)
      → i < errors_in errors → (at : ℕ) → Stands (own_bytes area errors attributes i ++ ws) s at → at + length (own_bytes area errors attributes i ++ ws) ≡ end → Whole left d count i at end
  unfolding own_bytes parts_with wire_type by_error
  whole_read left d count i ws end reach inners below at stands size =
      let code : ℕ = code_in errors i in
      let code-low : code_in errors i ≤ 0xffff_ffff = code_fits sound i below in
      let text : List ℕ = stretch area (text_in errors i) (text_length_in errors i) in
      let c : List ℕ = lead 0x08 code in
      let t : List ℕ = delimited 0x12 text in
      let dict : List ℕ = dictionary_bytes (entries_bytes area attributes (all_rows attributes i)) in
      let back : List ℕ = dict ++ ws in
      let regroup : (c ++ (t ++ dict)) ++ ws ≡ c ++ (t ++ back) = append_assoc c (t ++ dict) ws ∙ ap (λ (l : List ℕ). c ++ l) (append_assoc t dict ws) in
      let all_stand : Stands (c ++ (t ++ back)) s at = subst (λ (l : List ℕ). Stands l s at) regroup stands in
      let all-size : at + length (c ++ (t ++ back)) ≡ end = ap (λ (l : List ℕ). at + length l) (sym regroup) ∙ size in
      let sum : length (c ++ (t ++ back)) ≡ length c + length (t ++ back) = length-append c (t ++ back) in
      let sum_back : length (t ++ back) ≡ length t + length back = length-append t back in
      let t-size : length t ≡ length (lead 0x12 (length text)) + length text = length-append (lead 0x12 (length text)) text in
      let x : ℕ = at + length c in
      let y : ℕ = x + length t in
      let fits : length text ≤ most_bytes = omega arith in
      let c-stands : Stands c s at = stands_front c (t ++ back) s at all_stand in
      let t-back : Stands (t ++ back) s x = stands_back c (t ++ back) s at all_stand in
      let t-stands : Stands t s x = stands_front t back s x t-back in
      let pc : Placed 1 0 code 0 s at x = code_placed code (omega arith) s at c-stands in
      let pt : Placed 2 2 (length text) (length text) s x y = bytes_placed 0x12 (omega arith) (omega arith) refl text s x fits t-stands in
      let far-c : x ≤ end = omega arith in
      let far-t : y ≤ end = omega arith in
      let rest : Holding left (d + 1) (i + 1) count i (rows_as area attributes i (all_rows attributes i)) y end = behind_text left (d + 1) (i + 1) count i ws end reach inners (all_rows attributes i) y (stands_back t back s x t-back) (omega arith) in
      let fs : List ℕ = fields error_fields s y end in
      let list : fields error_fields s at end ≡ at ∷ x ∷ fs = placed_first error_fields pc refl end reach far-c ∙ ap (λ (l : List ℕ). at ∷ l) (placed_first error_fields pt refl end reach far-t) in
      let one : number_at s at ≡ 1 = pc.number_at_lem in
      let two : number_at s x ≡ 2 = pt.number_at_lem in
      let second : (f : ℕ → ℕ) → latest f 2 s (fields error_fields s at end) 0 ≡ f x = λ f. rw list (latest_other f 2 s at (x ∷ fs) 0 (λ e. omega arith) ∙ latest_own f 2 s x fs 0 two ∙ rest.quiet f 2 (f x) (omega arith)) in
      let first : latest (value_at s) 1 s (fields error_fields s at end) 0 ≡ code = rw list (latest_own (value_at s) 1 s at (x ∷ fs) 0 one ∙ latest_other (value_at s) 1 s x fs (value_at s at) (λ e. omega arith) ∙ rest.quiet (value_at s) 1 (value_at s at) (omega arith) ∙ pc.value_at_lem) in
      let there : content_at s x + length text ≤ length s = omega (arith, pt.ends) in
      let split : parts_at left at end ≡ parts_at left y end = ap (parts left s) list ∙ plain_field (inner_part left s) s at _ (omega arith) ∙ plain_field (inner_part left s) s x _ (omega arith) in
      record {
        form = field (placed_in error_fields pc refl end reach far-c) (plain_form left s at (omega arith)) (rw pc.stop_at_lem (field (placed_in error_fields pt refl end reach far-t) (plain_form left s x (omega arith)) (rw pt.stop_at_lem rest.form)));
        code_is = rw first (omega arith);
        text_size = second (value_at s) ∙ pt.value_at_lem ∙ length_stretch area (text_in errors i) (text_length_in errors i) (text_inside sound i below);
        text_is = rw (second (content_at s), second (value_at s), pt.value_at_lem) (stands_stretch text s (content_at s x) (bytes_stand 0x12 (omega arith) (omega arith) refl text s x fits t-stands) there);
        counted = ap error_count split ∙ rest.counted;
        errors_are = ap (seen_errors s (d + 1)) split ∙ rest.errors_are;
        rows_are = ap (seen_rows s i (i + 1)) split ∙ rest.rows_are ∙ ap (λ (l : List Row). l ++ by_error count (i + 1) rows) (sym (of_rows area attributes i (attributes_in attributes) 0 row_sizes));
      }

-- how many of n entries from the number i on are deeper than d, up to the first that is not
unfoldable pub gap : List ℕ → ℕ → ℕ → ℕ → ℕ
gap errors d zero i = 0
gap errors d (suc n) i =
    let others = suc (gap errors d n (i + 1)) in
    pick (d <? depth_in errors i) others 0

module _ (errors : List ℕ) where
  pub gap_deeper : (d n i : ℕ) → d < depth_in errors i → gap errors d (suc n) i ≡ suc (gap errors d n (i + 1))
  unfolding gap
  gap_deeper d n i h = rw (lt-ltb d (depth_in errors i) h)

  gap_none : (d n i : ℕ) → depth_in errors i ≤ d → gap errors d (suc n) i ≡ 0
  unfolding gap
  gap_none d n i h = rw (le-ltb d (depth_in errors i) h)

  -- fewer are deeper by more
  gap_less : (d n i : ℕ) → gap errors (d + 1) n i ≤ gap errors d n i
  unfolding gap
  gap_less d zero i = omega arith
  gap_less d (suc n) i = go (gap_less d n (i + 1)) (le_or_gt (depth_in errors i) (d + 1)) (le_or_gt (depth_in errors i) d)
    where
      go : gap errors (d + 1) n (i + 1) ≤ gap errors d n (i + 1) → (depth_in errors i ≤ d + 1) ⊎ (d + 1 < depth_in errors i) → (depth_in errors i ≤ d) ⊎ (d < depth_in errors i) → gap errors (d + 1) (suc n) i ≤ gap errors d (suc n) i
      go less (inl low) y = rw (le-ltb (d + 1) (depth_in errors i) low) (omega arith)
      go less (inr high) (inl low) = absurd (omega arith)
      go less (inr high) (inr deep) = rw (lt-ltb (d + 1) (depth_in errors i) high, lt-ltb d (depth_in errors i) deep) (omega arith)

-- one entry of the written inner errors
module _ (area errors attributes : List ℕ) (d n i : ℕ) where
  inners_lower : depth_in errors i < d → inners_bytes area errors attributes d (suc n) i ≡ []
  unfolding inners_bytes
  inners_lower h = rw (lt-ltb (depth_in errors i) d h)

  inners_deeper : d < depth_in errors i → inners_bytes area errors attributes d (suc n) i ≡ inners_bytes area errors attributes d n (i + 1)
  unfolding inners_bytes
  inners_deeper h = rw (le-ltb (depth_in errors i) d (omega arith), lt-ltb d (depth_in errors i) h)

  inners_own : depth_in errors i ≡ d → inners_bytes area errors attributes d (suc n) i ≡ delimited 0x22 (own_bytes area errors attributes i ++ inners_bytes area errors attributes (d + 1) n (i + 1)) ++ inners_bytes area errors attributes d n (i + 1)
  unfolding inners_bytes
  inners_own h = rw (le-ltb (depth_in errors i) d (omega arith), le-ltb d (depth_in errors i) (omega arith))

module _ {area errors attributes : List ℕ} (sound : Sound area errors attributes) (s : List ℕ) (short : length s ≤ most_bytes) where
  abbrev Holds : ℕ → ℕ → ℕ → ℕ → ℕ → ℕ → ℕ → Type 0
  Holds left d first count i at end = Holding area errors attributes sound s short left d first count i [] at end

  -- nothing stands there
  none_read : (left d first i at end : ℕ) → end ≤ at → Holds left d first 0 i at end
  unfolding listed by_error parts_with seen_errors seen_rows error_count latest
  none_read left d first i at end last =
      let list : fields error_fields s at end ≡ [] = fields_end error_fields s end at last in
      record {
        form = reached last;
        quiet = λ f number z low. rw list;
        counted = rw list;
        errors_are = rw list;
        rows_are = rw list;
      }

  -- an error, and those behind it
  one_read : (left d i a b at end : ℕ) (ws rest : List ℕ) → end ≤ length s → depth_in errors i ≡ d
      → ((from to : ℕ) → Stands ws s from → from + length ws ≡ to → to ≤ length s → Whole area errors attributes sound s short left d a i from to)
      → ((from : ℕ) (j : ℕ) → Stands rest s from → from + length rest ≡ end → Holds (suc left) d (i + 1 + a) b j from end)
      → Stands (delimited 0x22 ws ++ rest) s at → at + length (delimited 0x22 ws ++ rest) ≡ end → (j : ℕ) → Holds (suc left) d i (suc (a + b)) j at end
  unfolding listed by_error parts_with inner_part seen_errors seen_rows error_count wire_type
  one_read left d i a b at end ws rest reach deep whole_of rest_of stands size j =
      let x : List ℕ = delimited 0x22 ws in
      let next : ℕ = at + length x in
      let sum : length (x ++ rest) ≡ length x + length rest = length-append x rest in
      let x-size : length x ≡ length (lead 0x22 (length ws)) + length ws = length-append (lead 0x22 (length ws)) ws in
      let fits : length ws ≤ most_bytes = omega arith in
      let x-stands : Stands x s at = stands_front x rest s at stands in
      let placed : Placed 4 2 (length ws) (length ws) s at next = bytes_placed 0x22 (omega arith) (omega arith) refl ws s at fits x-stands in
      let far : next ≤ end = omega arith in
      let whole : Whole area errors attributes sound s short left d a i (content_at s at) (stop_at s at) = whole_of (content_at s at) (stop_at s at) (bytes_stand 0x22 (omega arith) (omega arith) refl ws s at fits x-stands) (placed.ends ∙ sym placed.stop_at_lem) (omega (arith, placed.stop_at_lem)) in
      let others : Holds (suc left) d (i + 1 + a) b j next end = rest_of next j (stands_back x rest s at stands) (omega arith) in
      let list : fields error_fields s at end ≡ at ∷ fields error_fields s next end = placed_first error_fields placed refl end reach far in
      let more : Parts = parts (suc left) s (fields error_fields s next end) in
      let held : Parts = parts left s (inside error_fields s at) in
      let fs : List ℕ = inside error_fields s at in
      let split : parts (suc left) s (fields error_fields s at end) ≡ inner (code_of s fs) (place_of 2 s fs) (length_of 2 s fs) held more = ap (parts (suc left) s) list ∙ inner_field (inner_part (suc left) s) s at more placed.number_at_lem in
      let all : List Row = rows_over area attributes (attributes_in attributes) in
      let second : seen_rows s j (i + 1 + error_count held) more ≡ by_error b (i + 1 + a) all = ap (λ (k : ℕ). seen_rows s j (i + 1 + k) more) whole.counted ∙ others.rows_are in
      let here : error (code_of s fs) d (length_of 2 s fs) (stretch s (place_of 2 s fs) (length_of 2 s fs)) ≡ error_in area errors i = λ k. error (whole.code_is k) (sym deep k) (whole.text_size k) (whole.text_is k) in
      record {
        form = field (placed_in error_fields placed refl end reach far) (inner_form left s at placed.number_at_lem whole.form) (rw placed.stop_at_lem others.form);
        quiet = λ f number z low. rw list (latest_other f number s at (fields error_fields s next end) z (λ e. omega (arith, placed.number_at_lem)) ∙ others.quiet f number z low);
        counted = ap error_count split ∙ omega (arith, whole.counted, others.counted);
        errors_are = ap (seen_errors s d) split ∙ (λ k. here k ∷ (whole.errors_are k ++ others.errors_are k)) ∙ ap (λ (l : List Error). error_in area errors i ∷ l) (sym (listed_add (error_in area errors) a b (i + 1)));
        rows_are = ap (seen_rows s j i) split ∙ (λ k. whole.rows_are k ++ second k) ∙ append_assoc (of_error i all) (by_error a (i + 1) all) (by_error b (i + 1 + a) all) ∙ ap (λ (l : List Row). of_error i all ++ l) (sym (by_error_add a b (i + 1) all));
      }

  -- no entry is more than one level deeper than the one before it
  pub gap_next : (n i : ℕ) → i + suc n ≡ errors_in errors → gap errors (depth_in errors i + 1) n (i + 1) ≡ 0
  unfolding gap
  gap_next zero i all = refl
  gap_next (suc n) i all =
      let back : i + 1 - 1 ≡ i = omega arith in
      let good : depth_in errors (i + 1) ≤ depth_in errors i + 1 = rw back at (depth_good sound (i + 1) (omega arith) (omega arith)).2 in
      gap_none errors (depth_in errors i + 1) n (i + 1) good

  pub inners_read : (n left e i at end : ℕ) → e + 1 + left ≡ 17 → 0 < i → i + n ≡ errors_in errors → end ≤ length s
      → Stands (inners_bytes area errors attributes (e + 1) n i) s at → at + length (inners_bytes area errors attributes (e + 1) n i) ≡ end
      → (first count : ℕ) → i + gap errors (e + 1) n i ≡ first → gap errors (e + 1) n i + count ≡ gap errors e n i → (j : ℕ) → Holds left (e + 1) first count j at end
  unfolding gap inners_bytes
  inners_read zero left e i at end levels later all reach stands size first count from many j =
      let none : 0 ≡ count = omega arith in
      rw (← none) (none_read left (e + 1) first j at end (omega arith))
  inners_read (suc n) zero e i at end levels later all reach stands size first count from many j =
      let deep : depth_in errors i ≤ deepest = (depth_good sound i (omega arith) later).1 in
      let no : gap errors e (suc n) i ≡ 0 = gap_none errors e n i (omega arith) in
      let none : 0 ≡ count = omega arith in
      let empty : length (inners_bytes area errors attributes (e + 1) (suc n) i) ≡ 0 = ap length (inners_lower area errors attributes (e + 1) n i (omega arith)) in
      rw (← none) (none_read zero (e + 1) first j at end (omega arith))
  inners_read (suc n) (suc left) e i at end levels later all reach stands size first count from many j =
      ⊎_elim
      (λ (low : depth_in errors i ≤ e).
      let no : gap errors e (suc n) i ≡ 0 = gap_none errors e n i low in
      let none : 0 ≡ count = omega arith in
      let empty : length (inners_bytes area errors attributes (e + 1) (suc n) i) ≡ 0 = ap length (inners_lower area errors attributes (e + 1) n i (omega arith)) in
      rw (← none) (none_read (suc left) (e + 1) first j at end (omega arith)))
      (λ (high : e < depth_in errors i).
      let outer : gap errors e (suc n) i ≡ suc (gap errors e n (i + 1)) = gap_deeper errors e n i high in
      ⊎_elim
      (λ (same : e + 1 ≡ depth_in errors i).
      let own : List ℕ = own_bytes area errors attributes i in
      let ws : List ℕ = inners_bytes area errors attributes (e + 1 + 1) n (i + 1) in
      let rest : List ℕ = inners_bytes area errors attributes (e + 1) n (i + 1) in
      let a : ℕ = gap errors (e + 1) n (i + 1) in
      let b : ℕ = gap errors e n (i + 1) - a in
      let less : gap errors (e + 1) n (i + 1) ≤ gap errors e n (i + 1) = gap_less errors e n (i + 1) in
      let here : gap errors (e + 1) (suc n) i ≡ 0 = gap_none errors (e + 1) n i (omega arith) in
      let next : gap errors (e + 1 + 1) n (i + 1) ≡ 0 = ap (λ (d : ℕ). gap errors (d + 1) n (i + 1)) same ∙ gap_next n i all in
      let bytes : inners_bytes area errors attributes (e + 1) (suc n) i ≡ delimited 0x22 (own ++ ws) ++ rest = inners_own area errors attributes (e + 1) n i (sym same) in
      let one : Holds (suc left) (e + 1) i (suc (a + b)) j at end =
      one_read left (e + 1) i a b at end (own ++ ws) rest reach (sym same)
      (λ f t st sz r.
      whole_read area errors attributes sound s short left (e + 1) a i ws t r
      (λ g st' sz'. inners_read n left (e + 1) (i + 1) g t (omega arith) (omega arith) (omega arith) r st' sz' (i + 1) a (omega arith) (omega arith) i)
      (omega arith) f st sz)
      (λ f k st sz. inners_read n (suc left) e (i + 1) f end levels (omega arith) (omega arith) reach st sz (i + 1 + a) b refl (omega arith) k)
      (subst (λ (l : List ℕ). Stands l s at) bytes stands) (ap (λ (l : List ℕ). at + length l) (sym bytes) ∙ size) j in
      let first_is : i ≡ first = omega arith in
      let count_is : suc (a + b) ≡ count = omega arith in
      subst (λ (c : ℕ). Holds (suc left) (e + 1) first c j at end) count_is (subst (λ (f : ℕ). Holds (suc left) (e + 1) f (suc (a + b)) j at end) first_is one))
      (λ (deeper : e + 1 < depth_in errors i).
      let bytes : inners_bytes area errors attributes (e + 1) (suc n) i ≡ inners_bytes area errors attributes (e + 1) n (i + 1) = inners_deeper area errors attributes (e + 1) n i deeper in
      let mine : gap errors (e + 1) (suc n) i ≡ suc (gap errors (e + 1) n (i + 1)) = gap_deeper errors (e + 1) n i deeper in
      inners_read n (suc left) e (i + 1) at end levels (omega arith) (omega arith) reach (subst (λ (l : List ℕ). Stands l s at) bytes stands) (ap (λ (l : List ℕ). at + length l) (sym bytes) ∙ size) first count (omega arith) (omega arith) j)
      (eq-or-lt_of_le (let more : e + 1 ≤ depth_in errors i = omega arith in more)))
      (le_or_gt (depth_in errors i) e)
