-- A field that was written is read back wherever it stands: the one law of length-delimited fields, and that of the code. Assumes
-- nothing.
use mathlib.Core.Path.{◌≡◌, refl, ◌∙◌, ap}
use mathlib.Core.Bool.{Bool, true, false, ◌||◌}
use mathlib.Core.List.{List, ◌∷◌, ◌++◌}
use Prim.Native.Nat.{ℕ, ◌+◌, ◌/◌, ◌%◌, ◌<◌, ◌≤◌}
use native.Mathlib.Nat.{add-zero, add_assoc}
use native.Mathlib.Omega.{arith}
use borrow.Author.Tests.{lt-ltb, eq-eqb}
use lib.ListN.{length, get_or, drop, length-append, length-drop, get_or-append}
use lib.Seq.{get_or-append-add, get_or-take, get_or-drop, length-take-le, ext_get_or}
use Rattle.words.specs.Buffer.{stretch}
use Rattle.words.specs.Decide.{◌=?◌}
use Rattle.varint.specs.Varint.{varint_at, varint_size, whole_varint, varint}
use Rattle.varint.specs.Round.{Stands}
use Rattle.varint.proofs.VarintLaws.{size_last, value_last, whole_is}
use Rattle.varint.proofs.RoundLaws.{stands_tail, varint_value, varint_size_lem, varint_whole}
use Rattle.field.specs.Field.{payload_value, payload_content, payload_stop, whole_payload, tag_at, number_at, type_at, value_at, content_at, stop_at, whole_field}
use Rattle.error_tree.specs.Message.{any_type, wire_type, whole_in, fields}
use Rattle.error_tree.proofs.MessageLaws.{fields_more}
use Rattle.error_write.specs.Written.{lead, delimited}
use Rattle.error_write.specs.Writing.{most_bytes}

-- the front and the back of what stands, and the bytes themselves
pub stands_front : (a b s : List ℕ) (at : ℕ) → Stands (a ++ b) s at → Stands a s at
stands_front a b s at h i below =
    let both : length (a ++ b) ≡ length a + length b = length-append a b in
    h i (omega arith) ∙ get_or-append a b 0 i below

pub stands_back : (a b s : List ℕ) (at : ℕ) → Stands (a ++ b) s at → Stands b s (at + length a)
stands_back a b s at h i below =
    let both : length (a ++ b) ≡ length a + length b = length-append a b in
    rw (add_assoc at (length a) i) (h (length a + i) (omega arith) ∙ get_or-append-add a b i 0)

pub stands_stretch : (ws s : List ℕ) (at : ℕ) → Stands ws s at → at + length ws ≤ length s → stretch s at (length ws) ≡ ws
stands_stretch ws s at h there =
    let size : length (stretch s at (length ws)) ≡ length ws = length-take-le (length ws) (drop at s) (rw (length-drop at s) (omega arith)) in
    ext_get_or 0 (stretch s at (length ws)) ws size (λ i below. get_or-take (length ws) (drop at s) i 0 (omega arith) ∙ get_or-drop at s i 0 ∙ h i (omega arith))

-- A tag of one byte and a varint behind it
module _ (tag : ℕ) (low : tag < 128) (n : ℕ) (fits : n ≤ most_bytes) (s : List ℕ) (at : ℕ) (stands : Stands (lead tag n) s at) where
  head : get_or s at 0 ≡ tag
  head = rw add-zero at (stands 0 (omega arith))

  pub tag_is : varint_at s at ≡ tag
  tag_is = value_last 9 s at (rw head low) ∙ head

  pub tag_size : varint_size s at ≡ 1
  tag_size = size_last 9 s at (rw head low)

  behind : Stands (varint n) s (at + 1)
  behind = stands_tail tag (varint n) s at stands

  pub value_is : varint_at s (at + 1) ≡ n
  value_is = varint_value n (omega arith) s (at + 1) behind

  pub size_is : varint_size s (at + 1) ≡ length (varint n)
  size_is = varint_size_lem n (omega arith) s (at + 1) behind

  pub number_is : number_at s at ≡ tag / 8
  number_is = ap (λ (m : ℕ). m / 8) tag_is

  pub type_is : type_at s at ≡ tag % 8
  type_is = ap (λ (m : ℕ). m % 8) tag_is

  module _ (end : ℕ) (reach : end ≤ length s) (far : at + length (lead tag n) ≤ end) where
    pub tag_whole : whole_varint s at end ≡ true
    tag_whole = whole_is s at end reach (omega (arith, tag_size)) (omega (arith, tag_size)) (omega (arith, tag_is))

    pub value_whole : whole_varint s (at + 1) end ≡ true
    value_whole = varint_whole n (omega arith) s (at + 1) behind end reach (omega arith)

-- A field at `at` of this number, with this value, which holds so many bytes, and the next field's place
pub record Placed (number type value size : ℕ) (s : List ℕ) (at next : ℕ) : Type 0 where
  pub number_at_lem : number_at s at ≡ number
  pub type_at_lem : type_at s at ≡ type
  pub value_at_lem : value_at s at ≡ value
  pub stop_at_lem : stop_at s at ≡ next
  pub ends : content_at s at + size ≡ next
  pub whole : (end : ℕ) → end ≤ length s → next ≤ end → whole_field s at end ≡ true

-- the code
pub code_placed : (n : ℕ) → n ≤ most_bytes → (s : List ℕ) (at : ℕ) → Stands (lead 0x08 n) s at → Placed 1 0 n 0 s at (at + length (lead 0x08 n))
unfolding payload_value payload_content payload_stop whole_field whole_payload
code_placed n fits s at stands =
    let low : 0x08 < 128 = omega arith in
    let number : number_at s at ≡ 1 = number_is 0x08 low n fits s at stands in
    let type : type_at s at ≡ 0 = type_is 0x08 low n fits s at stands in
    let size : varint_size s at ≡ 1 = tag_size 0x08 low n fits s at stands in
    let behind-size : varint_size s (at + 1) ≡ length (varint n) = size_is 0x08 low n fits s at stands in
    let tag : varint_at s at ≡ 0x08 = tag_is 0x08 low n fits s at stands in
    record {
      number_at_lem = number;
      type_at_lem = type;
      value_at_lem = rw (type, size) (value_is 0x08 low n fits s at stands);
      stop_at_lem = rw (type, size, behind-size) (omega arith);
      ends = rw (type, size, behind-size) (omega arith);
      whole = λ end reach far. rw (tag_whole 0x08 low n fits s at stands end reach far, lt-ltb (tag_at s at) 0x1_0000_0000 (omega arith), lt-ltb 7 (tag_at s at) (omega arith), type, size) (value_whole 0x08 low n fits s at stands end reach far);
    }

-- bytes
module _ (tag : ℕ) (low : tag < 128) (some : 8 ≤ tag) (two : tag % 8 ≡ 2) (ws s : List ℕ) (at : ℕ) (fits : length ws ≤ most_bytes) (stands : Stands (delimited tag ws) s at) where
  front : Stands (lead tag (length ws)) s at
  front = stands_front (lead tag (length ws)) ws s at stands

  pub bytes_placed : Placed (tag / 8) 2 (length ws) (length ws) s at (at + length (delimited tag ws))
  unfolding payload_value payload_content payload_stop whole_field whole_payload
  bytes_placed =
      let both : length (delimited tag ws) ≡ length (lead tag (length ws)) + length ws = length-append (lead tag (length ws)) ws in
      let type : type_at s at ≡ 2 = type_is tag low (length ws) fits s at front ∙ two in
      let size : varint_size s at ≡ 1 = tag_size tag low (length ws) fits s at front in
      let behind-size : varint_size s (at + 1) ≡ length (varint (length ws)) = size_is tag low (length ws) fits s at front in
      let value : varint_at s (at + 1) ≡ length ws = value_is tag low (length ws) fits s at front in
      let is : varint_at s at ≡ tag = tag_is tag low (length ws) fits s at front in
      record {
        number_at_lem = number_is tag low (length ws) fits s at front;
        type_at_lem = type;
        value_at_lem = rw (type, size) value;
        stop_at_lem = rw (type, size, behind-size, value) (omega arith);
        ends = rw (type, size, behind-size) (omega arith);
        whole = λ end reach far.
            rw (
              tag_whole tag low (length ws) fits s at front end reach (omega arith),
              lt-ltb (tag_at s at) 0x1_0000_0000 (omega arith),
              lt-ltb 7 (tag_at s at) (omega arith),
              type,
              size,
              value_whole tag low (length ws) fits s at front end reach (omega arith),
              behind-size,
              value,
              lt-ltb (at + 1 + length (varint (length ws)) + length ws) (end + 1) (omega arith),
            );
      }

  pub bytes_stand : Stands ws s (content_at s at)
  bytes_stand =
      let both : length (delimited tag ws) ≡ length (lead tag (length ws)) + length ws = length-append (lead tag (length ws)) ws in
      let there : content_at s at + length ws ≡ at + length (delimited tag ws) = bytes_placed.ends in
      let here : content_at s at ≡ at + length (lead tag (length ws)) = omega arith in
      rw here (stands_back (lead tag (length ws)) ws s at stands)

or_true : (b : Bool) → (b || true) ≡ true
or_true true = refl
or_true false = refl

-- such a field, where its message has it of this type, is the message's next one
module _ (known : ℕ) {number type value size : ℕ} {s : List ℕ} {at next : ℕ} (placed : Placed number type value size s at next) (own : wire_type known number ≡ type) (end : ℕ) (reach : end ≤ length s) (far : next ≤ end) where
  pub placed_in : whole_in known s at end ≡ true
  unfolding whole_in
  placed_in = rw (placed.whole end reach far, placed.number_at_lem, own, placed.type_at_lem, eq-eqb type type refl) (or_true (type =? any_type))

  pub placed_first : fields known s at end ≡ at ∷ fields known s next end
  placed_first = fields_more known s end at placed_in ∙ ap (λ (k : ℕ). at ∷ fields known s k end) placed.stop_at_lem
