-- A header's fields are the digits of its word. Assumes nothing.
use mathlib.Core.Path.{◌≡◌, sym, ◌∙◌, ap}
use mathlib.Core.List.{List}
use Prim.Native.Nat.{ℕ, ◌+◌, ◌*◌, ◌/◌, ◌%◌, ◌<◌}
use native.Mathlib.Nat.{zero-add, add-mul-mod_self_left, add-mul-div_left, mod-eq_of_lt, div-eq_of_lt, div-div-eq-div-mul}
use native.Mathlib.Omega.{arith}
use Rattle.words.specs.Word.{word, Bytes}
use Rattle.words.proofs.WordLaws.{word_lt}
use Rattle.wire.specs.Layout.{id_at, type_at, aggregate_at, length_at}
use Rattle.wire_value.specs.ValueOf.{header_at}
use Rattle.wire_value.specs.Statement.{ReadsHeader}
use Rattle.wire_value.specs.declared.value.Header.{Header}

-- the word's four digits
digits : (s : List ℕ) (at : ℕ) → word 8 s at ≡ id_at s at + 65536 * (type_at s at + 256 * (aggregate_at s at + 256 * length_at s at))
unfolding word
digits s at =
    let two : at + 1 + 1 ≡ at + 2 = omega arith in
    let three : at + 2 + 1 ≡ at + 3 = omega arith in
    let four : at + 3 + 1 ≡ at + 4 = omega arith in
    rw (two, three, four) (omega arith)

-- the lowest digit to the base b, and what is above it
low_digit : (b n x y : ℕ) → n ≡ x + b * y → x < b → n % b ≡ x
low_digit b n x y e h = rw e (add-mul-mod_self_left x b y ∙ mod-eq_of_lt h)

above_digit : (b n x y : ℕ) → n ≡ x + b * y → x < b → n / b ≡ y
above_digit b n x y e h = rw e (add-mul-div_left x y (omega arith) ∙ ap (λ (q : ℕ). q + y) (div-eq_of_lt h) ∙ zero-add y)

pub header_read : (s : List ℕ) (at w : ℕ) → Bytes s → w ≡ word 8 s at
    → ReadsHeader s at (record { id = w % 65536; kind = w / 65536 % 256; aggregate = w / 16777216 % 256; length = w / 4294967296 })
unfolding header_at
header_read s at w bytes e =
    let id : id_at s at < 65536 = word_lt 2 s at bytes in
    let type : type_at s at < 256 = bytes (at + 2) in
    let flags : aggregate_at s at < 256 = bytes (at + 3) in
    let whole : w ≡ id_at s at + 65536 * (type_at s at + 256 * (aggregate_at s at + 256 * length_at s at)) = e ∙ digits s at in
    let two : w / 65536 ≡ type_at s at + 256 * (aggregate_at s at + 256 * length_at s at) = above_digit 65536 w _ _ whole id in
    let three : w / 16777216 ≡ aggregate_at s at + 256 * length_at s at = sym (div-div-eq-div-mul w 65536 256) ∙ above_digit 256 (w / 65536) _ _ two type in
    let last : w / 4294967296 ≡ length_at s at = sym (div-div-eq-div-mul w 16777216 256) ∙ above_digit 256 (w / 16777216) _ _ three flags in
    rw (low_digit 65536 w _ _ whole id, low_digit 256 (w / 65536) _ _ two type, low_digit 256 (w / 16777216) _ _ three flags, last)

-- the fields of a header that was read
module _ (s : List ℕ) (at : ℕ) (header : Header) (is : header ≡ header_at s at) where
  pub header_id : header.id ≡ id_at s at
  unfolding header_at
  header_id = ap (λ (h : Header). h.id) is

  pub header_kind : header.kind ≡ type_at s at
  unfolding header_at
  header_kind = ap (λ (h : Header). h.kind) is

  pub header_aggregate : header.aggregate ≡ aggregate_at s at
  unfolding header_at
  header_aggregate = ap (λ (h : Header). h.aggregate) is

  pub header_length : header.length ≡ length_at s at
  unfolding header_at
  header_length = ap (λ (h : Header). h.length) is
