-- A field depends on its own bytes alone: where two inputs agree on them, both have the same field. Assumes nothing.
use mathlib.Core.Path.{◌≡◌, refl, sym, ◌∙◌, ap, subst}
use mathlib.Core.Bool.{Bool, true, false, ◌&&◌, ◌||◌, true≢false}
use mathlib.Core.List.{List}
use mathlib.Core.Logic.{⊎_elim}
use Prim.Native.Nat.{ℕ, zero, suc, ◌+◌, ◌*◌, ◌-◌, ◌/◌, ◌%◌, ◌<◌, ◌≤◌}
use native.Mathlib.Nat.{add-zero, add_assoc}
use native.Mathlib.Omega.{arith}
use native.Mathlib.Decide.{ℕ_discrete}
use borrow.Author.Tests.{lt-ltb, ltb-true, eqb-true, ne_eqb}
use lib.ListN.{length, get_or, drop, length-drop}
use lib.Seq.{get_or-take, get_or-drop, length-take-le, ext_get_or}
use Rattle.words.specs.Buffer.{stretch}
use Rattle.words.specs.Decide.{◌<?◌, ◌=?◌}
use Rattle.words.proofs.DecideLaws.{le_or_gt}
use Rattle.varint.specs.Varint.{size_in, value_in, varint_size, varint_at, varint_end, whole_varint}
use Rattle.varint.proofs.VarintLaws.{size_least, size_last, value_last, size_more, value_more, whole_is, whole_end}
use Rattle.field.specs.Field.{payload_value, payload_content, payload_stop, whole_payload, tag_at, number_at, type_at, value_at, content_at, stop_at, whole_field}
use Rattle.error_tree.specs.Message.{any_type, wire_type, whole_in}

and_left : (a b : Bool) → (a && b) ≡ true → a ≡ true
and_left true b h = refl
and_left false b h = h

and_right : (a b : Bool) → (a && b) ≡ true → b ≡ true
and_right true b h = h
and_right false b h = absurd (true≢false (sym h))

-- A whole varint has ten bytes at most and fits, and a whole payload ends by `end`

whole_small : (s : List ℕ) (at end : ℕ) → whole_varint s at end ≡ true → (varint_size s at ≤ 10) × (varint_at s at < 0x1_0000_0000_0000_0000)
whole_small s at end h =
    let rest : (varint_end s at <? (end + 1) && (varint_size s at <? 11 && varint_at s at <? 0x1_0000_0000_0000_0000)) ≡ true = and_right (end <? (length s + 1)) _ h in
    let both : (varint_size s at <? 11 && varint_at s at <? 0x1_0000_0000_0000_0000) ≡ true = and_right (varint_end s at <? (end + 1)) _ rest in
    let size : varint_size s at < 11 = ltb-true (varint_size s at) 11 (and_left (varint_size s at <? 11) _ both) in
    (omega arith, ltb-true (varint_at s at) 0x1_0000_0000_0000_0000 (and_right (varint_size s at <? 11) _ both))

module _ (s t : List ℕ) where
  -- the n bytes of s from x on are those of t from y on
  abbrev pub Agrees : ℕ → ℕ → ℕ → Type 0
  Agrees x y n = (i : ℕ) → i < n → get_or s (x + i) 0 ≡ get_or t (y + i) 0

  pub agrees_on : (x y n k : ℕ) → Agrees x y (k + n) → Agrees (x + k) (y + k) n
  agrees_on x y n k agrees i below = rw (add_assoc x k i, add_assoc y k i) (agrees (k + i) (omega arith))

  pub agrees_less : (x y n m : ℕ) → m ≤ n → Agrees x y n → Agrees x y m
  agrees_less x y n m h agrees i below = agrees i (omega arith)

  pub agrees_stretch : (x y n : ℕ) → Agrees x y n → x + n ≤ length s → y + n ≤ length t → stretch s x n ≡ stretch t y n
  agrees_stretch x y n agrees here there =
      let one : length (stretch s x n) ≡ n = length-take-le n (drop x s) (rw (length-drop x s) (omega arith)) in
      let two : length (stretch t y n) ≡ n = length-take-le n (drop y t) (rw (length-drop y t) (omega arith)) in
      ext_get_or 0 (stretch s x n) (stretch t y n) (one ∙ sym two)
      (λ i below. get_or-take n (drop x s) i 0 (omega arith) ∙ get_or-drop x s i 0 ∙ agrees i (omega arith) ∙ sym (get_or-take n (drop y t) i 0 (omega arith) ∙ get_or-drop y t i 0))

  varint_local : (k x y n : ℕ) → size_in k s x ≤ n → Agrees x y n → (size_in k t y ≡ size_in k s x) × (value_in k t y ≡ value_in k s x)
  unfolding size_in value_in
  varint_local zero x y n h agrees = (refl, refl)
  varint_local (suc k) x y n h agrees =
      let some : 1 ≤ size_in (suc k) s x = size_least (suc k) s x in
      let byte : get_or s x 0 ≡ get_or t y 0 = ap (λ (z : ℕ). get_or s z 0) (sym (add-zero x)) ∙ agrees 0 (omega arith) ∙ ap (λ (z : ℕ). get_or t z 0) (add-zero y) in
      ⊎_elim
      (λ (high : 128 ≤ get_or s x 0).
      let mine : size_in (suc k) s x ≡ 1 + size_in k s (x + 1) = size_more k s x high in
      let whole : 1 + (n - 1) ≡ n = omega arith in
      let rest : (size_in k t (y + 1) ≡ size_in k s (x + 1)) × (value_in k t (y + 1) ≡ value_in k s (x + 1)) = varint_local k (x + 1) (y + 1) (n - 1) (omega arith) (agrees_on x y (n - 1) 1 (agrees_less x y n (1 + (n - 1)) (omega arith) agrees)) in (
        size_more k t y (omega arith) ∙ ap (λ (z : ℕ). 1 + z) rest.0 ∙ sym mine,
        value_more k t y (omega arith) ∙ (λ j. sym byte j % 128 + 128 * rest.1 j) ∙ sym (value_more k s x high),
      ))
      (λ (low : get_or s x 0 < 128). (
        size_last k t y (omega arith) ∙ sym (size_last k s x low),
        value_last k t y (omega arith) ∙ sym byte ∙ sym (value_last k s x low),
      ))
      (le_or_gt 128 (get_or s x 0))

  -- A payload of this type at x in s and at y in t, whole there by `end`
  record Moved (type x y end : ℕ) : Type 0 where
    value : payload_value type t y ≡ payload_value type s x
    content : payload_content type t y + x ≡ payload_content type s x + y
    stop : payload_stop type t y + x ≡ payload_stop type s x + y
    whole : whole_payload type t y end ≡ true

  module _ (x y n end end' : ℕ) (agrees : Agrees x y n) (far : y + n ≤ end') (reach : end' ≤ length t) where
    number_moved : whole_payload 0 s x end ≡ true → payload_stop 0 s x ≤ x + n → Moved 0 x y end'
    unfolding payload_value payload_content payload_stop whole_payload
    number_moved whole within =
        let small : (varint_size s x ≤ 10) × (varint_at s x < 0x1_0000_0000_0000_0000) = whole_small s x end whole in
        let same : (varint_size t y ≡ varint_size s x) × (varint_at t y ≡ varint_at s x) = varint_local 10 x y n (omega arith) agrees in
        record { value = same.1; content = omega (arith, same.0); stop = omega (arith, same.0); whole = whole_is t y end' reach (omega (arith, same.0)) (omega (arith, same.0, small.0)) (omega (arith, same.1, small.1)) }

    bytes_moved : whole_payload 2 s x end ≡ true → payload_stop 2 s x ≤ x + n → Moved 2 x y end'
    unfolding payload_value payload_content payload_stop whole_payload
    bytes_moved both within =
        let whole : whole_varint s x end ≡ true = and_left (whole_varint s x end) _ both in
        let small : (varint_size s x ≤ 10) × (varint_at s x < 0x1_0000_0000_0000_0000) = whole_small s x end whole in
        let same : (varint_size t y ≡ varint_size s x) × (varint_at t y ≡ varint_at s x) = varint_local 10 x y n (omega arith) agrees in
        let there : whole_varint t y end' ≡ true = whole_is t y end' reach (omega (arith, same.0)) (omega (arith, same.0, small.0)) (omega (arith, same.1, small.1)) in
        record { value = same.1; content = omega (arith, same.0); stop = omega (arith, same.0, same.1); whole = rw (there, lt-ltb (varint_end t y + varint_at t y) (end' + 1) (omega (arith, same.0, same.1))) }

    long_moved : payload_stop 1 s x ≤ x + n → Moved 1 x y end'
    unfolding payload_value payload_content payload_stop whole_payload
    long_moved within = record { value = refl; content = omega arith; stop = omega arith; whole = lt-ltb (y + 8) (end' + 1) (omega arith) }

    short_moved : payload_stop 5 s x ≤ x + n → Moved 5 x y end'
    unfolding payload_value payload_content payload_stop whole_payload
    short_moved within = record { value = refl; content = omega arith; stop = omega arith; whole = lt-ltb (y + 4) (end' + 1) (omega arith) }

    payload_moved : (type : ℕ) → whole_payload type s x end ≡ true → payload_stop type s x ≤ x + n → Moved type x y end'
    unfolding whole_payload
    payload_moved type whole within = go (ℕ_discrete type 0) (ℕ_discrete type 1) (ℕ_discrete type 2) (ℕ_discrete type 5)
      where
        go : Dec (type ≡ 0) → Dec (type ≡ 1) → Dec (type ≡ 2) → Dec (type ≡ 5) → Moved type x y end'
        go (yes e) b c d = subst (λ (k : ℕ). Moved k x y end') (sym e) (number_moved (subst (λ (k : ℕ). whole_payload k s x end ≡ true) e whole) (subst (λ (k : ℕ). payload_stop k s x ≤ x + n) e within))
        go (no a) (yes e) c d = subst (λ (k : ℕ). Moved k x y end') (sym e) (long_moved (subst (λ (k : ℕ). payload_stop k s x ≤ x + n) e within))
        go (no a) (no b) (yes e) d = subst (λ (k : ℕ). Moved k x y end') (sym e) (bytes_moved (subst (λ (k : ℕ). whole_payload k s x end ≡ true) e whole) (subst (λ (k : ℕ). payload_stop k s x ≤ x + n) e within))
        go (no a) (no b) (no c) (yes e) = subst (λ (k : ℕ). Moved k x y end') (sym e) (short_moved (subst (λ (k : ℕ). payload_stop k s x ≤ x + n) e within))
        go (no a) (no b) (no c) (no d) = absurd (true≢false (sym whole ∙ rw (ne_eqb type 0 a, ne_eqb type 1 b, ne_eqb type 2 c, ne_eqb type 5 d)))

-- Where a payload's content lies, and that it ends by `end` where it is whole
module _ (s : List ℕ) (at end : ℕ) where
  content_lies : (type : ℕ) → (at ≤ payload_content type s at) × (payload_content type s at ≤ payload_stop type s at)
  unfolding payload_content payload_stop
  content_lies type = go (ℕ_discrete type 0) (ℕ_discrete type 1) (ℕ_discrete type 2) (ℕ_discrete type 5)
    where
      go : Dec (type ≡ 0) → Dec (type ≡ 1) → Dec (type ≡ 2) → Dec (type ≡ 5) → (at ≤ payload_content type s at) × (payload_content type s at ≤ payload_stop type s at)
      go (yes e) b c d = rw e (omega arith, omega arith)
      go (no a) (yes e) c d = rw e (omega arith, omega arith)
      go (no a) (no b) (yes e) d = rw e (omega arith, omega arith)
      go (no a) (no b) (no c) (yes e) = rw e (omega arith, omega arith)
      go (no a) (no b) (no c) (no d) = rw (ne_eqb type 0 a, ne_eqb type 1 b, ne_eqb type 2 c, ne_eqb type 5 d) (omega arith, omega arith)

  stops_by : (type : ℕ) → whole_payload type s at end ≡ true → payload_stop type s at ≤ end
  unfolding payload_stop whole_payload
  stops_by type whole = go (ℕ_discrete type 0) (ℕ_discrete type 1) (ℕ_discrete type 2) (ℕ_discrete type 5)
    where
      go : Dec (type ≡ 0) → Dec (type ≡ 1) → Dec (type ≡ 2) → Dec (type ≡ 5) → payload_stop type s at ≤ end
      go (yes e) b c d = let w : whole_varint s at end ≡ true = subst (λ (k : ℕ). whole_payload k s at end ≡ true) e whole in rw e (whole_end s at end w).1
      go (no a) (yes e) c d =
          let w : ((at + 8) <? (end + 1)) ≡ true = subst (λ (k : ℕ). whole_payload k s at end ≡ true) e whole in
          let far : at + 8 < end + 1 = ltb-true (at + 8) (end + 1) w in
          rw e (omega arith)
      go (no a) (no b) (yes e) d =
          let w : (whole_varint s at end && (varint_end s at + varint_at s at) <? (end + 1)) ≡ true = subst (λ (k : ℕ). whole_payload k s at end ≡ true) e whole in
          let far : varint_end s at + varint_at s at < end + 1 = ltb-true (varint_end s at + varint_at s at) (end + 1) (and_right (whole_varint s at end) _ w) in
          rw e (omega arith)
      go (no a) (no b) (no c) (yes e) =
          let w : ((at + 4) <? (end + 1)) ≡ true = subst (λ (k : ℕ). whole_payload k s at end ≡ true) e whole in
          let far : at + 4 < end + 1 = ltb-true (at + 4) (end + 1) w in
          rw e (omega arith)
      go (no a) (no b) (no c) (no d) = absurd (true≢false (sym whole ∙ rw (ne_eqb type 0 a, ne_eqb type 1 b, ne_eqb type 2 c, ne_eqb type 5 d)))

-- A whole field: its parts, and where its content lies
module _ (s : List ℕ) (at end : ℕ) (whole : whole_field s at end ≡ true) where
  tag_part : whole_varint s at end ≡ true
  unfolding whole_field
  tag_part = and_left (whole_varint s at end) _ whole

  behind_tag : (tag_at s at <? 0x1_0000_0000 && (7 <? tag_at s at && whole_payload (type_at s at) s (varint_end s at) end)) ≡ true
  unfolding whole_field
  behind_tag = and_right (whole_varint s at end) _ whole

  tag_low : (tag_at s at <? 0x1_0000_0000) ≡ true
  tag_low = and_left (tag_at s at <? 0x1_0000_0000) _ behind_tag

  tag_high : (7 <? tag_at s at) ≡ true
  tag_high = and_left (7 <? tag_at s at) _ (and_right (tag_at s at <? 0x1_0000_0000) _ behind_tag)

  payload_part : whole_payload (type_at s at) s (varint_end s at) end ≡ true
  payload_part = and_right (7 <? tag_at s at) _ (and_right (tag_at s at <? 0x1_0000_0000) _ behind_tag)

  pub field_lies : (at < content_at s at) × (content_at s at ≤ stop_at s at) × (stop_at s at ≤ end) × (end ≤ length s)
  field_lies =
      let tag : (at < varint_end s at) × (varint_end s at ≤ end) × (end ≤ length s) = whole_end s at end tag_part in
      let lies : (varint_end s at ≤ content_at s at) × (content_at s at ≤ stop_at s at) = content_lies s (varint_end s at) end (type_at s at) in
      (omega (arith, tag.0, lies.0), lies.1, stops_by s (varint_end s at) end (type_at s at) payload_part, tag.2)

  -- bytes fill it
  pub bytes_fill : type_at s at ≡ 2 → content_at s at + value_at s at ≡ stop_at s at
  unfolding payload_value payload_content payload_stop
  bytes_fill two = rw two

-- The field at x in s is the field at y in t, where it is whole by `end`
module _ (s t : List ℕ) where
  pub record Copied (x y end : ℕ) : Type 0 where
    pub number_same : number_at t y ≡ number_at s x
    pub type_same : type_at t y ≡ type_at s x
    pub value_same : value_at t y ≡ value_at s x
    pub content_moves : content_at t y + x ≡ content_at s x + y
    pub stop_moves : stop_at t y + x ≡ stop_at s x + y
    pub whole_there : whole_field t y end ≡ true

  pub field_copied : (x y n end end' : ℕ) → whole_field s x end ≡ true → stop_at s x ≤ x + n → Agrees s t x y n → y + n ≤ end' → end' ≤ length t → Copied x y end'
  unfolding whole_field
  field_copied x y n end end' whole within agrees far reach =
      let z : ℕ = varint_size s x in
      let lies : (varint_end s x ≤ content_at s x) × (content_at s x ≤ stop_at s x) = content_lies s (varint_end s x) end (type_at s x) in
      let fits : varint_size s x ≤ n = omega (arith, lies.0, lies.1) in
      let rest : z + (n - z) ≡ n = omega arith in
      let small : (varint_size s x ≤ 10) × (varint_at s x < 0x1_0000_0000_0000_0000) = whole_small s x end (tag_part s x end whole) in
      let same : (varint_size t y ≡ varint_size s x) × (varint_at t y ≡ varint_at s x) = varint_local s t 10 x y n fits agrees in
      let payload : Moved s t (type_at s x) (x + z) (y + z) end' = payload_moved s t (x + z) (y + z) (n - z) end end' (agrees_on s t x y (n - z) z (agrees_less s t x y n (z + (n - z)) (omega arith) agrees)) (omega arith) reach (type_at s x) (payload_part s x end whole) (omega arith) in
      let tag : whole_varint t y end' ≡ true = whole_is t y end' reach (omega (arith, same.0)) (omega (arith, same.0, small.0)) (omega (arith, same.1, small.1)) in
      let type : type_at t y ≡ type_at s x = ap (λ (k : ℕ). k % 8) same.1 in
      let place : varint_end t y ≡ y + z = ap (λ (k : ℕ). y + k) same.0 in
      let content : content_at t y ≡ payload_content (type_at s x) t (y + z) = λ j. payload_content (type j) t (place j) in
      let stop : stop_at t y ≡ payload_stop (type_at s x) t (y + z) = λ j. payload_stop (type j) t (place j) in
      let low : (tag_at t y <? 0x1_0000_0000) ≡ true = ap (λ (k : ℕ). k <? 0x1_0000_0000) same.1 ∙ tag_low s x end whole in
      let high : (7 <? tag_at t y) ≡ true = ap (λ (k : ℕ). 7 <? k) same.1 ∙ tag_high s x end whole in
      let held : whole_payload (type_at t y) t (varint_end t y) end' ≡ true = (λ j. whole_payload (type j) t (place j) end') ∙ payload.whole in
      record {
        number_same = ap (λ (k : ℕ). k / 8) same.1;
        type_same = type;
        value_same = (λ j. payload_value (type j) t (place j)) ∙ payload.value;
        content_moves = omega (arith, content, payload.content);
        stop_moves = omega (arith, stop, payload.stop);
        whole_there = rw (tag, low, high) held;
      }

  pub copied_in : (known x y end end' : ℕ) → whole_in known s x end ≡ true → Copied x y end' → whole_in known t y end' ≡ true
  unfolding whole_in
  copied_in known x y end end' whole copied = rw (copied.whole_there, copied.number_same, copied.type_same) (and_right (whole_field s x end) _ whole)

pub in_field : (known : ℕ) (s : List ℕ) (at end : ℕ) → whole_in known s at end ≡ true → whole_field s at end ≡ true
unfolding whole_in
in_field known s at end whole = and_left (whole_field s at end) _ whole

-- a known field of bytes is of type 2
pub known_bytes : (known : ℕ) (s : List ℕ) (at end : ℕ) → whole_in known s at end ≡ true → wire_type known (number_at s at) ≡ 2 → type_at s at ≡ 2
unfolding whole_in
known_bytes known s at end whole two =
    let own : (wire_type known (number_at s at) =? any_type || wire_type known (number_at s at) =? type_at s at) ≡ true = and_right (whole_field s at end) _ whole in
    let is : (2 =? type_at s at) ≡ true = rw two at own in
    sym (eqb-true 2 (type_at s at) is)
