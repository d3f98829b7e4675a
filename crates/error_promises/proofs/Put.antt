-- Bytes of an unknown field put between the fields of the outermost error. Assumes nothing.
use mathlib.Core.Path.{◌≡◌, refl, sym, ◌∙◌, ap, subst}
use mathlib.Core.Bool.{true}
use mathlib.Core.List.{List, ◌++◌}
use Prim.Native.Nat.{ℕ, zero, suc, ◌+◌, ◌-◌, ◌<◌, ◌≤◌}
use native.Mathlib.Nat.{zero-add, add_assoc}
use native.Mathlib.Omega.{arith}
use lib.ListN.{length, get_or, length-append, get_or-append}
use lib.Seq.{get_or-append-add}
use Rattle.words.specs.Buffer.{stretch}
use Rattle.field.specs.Field.{number_at, value_at, content_at, stop_at}
use Rattle.error_tree.specs.Message.{error_fields, dictionary_fields, attribute_fields, wire_type, whole_in}
use Rattle.error_tree.specs.Tree.{levels}
use Rattle.error_tree.proofs.MessageLaws.{type_other, type_bytes}
use Rattle.error_promises.specs.Form.{Message, reached, field, Held, Anything, Entry, ErrorField}
use Rattle.error_promises.specs.Unknown.{Between, ended, put, kept, SameBytes, HeldBetween, SamePart, SameEntry, SameOwn, SameField, Leads, there, on, UnknownField, BytesPutBetween}
use Rattle.error_promises.proofs.Local.{Agrees, agrees_on, agrees_less, agrees_stretch, field_lies, bytes_fill, Copied, field_copied, copied_in, in_field, known_bytes}

module _ (s t : List ℕ) where
  -- agreement from a later place on
  agrees_from : (x y n x' y' m : ℕ) → Agrees s t x y n → x ≤ x' → x' + m ≤ x + n → y' + x ≡ x' + y → Agrees s t x' y' m
  agrees_from x y n x' y' m agrees low high same =
      let k : ℕ = x' - x in
      let one : x + k ≡ x' = omega arith in
      let two : y + k ≡ y' = omega arith in
      subst (λ (z : ℕ). Agrees s t z y' m) one (subst (λ (z : ℕ). Agrees s t (x + k) z m) two (agrees_on s t x y m k (agrees_less s t x y n (k + m) (omega arith) agrees)))

  -- A message that stands in both is the same in both, field by field
  module _ (known : ℕ) (Inside : ℕ → Type 0) (Same : ℕ → ℕ → Type 0) (end end' : ℕ) (reach' : end' ≤ length t)
      (same_at : (a b : ℕ) → whole_in known s a end ≡ true → Copied s t a b end' → Agrees s t a b (stop_at s a - a) → Inside a → Same a b) where
    copy_between : {x : ℕ} → Message known Inside s end x → (y n : ℕ) → x + n ≡ end → y + n ≡ end' → Agrees s t x y n → Between known Same s end t end' x y
    copy_between {x} (reached h) y n e e' agrees = let last : end' ≤ y = omega arith in ended h last
    copy_between {x} (field whole inside more) y n e e' agrees =
        let lies : (x < content_at s x) × (content_at s x ≤ stop_at s x) × (stop_at s x ≤ end) × (end ≤ length s) = field_lies s x end (in_field known s x end whole) in
        let copied : Copied s t x y end' = field_copied s t x y n end end' (in_field known s x end whole) (omega (arith, lies.2)) agrees (omega arith) reach' in
        let far : x ≤ stop_at s x = omega (arith, lies.0, lies.1) in
        let moves : stop_at t y + x ≡ stop_at s x + y = copied.stop_moves in
        let here : Agrees s t x y (stop_at s x - x) = agrees_less s t x y n (stop_at s x - x) (omega (arith, lies.2)) agrees in
        let left : ℕ = n - (stop_at s x - x) in
        kept whole (copied_in s t known x y end end' whole copied) copied.number_same (same_at x y whole copied here inside)
        (copy_between more (stop_at t y) left (omega (arith, lies.2)) (omega (arith, lies.2)) (agrees_from x y n (stop_at s x) (stop_at t y) left agrees far (omega (arith, lies.2)) moves))

  -- What a field holds that stands in both
  module _ (known a b end end' : ℕ) (whole : whole_in known s a end ≡ true) (copied : Copied s t a b end') (agrees : Agrees s t a b (stop_at s a - a)) where
    lies : (a < content_at s a) × (content_at s a ≤ stop_at s a) × (stop_at s a ≤ end) × (end ≤ length s)
    lies = field_lies s a end (in_field known s a end whole)

    lies' : (b < content_at t b) × (content_at t b ≤ stop_at t b) × (stop_at t b ≤ end') × (end' ≤ length t)
    lies' = field_lies t b end' copied.whole_there

    inside_agrees : (m : ℕ) → content_at s a + m ≤ stop_at s a → Agrees s t (content_at s a) (content_at t b) m
    inside_agrees m h = agrees_from a b (stop_at s a - a) (content_at s a) (content_at t b) m agrees (omega (arith, lies.0)) (omega (arith, lies.0, lies.1)) copied.content_moves

    same_bytes : wire_type known (number_at s a) ≡ 2 → SameBytes s t a b
    same_bytes two =
        let fill : content_at s a + value_at s a ≡ stop_at s a = bytes_fill s a end (in_field known s a end whole) (known_bytes known s a end whole two) in
        let value : value_at t b ≡ value_at s a = copied.value_same in
        let moves : stop_at t b + a ≡ stop_at s a + b = copied.stop_moves in
        let content : content_at t b + a ≡ content_at s a + b = copied.content_moves in (
          sym value,
          agrees_stretch s t (content_at s a) (content_at t b) (value_at s a) (inside_agrees (value_at s a) (omega arith)) (omega (arith, lies.2, lies.3)) (omega (arith, lies'.2, lies'.3)) ∙ ap (λ (k : ℕ). stretch t (content_at t b) k) (sym value),
        )

    held_same : (inner-known : ℕ) (Inside : ℕ → Type 0) (Same : ℕ → ℕ → Type 0)
        → ((c d : ℕ) → whole_in inner-known s c (stop_at s a) ≡ true → Copied s t c d (stop_at t b) → Agrees s t c d (stop_at s c - c) → Inside c → Same c d)
        → Held inner-known Inside s a → HeldBetween inner-known Same s t a b
    held_same inner-known Inside Same same_at held =
        let n : ℕ = stop_at s a - content_at s a in
        let moves : stop_at t b + a ≡ stop_at s a + b = copied.stop_moves in
        let content : content_at t b + a ≡ content_at s a + b = copied.content_moves in
        copy_between inner-known Inside Same (stop_at s a) (stop_at t b) (omega (arith, lies'.2, lies'.3)) same_at held (content_at t b) n (omega (arith, lies.1)) (omega (arith, lies.1)) (inside_agrees n (omega (arith, lies.1)))

  part_same : (end end' a b : ℕ) → whole_in attribute_fields s a end ≡ true → Copied s t a b end' → Agrees s t a b (stop_at s a - a) → Anything a → SamePart s t a b
  part_same end end' a b whole copied agrees inside low = same_bytes attribute_fields a b end end' whole copied agrees (type_bytes attribute_fields (number_at s a) low (λ e. omega arith)).0

  entry_same : (end end' a b : ℕ) → whole_in dictionary_fields s a end ≡ true → Copied s t a b end' → Agrees s t a b (stop_at s a - a) → Entry s a → SameEntry s t a b
  entry_same end end' a b whole copied agrees inside one = held_same dictionary_fields a b end end' whole copied agrees attribute_fields Anything (SamePart s t) (part_same (stop_at s a) (stop_at t b)) (inside one)

  own_same : (end end' a b : ℕ) → whole_in error_fields s a end ≡ true → Copied s t a b end' → Agrees s t a b (stop_at s a - a) → (number_at s a ≡ 3 → Held dictionary_fields (Entry s) s a) → SameOwn s t a b
  own_same end end' a b whole copied agrees inside = (
    (λ one. sym copied.value_same),
    (λ two. same_bytes error_fields a b end end' whole copied agrees (type_other error_fields (number_at s a) (omega arith) refl (λ e. omega arith)).0),
    (λ three. held_same error_fields a b end end' whole copied agrees dictionary_fields (Entry s) (SameEntry s t) (entry_same (stop_at s a) (stop_at t b)) (inside three)),
  )

  field_same : (left end end' a b : ℕ) → whole_in error_fields s a end ≡ true → Copied s t a b end' → Agrees s t a b (stop_at s a - a) → ErrorField left s a → SameField left s t a b
  unfolding ErrorField SameField
  field_same zero end end' a b whole copied agrees inside = (own_same end end' a b whole copied agrees inside.0, inside.1)
  field_same (suc left) end end' a b whole copied agrees inside = (
    own_same end end' a b whole copied agrees inside.0,
    (λ four. held_same error_fields a b end end' whole copied agrees error_fields (ErrorField left s) (SameField left s t) (field_same left (stop_at s a) (stop_at t b)) (inside.1 four)),
  )

  -- Up to the place both are alike; there t has the unknown field, and behind it the rest of s
  module _ (u : List ℕ) (unknown : UnknownField u) (cut : ℕ) (front : Agrees s t 0 0 cut) (middle : Agrees u t 0 cut (length u)) (back : Agrees s t cut (cut + length u) (length s - cut))
      (within : cut ≤ length s) (size : length t ≡ length s + length u) where
    at_cut : Copied u t 0 cut (length t)
    at_cut = field_copied u t 0 cut (length u) (length u) (length t) (in_field error_fields u 0 (length u) unknown.whole) (omega (arith, unknown.all)) middle (omega arith) (omega arith)

    leads_low : {x : ℕ} → Leads error_fields s cut x → x ≤ cut
    leads_low (there e) = omega arith
    leads_low {x} (on whole more) =
        let lies : (x < content_at s x) × (content_at s x ≤ stop_at s x) × (stop_at s x ≤ length s) × (length s ≤ length s) = field_lies s x (length s) (in_field error_fields s x (length s) whole) in
        omega (arith, lies.0, lies.1, leads_low more)

    from_cut : Message error_fields (ErrorField levels s) s (length s) cut → Between error_fields (SameField levels s t) s (length s) t (length t) cut cut
    from_cut form =
        let stop : stop_at t cut ≡ cut + length u = omega (arith, at_cut.stop_moves, unknown.all) in
        let high : error_fields < number_at t cut = omega (arith, at_cut.number_same, unknown.high) in
        let rest : Between error_fields (SameField levels s t) s (length s) t (length t) cut (cut + length u) = copy_between error_fields (ErrorField levels s) (SameField levels s t) (length s) (length t) (omega arith) (field_same levels (length s) (length t)) form (cut + length u) (length s - cut) (omega arith) (omega arith) back in
        put (copied_in u t error_fields 0 cut (length u) (length t) unknown.whole at_cut) high (subst (λ (k : ℕ). Between error_fields (SameField levels s t) s (length s) t (length t) cut k) (sym stop) rest)

    put_walk : {x : ℕ} → Leads error_fields s cut x → Message error_fields (ErrorField levels s) s (length s) x → Between error_fields (SameField levels s t) s (length s) t (length t) x x
    put_walk {x} (there e) form = subst (λ (k : ℕ). Between error_fields (SameField levels s t) s (length s) t (length t) k k) (sym e) (from_cut (subst (λ (k : ℕ). Message error_fields (ErrorField levels s) s (length s) k) e form))
    put_walk {x} (on whole more) (reached h) =
        let lies : (x < content_at s x) × (content_at s x ≤ stop_at s x) × (stop_at s x ≤ length s) × (length s ≤ length s) = field_lies s x (length s) (in_field error_fields s x (length s) whole) in
        absurd (omega (arith, lies.0, lies.1, lies.2))
    put_walk {x} (on whole more) (field same_whole inside others) =
        let lies : (x < content_at s x) × (content_at s x ≤ stop_at s x) × (stop_at s x ≤ length s) × (length s ≤ length s) = field_lies s x (length s) (in_field error_fields s x (length s) whole) in
        let low : stop_at s x ≤ cut = leads_low more in
        let n : ℕ = stop_at s x - x in
        let here : Agrees s t x x n = agrees_from 0 0 cut x x n front (omega arith) (omega (arith, lies.0, lies.1)) (omega arith) in
        let copied : Copied s t x x (length t) = field_copied s t x x n (length s) (length t) (in_field error_fields s x (length s) whole) (omega (arith, lies.0, lies.1)) here (omega (arith, lies.0, lies.1)) (omega arith) in
        let stop : stop_at t x ≡ stop_at s x = omega (arith, copied.stop_moves) in
        kept whole (copied_in s t error_fields x x (length s) (length t) whole copied) copied.number_same (field_same levels (length s) (length t) x x whole copied here inside)
        (subst (λ (k : ℕ). Between error_fields (SameField levels s t) s (length s) t (length t) (stop_at s x) k) (sym stop) (put_walk more others))

pub bytes_put_between : BytesPutBetween
bytes_put_between a u b form leads unknown =
    let s : List ℕ = a ++ b in
    let t : List ℕ = a ++ (u ++ b) in
    let s-size : length (a ++ b) ≡ length a + length b = length-append a b in
    let t-size : length (a ++ (u ++ b)) ≡ length a + length (u ++ b) = length-append a (u ++ b) in
    let u-size : length (u ++ b) ≡ length u + length b = length-append u b in
    let front : Agrees s t 0 0 (length a) = λ i below. rw (zero-add i) (get_or-append a b 0 i below ∙ sym (get_or-append a (u ++ b) 0 i below)) in
    let middle : Agrees u t 0 (length a) (length u) = λ i below. rw (zero-add i) (sym (get_or-append-add a (u ++ b) i 0 ∙ get_or-append u b 0 i below)) in
    let back : Agrees s t (length a) (length a + length u) (length s - length a) = λ i below. get_or-append-add a b i 0 ∙ sym (ap (λ (k : ℕ). get_or t k 0) (add_assoc (length a) (length u) i) ∙ get_or-append-add a (u ++ b) (length u + i) 0 ∙ get_or-append-add u b i 0) in
    put_walk s t u unknown (length a) front middle back (omega arith) (omega arith) leads form
