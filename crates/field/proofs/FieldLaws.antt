-- Laws of payloads and fields: one for each way in which reading one ends. Assumes nothing.
use mathlib.Core.Path.{◌≡◌, refl, sym, ◌∙◌, ap, subst}
use mathlib.Core.Bool.{Bool, true, false, ◌&&◌}
use mathlib.Core.List.{List, [], ◌∷◌}
use Prim.Native.Nat.{ℕ, ◌+◌, ◌-◌, ◌/◌, ◌%◌, ◌<◌, ◌≤◌}
use native.Mathlib.Omega.{arith}
use lib.ListN.{length}
use borrow.Author.Tests.{lt-ltb, le-ltb, ne_eqb}
use Rattle.words.specs.Decide.{decide, ◌⇒◌, ◌=?◌}
use Rattle.words.proofs.DecideLaws.{pick_case}
use Rattle.varint.specs.Varint.{varint_at, varint_end, whole_varint}
use Rattle.varint.specs.Statement.{ReadsVarint}
use Rattle.varint.specs.declared.read.Varint.{Varint}
use Rattle.std.specs.declared.option.Option.{Option}
use Rattle.std.specs.declared.option.Option.TheVariants.{Some, None}
use Rattle.varint.proofs.VarintLaws.{size_least, whole_end}
use Rattle.field.specs.Field.{type_code, payload_value, payload_content, payload_stop, whole_payload, tag_at, type_at, stop_at, whole_field}
use Rattle.field.specs.Stages.{TypesTag, ReadsPayload, ReadsFixed}
use Rattle.field.specs.Statement.{ReadsField}
use Rattle.field.specs.declared.field.Payload.{Payload}
use Rattle.field.specs.declared.field.WireType.{WireType}
use Rattle.field.specs.declared.field.WireType.TheVariants as Wire

-- A wire type is told by its number

type_of : ℕ → WireType
type_of n = decide (n =? 0 ⇒ Wire.Varint ∷ n =? 1 ⇒ Wire.Fixed64 ∷ n =? 2 ⇒ Wire.Bytes ∷ []) Wire.Fixed32

type_back : (w : WireType) → type_of (type_code w) ≡ w
unfolding type_of
type_back Wire.Varint = refl
type_back Wire.Fixed64 = refl
type_back Wire.Bytes = refl
type_back Wire.Fixed32 = refl

pub type_one : (w w' : WireType) → type_code w ≡ type_code w' → w ≡ w'
type_one w w' e = sym (type_back w) ∙ ap type_of e ∙ type_back w'

-- A payload that begins with a varint, where none is whole

pub number_cut : (s : List ℕ) (at end : ℕ) → ReadsVarint s at end None → ReadsPayload 0 s at end None
unfolding whole_payload
number_cut s at end h = h

pub bytes_cut : (s : List ℕ) (at end : ℕ) → ReadsVarint s at end None → ReadsPayload 2 s at end None
unfolding whole_payload
bytes_cut s at end h = rw h

-- and where one is
module _ (s : List ℕ) (at end : ℕ) (v : Varint) (reads : ReadsVarint s at end (Some v)) where
  pub next_within : (at < v.next) × (v.next ≤ end) × (end ≤ length s)
  next_within =
      let far : (at < varint_end s at) × (varint_end s at ≤ end) × (end ≤ length s) = whole_end s at end reads.0 in
      let there : v.next ≡ varint_end s at = reads.2 in
      (omega arith, omega arith, omega arith)

  pub number_held : ReadsPayload 0 s at end (Some record { value = v.value; content = v.next; stop = v.next })
  unfolding whole_payload payload_value payload_content payload_stop
  number_held =
      let far : (at < v.next) × (v.next ≤ end) × (end ≤ length s) = next_within in
      (reads.0, reads.1, reads.2, reads.2, omega arith, omega arith, omega arith)

  pub bytes_long : end - v.next < v.value → ReadsPayload 2 s at end None
  unfolding whole_payload
  bytes_long h =
      let number : v.value ≡ varint_at s at = reads.1 in
      let there : v.next ≡ varint_end s at = reads.2 in
      let far : (at < v.next) × (v.next ≤ end) × (end ≤ length s) = next_within in
      rw (reads.0, le-ltb (varint_end s at + varint_at s at) (end + 1) (omega arith))

  pub bytes_held : v.value ≤ end - v.next → ReadsPayload 2 s at end (Some record { value = v.value; content = v.next; stop = (v.next + v.value) })
  unfolding whole_payload payload_value payload_content payload_stop
  bytes_held h =
      let number : v.value ≡ varint_at s at = reads.1 in
      let there : v.next ≡ varint_end s at = reads.2 in
      let far : (at < v.next) × (v.next ≤ end) × (end ≤ length s) = next_within in
      (rw (reads.0, lt-ltb (varint_end s at + varint_at s at) (end + 1) (omega arith)), number, there, omega arith, omega arith, omega arith, omega arith)

-- the fixed sizes
module _ (s : List ℕ) (at end : ℕ) (within : at ≤ end) where
  pub long : (r : Option Payload) → ReadsFixed 8 at end r → ReadsPayload 1 s at end r
  unfolding whole_payload payload_value payload_content payload_stop
  long (Some p) f = (rw (lt-ltb (at + 8) (end + 1) (omega arith)), f.1, f.2, f.3, omega arith, omega arith, omega arith)
  long None f = rw (le-ltb (at + 8) (end + 1) (omega arith))

  pub short : (r : Option Payload) → ReadsFixed 4 at end r → ReadsPayload 5 s at end r
  unfolding whole_payload payload_value payload_content payload_stop
  short (Some p) f = (rw (lt-ltb (at + 4) (end + 1) (omega arith)), f.1, f.2, f.3, omega arith, omega arith, omega arith)
  short None f = rw (le-ltb (at + 4) (end + 1) (omega arith))

pub no_type : (s : List ℕ) (at end type : ℕ) → (type ≡ 0 → ⊥) → (type ≡ 1 → ⊥) → (type ≡ 2 → ⊥) → (type ≡ 5 → ⊥) → ReadsPayload type s at end None
unfolding whole_payload
no_type s at end type zero one two five = rw (ne_eqb type 0 zero, ne_eqb type 1 one, ne_eqb type 2 two, ne_eqb type 5 five)

-- The tag, then the payload

pub tag_cut : (s : List ℕ) (at end : ℕ) → ReadsVarint s at end None → ReadsField s at end None
unfolding whole_field
tag_cut s at end h = rw h

module _ (s : List ℕ) (at end : ℕ) (tag : Varint) (reads : ReadsVarint s at end (Some tag)) where
  pub tag_large : 0xffff_ffff < tag.value → ReadsField s at end None
  unfolding whole_field
  tag_large h =
      let v : tag.value ≡ varint_at s at = reads.1 in
      rw (reads.0, le-ltb (tag_at s at) 0x1_0000_0000 (omega arith))

  module _ (low : tag.value ≤ 0xffff_ffff) where
    pub tag_zero : tag.value < 8 → ReadsField s at end None
    unfolding whole_field
    tag_zero h =
        let v : tag.value ≡ varint_at s at = reads.1 in
        rw (reads.0, lt-ltb (tag_at s at) 0x1_0000_0000 (omega arith), le-ltb 7 (tag_at s at) (omega arith))

    module _ (some : 8 ≤ tag.value) where
      payload_cut : ReadsPayload (tag.value % 8) s tag.next end None → ReadsField s at end None
      unfolding whole_field
      payload_cut h =
          let v : tag.value ≡ varint_at s at = reads.1 in
          let there : tag.next ≡ varint_end s at = reads.2 in
          let cut : whole_payload (tag.value % 8) s tag.next end ≡ false = h in
          rw (reads.0, lt-ltb (tag_at s at) 0x1_0000_0000 (omega arith), lt-ltb 7 (tag_at s at) (omega arith), ← v, ← there, cut)

      pub field_typeless : TypesTag tag.value None → ReadsField s at end None
      field_typeless other = payload_cut (no_type s tag.next end (tag.value % 8) other.0 other.1 other.2 other.3)

      pub field_cut : (w : WireType) → TypesTag tag.value (Some w) → ReadsPayload (type_code w) s tag.next end None → ReadsField s at end None
      field_cut w types h = payload_cut (subst (λ (t : ℕ). ReadsPayload t s tag.next end None) types h)

      pub field_whole : (w : WireType) → TypesTag tag.value (Some w) → (p : Payload) → ReadsPayload (type_code w) s tag.next end (Some p)
          → ReadsField s at end (Some record { number = tag.value / 8; wire = w; value = p.value; content = p.content; stop = p.stop })
      unfolding whole_field
      field_whole w types p held =
          let all : ReadsPayload (tag.value % 8) s tag.next end (Some p) = subst (λ (t : ℕ). ReadsPayload t s tag.next end (Some p)) types held in
          let v : tag.value ≡ varint_at s at = reads.1 in
          let there : tag.next ≡ varint_end s at = reads.2 in
          let far : (at < tag.next) × (tag.next ≤ end) × (end ≤ length s) = next_within s at end tag reads in (
            rw (reads.0, lt-ltb (tag_at s at) 0x1_0000_0000 (omega arith), lt-ltb 7 (tag_at s at) (omega arith), ← v, ← there) all.0,
            rw v,
            types ∙ ap (λ (t : ℕ). t % 8) v,
            rw (← v, ← there) all.1,
            rw (← v, ← there) all.2,
            rw (← v, ← there) all.3,
            omega arith,
            omega arith,
            omega arith,
          )

-- Every field has a byte at least, and a whole one begins before the end

payload_far : (type : ℕ) (s : List ℕ) (at : ℕ) → at ≤ payload_stop type s at
unfolding payload_stop
payload_far type s at =
    pick_case (type =? 0) _ _ (λ (n : ℕ). at ≤ n) (λ e. omega arith) (λ e.
    pick_case (type =? 1) _ _ (λ (n : ℕ). at ≤ n) (λ e. omega arith) (λ e.
    pick_case (type =? 2) _ _ (λ (n : ℕ). at ≤ n) (λ e. omega arith) (λ e.
    pick_case (type =? 5) _ _ (λ (n : ℕ). at ≤ n) (λ e. omega arith) (λ e. omega arith))))

pub stop_far : (s : List ℕ) (at : ℕ) → at < stop_at s at
stop_far s at = omega (arith, size_least 10 s at, payload_far (type_at s at) s (varint_end s at))

and_left : (a b : Bool) → (a && b) ≡ true → a ≡ true
and_left true b h = refl
and_left false b h = h

pub whole_before : (s : List ℕ) (at end : ℕ) → whole_field s at end ≡ true → at < end
unfolding whole_field
whole_before s at end h =
    let far : (at < varint_end s at) × (varint_end s at ≤ end) × (end ≤ length s) = whole_end s at end (and_left (whole_varint s at end) _ h) in
    omega arith
