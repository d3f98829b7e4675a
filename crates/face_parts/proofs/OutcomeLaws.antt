-- What the proofs of the exported functions on packets share: the test of a type, where a part lies. Assumes nothing.
use Prim.Native.Nat.{ℕ, ◌≤◌, ◌<◌}
use mathlib.Core.Path.{◌≡◌, sym, ◌∙◌, ap}
use mathlib.Core.Bool.{Bool, false, not, ◌&&◌}
use mathlib.Core.List.{List, [], ◌∷◌}
use lib.Dec.{eqb}
use lib.ListN.{length}
use native.Mathlib.Omega.{arith}
use borrow.Author.Tests.{lt-ltb, le-ltb}
use Rattle.words.specs.Answer.{Answer}
use Rattle.words.specs.Decide.{pick, ◌=?◌}
use Rattle.words.specs.Paper.{outcome_of}
use Rattle.words.specs.declared.outcome.Outcome.{Outcome}
use Rattle.packet.specs.declared.PacketType.{PacketType}
use Rattle.packet.specs.declared.PacketType.TheVariants.{Message, Ack, SslAck}
use Rattle.packet.specs.Layout.{last_type}
use Rattle.packet.specs.Paper.{type_number}
use Rattle.packet.specs.Entries.{room, offset_at, null_at, outside_at, is_lent, stretch_at, lent_at}
use Rattle.face_parts.specs.Statement.{unknown_type, typed, LendsPart}

-- The test of a packet's type

pub typed_refused : (type : ℕ) (a : Answer) → last_type < type → unknown_type type ≡ typed type a
typed_refused type a above = sym (ap (λ (b : Bool). pick b (unknown_type type) a) (lt-ltb last_type type above))

pub typed_known : (type : ℕ) (a : Answer) → type ≤ last_type → a ≡ typed type a
typed_known type a known = sym (ap (λ (b : Bool). pick b (unknown_type type) a) (le-ltb last_type type known))

pub number_known : (type : PacketType) {n : ℕ} → type_number type ≡ n → n ≤ last_type
number_known Message e = omega arith
number_known Ack e = omega arith
number_known SslAck e = omega arith

-- Where a part lies

module _ (s t : List ℕ) (i : ℕ) where
  abbrev lies : ℕ → Outcome
  lies n = outcome_of 0 0 0 (pick (n =? 0) 0 (offset_at t i) ∷ n ∷ [])

  pub part_empty : {l : List ℕ} {r : Outcome} → l ≡ lent_at s t i → length l ≡ 0 → r ≡ outcome_of 0 0 0 [] → LendsPart s t i r
  part_empty lent none p = p ∙ ap lies (sym none ∙ ap length lent)

  pub part_outside : room t ≤ i → [] ≡ lent_at s t i
  unfolding is_lent
  part_outside outside = sym (ap (λ (b : Bool). pick (b && not (null_at t i) && not (outside_at s t i)) (stretch_at s t i) []) (le-ltb i (room t) outside))

  pub part_there : {l : List ℕ} {at : ℕ} {r : Outcome} → l ≡ lent_at s t i → eqb (length l) 0 ≡ false → at ≡ offset_at t i → r ≡ outcome_of 0 0 0 (at ∷ length l ∷ []) → LendsPart s t i r
  part_there {l} lent some from p =
      p ∙ ap (λ (n : ℕ). outcome_of 0 0 0 (n ∷ length l ∷ [])) from ∙ sym (ap (λ (b : Bool). outcome_of 0 0 0 (pick b 0 (offset_at t i) ∷ length l ∷ [])) some) ∙ ap lies (ap length lent)
