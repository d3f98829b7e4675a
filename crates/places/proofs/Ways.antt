-- What is said of a machine: the ways it goes, where it stops, and which texts it takes. Nobody has to believe it. Assumes nothing.
use Prim.Native.Nat.{ℕ, ◌<◌}
use mathlib.Core.List.{List, [], ◌∷◌}
use mathlib.Core.Logic.{◌⊎◌}
use mathlib.Core.Path.{◌≡◌}
use lib.ListN.{length, get_or, take}
use Rattle.places.specs.Place.{Place}
use Rattle.places.specs.Machine.{Move, on, off, Machine, read, stopped, run}

-- these bytes lead from one state to another
pub data Leads {S A R : Type 0} (m : Machine S A R) : S → List ℕ → S → Type 0 where
  nowhere : {q : S} → Leads m q [] q
  by : {q next last : S} {b : ℕ} {s : List ℕ} → m.step q b ≡ on next → Leads m next s last → Leads m q (b ∷ s) last

-- a reading stops at p: the bytes before p lead to a state that refuses the text's end, or the byte at p
pub record Stops {S A R : Type 0} (m : Machine S A R) (q : S) (s : List ℕ) (p : ℕ) (r : R) : Type 0 where
  pub state : S
  pub leads : Leads m q (take p s) state
  pub why : ((p ≡ length s) × (m.close state ≡ off r)) ⊎ ((p < length s) × (m.step state (get_or s p 0) ≡ off r))

-- a way out of a state: bytes that lead to a value
pub record Way {S A R : Type 0} (m : Machine S A R) (q : S) : Type 0 where
  pub rest : List ℕ
  pub last : S
  pub value : A
  pub leads : Leads m q rest last
  pub closes : m.close last ≡ on value

-- whatever it has come to from q, there is a way out
abbrev pub Alive : {S A R : Type 0} → Machine S A R → S → Type 0
Alive {S} m q = (s : List ℕ) (last : S) → Leads m q s last → Way m last

-- what a move leads to has P, if it leads on
abbrev pub After : {S R : Type 0} → (S → Type 0) → Move S R → Type 0
After P (on q) = P q
After P (off r) = Unit {0}

-- from q, a value is read of exactly these texts
pub record Takes {S A R : Type 0} (m : Machine S A R) (q : S) (accepted : List ℕ → Type 0) : Type 0 where
  pub forth : (s : List ℕ) (a : A) → run m q 0 s ≡ read a → accepted s
  pub back : (s : List ℕ) → accepted s → (a : A) × (run m q 0 s ≡ read a)

-- where it stops, the text goes wrong
abbrev pub StopsInPlace : {S A R : Type 0} → Machine S A R → S → (List ℕ → Type 0) → Type 0
StopsInPlace {S} {A} {R} m q accepted = (s : List ℕ) (p : ℕ) (r : R) → run m q 0 s ≡ stopped p r → Place accepted s p
