-- An order of checks as data: a list of lines, each a test and the answer it leads to. The answer is that of the first
-- line whose test holds, and the one given last where none does. (What a `let` binds is computed only where it is read,
-- so a list computes no further than its answer.) Assumes nothing.
use Rattle.std.specs.Prelude.{ℕ, zero, suc, ◌+◌, Bool, true, false, not, List, [], ◌∷◌, ◌++◌, ◌≡◌, ltb, eqb}

infix 90 ◌<?◌
infix 90 ◌=?◌
infix 90 ◌≠?◌
infix 80 ◌⇒◌
-- the first where the test holds, else the second
abbrev pub pick : {A : Type 0} → Bool → A → A → A
pick true a b = a
pick false a b = b

abbrev pub ◌<?◌ : ℕ → ℕ → Bool
◌<?◌ a b = ltb a b

abbrev pub ◌=?◌ : ℕ → ℕ → Bool
◌=?◌ a b = eqb a b

abbrev pub ◌≠?◌ : ℕ → ℕ → Bool
◌≠?◌ a b = not (eqb a b)

-- one check: where the test holds, this is the answer
pub data Line (A : Type 0) : Type 0 where
  ◌⇒◌ : Bool → A → Line A

-- no line's test holds
abbrev pub Silent : {A : Type 0} → List (Line A) → Type 0
Silent [] = Unit {0}
Silent ((test ⇒ answer) ∷ lines) = (test ≡ false) × Silent lines

-- a line with this answer decides: its test holds, and the lines before it are silent
pub record Decides {A : Type 0} (lines : List (Line A)) (answer : A) : Type 0 where
  pub before : List (Line A)
  pub after : List (Line A)
  pub test : Bool
  pub joins : lines ≡ before ++ (test ⇒ answer) ∷ after
  pub silent : Silent before
  pub holds : test ≡ true

abbrev pub decide : {A : Type 0} → List (Line A) → A → A
decide [] a = a
decide ((test ⇒ answer) ∷ lines) a =
    let rest = decide lines a in
    pick test answer rest

-- the first number below n whose test holds, counted from `from`; from + n where there is none
unfoldable pub first_from : (ℕ → Bool) → ℕ → ℕ → ℕ
first_from test from zero = from
first_from test from (suc n) =
    let rest = first_from test (from + 1) n in
    pick (test from) from rest

-- the first number below n whose test holds, else n
abbrev pub first : (ℕ → Bool) → ℕ → ℕ
first test n = first_from test 0 n
