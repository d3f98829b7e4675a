-- Laws of decision lists and of the first number that passes a test. Assumes nothing.
use mathlib.Core.Path.{◌≡◌, refl, sym, ◌∙◌, ap}
use mathlib.Core.Bool.{Bool, true, false, true≢false}
use mathlib.Core.List.{List, [], ◌∷◌, ◌++◌}
use mathlib.Core.Logic.{⊎_elim, ◌⊎◌, inl, inr}
use Prim.Native.Nat.{ℕ, zero, suc, ◌+◌, ◌<◌, ◌≤◌, ◌-◌}
use native.Mathlib.Nat.{add-zero, sub_self, eq-or-lt_of_le, lt_of_not-le}
use native.Mathlib.Decide.{dec_le}
use native.Mathlib.Omega.{arith}
use Rattle.words.specs.Decide.{pick, Line, ◌⇒◌, Silent, Decides, decide, first_from, first}
use Rattle.words.specs.Note.{Told, answer_of, note_of, answers, notes}

-- a list of checks, then more of them
pub decide_append : {A : Type 0} (xs ys : List (Line A)) (a : A) → decide (xs ++ ys) a ≡ decide xs (decide ys a)
decide_append [] ys a = refl
decide_append ((test ⇒ answer) ∷ xs) ys a = ap (pick test answer) (decide_append xs ys a)

-- silent lines leave the answer to what is behind them
pub silent_decides : {A : Type 0} (lines : List (Line A)) (a : A) → Silent lines → decide lines a ≡ a
silent_decides [] a silent = refl
silent_decides ((test ⇒ answer) ∷ lines) a silent = rw silent.0 (silent_decides lines a silent.1)

-- The answer is that of the first line whose test holds, the lines before it silent; or all are, and it is the one given last.
pub deciding : {A : Type 0} (lines : List (Line A)) (a : A)
    → Decides lines (decide lines a) ⊎ (Silent lines × (decide lines a ≡ a))
deciding [] a = inr (tt, refl)
deciding ((true ⇒ answer) ∷ lines) a =
    inl (record { before = []; after = lines; test = true; joins = refl; silent = tt; holds = refl })
deciding ((false ⇒ answer) ∷ lines) a = ⊎_elim further (λ quiet. inr ((refl, quiet.0), quiet.1)) (deciding lines a)
  where
    further : Decides lines (decide lines a) → Decides ((false ⇒ answer) ∷ lines) (decide lines a) ⊎ (((false ≡ false) × Silent lines) × (decide lines a ≡ a))
    further d =
        inl (record {
          before = (false ⇒ answer) ∷ d.before;
          after = d.after;
          test = d.test;
          joins = ap (◌∷◌ (false ⇒ answer)) d.joins;
          silent = (refl, d.silent);
          holds = d.holds;
        })

-- The answers and the notes of one order are those of one line.

pub answers_append : (xs ys : List (Line Told)) → answers (xs ++ ys) ≡ answers xs ++ answers ys
answers_append [] ys = refl
answers_append ((test ⇒ told) ∷ xs) ys = ap (◌∷◌ (test ⇒ answer_of told)) (answers_append xs ys)

pub answers_decide : (lines : List (Line Told)) (told : Told) → decide (answers lines) (answer_of told) ≡ answer_of (decide lines told)
answers_decide [] told = refl
answers_decide ((true ⇒ first) ∷ lines) told = refl
answers_decide ((false ⇒ first) ∷ lines) told = answers_decide lines told

pub notes_decide : (lines : List (Line Told)) (told : Told) → decide (notes lines) (note_of told) ≡ note_of (decide lines told)
notes_decide [] told = refl
notes_decide ((true ⇒ first) ∷ lines) told = refl
notes_decide ((false ⇒ first) ∷ lines) told = notes_decide lines told

-- the test fails at i: the search goes on behind i
pub first_miss : (test : ℕ → Bool) (i n : ℕ) → i < n → test i ≡ false → first_from test i (n - i) ≡ first_from test (i + 1) (n - (i + 1))
unfolding first_from
first_miss test i n h e = let one_more : n - i ≡ suc (n - (i + 1)) = omega arith in rw (one_more, e)

-- the test holds at i
pub first_hit : (test : ℕ → Bool) (i n : ℕ) → i < n → test i ≡ true → first_from test i (n - i) ≡ i
unfolding first_from
first_hit test i n h e = let one_more : n - i ≡ suc (n - (i + 1)) = omega arith in rw (one_more, e)

-- nothing is left to search
pub first_end : (test : ℕ → Bool) (n : ℕ) → first_from test n (n - n) ≡ n
unfolding first_from
first_end test n = rw (sub_self n)

-- what holds of both choices holds of the one that is picked
pub pick_case : {A : Type 0} (b : Bool) (x y : A) (P : A → Type 0) → (b ≡ true → P x) → (b ≡ false → P y) → P (pick b x y)
pick_case true x y P hit miss = hit refl
pick_case false x y P hit miss = miss refl

pub first_least : (test : ℕ → Bool) (i n : ℕ) → i ≤ first_from test i n
unfolding first_from
first_least test i zero = omega arith
first_least test i (suc n) = pick_case (test i) i (first_from test (i + 1) n) (λ (r : ℕ). i ≤ r) (λ e. omega arith) (λ e. omega (arith, first_least test (i + 1) n))

pub first_most : (test : ℕ → Bool) (i n : ℕ) → first_from test i n ≤ i + n
unfolding first_from
first_most test i zero = omega arith
first_most test i (suc n) = pick_case (test i) i (first_from test (i + 1) n) (λ (r : ℕ). r ≤ i + suc n) (λ e. omega arith) (λ e. omega (arith, first_most test (i + 1) n))

-- where one is found, the test holds there
pub first_holds : (test : ℕ → Bool) (i n : ℕ) → first_from test i n < i + n → test (first_from test i n) ≡ true
unfolding first_from
first_holds test i zero h = absurd (omega arith)
first_holds test i (suc n) h =
    pick_case (test i) i (first_from test (i + 1) n) (λ (r : ℕ). r < i + suc n → test r ≡ true) (λ e below. e) (λ e below. first_holds test (i + 1) n (omega arith)) h

-- and it holds at none before
pub first_none : (test : ℕ → Bool) (i n k : ℕ) → i ≤ k → k < first_from test i n → test k ≡ false
unfolding first_from
first_none test i zero k low high = absurd (omega arith)
first_none test i (suc n) k low high =
    pick_case (test i) i (first_from test (i + 1) n) (λ (r : ℕ). k < r → test k ≡ false)
    (λ e below. absurd (omega arith))
    (λ e below. ⊎_elim (λ (same : i ≡ k). rw (← same) e) (λ (more : i < k). first_none test (i + 1) n k (omega arith) below) (eq-or-lt_of_le low))
    high

-- where the test fails everywhere, nothing is found
pub first_all : (test : ℕ → Bool) (i n : ℕ) → ((k : ℕ) → i ≤ k → k < i + n → test k ≡ false) → first_from test i n ≡ i + n
unfolding first_from
first_all test i zero fails = sym (add-zero i)
first_all test i (suc n) fails =
    rw (fails i (omega arith) (omega arith), first_all test (i + 1) n (λ k low high. fails k (omega arith) (omega arith))) (omega arith)

-- two numbers, one way or the other
pub le_or_gt : (a b : ℕ) → (a ≤ b) ⊎ (b < a)
le_or_gt a b = go (dec_le a b)
  where
    go : Dec (a ≤ b) → (a ≤ b) ⊎ (b < a)
    go (yes h) = inl h
    go (no h) = inr (lt_of_not-le h)

-- the first is the one that holds and before which none does
pub first_at : (test : ℕ → Bool) (n i : ℕ) → i < n → ((k : ℕ) → k < i → test k ≡ false) → test i ≡ true → first test n ≡ i
first_at test n i below none holds = ⊎_elim at_most (λ (high : i < first test n). absurd (true≢false (sym holds ∙ first_none test 0 n i (omega arith) high))) (le_or_gt (first test n) i)
  where
    at_most : first test n ≤ i → first test n ≡ i
    at_most low =
        ⊎_elim (λ (same : first test n ≡ i). same)
        (λ (less : first test n < i). absurd (true≢false (sym (first_holds test 0 n (omega arith)) ∙ none (first test n) less)))
        (eq-or-lt_of_le low)

-- two tests that agree find the same
pub first_same : (f g : ℕ → Bool) (i n : ℕ) → ((k : ℕ) → i ≤ k → k < i + n → f k ≡ g k) → first_from f i n ≡ first_from g i n
unfolding first_from
first_same f g i zero same = refl
first_same f g i (suc n) same =
    rw (same i (omega arith) (omega arith), first_same f g (i + 1) n (λ k low high. same k (omega arith) (omega arith)))
