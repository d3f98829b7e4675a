-- Lists of checks that refuse, whatever follows them. Assumes nothing.
use mathlib.Core.Path.{◌≡◌, refl, sym, ◌∙◌, ap}
use mathlib.Core.Bool.{Bool, true, false}
use mathlib.Core.List.{List, [], ◌∷◌, ◌++◌}
use mathlib.Core.Logic.{◌⊎◌, inl, inr}
use Prim.Native.Nat.{ℕ, zero, suc, ◌+◌, ◌*◌}
use native.Mathlib.Omega.{arith}
use Rattle.words.specs.Answer.{Answer, accepted, more, refused}
use Rattle.words.specs.Decide.{Line, ◌⇒◌, decide, pick}
use Rattle.wire.specs.Layout.{entry_words, values_in}
use Rattle.wire_check.specs.Writing.{bad_table_lines, type_in, length_in, value_size, value_order, values_limits, row_size, count_order, rows_limits, limit_lines, check_lines}

-- the checks pass, and what follows decides; or one of them decides, whatever follows
pub passes_or_not : (lines : List (Line Answer)) → ((rest : Answer) → decide lines rest ≡ rest) ⊎ ((answer : Answer) × ((rest : Answer) → decide lines rest ≡ answer))
passes_or_not [] = inl (λ rest. refl)
passes_or_not ((true ⇒ answer) ∷ lines) = inr (answer, λ rest. refl)
passes_or_not ((false ⇒ answer) ∷ lines) = passes_or_not lines

-- a check that would refuse passes where the answer is no refusal
unfoldable pub is_taken : Answer → ℕ
is_taken (accepted n fields) = 1
is_taken more = 0
is_taken (refused number values consumed) = 0

pub passes : (test : Bool) (number : ℕ) (fields : List ℕ) (rest : Answer) (n : ℕ) → pick test (refused number fields 0) rest ≡ accepted n [] → (test ≡ false) × (rest ≡ accepted n [])
unfolding is_taken
passes true number fields rest n e = let z : ◌≡◌ {A = ℕ} 0 1 = ap is_taken e in absurd (omega arith)
passes false number fields rest n e = (refl, e)

-- a list of checks each of which refuses
abbrev pub Refusing : List (Line Answer) → Type 0
Refusing [] = Unit {0}
Refusing ((test ⇒ answer) ∷ lines) = (is_taken answer ≡ 0) × Refusing lines

refusing_append : (xs ys : List (Line Answer)) → Refusing xs → Refusing ys → Refusing (xs ++ ys)
refusing_append [] ys a b = b
refusing_append ((test ⇒ answer) ∷ xs) ys a b = (a.0, refusing_append xs ys a.1 b)

values_refuse : (values : List ℕ) (n k size : ℕ) → Refusing (values_limits values n k size)
unfolding values_limits value_order is_taken
values_refuse values zero k size = tt
values_refuse values (suc n) k size =
    refusing_append (value_order (type_in values k) (length_in values k) size) (values_limits values n (k + entry_words) (size + value_size values k)) (refl, (refl, tt)) (values_refuse values n (k + entry_words) (size + value_size values k))

rows_refuse : (rows values : List ℕ) (i k size : ℕ) → Refusing (rows_limits rows values i k size)
unfolding rows_limits count_order is_taken
rows_refuse [] values i k size = tt
rows_refuse (count ∷ rows) values i k size =
    refusing_append (count_order count i size) (values_limits values (values_in count) k (size + 8) ++ rows_limits rows values (i + 1) (k + entry_words * values_in count) (size + row_size values count k)) (refl, (refl, tt))
    (refusing_append (values_limits values (values_in count) k (size + 8)) (rows_limits rows values (i + 1) (k + entry_words * values_in count) (size + row_size values count k)) (values_refuse values (values_in count) k (size + 8))
    (rows_refuse rows values (i + 1) (k + entry_words * values_in count) (size + row_size values count k)))

pub checks_refuse : (area rows values : List ℕ) → Refusing (check_lines area rows values)
unfolding check_lines is_taken
checks_refuse area rows values = refusing_append (bad_table_lines area rows values) (limit_lines rows values) (refl, (refl, (refl, tt))) (refl, rows_refuse rows values 0 0 8)

-- where something is accepted behind them, they are silent
pub silent_where_accepted : (lines : List (Line Answer)) → Refusing lines → (behind : Answer) (n : ℕ) → decide lines behind ≡ accepted n [] → (rest : Answer) → decide lines rest ≡ rest
unfolding is_taken
silent_where_accepted [] all behind n e rest = refl
silent_where_accepted ((true ⇒ answer) ∷ lines) all behind n e rest = absurd (let z : ◌≡◌ {A = ℕ} 0 1 = sym all.0 ∙ ap is_taken e in omega arith)
silent_where_accepted ((false ⇒ answer) ∷ lines) all behind n e rest = silent_where_accepted lines all.1 behind n e rest
