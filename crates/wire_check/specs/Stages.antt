-- What the private stages hand on, and what the writer goes by: nobody has to believe it. (proofs/LinesLaws.antt: the
-- walks decide as the lines do.) Assumes nothing.
use Rattle.std.specs.Prelude.{ℕ, zero, suc, ◌+◌, ◌*◌, ◌%◌, ◌≤◌, ◌≡◌, false, List, [], ◌∷◌, ◌++◌, length, Result, Ok, Err}
use Rattle.words.specs.Answer.{Answer}
use Rattle.words.specs.Decide.{Line, decide}
use Rattle.wire.specs.Layout.{max_size, entry_words, values_in}
use Rattle.wire.specs.Paper.{paper}
use Rattle.wire.specs.declared.error.WireError.{WireError}
use Rattle.wire_check.specs.Writing.{type_in, length_in, total, bad_entry, bad_table_lines, too_many_rows, too_large, value_order, count_order, value_size, row_size, rowset_size}

-- no entry is bad, wherever in the table it begins
abbrev pub Good : List ℕ → List ℕ → Type 0
Good area values =
    (k : ℕ) → k % entry_words ≡ 0 → k + entry_words ≤ length values → bad_entry (length area) values k ≡ false

-- tables whose rows have as many values as there are entries, none of them bad
pub record Sound (area rows values : List ℕ) : Type 0 where
  pub whole : length values ≡ entry_words * total rows
  pub good : Good area values

-- The order as walks, each given what follows where none of its checks holds

unfoldable pub table_order : List ℕ → List ℕ → List ℕ → List (Line Answer)
table_order area rows values = bad_table_lines area rows values ++ too_many_rows rows ∷ []

unfoldable pub fit_values : List ℕ → ℕ → ℕ → ℕ → Answer → Answer
fit_values values zero k size rest = rest
fit_values values (suc n) k size rest =
    let others = fit_values values n (k + entry_words) (size + value_size values k) rest in
    decide (value_order (type_in values k) (length_in values k) size) others

unfoldable pub fit_row : List ℕ → ℕ → ℕ → ℕ → ℕ → Answer → Answer
fit_row values count i k size rest =
    let others = fit_values values (values_in count) k (size + 8) rest in
    decide (count_order count i size) others

unfoldable pub fit_rows : List ℕ → List ℕ → ℕ → ℕ → ℕ → Answer → Answer
fit_rows [] values i k size rest = rest
fit_rows (count ∷ rows) values i k size rest =
    let others = fit_rows rows values (i + 1) (k + entry_words * values_in count) (size + row_size values count k) rest in
    fit_row values count i k size others

unfoldable pub fitting : List ℕ → List ℕ → List ℕ → Answer → Answer
fitting area rows values rest =
    let walk = fit_rows rows values 0 0 8 rest in
    decide (table_order area rows values) walk

-- Between the stages: where the checks of a walk pass, what follows them decides, else the refusal, whatever follows

abbrev pub ChecksTables : List ℕ → List ℕ → List ℕ → Result (Unit {0}) WireError → Type 0
ChecksTables area rows values (Ok there) =
    Sound area rows values × ((rest : Answer) → decide (table_order area rows values) rest ≡ rest)
ChecksTables area rows values (Err refusal) =
    (rest : Answer) → decide (table_order area rows values) rest ≡ paper refusal

-- a walk that ends at this size
abbrev pub Follows : (Answer → Answer) → ℕ → Result ℕ WireError → Type 0
Follows walk size (Ok n) = (n ≡ size) × (n ≤ max_size) × ((rest : Answer) → walk rest ≡ rest)
Follows walk size (Err refusal) = (rest : Answer) → walk rest ≡ paper refusal

-- one more element of the rowset: 13 where it crosses the limit
abbrev pub Adds : ℕ → ℕ → Result ℕ WireError → Type 0
Adds size more r = Follows (decide (too_large (size + more) ∷ [])) (size + more) r

-- and what the writer goes by: where the checks pass, the tables are sound
abbrev pub Fits : List ℕ → List ℕ → List ℕ → Result ℕ WireError → Type 0
Fits area rows values (Ok n) =
    Sound area rows values × Follows (fitting area rows values) (rowset_size rows values) (Ok n)
Fits area rows values (Err refusal) = Follows (fitting area rows values) (rowset_size rows values) (Err refusal)
