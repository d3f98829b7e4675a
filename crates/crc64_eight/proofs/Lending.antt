-- The fold over lent tables by the count of their numbers, and that eight true tables are an engine, and one too. Assumes nothing.
use mathlib.Core.Path.{◌≡◌, refl, sym, ap, ap₂, ◌∙◌}
use mathlib.Core.Bool.{Bool}
use mathlib.Core.List.{List}
use Prim.Native.Nat.{ℕ, ◌^◌, ◌≤◌, ◌<◌, ◌/◌, ◌*◌}
use native.Mathlib.Omega.{arith}
use native.Mathlib.Nat.{mul_comm}
use lib.ListN.{length, drop}
use borrow.Author.Tests.{lt-ltb, le-ltb}
use Rattle.words.specs.Word.{Bytes}
use Rattle.words.specs.Decide.{pick, ◌<?◌}
use Rattle.crc64.specs.Polynomial.{fold}
use Rattle.crc64.specs.Table.{swapped, fold_over}
use Rattle.crc64.proofs.Folding.{fold_lt}
use Rattle.crc64.proofs.Swap.{swapped_lt, swapped_twice}
use Rattle.crc64_eight.specs.Lent.{one_table, eight_tables, fold_words, fold_eight, fold_lent}
use Rattle.crc64_eight.specs.Statement.{TablesIs}
use Rattle.crc64_eight.specs.Engine.{Engine}
use Rattle.crc64_eight.proofs.Words.{fold_eight_true}

-- ---- by the count

cases : (t : List ℕ) (r : ℕ) (s : List ℕ) {p q : Bool} → (length t <? one_table) ≡ p → (length t <? eight_tables) ≡ q
    → pick p r (pick q (fold_over t r s) (fold_eight t r s)) ≡ fold_lent t r s
unfolding fold_lent
cases t r s few some = sym (ap₂ (λ (p q : Bool). pick p r (pick q (fold_over t r s) (fold_eight t r s))) few some)

pub lent_none : (t : List ℕ) (r : ℕ) (s : List ℕ) → length t < one_table → r ≡ fold_lent t r s
lent_none t r s h = cases t r s (lt-ltb (length t) one_table h) refl

pub lent_one : (t : List ℕ) (r : ℕ) (s : List ℕ) {z : ℕ} → one_table ≤ length t → length t < eight_tables → z ≡ fold_over t r s → z ≡ fold_lent t r s
lent_one t r s h few e = e ∙ cases t r s (le-ltb (length t) one_table h) (lt-ltb (length t) eight_tables few)

pub lent_eight : (t : List ℕ) (r : ℕ) (s : List ℕ) {z : ℕ} → eight_tables ≤ length t → z ≡ fold_eight t r s → z ≡ fold_lent t r s
lent_eight t r s h e = e ∙ cases t r s (le-ltb (length t) one_table (omega arith)) (le-ltb (length t) eight_tables h)

-- ---- the words, and the tail behind them

pub tailed : (t : List ℕ) (r : ℕ) (s : List ℕ) {x z : ℕ} → x ≡ fold_words t (length s / 8) r s → z ≡ fold_over t x (drop (length s / 8 * 8) s) → z ≡ fold_eight t r s
unfolding fold_eight
tailed t r s words tail =
    tail ∙ ap₂ (λ (x k : ℕ). fold_over t x (drop k s)) words (mul_comm (length s / 8) 8)

-- ---- true tables

pub eight_engine : {t : List ℕ} → TablesIs t → Engine t
eight_engine {t} told r s hr hs = sym (lent_eight t (swapped 8 r) s (omega (arith, told.size)) (sym (fold_eight_true t r s told hr hs)))

-- ---- what a caller has of an engine

-- the register as it is: swapped, folded, swapped back
pub fold_lent_is : (t : List ℕ) {x y z : ℕ} (r : ℕ) (s : List ℕ)
    → Engine t → x ≡ swapped 8 r → y ≡ fold_lent t x s → z ≡ swapped 8 y → r < 2 ^ 64 → Bytes s → z ≡ fold r s
fold_lent_is t r s true-tables held e back hr hs =
    back
    ∙ ap (swapped 8) (e ∙ ap (λ (x : ℕ). fold_lent t x s) held ∙ true-tables r s hr hs)
    ∙ swapped_twice 8 (fold r s) (fold_lt r s hr)

-- the register held byte-swapped
pub fold_lent_held : (t : List ℕ) {z : ℕ} (r : ℕ) (s : List ℕ)
    → Engine t → z ≡ fold_lent t r s → r < 2 ^ 64 → Bytes s → z ≡ swapped 8 (fold (swapped 8 r) s)
fold_lent_held t r s true-tables e hr hs =
    e ∙ ap (λ (x : ℕ). fold_lent t x s) (sym (swapped_twice 8 r hr)) ∙ true-tables (swapped 8 r) s (swapped_lt 8 r) hs
