-- A list that is turned into another, word by word from its front. Assumes nothing.
use mathlib.Core.Path.{◌≡◌, refl, ◌∙◌, ap}
use mathlib.Core.Logic.{⊎_elim}
use mathlib.Core.List.{List}
use Prim.Native.Nat.{ℕ, ◌+◌, ◌<◌, ◌≤◌}
use native.Mathlib.Nat.{eq-or-lt_of_le}
use native.Mathlib.Omega.{arith}
use lib.ListN.{length, get_or, set, length-set}
use lib.Seq.{get_or-set_same, get_or-set_other}
use Rattle.pack_pairs.specs.Packing.{table}
use Rattle.pack_pairs.proofs.RoomLaws.{table_same}

-- u has f at the first k words, and is t from there on
pub record Turned (f : ℕ → ℕ) (t u : List ℕ) (k : ℕ) : Type 0 where
  pub as_long : length u ≡ length t
  pub done : (j : ℕ) → j < k → get_or u j 0 ≡ f j
  pub rest : (j : ℕ) → k ≤ j → get_or u j 0 ≡ get_or t j 0

pub turned_begin : (f : ℕ → ℕ) (t : List ℕ) → Turned f t t 0
turned_begin f t = record { as_long = refl; done = λ j h. absurd (omega arith); rest = λ j h. refl }

module _ (f : ℕ → ℕ) (t u : List ℕ) (k : ℕ) (turned : Turned f t u k) where
  pub turned_end : length t ≤ k → u ≡ table f 0 (length t)
  turned_end h = table_same f u (λ i below. turned.done i (omega (arith, turned.as_long))) ∙ ap (table f 0) turned.as_long

  -- the word k stands as it should
  pub turned_keep : get_or t k 0 ≡ f k → Turned f t u (k + 1)
  turned_keep e = record {
    as_long = turned.as_long;
    done = λ j h. ⊎_elim (λ (is-k : j ≡ k). rw is-k (turned.rest k (omega arith) ∙ e)) (λ (less : j < k). turned.done j less) (eq-or-lt_of_le (last j h));
    rest = λ j h. turned.rest j (omega arith);
  }
    where
      last : (j : ℕ) → j < k + 1 → j ≤ k
      last j h = omega arith

  -- it is stored
  pub turned_set : (w next : ℕ) → w ≡ f k → k < length t → next ≡ k + 1 → Turned f t (set u k w) next
  turned_set w next e inside is-next = record {
    as_long = length-set u k w ∙ turned.as_long;
    done = λ j h. ⊎_elim (λ (is-k : j ≡ k). rw is-k (get_or-set_same u k w 0 (omega (arith, turned.as_long)) ∙ e))
        (λ (less : j < k). get_or-set_other u k j w 0 (λ same. omega arith) ∙ turned.done j less) (eq-or-lt_of_le (last j h));
    rest = λ j h. get_or-set_other u k j w 0 (λ same. omega arith) ∙ turned.rest j (omega arith);
  }
    where
      last : (j : ℕ) → j < next → j ≤ k
      last j h = omega arith
