-- Laws of what stands over a buffer's front. Assumes nothing.
use mathlib.Core.Path.{◌≡◌, refl, sym, ◌∙◌, ap}
use mathlib.Core.List.{List, [], ◌∷◌, ◌++◌, append_assoc}
use Prim.Native.Nat.{ℕ, suc, ◌+◌, ◌<◌, ◌≤◌, ◌-◌}
use native.Mathlib.Nat.{zero-add}
use native.Mathlib.Numerals.{add-one}
use native.Mathlib.Omega.{arith}
use borrow.Author.Tests.{le-leb, lt-leb}
use lib.ListN.{length, get_or, set, take, drop, length-append, length-drop}
use lib.Seq.{sets, sets-eq, set_at, drop-drop, drop-cons, take_at, drop_at, take_all, take-suc, append_snoc, length-take-le}
use Rattle.words.specs.Word.{bytes_of}
use Rattle.words.proofs.WordLaws.{length_bytes_of}
use Rattle.words.specs.Buffer.{over, fitted}

module _ {A : Type 0} where
  pub fitted_fits : (ws xs : List A) → length ws ≤ length xs → fitted ws xs ≡ over ws xs
  unfolding fitted
  fitted_fits ws xs h = rw (le-leb (length ws) (length xs) h)

  pub fitted_short : (ws xs : List A) → length xs < length ws → fitted ws xs ≡ xs
  unfolding fitted
  fitted_short ws xs h = rw (lt-leb (length ws) (length xs) h)

  pub length_over : (ws xs : List A) → length ws ≤ length xs → length (over ws xs) ≡ length xs
  length_over ws xs h = simp (length-append, length-drop) (omega arith)

  -- a run of stores from the front
  pub fitted_sets : (ws xs : List A) → length ws ≤ length xs → sets xs 0 ws ≡ fitted ws xs
  fitted_sets ws xs h =
      sets-eq ws xs 0 (rw (zero-add (length ws)) h) ∙ ap (λ (n : ℕ). ws ++ drop n xs) (zero-add (length ws)) ∙ sym (fitted_fits ws xs h)

  -- nothing over a buffer leaves it
  pub over_none : (xs : List A) → over [] xs ≡ xs
  over_none xs = refl

  -- what was written so far, and ws over the tail that is lent behind it
  pub over_tail : (done ws xs : List A) (n : ℕ) → length done ≡ n → n + length ws ≤ length xs
      → take n (over done xs) ++ over ws (drop n (over done xs)) ≡ over (done ++ ws) xs
  over_tail done ws xs n e h =
      rw (take_at done (drop (length done) xs) n e, drop_at done (drop (length done) xs) n e, length-append done ws, drop-drop (length ws) (length done) xs, append_assoc done ws (drop (length done + length ws) xs))

-- a word of k bytes has not the room
pub word_unwritten : (k n : ℕ) (xs : List ℕ) → length xs < k → xs ≡ fitted (bytes_of k n) xs
word_unwritten k n xs h = sym (fitted_short (bytes_of k n) xs (rw (length_bytes_of k n) h))

-- its bytes stored one after the other
pub word_written : (k n : ℕ) (xs : List ℕ) → k ≤ length xs → sets xs 0 (bytes_of k n) ≡ fitted (bytes_of k n) xs
word_written k n xs h = fitted_sets (bytes_of k n) xs (rw (length_bytes_of k n) h)

-- the front is filled with the first i elements of ws, one store a turn
pub filled_more : (ws xs now : List ℕ) (i v : ℕ) → now ≡ take i ws ++ drop i xs → v ≡ get_or ws i 0 → i < length ws → length ws ≤ length xs
    → set now i v ≡ take (i + 1) ws ++ drop (i + 1) xs
filled_more ws xs now i v so_far next h room =
    rw (so_far, next, drop-cons xs i 0 (omega arith), set_at (take i ws) (get_or xs i 0) (drop (suc i) xs) (get_or ws i 0) i (length-take-le i ws (omega arith)), add-one i, take-suc ws i 0 h, append_snoc (take i ws) (get_or ws i 0) (drop (suc i) xs))

pub length_filled : (ws xs : List ℕ) (i : ℕ) → i ≤ length ws → length ws ≤ length xs → length (take i ws ++ drop i xs) ≡ length xs
length_filled ws xs i h room = simp (length-append, length-drop, length-take-le i ws h) (omega arith)

-- all of ws
pub filled_all : (ws xs : List ℕ) (i : ℕ) → length ws ≤ i → i ≤ length ws → length ws ≤ length xs → take i ws ++ drop i xs ≡ fitted ws xs
filled_all ws xs i low high room =
    let e : i ≡ length ws = omega arith in
    rw (take_all i ws low, e) (sym (fitted_fits ws xs room))

-- one element more, stored behind what was written so far
pub over_store : {A : Type 0} (done xs : List A) (n : ℕ) (v d : A) → length done ≡ n → n < length xs → set (over done xs) n v ≡ over (done ++ (v ∷ [])) xs
over_store done xs n v d e h =
    rw (e, drop-cons xs n d h, set_at done (get_or xs n d) (drop (suc n) xs) v n e, length-append done (v ∷ []), e, add-one n) (sym (append_snoc done v (drop (suc n) xs)))
