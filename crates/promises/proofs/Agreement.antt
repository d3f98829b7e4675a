-- What two inputs that differ only inside a run have in common. Assumes nothing.
use mathlib.Core.Path.{◌≡◌, sym, ◌∙◌, ap}
use mathlib.Core.List.{List}
use mathlib.Core.Logic.{⊎_elim, ◌⊎◌, inl}
use Prim.Native.Nat.{ℕ, ◌+◌, ◌-◌, ◌<◌, ◌≤◌, min}
use native.Mathlib.Nat.{add-sub_of_le}
use native.Mathlib.Omega.{arith}
use lib.ListN.{length, get_or, take, drop, length-take, length-drop}
use lib.Seq.{ext_get_or, get_or-take, get_or-drop, take-take}
use Rattle.words.specs.Word.{word, Bytes}
use Rattle.words.specs.Buffer.{stretch}
use Rattle.words.proofs.WordLaws.{word_same}
use Rattle.words.proofs.DecideLaws.{le_or_gt}
use Rattle.crc64.specs.Damage.{Damaged}
use Rattle.crc64.proofs.Burst.{bytes_take, bytes_drop}

module _ {at run : ℕ} {s t : List ℕ} (damaged : Damaged at run s t) where
  -- before the run and behind it they agree
  same_before : (i : ℕ) → i < at → get_or s i 0 ≡ get_or t i 0
  same_before i h = sym (get_or-take at s i 0 h) ∙ ap (λ (l : List ℕ). get_or l i 0) damaged.same_front ∙ get_or-take at t i 0 h

  same_behind : (i : ℕ) → at + run ≤ i → get_or s i 0 ≡ get_or t i 0
  same_behind i h =
      let place : at + run + (i - (at + run)) ≡ i = add-sub_of_le h in
      ap (λ (k : ℕ). get_or s k 0) (sym place) ∙ sym (get_or-drop (at + run) s (i - (at + run)) 0)
      ∙ ap (λ (l : List ℕ). get_or l (i - (at + run)) 0) damaged.same_rest ∙ get_or-drop (at + run) t (i - (at + run)) 0 ∙ ap (λ (k : ℕ). get_or t k 0) place

  -- a stretch that lies before the run or behind it
  abbrev pub Apart : ℕ → ℕ → Type 0
  Apart from long = (from + long ≤ at) ⊎ (at + run ≤ from)

  pub same_at : (from long : ℕ) → Apart from long → (i : ℕ) → i < long → get_or s (from + i) 0 ≡ get_or t (from + i) 0
  same_at from long apart i h = ⊎_elim (λ (low : from + long ≤ at). same_before (from + i) (omega arith)) (λ (high : at + run ≤ from). same_behind (from + i) (omega arith)) apart

  pub same_word : (k from : ℕ) → Apart from k → word k s from ≡ word k t from
  same_word k from apart = word_same k s t from from (same_at from k apart)

  length_same : (from long : ℕ) → length (stretch s from long) ≡ length (stretch t from long)
  length_same from long = simp (length-take, length-drop) (ap (λ (n : ℕ). min long (n - from)) damaged.same_length)

  get_d_stretch : (l : List ℕ) (from long i : ℕ) → i < long → get_or (stretch l from long) i 0 ≡ get_or l (from + i) 0
  get_d_stretch l from long i h = get_or-take long (drop from l) i 0 h ∙ get_or-drop from l i 0

  below_long : (l : List ℕ) (from long i : ℕ) → i < length (stretch l from long) → i < long
  below_long l from long i h = omega (arith, simp length-take at h)

  pub same_stretch : (from long : ℕ) → Apart from long → stretch s from long ≡ stretch t from long
  same_stretch from long apart =
      ext_get_or 0 (stretch s from long) (stretch t from long) (length_same from long)
      (λ i h. get_d_stretch s from long i (below_long s from long i h) ∙ same_at from long apart i (below_long s from long i h) ∙ sym (get_d_stretch t from long i (below_long s from long i h)))

  -- a stretch that holds the run is damaged as the input is
  module _ (from long : ℕ) (low : from ≤ at) (high : at + run ≤ from + long) where
    rest_same : drop (at - from + run) (stretch s from long) ≡ drop (at - from + run) (stretch t from long)
    rest_same =
        ext_get_or 0 (drop d (stretch s from long)) (drop d (stretch t from long)) (simp length-drop (ap (λ (n : ℕ). n - d) (length_same from long)))
        (λ i h. at_rest i (below_long s from long (d + i) (omega (arith, simp length-drop at h))))
      where
        d : ℕ
        d = at - from + run

        at_rest : (i : ℕ) → at - from + run + i < long → get_or (drop d (stretch s from long)) i 0 ≡ get_or (drop d (stretch t from long)) i 0
        at_rest i h =
            get_or-drop d (stretch s from long) i 0 ∙ get_d_stretch s from long (d + i) h ∙ same_behind (from + (d + i)) (omega arith)
            ∙ sym (get_d_stretch t from long (d + i) h) ∙ sym (get_or-drop d (stretch t from long) i 0)

    -- where the stretches are equal, so are the inputs
    whole_same : stretch s from long ≡ stretch t from long → (i : ℕ) → get_or s i 0 ≡ get_or t i 0
    whole_same e i = ⊎_elim inside (λ (before : i < from). same_before i (omega arith)) (le_or_gt from i)
      where
        inside : from ≤ i → get_or s i 0 ≡ get_or t i 0
        inside past =
            let place : from + (i - from) ≡ i = add-sub_of_le past in
            ⊎_elim (λ (behind : from + long ≤ i). same_behind i (omega arith))
            (λ (within : i < from + long).
            ap (λ (k : ℕ). get_or s k 0) (sym place) ∙ sym (get_d_stretch s from long (i - from) (omega arith))
            ∙ ap (λ (l : List ℕ). get_or l (i - from) 0) e ∙ get_d_stretch t from long (i - from) (omega arith) ∙ ap (λ (k : ℕ). get_or t k 0) place)
            (le_or_gt (from + long) i)

    pub damaged_stretch : Damaged (at - from) run (stretch s from long) (stretch t from long)
    damaged_stretch =
        record {
          same_length = length_same from long;
          same_front =
              take-take (at - from) long (drop from s) (omega arith) ∙ same_stretch from (at - from) (inl (omega arith))
              ∙ sym (take-take (at - from) long (drop from t) (omega arith));
          same_rest = rest_same;
          differ = λ e. damaged.differ (ext_get_or 0 s t damaged.same_length (λ i h. whole_same e i));
        }

    -- the inputs differ only inside that stretch
    pub damaged_within : Damaged from long s t
    damaged_within =
        record {
          same_length = damaged.same_length;
          same_front = sym (take-take from at s low) ∙ ap (take from) damaged.same_front ∙ take-take from at t low;
          same_rest =
              ext_get_or 0 (drop (from + long) s) (drop (from + long) t) (simp length-drop (ap (λ (n : ℕ). n - (from + long)) damaged.same_length))
              (λ i h. get_or-drop (from + long) s i 0 ∙ same_behind (from + long + i) (omega arith) ∙ sym (get_or-drop (from + long) t i 0));
          differ = damaged.differ;
        }

-- a stretch of bytes is bytes
pub bytes_stretch : (from long : ℕ) (s : List ℕ) → Bytes s → Bytes (stretch s from long)
bytes_stretch from long s known = bytes_take long (drop from s) (bytes_drop from s known)
