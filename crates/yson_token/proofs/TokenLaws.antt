-- Laws of tokens: one is not empty, lies in the input, and is the same in every input with the same bytes there. Assumes nothing.
use mathlib.Core.Path.{◌≡◌, refl, sym, ◌∙◌, ap}
use mathlib.Core.Bool.{Bool, true, false, true≢false}
use mathlib.Core.List.{List, [], ◌∷◌}
use mathlib.Core.Logic.{⊎_elim}
use Prim.Native.Nat.{ℕ, suc, ◌+◌, ◌/◌, ◌%◌, ◌^◌, ◌<◌, ◌≤◌}
use native.Mathlib.Omega.{arith}
use borrow.Author.Tests.{eqb-true, ltb-false}
use lib.ListN.{length, get_or, get_or-eq_default}
use Rattle.words.specs.Decide.{Line, ◌⇒◌, decide, ◌<?◌, ◌=?◌}
use Rattle.words.proofs.DecideLaws.{pick_case, le_or_gt}
use Rattle.varint.specs.Varint.{varint_at, varint_end, whole_varint}
use Rattle.yson_token.specs.Token.{End, end, none, within, number_end, string_from, text_end, punctuation, scalar, scalars, scalar_end, token_end}
use Rattle.varint.proofs.VarintLaws.{whole_end}

-- what is shown line by line holds of the answer
unfoldable pub Lines : {A : Type 0} → (A → Type 0) → List (Line A) → Type 0
Lines P [] = Unit {0}
Lines P ((test ⇒ answer) ∷ lines) = (test ≡ true → P answer) × Lines P lines

pub decide_all : {A : Type 0} (P : A → Type 0) (lines : List (Line A)) (a : A) → Lines P lines → P a → P (decide lines a)
unfolding Lines
decide_all P [] a each otherwise = otherwise
decide_all P ((test ⇒ answer) ∷ lines) a each otherwise =
    pick_case test answer (decide lines a) P each.0 (λ _. decide_all P lines a each.1 otherwise)

module _ (s : List ℕ) (at : ℕ) where
  -- an end behind `at` and within the input
  abbrev pub Bounded : End → Type 0
  Bounded none = Unit {0}
  Bounded (end e) = (at < e) × (e ≤ length s)

  bounded_within : (e : ℕ) → at < e → Bounded (within s e)
  unfolding within
  bounded_within e h = pick_case (length s <? e) none (end e) Bounded (λ _. tt) (λ inside. (h, ltb-false (length s) e inside))

  -- a byte that is not 0 lies in the input
  pub inside : (b : ℕ) → get_or s at 0 ≡ suc b → at < length s
  inside b e = ⊎_elim (λ (out : length s ≤ at). absurd (zeros (sym e ∙ get_or-eq_default s 0 out))) (λ (h : at < length s). h) (le_or_gt (length s) at)
    where
      zeros : suc b ≡ 0 → ⊥
      zeros z = omega arith

module _ (s : List ℕ) (at : ℕ) where
  number_bounded : Bounded s at (number_end s (at + 1))
  unfolding number_end
  number_bounded =
      pick_case (whole_varint s (at + 1) (length s)) (end (varint_end s (at + 1))) none (Bounded s at)
      (λ whole. let h = whole_end s (at + 1) (length s) whole in (omega (arith, h.0), h.1)) (λ _. tt)

  string_bounded : (value e : ℕ) → at < e → Bounded s at (string_from s value e)
  unfolding string_from Lines
  string_bounded value e later =
      decide_all (Bounded s at) ((value % 2) =? 1 ⇒ none ∷ value <? (2 ^ 32) ⇒ within s (e + value / 2) ∷ []) none
      ((λ _. tt), ((λ _. bounded_within s at (e + value / 2) (omega arith)), tt)) tt

  text_bounded : Bounded s at (text_end s (at + 1))
  unfolding text_end
  text_bounded =
      pick_case (whole_varint s (at + 1) (length s)) (string_from s (varint_at s (at + 1)) (varint_end s (at + 1))) none (Bounded s at)
      (λ whole. let h = whole_end s (at + 1) (length s) whole in string_bounded (varint_at s (at + 1)) (varint_end s (at + 1)) (omega (arith, h.0))) (λ _. tt)

  one : (b : ℕ) → (get_or s at 0 =? suc b) ≡ true → Bounded s at (end (at + 1))
  one b e = (omega arith, omega (arith, inside s at b (eqb-true (get_or s at 0) (suc b) e)))

  pub scalar_bounded : Bounded s at (scalar_end s at)
  unfolding scalar_end Lines
  scalar_bounded =
      decide_all (Bounded s at) (scalars s at (get_or s at 0)) none (
        (λ _. text_bounded),
        (
          (λ _. number_bounded),
          (
            (λ _. bounded_within s at (at + 9) (omega arith)),
            (
              one 3,
              (
                one 4,
                (
                  (λ _. number_bounded),
                  (
                    one 34,
                    tt,
                  ),
                ),
              ),
            ),
          ),
        ),
      ) tt

  pub token_bounded : Bounded s at (token_end s at)
  unfolding token_end punctuation
  token_bounded = pick_case (punctuation (get_or s at 0)) (end (at + 1)) (scalar_end s at) (Bounded s at) mark (λ _. scalar_bounded)
    where
      mark : punctuation (get_or s at 0) ≡ true → Bounded s at (end (at + 1))
      mark e =
          ⊎_elim
          (λ (out : length s ≤ at). absurd (true≢false (sym e ∙ ap punctuation (get_or-eq_default s 0 out))))
          (λ (h : at < length s). (omega arith, omega arith))
          (le_or_gt (length s) at)

  -- a mark is a token of one byte
  pub mark_end : (b : ℕ) → get_or s at 0 ≡ b → punctuation b ≡ true → token_end s at ≡ end (at + 1)
  unfolding token_end
  mark_end b e mark = rw (e, mark)

  -- a scalar begins with a scalar's byte, and is a token
  Scalar : End → Type 0
  Scalar none = Unit {0}
  Scalar (end e) = (scalar (get_or s at 0) ≡ true) × (punctuation (get_or s at 0) ≡ false)

  scalar_byte : (b : ℕ) → scalar b ≡ true → punctuation b ≡ false → (get_or s at 0 =? b) ≡ true → (x : End) → Scalar x
  unfolding Scalar
  scalar_byte b good other e none = tt
  scalar_byte b good other e (end x) = let same : get_or s at 0 ≡ b = eqb-true (get_or s at 0) b e in (rw same good, rw same other)

  scalar_first : Scalar (scalar_end s at)
  unfolding scalar_end Lines scalar punctuation Scalar
  scalar_first =
      decide_all Scalar (scalars s at (get_or s at 0)) none (
        (λ e. scalar_byte 1 refl refl e (text_end s (at + 1))),
        (
          (λ e. scalar_byte 2 refl refl e (number_end s (at + 1))),
          (
            (λ e. scalar_byte 3 refl refl e (within s (at + 9))),
            (
              (λ e. scalar_byte 4 refl refl e (end (at + 1))),
              (
                (λ e. scalar_byte 5 refl refl e (end (at + 1))),
                (
                  (λ e. scalar_byte 6 refl refl e (number_end s (at + 1))),
                  (
                    (λ e. scalar_byte 35 refl refl e (end (at + 1))),
                    tt,
                  ),
                ),
              ),
            ),
          ),
        ),
      ) tt

  pub scalar_token : (e : ℕ) → scalar_end s at ≡ end e → (scalar (get_or s at 0) ≡ true) × (token_end s at ≡ end e)
  unfolding token_end Scalar
  scalar_token e found =
      let first : Scalar (end e) = rw found at scalar_first in
      (first.0, rw first.1 found)

-- no scalar begins with a mark
pub mark_not_scalar : (b : ℕ) → punctuation b ≡ true → scalar b ≡ false
unfolding punctuation scalar Lines
mark_not_scalar b =
    decide_all (λ (t : Bool). t ≡ true → scalar b ≡ false)
    (b =? 91 ⇒ true ∷ b =? 93 ⇒ true ∷ b =? 123 ⇒ true ∷ b =? 125 ⇒ true ∷ b =? 60 ⇒ true ∷ b =? 62 ⇒ true ∷ b =? 59 ⇒ true ∷ []) (b =? 61)
    (is 91 refl, (is 93 refl, (is 123 refl, (is 125 refl, (is 60 refl, (is 62 refl, (is 59 refl, tt))))))) (λ e. is 61 refl e refl)
  where
    is : (k : ℕ) → scalar k ≡ false → (b =? k) ≡ true → true ≡ true → scalar b ≡ false
    is k fails e _ = rw (eqb-true b k e) fails
