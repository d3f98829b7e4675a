-- A whole token is read from its own bytes alone: it is whole, and ends at the same place, in every input that has the same bytes up
-- to there. Assumes nothing.
use mathlib.Core.Path.{◌≡◌, refl, sym, ◌∙◌, ap}
use mathlib.Core.Bool.{Bool, true, false, ◌&&◌, true≢false}
use mathlib.Core.List.{List, [], ◌∷◌}
use Prim.Native.Nat.{ℕ, zero, suc, ◌+◌, ◌*◌, ◌/◌, ◌%◌, ◌^◌, ◌<◌, ◌≤◌}
use native.Mathlib.Omega.{arith}
use borrow.Author.Tests.{le-ltb, ltb-false, ltb-true}
use lib.ListN.{length, get_or}
use Rattle.words.specs.Decide.{pick, ◌⇒◌, decide, ◌<?◌, ◌=?◌}
use Rattle.words.proofs.DecideLaws.{pick_case}
use Rattle.varint.specs.Varint.{size_in, value_in, varint_size, varint_at, varint_end, whole_varint}
use Rattle.yson_token.specs.Token.{End, end, none, within, number_end, string_from, text_end, punctuation, scalars, scalar_end, token_end}
use Rattle.varint.proofs.VarintLaws.{size_least, size_last, value_last, size_more, value_more, whole_is}
use Rattle.yson_token.proofs.TokenLaws.{Lines, decide_all, Bounded, token_bounded}

and_left : (a b : Bool) → (a && b) ≡ true → a ≡ true
and_left true b h = refl
and_left false b h = h

and_right : (a b : Bool) → (a && b) ≡ true → b ≡ true
and_right true b h = h
and_right false b h = absurd (true≢false (sym h))

-- a whole varint has ten bytes at most and a value below 2 ^ 64
whole_parts : (s : List ℕ) (at e : ℕ) → whole_varint s at e ≡ true → (varint_size s at ≤ 10) × (varint_at s at < 0x1_0000_0000_0000_0000)
whole_parts s at e h =
    let rest = and_right (varint_end s at <? (e + 1)) (varint_size s at <? 11 && varint_at s at <? 0x1_0000_0000_0000_0000) (and_right (e <? (length s + 1)) _ h) in
    let few : varint_size s at < 11 = ltb-true (varint_size s at) 11 (and_left (varint_size s at <? 11) _ rest) in
    (omega arith, ltb-true (varint_at s at) 0x1_0000_0000_0000_0000 (and_right (varint_size s at <? 11) _ rest))

-- t has the bytes of s up to n, and reaches to n
pub record Alike (s t : List ℕ) (n : ℕ) : Type 0 where
  pub same : (i : ℕ) → i < n → get_or s i 0 ≡ get_or t i 0
  pub reaches : n ≤ length t

pub shorter : {s t : List ℕ} {n : ℕ} (m : ℕ) → m ≤ n → Alike s t n → Alike s t m
shorter m h a = record { same = λ i below. a.same i (omega arith); reaches = omega (arith, a.reaches) }

module _ (s t : List ℕ) (n : ℕ) (a : Alike s t n) where
  -- the groups of a varint
  groups_same : (k at : ℕ) → at + size_in k s at ≤ n → (size_in k t at ≡ size_in k s at) × (value_in k t at ≡ value_in k s at)
  unfolding size_in value_in
  groups_same zero at h = (refl, refl)
  groups_same (suc k) at h =
      let one : 1 ≤ size_in (suc k) s at = size_least (suc k) s at in
      let byte : get_or s at 0 ≡ get_or t at 0 = a.same at (omega arith) in
      pick_case (get_or s at 0 <? 128) 0 1 (λ (z : ℕ). (size_in (suc k) t at ≡ size_in (suc k) s at) × (value_in (suc k) t at ≡ value_in (suc k) s at))
      (λ e.
      let low : get_or s at 0 < 128 = ltb-true (get_or s at 0) 128 e in
      let low' : get_or t at 0 < 128 = rw byte at low in
      (size_last k t at low' ∙ sym (size_last k s at low), value_last k t at low' ∙ sym byte ∙ sym (value_last k s at low)))
      (λ e.
      let high : 128 ≤ get_or s at 0 = ltb-false (get_or s at 0) 128 e in
      let high' : 128 ≤ get_or t at 0 = rw byte at high in
      let more : size_in (suc k) s at ≡ 1 + size_in k s (at + 1) = size_more k s at high in
      let rest = groups_same k (at + 1) (omega arith) in (
        size_more k t at high' ∙ ap (λ (z : ℕ). 1 + z) rest.0 ∙ sym more,
        value_more k t at high' ∙ ap (λ (z : ℕ). z % 128 + 128 * value_in k t (at + 1)) (sym byte) ∙ ap (λ (z : ℕ). get_or s at 0 % 128 + 128 * z) rest.1 ∙ sym (value_more k s at high),
      ))

  -- a whole varint
  varint_same : (at : ℕ) → whole_varint s at (length s) ≡ true → varint_end s at ≤ n
      → (whole_varint t at (length t) ≡ true) × (varint_end t at ≡ varint_end s at) × (varint_at t at ≡ varint_at s at)
  varint_same at whole h =
      let g = groups_same 10 at h in
      let p = whole_parts s at (length s) whole in
      let e : varint_end t at ≡ varint_end s at = ap (λ (z : ℕ). at + z) g.0 in
      (whole_is t at (length t) (omega arith) (omega (arith, a.reaches)) (omega (arith, g.0, p.0)) (rw g.1 p.1), e, g.1)

  within_same : (e z : ℕ) → within s e ≡ end z → z ≤ n → within t e ≡ end z
  unfolding within
  within_same e z =
      pick_case (length s <? e) none (end e) (λ (x : End). x ≡ end z → z ≤ n → within t e ≡ end z)
      (λ _ f _. absurd (let q : ◌≡◌ {A = ℕ} 0 1 = cc in omega arith))
      (λ _ f h. let same : e ≡ z = cc in rw (le-ltb (length t) e (omega (arith, a.reaches))) f)

  module _ (at : ℕ) where
    Local : End → End → Type 0
    Local x y = (z : ℕ) → x ≡ end z → z ≤ n → y ≡ end z

    nothing : (y : End) → Local none y
    unfolding Local
    nothing y z f h = absurd (let q : ◌≡◌ {A = ℕ} 0 1 = cc in omega arith)

    number_local : (from : ℕ) → Local (number_end s from) (number_end t from)
    unfolding number_end Local
    number_local from =
        pick_case (whole_varint s from (length s)) (end (varint_end s from)) none (λ (x : End). Local x (number_end t from))
        (λ whole z f h. let e : varint_end s from ≡ z = cc in let v = varint_same from whole (omega arith) in rw (v.0, v.1) f)
        (λ _. nothing (number_end t from))

    string_local : (value e : ℕ) → Local (string_from s value e) (string_from t value e)
    unfolding string_from Local Lines
    string_local value e =
        pick_case ((value % 2) =? 1) none (pick (value <? (2 ^ 32)) (within s (e + value / 2)) none)
        (λ (x : End). Local x (string_from t value e))
        (λ _. nothing (string_from t value e))
        (λ even.
        pick_case (value <? (2 ^ 32)) (within s (e + value / 2)) none (λ (x : End). Local x (string_from t value e))
        (λ low z f h. rw (even, low) (within_same (e + value / 2) z f h)) (λ _. nothing (string_from t value e)))

    string_ends : (value e z : ℕ) → string_from s value e ≡ end z → e ≤ z
    unfolding string_from within Lines
    string_ends value e z =
        decide_all (λ (x : End). x ≡ end z → e ≤ z) ((value % 2) =? 1 ⇒ none ∷ value <? (2 ^ 32) ⇒ within s (e + value / 2) ∷ []) none (
          (λ _ f. absurd (let q : ◌≡◌ {A = ℕ} 0 1 = cc in omega arith)),
          (
            (λ _. pick_case (length s <? (e + value / 2)) none (end (e + value / 2)) (λ (x : End). x ≡ end z → e ≤ z)
                (λ _ f. absurd (let q : ◌≡◌ {A = ℕ} 0 1 = cc in omega arith))
                (λ _ f. let same : e + value / 2 ≡ z = cc in omega arith)),
            tt,
          ),
        )
        (λ f. absurd (let q : ◌≡◌ {A = ℕ} 0 1 = cc in omega arith))

    text_local : (from : ℕ) → Local (text_end s from) (text_end t from)
    unfolding text_end Local
    text_local from =
        pick_case (whole_varint s from (length s)) (string_from s (varint_at s from) (varint_end s from)) none (λ (x : End). Local x (text_end t from))
        (λ whole z f h.
        let v = varint_same from whole (omega (arith, string_ends (varint_at s from) (varint_end s from) z f)) in
        rw (v.0, v.1, v.2) (string_local (varint_at s from) (varint_end s from) z f h))
        (λ _. nothing (text_end t from))

    one_local : Local (end (at + 1)) (end (at + 1))
    unfolding Local
    one_local z f h = f

    pick_local : (test : Bool) (x x' y y' : End) → Local x y → Local x' y' → Local (pick test x x') (pick test y y')
    pick_local true x x' y y' f g = f
    pick_local false x x' y y' f g = g

    -- what a first byte leads to
    scalars_local : (b : ℕ) → Local (decide (scalars s at b) none) (decide (scalars t at b) none)
    unfolding Local
    scalars_local b =
        pick_local (b =? 1) _ _ _ _ (text_local (at + 1))
        (pick_local (b =? 2) _ _ _ _ (number_local (at + 1))
        (pick_local (b =? 3) _ _ _ _ (within_same (at + 9))
        (pick_local (b =? 4) _ _ _ _ one_local
        (pick_local (b =? 5) _ _ _ _ one_local
        (pick_local (b =? 6) _ _ _ _ (number_local (at + 1))
        (pick_local (b =? 35) _ _ _ _ one_local (nothing none)))))))

    token_local : get_or s at 0 ≡ get_or t at 0 → Local (token_end s at) (token_end t at)
    unfolding token_end scalar_end
    token_local byte = rw (sym byte) (pick_local (punctuation (get_or s at 0)) _ _ _ _ one_local (scalars_local (get_or s at 0)))

  pub token_same : (at e : ℕ) → token_end s at ≡ end e → e ≤ n → token_end t at ≡ end e
  unfolding Local
  token_same at e whole h =
      let bounds : Bounded s at (end e) = rw whole at (token_bounded s at) in
      token_local at (a.same at (omega (arith, bounds.0))) e whole h
