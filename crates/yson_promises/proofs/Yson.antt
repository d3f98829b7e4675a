-- The promises of document 02's A4. Assumes nothing.
use mathlib.Core.Path.{◌≡◌, refl, sym, ◌∙◌, ap, subst}
use mathlib.Core.List.{List, [], ◌∷◌}
use Prim.Native.Nat.{ℕ, ◌*◌, ◌/◌, ◌≤◌}
use native.Mathlib.Omega.{arith}
use borrow.Author.Tests.{ltb-false}
use lib.ListN.{length}
use mathlib.Core.Logic.{◌⊎◌, inl, inr}
use Rattle.words.specs.Answer.{Answer, accepted, more, refused, refuse, afterwards}
use Rattle.words.specs.Buffer.{over}
use Rattle.words.specs.Decide.{◌<?◌}
use Rattle.words.specs.Paper.{no_room}
use Rattle.words.specs.declared.outcome.Room.TheVariants.{Items as ItemRoom}
use Rattle.words.proofs.AnswerLaws.{refused_not_accepted}
use Rattle.words.proofs.DecideLaws.{pick_case}
use Rattle.yson_grammar.specs.Grammar.{Yson}
use Rattle.yson_grammar.specs.Items.{outer}
use Rattle.yson_grammar.proofs.Complete.{one_extent}
use Rattle.yson_grammar.proofs.OneListing.{outer_same}
use Rattle.yson.specs.Reading.{Reading, good, bad, deep, words_of, count, checking, listing}
use Rattle.yson.specs.Paper.{paper}
use Rattle.yson.specs.Statement.{Checks, Lists}
use Rattle.std.specs.declared.result.Result.{Result}
use Rattle.std.specs.declared.result.Result.TheVariants.{Ok, Err}
use Rattle.yson.specs.declared.YsonError.{YsonError}
use Rattle.yson.specs.declared.YsonError.TheVariants.{Broken, Short}
use Rattle.yson.specs.declared.Fault.TheVariants.{BadYson, TooDeep}
use Rattle.yson_grammar.specs.Place.{BadAt, DeepAt}
use Rattle.yson_promises.specs.Yson.{Accepted, AcceptsExactly, OneExtent, AcceptedWhole, ItemsOfOuterMap, KeysAndValues, RefusalKeeps, Place}
use Rattle.yson_promises.proofs.Stretches.{yson_stretches}
use Rattle.yson_promises.proofs.Fours.{four_words}
use Rattle.yson_grammar.proofs.Place.{one_place}

-- the number of a refusal, 0 of what is accepted
number_of : Answer → ℕ
number_of (accepted n fields) = 0
number_of more = 0
number_of (refused number values consumed) = number

-- Acceptance.

-- the number that an answer to this reading has
abbrev AsRead : {s : List ℕ} → Reading s → ℕ → Type 0
AsRead (good d) n = (n ≡ 0) ⊎ (n ≡ 17)
AsRead (bad p e) n = n ≡ 20
AsRead (deep p e) n = n ≡ 21

accepted_number : (r : Result ℕ YsonError) → Accepted r → (number_of (paper r) ≡ 0) ⊎ (number_of (paper r) ≡ 17)
unfolding number_of
accepted_number (Ok n) ok = inl refl
accepted_number (Err (Broken q)) ok = absurd ok
accepted_number (Err (Short short)) ok = inr refl

number_accepted : (r : Result ℕ YsonError) → (number_of (paper r) ≡ 20 → ⊥) → (number_of (paper r) ≡ 21 → ⊥) → Accepted r
unfolding number_of
number_accepted (Ok n) no-20 no-21 = tt
number_accepted (Err (Broken (BadYson p))) no-20 no-21 = no-20 refl
number_accepted (Err (Broken (TooDeep p))) no-20 no-21 = no-21 refl
number_accepted (Err (Short short)) no-20 no-21 = tt

other : {n : ℕ} (k : ℕ) → (0 ≡ k → ⊥) → (17 ≡ k → ⊥) → (n ≡ 0) ⊎ (n ≡ 17) → n ≡ k → ⊥
other k a b (inl e) f = a (sym e ∙ f)
other k a b (inr e) f = b (sym e ∙ f)

module _ (s : List ℕ) where
  exactly : (x : Reading s) (a : Answer) (r : Result ℕ YsonError) → paper r ≡ a → AsRead x (number_of a) → (Accepted r → Yson s) × (Yson s → Accepted r)
  exactly (good d) a r e n = (
    (λ ok. d),
    (λ yes. number_accepted r
        (λ f. other 20 (λ z. omega arith) (λ z. omega arith) n (sym (ap number_of e) ∙ f))
        (λ f. other 21 (λ z. omega arith) (λ z. omega arith) n (sym (ap number_of e) ∙ f))),
  )
  exactly (bad p is) a r e n = (
    (λ ok. absurd (other 20 (λ z. omega arith) (λ z. omega arith) (accepted_number r ok) (ap number_of e ∙ n))),
    (λ yes. absurd (is.0.broken yes)),
  )
  exactly (deep p is) a r e n = (
    (λ ok. absurd (other 21 (λ z. omega arith) (λ z. omega arith) (accepted_number r ok) (ap number_of e ∙ n))),
    (λ yes. absurd (is.0.broken yes)),
  )

  checking_number : (x : Reading s) → AsRead x (number_of (checking x))
  unfolding number_of
  checking_number (good d) = inl refl
  checking_number (bad p e) = refl
  checking_number (deep p e) = refl

  listing_number : (x : Reading s) (room : ℕ) → AsRead x (number_of (listing x room))
  unfolding number_of
  listing_number (good d) room =
      pick_case (room <? count d) (no_room ItemRoom (count d) room) (accepted 0 (count d ∷ [])) (λ (a : Answer). (number_of a ≡ 0) ⊎ (number_of a ≡ 17)) (λ _. inr refl) (λ _. inl refl)
  listing_number (bad p e) room = refl
  listing_number (deep p e) room = refl

  checks_exactly : (r : Result ℕ YsonError) → Checks s r → (Accepted r → Yson s) × (Yson s → Accepted r)
  checks_exactly r c = exactly c.0 (checking c.0) r c.1 (checking_number c.0)

  lists_exactly : (before after : List ℕ) (r : Result ℕ YsonError) → Lists s before r after → (Accepted r → Yson s) × (Yson s → Accepted r)
  lists_exactly before after r c = exactly c.0 (listing c.0 (length before / 4)) r c.1 (listing_number c.0 (length before / 4))

pub yson_accepts_exactly : AcceptsExactly
yson_accepts_exactly s = (checks_exactly s, lists_exactly s)

pub yson_one_extent : OneExtent
yson_one_extent s m n a b c x y = one_extent s x y

pub yson_accepted_whole : AcceptedWhole
yson_accepted_whole s r c ok room e d = one_extent s d ((checks_exactly s r c).0 ok)

-- The items.

module _ (s before after : List ℕ) where
  abbrev Told : ℕ → Yson s → Answer → Type 0
  Told n d a = accepted 0 (n ∷ []) ≡ a → after ≡ afterwards a (outer d) before → (n ≡ count d) × (after ≡ over (outer d) before)

  first_field : {n m : ℕ} → accepted 0 (n ∷ []) ≡ accepted 0 (m ∷ []) → n ≡ m
  first_field e = cc

  told_items : (n : ℕ) (d : Yson s) (room : ℕ) → Told n d (listing (good d) room)
  told_items n d room =
      pick_case (room <? count d) (no_room ItemRoom (count d) room) (accepted 0 (count d ∷ [])) (Told n d)
      (λ _ e h. absurd (refused_not_accepted 17 _ 0 0 (n ∷ []) (sym e)))
      (λ _ e h. (first_field e, h))

  listed_by : (n : ℕ) (x : Reading s) → accepted 0 (n ∷ []) ≡ listing x (length before / 4) → after ≡ afterwards (listing x (length before / 4)) (words_of x) before
      → (d : Yson s) → (length (outer d) ≡ 4 * n) × (after ≡ over (outer d) before)
  listed_by n (good d') e h d =
      let told = told_items n d' (length before / 4) e h in
      let same : outer d ≡ outer d' = outer_same s d d' in
      (four_words s d ∙ ap (λ (l : List ℕ). 4 * (length l / 4)) same ∙ ap (λ (k : ℕ). 4 * k) (sym told.0), told.1 ∙ ap (λ (l : List ℕ). over l before) (sym same))
  listed_by n (bad p is) e h d = absurd (refused_not_accepted 20 _ 0 0 (n ∷ []) (sym e))
  listed_by n (deep p is) e h d = absurd (refused_not_accepted 21 _ 0 0 (n ∷ []) (sym e))

  -- the room was there
  roomy : (n : ℕ) (x : Reading s) → accepted 0 (n ∷ []) ≡ listing x (length before / 4) → n ≤ length before / 4
  roomy n (good d) =
      pick_case ((length before / 4) <? count d) (no_room ItemRoom (count d) (length before / 4)) (accepted 0 (count d ∷ [])) (λ (a : Answer). accepted 0 (n ∷ []) ≡ a → n ≤ length before / 4)
      (λ _ e. absurd (refused_not_accepted 17 _ 0 0 (n ∷ []) (sym e)))
      (λ small e. omega (arith, first_field e, ltb-false (length before / 4) (count d) small))
  roomy n (bad p is) = λ e. absurd (refused_not_accepted 20 _ 0 0 (n ∷ []) (sym e))
  roomy n (deep p is) = λ e. absurd (refused_not_accepted 21 _ 0 0 (n ∷ []) (sym e))

  not_items : (r : Result ℕ YsonError) (n : ℕ) → paper r ≡ accepted 0 (n ∷ []) → ((m : ℕ) → r ≡ Ok m → ⊥) → ⊥
  not_items (Ok m) n e differs = differs m refl
  not_items (Err (Broken (BadYson p))) n e differs = refused_not_accepted 20 _ 0 0 (n ∷ []) e
  not_items (Err (Broken (TooDeep p))) n e differs = refused_not_accepted 21 _ 0 0 (n ∷ []) e
  not_items (Err (Short short)) n e differs = refused_not_accepted 17 _ 0 0 (n ∷ []) e

  keeps : (r : Result ℕ YsonError) (x : Reading s) → ((m : ℕ) → r ≡ Ok m → ⊥) → paper r ≡ listing x (length before / 4)
      → after ≡ afterwards (listing x (length before / 4)) (words_of x) before → after ≡ before
  keeps r (good d) differs =
      pick_case ((length before / 4) <? count d) (no_room ItemRoom (count d) (length before / 4)) (accepted 0 (count d ∷ []))
      (λ (a : Answer). paper r ≡ a → after ≡ afterwards a (outer d) before → after ≡ before)
      (λ _ e h. h)
      (λ _ e h. absurd (not_items r (count d) e differs))
  keeps r (bad p is) differs = λ e h. h
  keeps r (deep p is) differs = λ e h. h

pub yson_items : ItemsOfOuterMap
yson_items s before after n l d =
    let x = listed_by s before after n l.0 l.1 l.2 d in
    (x.0, omega (arith, roomy s before after n l.0 l.1), x.1)

pub yson_keys_and_values : KeysAndValues
yson_keys_and_values s before after n l =
    let d = ((yson_accepts_exactly s).1 before after (Ok n) l).0 tt in
    let x = yson_items s before after n l d in
    (outer d, x.0, x.2, yson_stretches s d)

pub yson_refusal_keeps : RefusalKeeps
yson_refusal_keeps s before after r l differs = keeps s before after r l.0 differs l.1 l.2

-- The place.

module _ (s : List ℕ) where
  value_same : {number number' p q : ℕ} → refuse number (p ∷ []) ≡ refuse number' (q ∷ []) → (number ≡ number') × (p ≡ q)
  value_same e = (cc, cc)

  checks_bad : (p : ℕ) → Checks s (Err (Broken (BadYson p))) → BadAt s p
  checks_bad p (good d, e) = absurd (refused_not_accepted 20 _ 0 0 _ e)
  checks_bad p (bad q is, e) = subst (BadAt s) (sym (value_same e).1) is
  checks_bad p (deep q is, e) = absurd (omega (arith, (value_same e).0))

  checks_deep : (p : ℕ) → Checks s (Err (Broken (TooDeep p))) → DeepAt s p
  checks_deep p (good d, e) = absurd (refused_not_accepted 21 _ 0 0 _ e)
  checks_deep p (bad q is, e) = absurd (omega (arith, (value_same e).0))
  checks_deep p (deep q is, e) = subst (DeepAt s) (sym (value_same e).1) is

pub yson_place : Place
yson_place s = (
  (λ p. (checks_bad s p, (λ b. (bad p b, refl)))),
  (λ p. (checks_deep s p, (λ d. (deep p d, refl)))),
  one_place s,
)
