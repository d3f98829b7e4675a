-- Refusals by their numbers, and back: `paper` is one-to-one, and what it gives is a refusal. Assumes nothing.
use Prim.Native.Nat.{ℕ}
use mathlib.Core.List.{List, [], ◌∷◌}
use mathlib.Core.Path.{◌≡◌, refl, sym, ◌∙◌, ap}
use native.Mathlib.Omega.{arith}
use lib.ListN.{get_or}
use Rattle.words.specs.Answer.{Answer, accepted, more, refused, NotTaken, afterwards}
use Rattle.words.specs.Decide.{◌⇒◌, decide, ◌=?◌}
use Rattle.words.specs.Paper.{outcome}
use Rattle.words.specs.declared.outcome.Outcome.{Outcome}
use Rattle.words.proofs.AnswerLaws.{is_refused, not_taken_keeps}
use Rattle.words.proofs.PaperLaws.{no_room_of, no_room_back}
use Rattle.wire.specs.Paper.{paper}
use Rattle.wire.specs.declared.error.WireError.{WireError}
use Rattle.wire.specs.declared.error.WireError.TheVariants.{Truncated, TooManyRows, TooManyValues, ValueTooLong, RowsetTooLarge, UnknownValueType, TrailingBytes, NoRoom, BadTable}

-- the case of a number and its values, 18 where there is none
abbrev numbered : ℕ → List ℕ → WireError
numbered number values =
    decide
    (number =? 9 ⇒ Truncated (get_or values 0 0) (get_or values 1 0)
    ∷ number =? 10 ⇒ TooManyRows (get_or values 0 0)
    ∷ number =? 11 ⇒ TooManyValues (get_or values 0 0) (get_or values 1 0)
    ∷ number =? 12 ⇒ ValueTooLong (get_or values 0 0)
    ∷ number =? 13 ⇒ RowsetTooLarge (get_or values 0 0)
    ∷ number =? 14 ⇒ UnknownValueType (get_or values 0 0)
    ∷ number =? 15 ⇒ TrailingBytes (get_or values 0 0)
    ∷ number =? 17 ⇒ NoRoom (no_room_of values)
    ∷ [])
    (BadTable (get_or values 0 0) (get_or values 1 0))

-- the left inverse that shows `paper` one-to-one
abbrev pub unpaper : Answer → WireError
unpaper (accepted consumed fields) = BadTable 0 0
unpaper more = BadTable 0 0
unpaper (refused number values consumed) = numbered number values

pub paper_back_lem : (e : WireError) → unpaper (paper e) ≡ e
paper_back_lem (Truncated offset needed) = refl
paper_back_lem (TooManyRows count) = refl
paper_back_lem (TooManyValues row count) = refl
paper_back_lem (ValueTooLong n) = refl
paper_back_lem (RowsetTooLarge size) = refl
paper_back_lem (UnknownValueType code) = refl
paper_back_lem (TrailingBytes n) = refl
paper_back_lem (NoRoom short) = ap NoRoom (no_room_back short)
paper_back_lem (BadTable rule position) = refl

pub paper_injective : (e f : WireError) → paper e ≡ paper f → e ≡ f
paper_injective e f same = sym (paper_back_lem e) ∙ ap unpaper same ∙ paper_back_lem f

-- neither acceptance nor need-more
paper_refuses : (e : WireError) → is_refused (paper e) ≡ 1
paper_refuses (Truncated offset needed) = refl
paper_refuses (TooManyRows count) = refl
paper_refuses (TooManyValues row count) = refl
paper_refuses (ValueTooLong n) = refl
paper_refuses (RowsetTooLarge size) = refl
paper_refuses (UnknownValueType code) = refl
paper_refuses (TrailingBytes n) = refl
paper_refuses (NoRoom short) = refl
paper_refuses (BadTable rule position) = refl

pub paper_never_more : (e : WireError) → paper e ≡ more → ⊥
paper_never_more e h = let z : ◌≡◌ {A = ℕ} 1 0 = sym (paper_refuses e) ∙ ap is_refused h in omega arith

pub paper_never_accepted : (e : WireError) (n : ℕ) (fields : List ℕ) → paper e ≡ accepted n fields → ⊥
paper_never_accepted e n fields h = let z : ◌≡◌ {A = ℕ} 1 0 = sym (paper_refuses e) ∙ ap is_refused h in omega arith

refused_not_taken : (a : Answer) → is_refused a ≡ 1 → NotTaken a
refused_not_taken (accepted n fields) e = let z : ◌≡◌ {A = ℕ} 0 1 = e in omega arith
refused_not_taken more e = tt
refused_not_taken (refused number values consumed) e = tt

-- a refusal leaves lent memory as it was
pub paper_not_taken : (e : WireError) → NotTaken (paper e)
paper_not_taken e = refused_not_taken (paper e) (paper_refuses e)

pub paper_keeps : (e : WireError) (ws xs : List ℕ) → afterwards (paper e) ws xs ≡ xs
paper_keeps e ws xs = not_taken_keeps (paper e) ws xs (paper_not_taken e)

-- back to a result: what was accepted, or the refusal
abbrev pub refusal_back : {R : Type 0} → (ℕ → List ℕ → R) → (WireError → R) → Answer → R
refusal_back got stopped (accepted n fields) = got n fields
refusal_back got stopped more = stopped (BadTable 0 0)
refusal_back got stopped (refused number values consumed) = stopped (unpaper (refused number values consumed))

refused_back_lem : {R : Type 0} (got : ℕ → List ℕ → R) (stopped : WireError → R) (a : Answer) → is_refused a ≡ 1 → refusal_back got stopped a ≡ stopped (unpaper a)
refused_back_lem got stopped (accepted n fields) e = absurd (let z : ◌≡◌ {A = ℕ} 0 1 = e in omega arith)
refused_back_lem got stopped more e = refl
refused_back_lem got stopped (refused number values consumed) e = refl

pub refusal_back_lem : {R : Type 0} (got : ℕ → List ℕ → R) (stopped : WireError → R) (e : WireError) → refusal_back got stopped (paper e) ≡ stopped e
refusal_back_lem got stopped e = refused_back_lem got stopped (paper e) (paper_refuses e) ∙ ap stopped (paper_back_lem e)

-- an enum's case that is known: its outcome is the enum's
pub case : {E : Type 0} (meaning : E → Answer) {e e' : E} {r : Outcome} → e ≡ e' → r ≡ outcome (meaning e') → r ≡ outcome (meaning e)
case meaning {e} {e'} known p = p ∙ sym (ap (λ (x : _). outcome (meaning x)) known)
