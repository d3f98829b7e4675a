-- What A5 changed: where no field begins with a plus the texts of document 01 are those of now; where one does, the text is refused at
-- its first plus. Assumes nothing.
use mathlib.Core.Path.{◌≡◌, refl, sym, ◌∙◌, ap, subst}
use mathlib.Core.List.{List, [], ◌∷◌, ◌++◌, map, map-append}
use mathlib.Core.Logic.{◌⊎◌, inl, inr, ⊎_elim}
use Prim.Native.Nat.{ℕ, zero, suc, ◌+◌, ◌<◌}
use native.Mathlib.Omega.{arith}
use borrow.Author.Tests.{ne_eqb}
use lib.ListN.{length, get_or, take, drop, take-append-drop, drop_of_length-le}
use lib.Seq.{drop-cons, get_or-take, length-take-le}
use Rattle.words.specs.Decide.{pick, ◌=?◌}
use Rattle.words.specs.Text.{digit_of}
use Rattle.numerals.proofs.Cases.{same_or_other}
use Rattle.places.specs.Machine.{on, off, read, stopped, run}
use Rattle.places.proofs.Ways.{Leads, nowhere, by, Stops}
use Rattle.places.proofs.MachineLaws.{read_not_stopped, run_leads, run_off, run_early, run_stops}
use Rattle.guid.specs.declared.Guid.{Guid}
use Rattle.guid_text.specs.declared.Reason.{Reason}
use Rattle.guid_text.specs.declared.Reason.TheVariants.{TooLong, NotHex}
use Rattle.guid_text.specs.Digits.{Digits, value}
use Rattle.guid_text.specs.Split.{fields}
use Rattle.guid_text.specs.Form.{IsField, IsText}
use Rattle.guid_text.specs.WithPlus.{plus, IsFieldBefore, bare, led, IsTextBefore, Plusless}
use Rattle.guid_text.proofs.ValueLaws.{digit_byte, no_plus}
use Rattle.guid_text.proofs.FieldLaws.{Dashless, digits_dashless, fields_four}
use Rattle.guid_text.proofs.Walk.{State, start, walk}
use Rattle.guid_text.proofs.WalkLaws.{Step, empty, many, at_dash_lem, long, no_digit, digit, stepped, on_not_off, same_off, other_long}
use Rattle.guid_text.proofs.Exactly.{text_read}

-- what is read now was read before
pub now_before : (s : List ℕ) (g : Guid) → IsText s g → IsTextBefore s g
now_before s g t =
    record { f3 = t.f3; f2 = t.f2; f1 = t.f1; f0 = t.f0; joined = t.joined; is3 = bare t.is3; is2 = bare t.is2; is1 = bare t.is1; is0 = bare t.is0 }

-- and back, where no field begins with a plus
field_dashless : (f : List ℕ) (w : ℕ) → IsFieldBefore f w → Dashless f
field_dashless f w (bare is) = digits_dashless f is.hex
field_dashless f w (led digits e short is) = rw e ((λ same. omega arith), digits_dashless digits is.hex)

plusless_field : (f : List ℕ) (w : ℕ) → (get_or f 0 0 ≡ plus → ⊥) → IsFieldBefore f w → IsField f w
plusless_field f w none (bare is) = is
plusless_field f w none (led digits e short is) = absurd (none (ap (λ (l : List ℕ). get_or l 0 0) e))

pub before_now : (s : List ℕ) (g : Guid) → Plusless (fields s) → IsTextBefore s g → IsText s g
before_now s g none t =
    let cut = fields_four s t.f3 t.f2 t.f1 t.f0 t.joined (field_dashless t.f3 g.w3 t.is3) (field_dashless t.f2 g.w2 t.is2) (field_dashless t.f1 g.w1 t.is1) (field_dashless t.f0 g.w0 t.is0) in
    let clear : Plusless (t.f3 ∷ t.f2 ∷ t.f1 ∷ t.f0 ∷ []) = subst Plusless cut none in
    record {
      f3 = t.f3;
      f2 = t.f2;
      f1 = t.f1;
      f0 = t.f0;
      joined = t.joined;
      is3 = plusless_field t.f3 g.w3 clear.0 t.is3;
      is2 = plusless_field t.f2 g.w2 clear.1.0 t.is2;
      is1 = plusless_field t.f1 g.w1 clear.1.1.0 t.is1;
      is0 = plusless_field t.f0 g.w0 clear.1.1.1.0 t.is0;
    }

-- A text of document 01 with "0" for each plus is a text of now, and of the same GUID.
abbrev unplus : ℕ → ℕ
unplus b = pick (b =? plus) 48 b

unplus_other : (b : ℕ) → (b ≡ plus → ⊥) → unplus b ≡ b
unplus_other b other = rw (ne_eqb b plus other)

unplus_digits : (ds : List ℕ) → Digits ds → map unplus ds ≡ ds
unplus_digits [] good = refl
unplus_digits (b ∷ ds) good = rw (unplus_other b (no_plus b (digit_byte b good.0)), unplus_digits ds good.1)

mended_field : (f : List ℕ) (w : ℕ) → IsFieldBefore f w → IsField (map unplus f) w
unfolding value digit_of
mended_field f w (bare is) = rw (unplus_digits f is.hex) is
mended_field f w (led digits e short is) =
    let size : length f ≡ suc (length digits) = ap length e in
    rw (e, unplus_digits digits is.hex)
    (record { any = omega arith; short = omega arith; hex = (omega arith, is.hex); spells = is.spells })

mended_text : (s : List ℕ) (g : Guid) → IsTextBefore s g → IsText (map unplus s) g
mended_text s g t =
    record {
      f3 = map unplus t.f3;
      f2 = map unplus t.f2;
      f1 = map unplus t.f1;
      f0 = map unplus t.f0;
      joined = rw (t.joined, map-append unplus, map-append unplus, map-append unplus);
      is3 = mended_field t.f3 g.w3 t.is3;
      is2 = mended_field t.f2 g.w2 t.is2;
      is1 = mended_field t.f1 g.w1 t.is1;
      is0 = mended_field t.f0 g.w0 t.is0;
    }

-- the machine goes on over no plus
step_plusless : (q next : State) (b : ℕ) → walk.step q b ≡ on next → (b ≡ plus → ⊥)
step_plusless q next b e is = by_line (stepped q b)
  where
    by_line : Step q b → ⊥
    by_line (empty d none f) = omega arith
    by_line (many d some none f) = omega arith
    by_line (at_dash_lem d some more f) = omega arith
    by_line (long d full f) = on_not_off _ next _ e f
    by_line (no_digit d room bad f) = on_not_off _ next _ e f
    by_line (digit d room fine f) = no_plus b (digit_byte b fine) is

leads_plusless : (q last : State) (t : List ℕ) → Leads walk q t last → (i : ℕ) → i < length t → (get_or t i 0 ≡ plus → ⊥)
leads_plusless q last t (nowhere) i h = absurd (omega arith)
leads_plusless q last t (by {next} {b} {s = rest} e l) zero h = step_plusless q next b e
leads_plusless q last t (by {next} {b} {s = rest} e l) (suc i) h = leads_plusless next last rest l i (omega arith)

leads_kept : (q last : State) (t : List ℕ) → Leads walk q t last → map unplus t ≡ t
leads_kept q last t (nowhere) = refl
leads_kept q last t (by {next} {b} {s = rest} e l) = rw (unplus_other b (step_plusless q next b e), leads_kept next last rest l)

-- So a text of document 01 that is refused now is refused at its first plus, as a byte that is no hex digit.
pub refused_at_plus : (s : List ℕ) (g : Guid) (p : ℕ) (r : Reason) → IsTextBefore s g → run walk start 0 s ≡ stopped p r
    → (r ≡ NotHex) × (get_or s p 0 ≡ plus) × ((i : ℕ) → i < p → (get_or s i 0 ≡ plus → ⊥))
refused_at_plus s g p r t e = by_end w.why
  where
    w : Stops walk start s p r
    w = run_stops walk start s p r e

    at : ℕ
    at = 0 + length (take p s)

    -- the mended text goes the same way up to p, and is read
    goes : run walk w.state at (map unplus (drop p s)) ≡ read g
    goes =
        let cut : map unplus s ≡ take p s ++ map unplus (drop p s) =
        ap (map unplus) (sym (take-append-drop p s)) ∙ map-append unplus (take p s) (drop p s) ∙ ap (λ (l : List ℕ). l ++ map unplus (drop p s)) (leads_kept start w.state (take p s) w.leads) in
        sym (run_leads walk start w.state (take p s) w.leads 0 (map unplus (drop p s))) ∙ ap (run walk start 0) (sym cut) ∙ text_read (map unplus s) g (mended_text s g t)

    by_end : ((p ≡ length s) × (walk.close w.state ≡ off r)) ⊎ ((p < length s) × (walk.step w.state (get_or s p 0) ≡ off r))
        → (r ≡ NotHex) × (get_or s p 0 ≡ plus) × ((i : ℕ) → i < p → (get_or s i 0 ≡ plus → ⊥))
    by_end (inl h) =
        let none : map unplus (drop p s) ≡ [] = ap (map unplus) (drop_of_length-le s {i = p} (omega arith)) in
        absurd (read_not_stopped g at r (sym goes ∙ ap (run walk w.state at) none ∙ run_early walk w.state at r h.1))
    by_end (inr h) = ⊎_elim at_plus elsewhere (same_or_other (get_or s p 0) plus)
      where
        next : map unplus (drop p s) ≡ unplus (get_or s p 0) ∷ map unplus (drop (suc p) s)
        next = ap (map unplus) (drop-cons s p 0 h.0)

        halts : (r' : Reason) → walk.step w.state (unplus (get_or s p 0)) ≡ off r' → ⊥
        halts r' f = read_not_stopped g at r' (sym goes ∙ ap (run walk w.state at) next ∙ run_off walk w.state at _ _ r' f)

        elsewhere : (get_or s p 0 ≡ plus → ⊥) → (r ≡ NotHex) × (get_or s p 0 ≡ plus) × ((i : ℕ) → i < p → (get_or s i 0 ≡ plus → ⊥))
        elsewhere other = absurd (halts r (ap (walk.step w.state) (unplus_other (get_or s p 0) other) ∙ h.1))

        at_plus : get_or s p 0 ≡ plus → (r ≡ NotHex) × (get_or s p 0 ≡ plus) × ((i : ℕ) → i < p → (get_or s i 0 ≡ plus → ⊥))
        at_plus is = (reason (stepped w.state (get_or s p 0)), is, λ i low same. leads_plusless start w.state (take p s) w.leads i (omega (arith, length-take-le p s (omega arith))) (get_or-take p s i 0 low ∙ same))
          where
            reason : Step w.state (get_or s p 0) → r ≡ NotHex
            reason (empty d none f) = absurd (omega arith)
            reason (many d some none f) = absurd (omega arith)
            reason (at_dash_lem d some more f) = absurd (omega arith)
            reason (long d full f) = absurd (halts TooLong (ap (walk.step w.state) (ap unplus is) ∙ other_long w.state 48 (λ same. omega arith) full))
            reason (no_digit d room bad f) = same_off _ r _ h.1 f
            reason (digit d room fine f) = absurd (on_not_off _ _ r f h.1)
