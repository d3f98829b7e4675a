-- Where the machine stops and why; and that what it says of a text is what `parse` promises, and nothing else is.
-- Assumes nothing.
use mathlib.Core.Path.{◌≡◌, refl, sym, ◌∙◌, ap, subst}
use mathlib.Core.Bool.{Bool, true, false}
use mathlib.Core.List.{List, [], ◌∷◌, ◌++◌, append_assoc, reverse_aux}
use mathlib.Core.Logic.{◌⊎◌, inl, inr, ⊎_elim}
use Prim.Native.Nat.{ℕ, ◌+◌, ◌<◌, ◌≤◌}
use native.Mathlib.Omega.{arith}
use borrow.Author.Tests.{lt-ltb, le-ltb, eq-eqb, ne_eqb}
use lib.ListN.{length, get_or, take, get_or-eq_default}
use Rattle.words.specs.Decide.{Line, ◌⇒◌, decide, Decides}
use Rattle.words.specs.Statement.{OneResult}
use Rattle.words.specs.Text.{digit_of}
use Rattle.words.proofs.DecideLaws.{decide_append, silent_decides}
use Rattle.numerals.proofs.Cases.{lt_or_le}
use Rattle.places.specs.Place.{Place}
use Rattle.places.specs.Machine.{off, Ending, read, stopped, run}
use Rattle.places.proofs.Ways.{Stops}
use Rattle.places.proofs.PlaceLaws.{place_unique}
use Rattle.places.proofs.MachineLaws.{run_stops, stops_in_place}
use Rattle.guid.specs.declared.Guid.{Guid}
use Rattle.guid_text.specs.declared.Reason.{Reason}
use Rattle.guid_text.specs.declared.Reason.TheVariants.{Empty, TooLong, NotHex, FieldCount}
use Rattle.guid_text.specs.declared.BadGuid.{BadGuid}
use Rattle.std.specs.declared.result.Result.{Result}
use Rattle.std.specs.declared.result.Result.TheVariants.{Ok, Err}
use Rattle.guid_text.specs.Fields.{dash}
use Rattle.guid_text.specs.Split.{fields, last_of}
use Rattle.guid_text.specs.Form.{Accepted}
use Rattle.guid_text.specs.Reason.{field_number, bytes_before, reasons}
use Rattle.guid_text.specs.Statement.{Parses}
use Rattle.guid_text.proofs.FieldLaws.{digits_dashless, fields_last, fields_dash}
use Rattle.guid_text.proofs.Walk.{State, start, walk}
use Rattle.guid_text.proofs.WalkLaws.{Step, empty, many, at_dash_lem, long, no_digit, digit, stepped, End, empty_end, few, whole, ended, on_not_off, same_off, positive}
use Rattle.guid_text.proofs.Exactly.{front, Fields, Said, walk_alive, walk_takes, walk_said, read_text, text_read}

-- a line that decides
pub here : {A : Type 0} {test : Bool} {answer : A} {lines : List (Line A)} → test ≡ true → Decides ((test ⇒ answer) ∷ lines) answer
here {test} {lines} holds = record { before = []; after = lines; test = test; joins = refl; silent = tt; holds = holds }

pub later : {A : Type 0} {test : Bool} {other answer : A} {lines : List (Line A)} → test ≡ false → Decides lines answer
    → Decides ((test ⇒ other) ∷ lines) answer
later {test} {other} fails d =
    record {
      before = (test ⇒ other) ∷ d.before;
      after = d.after;
      test = d.test;
      joins = ap (◌∷◌ (test ⇒ other)) d.joins;
      silent = (fails, d.silent);
      holds = d.holds;
    }

-- only one does
decided : {A : Type 0} (lines : List (Line A)) (answer other : A) → Decides lines answer → decide lines other ≡ answer
decided lines answer other d =
    ap (λ (l : List (Line _)). decide l other) d.joins
    ∙ decide_append d.before ((d.test ⇒ answer) ∷ d.after) other
    ∙ silent_decides d.before _ d.silent
    ∙ rw d.holds

pub decides_one : {A : Type 0} (lines : List (Line A)) → OneResult (Decides lines)
decides_one lines a b d e = sym (decided lines a a d) ∙ decided lines b a e

-- the fields of what has been read
last_behind : (done : List (List ℕ)) (f g : List ℕ) (fs : List (List ℕ)) → last_of (reverse_aux done (f ∷ g ∷ fs)) ≡ last_of (reverse_aux done (g ∷ fs))
last_behind [] f g fs = refl
last_behind (d ∷ done) f g fs = last_behind done d f (g ∷ fs) ∙ last_behind done f g fs ∙ sym (last_behind done d g fs)

last_field : (done : List (List ℕ)) (f : List ℕ) → last_of (reverse_aux done (f ∷ [])) ≡ f
last_field [] f = refl
last_field (d ∷ done) f = last_behind done d f [] ∙ last_field done f

count_fields : (done fs : List (List ℕ)) → length (reverse_aux done fs) ≡ length done + length fs
count_fields [] fs = omega arith
count_fields (d ∷ done) fs = count_fields done (d ∷ fs) ∙ omega arith

fields_front : (done : List (List ℕ)) (r : List ℕ) → Fields done → fields (front done ++ r) ≡ reverse_aux done (fields r)
fields_front [] r good = refl
fields_front (f ∷ done) r good =
    let cut : front (f ∷ done) ++ r ≡ front done ++ (f ++ dash ∷ r) = simp append_assoc in
    ap fields cut ∙ fields_front done (f ++ dash ∷ r) good.1
    ∙ ap (reverse_aux done) (fields_dash f r (digits_dashless f good.0.hex))

said_fields : (q : State) (t : List ℕ) (s : Said q t) → fields t ≡ reverse_aux s.done (s.last ∷ [])
said_fields q t s =
    ap fields s.joined ∙ fields_front s.done s.last s.good
    ∙ ap (reverse_aux s.done) (fields_last s.last (digits_dashless s.last s.hex))

-- What stands at the place where the machine stops, for each reason.
pub data Cause (s : List ℕ) (p : ℕ) : Reason → Type 0 where
  empty_at_dash : get_or s p 0 ≡ dash → bytes_before s p ≡ 0 → Cause s p Empty
  empty_at_end : p ≡ length s → bytes_before s p ≡ 0 → Cause s p Empty
  ninth : p < length s → (get_or s p 0 ≡ dash → ⊥) → bytes_before s p ≡ 8 → Cause s p TooLong
  other_byte : p < length s → (get_or s p 0 ≡ dash → ⊥) → bytes_before s p < 8 → 15 < digit_of (get_or s p 0) → Cause s p NotHex
  fifth : get_or s p 0 ≡ dash → 0 < bytes_before s p → field_number s p ≡ 4 → Cause s p FieldCount
  too_few : p ≡ length s → 0 < bytes_before s p → field_number s p < 4 → Cause s p FieldCount

module _ (s : List ℕ) (p : ℕ) (q : State) (said : Said q (take p s)) (r : Reason) where
  counted : bytes_before s p ≡ q.count
  counted = ap (λ (fs : List (List ℕ)). length (last_of fs)) (said_fields q (take p s) said) ∙ ap length (last_field said.done said.last) ∙ said.counted

  numbered : field_number s p + q.left ≡ 4
  numbered = omega (arith, ap length (said_fields q (take p s) said), count_fields said.done (said.last ∷ []), said.fields)

  cause_end : p ≡ length s → walk.close q ≡ off r → Cause s p r
  cause_end h e = by_line (ended q)
    where
      by_line : End q → Cause s p r
      by_line (empty_end none f) = rw (same_off _ r _ e f) (empty_at_end h (counted ∙ none))
      by_line (few some more f) = rw (same_off _ r _ e f) (too_few h (omega (arith, counted)) (omega (arith, numbered)))
      by_line (whole some none f) = absurd (on_not_off _ _ r f e)

  cause_byte : p < length s → walk.step q (get_or s p 0) ≡ off r → Cause s p r
  cause_byte h e = by_line (stepped q (get_or s p 0))
    where
      by_line : Step q (get_or s p 0) → Cause s p r
      by_line (empty d none f) = rw (same_off _ r _ e f) (empty_at_dash d (counted ∙ none))
      by_line (many d some none f) = rw (same_off _ r _ e f) (fifth d (omega (arith, counted)) (omega (arith, numbered)))
      by_line (at_dash_lem d some more f) = absurd (on_not_off _ _ r f e)
      by_line (long d full f) = rw (same_off _ r _ e f) (ninth h d (omega (arith, counted, said.short)))
      by_line (no_digit d room bad f) = rw (same_off _ r _ e f) (other_byte h d (omega (arith, counted)) bad)
      by_line (digit d room fine f) = absurd (on_not_off _ _ r f e)

pub walk_cause : (s : List ℕ) (p : ℕ) (r : Reason) → run walk start 0 s ≡ stopped p r → Cause s p r
walk_cause s p r e = by_end w.why
  where
    w : Stops walk start s p r
    w = run_stops walk start s p r e

    said : Said w.state (take p s)
    said = walk_said (take p s) w.state w.leads

    by_end : ((p ≡ length s) × (walk.close w.state ≡ off r)) ⊎ ((p < length s) × (walk.step w.state (get_or s p 0) ≡ off r)) → Cause s p r
    by_end (inl h) = cause_end s p w.state said r h.0 h.1
    by_end (inr h) = cause_byte s p w.state said r h.0 h.1

-- a dash stands in the text
pub dash_inside : (s : List ℕ) (p : ℕ) → get_or s p 0 ≡ dash → p < length s
dash_inside s p d =
    ⊎_elim (λ (h : p < length s). h) (λ (h : length s ≤ p). absurd (omega (arith, d, get_or-eq_default s 0 {n = p} h))) (lt_or_le p (length s))

-- the line of the table that decides
pub cause_decides : (s : List ℕ) (p : ℕ) (r : Reason) → Cause s p r → Decides (reasons s p) r
cause_decides s p r (empty_at_dash d none) = here (rw (ne_eqb p (length s) (λ e. omega (arith, dash_inside s p d)), d, none))
cause_decides s p r (empty_at_end h none) = here (rw (eq-eqb p (length s) h, none))
cause_decides s p r (ninth h d full) =
    let inside = ne_eqb p (length s) (λ e. omega arith) in
    let other = ne_eqb (get_or s p 0) dash d in
    later (rw (inside, other)) (here (rw (inside, other, full)))
cause_decides s p r (other_byte h d room bad) =
    let inside = ne_eqb p (length s) (λ e. omega arith) in
    let other = ne_eqb (get_or s p 0) dash d in
    later (rw (inside, other)) (later (rw (inside, other, le-ltb 7 (bytes_before s p) (omega arith))) (here (rw (inside, other, lt-ltb 15 (digit_of (get_or s p 0)) bad))))
cause_decides s p r (fifth d some four) =
    let inside = ne_eqb p (length s) (λ e. omega (arith, dash_inside s p d)) in
    later (rw (inside, d, ne_eqb (bytes_before s p) 0 (positive _ some))) (later (rw (inside, d)) (later (rw (inside, d)) (here (rw (inside, d, four)))))
cause_decides s p r (too_few h some less) =
    let end = eq-eqb p (length s) h in
    let none : get_or s p 0 ≡ 0 = get_or-eq_default s 0 {n = p} (omega arith) in
    later (rw (end, ne_eqb (bytes_before s p) 0 (positive _ some))) (later (rw end) (later (rw end) (here (rw (none, end, lt-ltb (field_number s p) 4 less)))))

pub walk_place : (s : List ℕ) (p : ℕ) (r : Reason) → run walk start 0 s ≡ stopped p r → Place Accepted s p
walk_place = stops_in_place walk start Accepted walk_takes walk_alive

-- what the machine says is what is promised, and nothing else is
abbrev pub ending_of : Result Guid BadGuid → Ending Guid Reason
ending_of (Ok g) = read g
ending_of (Err bad) = stopped bad.position bad.reason

pub parses : (s : List ℕ) (r : Result Guid BadGuid) → run walk start 0 s ≡ ending_of r → Parses s r
parses s (Ok g) e = read_text s g e
parses s (Err bad) e =
    let p = bad.position in
    let reason = bad.reason in
    (walk_place s p reason e, cause_decides s p reason (walk_cause s p reason e))

abbrev parsed_of : Ending Guid Reason → Result Guid BadGuid
parsed_of (read g) = Ok g
parsed_of (stopped p reason) = Err record { position = p; reason = reason }

parsed_of_lem : (o : Ending Guid Reason) → ending_of (parsed_of o) ≡ o
parsed_of_lem (read g) = refl
parsed_of_lem (stopped p reason) = refl

pub same_parsed : (s : List ℕ) (r r' : Result Guid BadGuid) → Parses s r → Parses s r' → r ≡ r'
same_parsed s (Ok g) (Ok g') t t' = let e : ◌≡◌ {A = Ending Guid Reason} (read g) (read g') = sym (text_read s g t) ∙ text_read s g' t' in cc
same_parsed s (Ok g) (Err bad) t w = absurd (w.0.refused (g, t))
same_parsed s (Err bad) (Ok g) w t = absurd (w.0.refused (g, t))
same_parsed s (Err bad) (Err bad') w w' =
    let p = bad.position in
    let p' = bad'.position in
    let reason = bad.reason in
    let reason' = bad'.reason in
    let there : p ≡ p' = place_unique Accepted s p p' w.0 w'.0 in
    let why : reason ≡ reason' = decides_one (reasons s p) reason reason' w.1 (subst (λ (k : ℕ). Decides (reasons s k) reason') (sym there) w'.1) in
    λ i. Err record { position = there i; reason = why i }

-- so what is promised is what the machine says
pub parses_run : (s : List ℕ) (r : Result Guid BadGuid) → Parses s r → run walk start 0 s ≡ ending_of r
parses_run s r told =
    let o = run walk start 0 s in
    sym (parsed_of_lem o) ∙ ap ending_of (same_parsed s (parsed_of o) r (parses s (parsed_of o) (sym (parsed_of_lem o))) told)
