-- What is promised of GUIDs as text holds. Assumes nothing.
use mathlib.Core.Path.{◌≡◌, refl, sym, ◌∙◌, ap, subst}
use mathlib.Core.List.{List, [], ◌∷◌, ◌++◌}
use mathlib.Core.Logic.{◌⊎◌, inl, inr}
use Prim.Native.Nat.{ℕ, suc, ◌+◌, ◌^◌, ◌<◌, ◌≤◌}
use native.Mathlib.Omega.{arith}
use lib.ListN.{length, take, length-append, get_or-append}
use lib.Seq.{length-take-le, get_or-take}
use Rattle.words.specs.Text.{text, digit, spelled, digit_of}
use Rattle.places.specs.Place.{Mendable}
use Rattle.places.specs.Machine.{Ending, read, run}
use Rattle.places.proofs.PlaceLaws.{place_inside}
use Rattle.places.proofs.MachineLaws.{read_not_stopped}
use Rattle.guid.specs.declared.Guid.{Guid}
use Rattle.guid_text.specs.declared.BadGuid.{BadGuid}
use Rattle.std.specs.declared.result.Result.{Result}
use Rattle.std.specs.declared.result.Result.TheVariants.{Ok, Err}
use Rattle.guid_text.specs.declared.Reason.{Reason}
use Rattle.guid_text.specs.declared.Reason.TheVariants.{Empty, TooLong, NotHex, FieldCount}
use Rattle.guid.specs.Guid.{guid_of, Fitting}
use Rattle.guid_text.specs.Digits.{value}
use Rattle.guid_text.specs.Fields.{dash}
use Rattle.guid_text.specs.Text.{text_of}
use Rattle.guid_text.specs.Form.{IsField, IsText, Accepted}
use Rattle.guid_text.specs.Reason.{reasons}
use Rattle.guid_text.specs.Statement.{Parses}
use Rattle.guid_text.specs.WithPlus.{IsTextBefore, bare, led}
use Rattle.guid.proofs.WireLaws.{read_fits}
use Rattle.guid_text.proofs.Unique.{parse_unique}
use Rattle.guid_text.proofs.RoundTrip.{printed_text, printed_is_text, text_tells, text_fits}
use Rattle.guid_text.proofs.FieldLaws.{text_bytes}
use Rattle.guid_text.proofs.Plain.{plain_text}
use Rattle.guid_text.proofs.ReasonLaws.{Cause, empty_at_dash, empty_at_end, ninth, other_byte, fifth, too_few, walk_cause, cause_decides, decides_one, parses_run}
use Rattle.guid_text.proofs.PlusLaws.{now_before, before_now, refused_at_plus}
use Rattle.promises.specs.Guids.{ParseAcceptsExactly, AcceptedBytes, ParsePlace, PlaceShows, Why, ParseReason, WithoutPlusAsBefore, PlusRefused, PlusMatters, PrintThenParse, FittingMatters, ReadPrintParse, ReadsAsPrinted, OneGuid}

pub parse_accepts_exactly : ParseAcceptsExactly
parse_accepts_exactly s r g told = (
  (λ e. subst (λ (x : Result Guid BadGuid). Parses s x) e told),
  (λ text. parse_unique s r (Ok g) told text),
)

pub accepted_bytes : AcceptedBytes
accepted_bytes s g i told inside = text_bytes s g told i inside

pub parse_place : ParsePlace
parse_place s p reason told = (place_inside Accepted s p told.0, told.0.before, not_mended told.0.with_it)
  where
    not_mended : (p ≡ length s) ⊎ (Mendable Accepted (take (suc p) s) → ⊥) → p < length s → Mendable Accepted (take (suc p) s) → ⊥
    not_mended (inl end) inside = absurd (omega arith)
    not_mended (inr none) inside = none

-- four fields of at most eight, and three dashes
text_short : (s : List ℕ) (g : Guid) → IsText s g → length s ≤ 35
text_short s g t =
    rw
    (t.joined, length-append t.f3 (dash ∷ (t.f2 ++ dash ∷ (t.f1 ++ dash ∷ t.f0))), length-append t.f2 (dash ∷ (t.f1 ++ dash ∷ t.f0)), length-append t.f1 (dash ∷ t.f0))
    (omega (arith, t.is3.short, t.is2.short, t.is1.short, t.is0.short))

pub place_shows : PlaceShows
place_shows s p reason told =
    let counted : length (take p s) ≡ p = length-take-le p s (place_inside Accepted s p told.0) in
    let rest : List ℕ = told.0.before.0 in
    let g : Guid = told.0.before.1.0 in
    let mended : IsText (take p s ++ rest) g = told.0.before.1.1 in
    let longer : length (take p s ++ rest) ≡ length (take p s) + length rest = length-append (take p s) rest in (
      omega (arith, text_short (take p s ++ rest) g mended, longer, counted),
      (λ i below.
          subst
          (λ (b : ℕ). (b ≡ dash) ⊎ (digit_of b ≤ 15))
          (get_or-append (take p s) rest 0 i (omega (arith, counted)) ∙ get_or-take p s i 0 below)
          (text_bytes (take p s ++ rest) g mended i (omega (arith, longer, counted)))),
    )

-- the table, row by row
cause_why : (s : List ℕ) (p : ℕ) (reason : Reason) → Cause s p reason → Why s p reason
cause_why s p reason (empty_at_dash d none) = (none, inl d)
cause_why s p reason (empty_at_end h none) = (none, inr h)
cause_why s p reason (ninth h d full) = (full, h, d)
cause_why s p reason (other_byte h d room bad) = (room, h, d, bad)
cause_why s p reason (fifth d some four) = (some, inl (d, four))
cause_why s p reason (too_few h some less) = (some, inr (h, less))

why_cause : (s : List ℕ) (p : ℕ) (reason : Reason) → Why s p reason → Cause s p reason
why_cause s p Empty (none, inl d) = empty_at_dash d none
why_cause s p Empty (none, inr h) = empty_at_end h none
why_cause s p TooLong (full, h, d) = ninth h d full
why_cause s p NotHex (room, h, d, bad) = other_byte h d room bad
why_cause s p FieldCount (some, inl (d, four)) = fifth d some four
why_cause s p FieldCount (some, inr (h, less)) = too_few h some less

pub parse_reason : ParseReason
parse_reason s p reason other told = (
  (λ e. subst (Why s p) e (cause_why s p reason (walk_cause s p reason (parses_run s (Err record { position = p; reason = reason }) told)))),
  (λ why. decides_one (reasons s p) reason other told.1 (cause_decides s p other (why_cause s p other why))),
)

pub without_plus_as_before : WithoutPlusAsBefore
without_plus_as_before s r g none told =
    let exactly = parse_accepts_exactly s r g told in
    ((λ e. now_before s g (exactly.0 e)), (λ text. exactly.1 (before_now s g none text)))

pub plus_refused : PlusRefused
plus_refused s g p reason text told = refused_at_plus s g p reason text (parses_run s (Err record { position = p; reason = reason }) told)

-- the field of one digit
one_digit : (b : ℕ) → digit_of b ≤ 15 → IsField (b ∷ []) (value 0 (b ∷ []))
one_digit b hex = record { any = omega arith; short = omega arith; hex = (hex, tt); spells = refl }

pub plus_matters : PlusMatters
unfolding run digit_of value
plus_matters = (text "+1-2-3-4", guid_of 4 3 2 1, before, refuses)
  where
    before : IsTextBefore (text "+1-2-3-4") (guid_of 4 3 2 1)
    before =
        record {
          f3 = text "+1";
          f2 = text "2";
          f1 = text "3";
          f0 = text "4";
          joined = refl;
          is3 = led (text "1") refl (omega arith) (one_digit 49 (omega arith));
          is2 = bare (one_digit 50 (omega arith));
          is1 = bare (one_digit 51 (omega arith));
          is0 = bare (one_digit 52 (omega arith));
        }

    refuses : (r : Result Guid BadGuid) → Parses (text "+1-2-3-4") r → (r ≡ Ok (guid_of 4 3 2 1) → ⊥)
    refuses r told e = read_not_stopped (guid_of 4 3 2 1) 0 NotHex (sym (parses_run _ (Ok (guid_of 4 3 2 1)) (subst (λ (x : Result Guid BadGuid). Parses (text "+1-2-3-4") x) e told)))

pub print_then_parse : PrintThenParse
print_then_parse g before n after r fits printed told =
    let text : take n after ≡ text_of g = printed_text g before n after printed in
    parse_unique (take n after) r (Ok g) told (subst (λ (s : List ℕ). IsText s g) (sym text) (printed_is_text g fits))

pub fitting_matters : FittingMatters
unfolding run digit_of text_of spelled digit
fitting_matters = (guid_of (2 ^ 32) 0 0 0, reads)
  where
    reads : (r : Result Guid BadGuid) → Parses (text_of (guid_of (2 ^ 32) 0 0 0)) r → (r ≡ Ok (guid_of (2 ^ 32) 0 0 0) → ⊥)
    reads r told e =
        let same : ◌≡◌ {A = Ending Guid Reason} (read (guid_of 0 0 0 0)) (read (guid_of (2 ^ 32) 0 0 0)) = parses_run _ (Ok (guid_of (2 ^ 32) 0 0 0)) (subst (λ (x : Result Guid BadGuid). Parses (text_of (guid_of (2 ^ 32) 0 0 0)) x) e told) in
        let guid : guid_of 0 0 0 0 ≡ guid_of (2 ^ 32) 0 0 0 = cc in
        let word : 0 ≡ 2 ^ 32 = ap (λ (g : Guid). g.w0) guid in
        omega arith

pub read_print_parse : ReadPrintParse
read_print_parse bytes at g before n after r good is =
    print_then_parse g before n after r (subst Fitting (sym is) (read_fits bytes at good))

pub reads_as_printed : ReadsAsPrinted
reads_as_printed s g told = plain_text s g told

pub one_guid : OneGuid
one_guid s t g h told told' = (
  (λ same. reads_as_printed s g told ∙ ap text_of same ∙ sym (reads_as_printed t h told')),
  (λ same.
      let printed : text_of h ≡ text_of g = sym (reads_as_printed t h told') ∙ sym same ∙ reads_as_printed s g told in
      text_tells (text_of g) g h (printed_is_text g (text_fits s g told)) (subst (λ (l : List ℕ). IsText l h) printed (printed_is_text h (text_fits t h told')))),
)
