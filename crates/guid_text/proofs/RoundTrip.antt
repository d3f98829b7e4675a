-- The text that a GUID prints is a text of that GUID, and of no other. Assumes nothing.
use mathlib.Core.Path.{◌≡◌, refl, sym, ◌∙◌, ap}
use mathlib.Core.List.{List, []}
use Prim.Native.Nat.{ℕ, ◌^◌, ◌<◌}
use lib.ListN.{length, take, drop}
use lib.Seq.{take_at}
use Rattle.words.specs.Answer.{Answer, accepted, afterwards}
use Rattle.words.specs.Buffer.{over}
use Rattle.words.specs.Decide.{◌<?◌}
use Rattle.words.proofs.AnswerLaws.{refused_not_accepted}
use Rattle.words.proofs.DecideLaws.{pick_case}
use Rattle.numerals.specs.Statement.{hex}
use Rattle.numerals.proofs.SpelledLaws.{length_spelled_most, length_spelled_least}
use Rattle.places.specs.Machine.{Ending, read}
use Rattle.guid.specs.declared.Guid.{Guid}
use Rattle.std.specs.declared.result.Result.TheVariants.{Ok}
use Rattle.guid_text.specs.declared.Reason.{Reason}
use Rattle.guid.specs.Guid.{Fitting}
use Rattle.guid_text.specs.Form.{IsField, IsText}
use Rattle.guid_text.specs.Text.{text_of}
use Rattle.guid_text.specs.Statement.{Prints}
use Rattle.guid_text.proofs.ValueLaws.{digits_spelled, value_spelled, value_fits}
use Rattle.guid_text.proofs.Exactly.{text_read}

-- what `print` wrote is the text
pub printed_text : (g : Guid) (before : List ℕ) (n : ℕ) (after : List ℕ) → Prints g before (Ok n) after → take n after ≡ text_of g
printed_text g before n after told =
    let wrote : after ≡ over (text_of g) before = told.1 ∙ ap (λ (a : Answer). afterwards a (text_of g) before) (sym told.0) in
    let count : length (text_of g) ≡ n = pick_case (length before <? length (text_of g)) _ _ (λ (a : Answer). accepted n [] ≡ a → length (text_of g) ≡ n) (λ _ e. absurd (refused_not_accepted _ _ _ n [] (sym e))) (λ _ e. cc) told.0 in
    ap (take n) wrote ∙ take_at (text_of g) (drop (length (text_of g)) before) n count

-- which is a text of the GUID
hex_field : (w : ℕ) → w < 2 ^ 32 → IsField (hex w) w
hex_field w fits =
    record { any = length_spelled_least 16 7 w; short = length_spelled_most 16 8 w; hex = digits_spelled 8 w; spells = sym (value_spelled 8 w fits) }

pub printed_is_text : (g : Guid) → Fitting g → IsText (text_of g) g
unfolding text_of
printed_is_text g fits =
    record {
      f3 = hex g.w3;
      f2 = hex g.w2;
      f1 = hex g.w1;
      f0 = hex g.w0;
      joined = refl;
      is3 = hex_field g.w3 fits.fits3;
      is2 = hex_field g.w2 fits.fits2;
      is1 = hex_field g.w1 fits.fits1;
      is0 = hex_field g.w0 fits.fits0;
    }

-- a text is of one GUID
pub text_tells : (s : List ℕ) (g h : Guid) → IsText s g → IsText s h → g ≡ h
text_tells s g h t t' = let e : ◌≡◌ {A = Ending Guid Reason} (read g) (read h) = sym (text_read s g t) ∙ text_read s h t' in cc

-- each of whose words fits its 32 bits
field_fits : (f : List ℕ) (w : ℕ) → IsField f w → w < 2 ^ 32
field_fits f w is = rw is.spells (value_fits f is.hex is.short)

pub text_fits : (s : List ℕ) (g : Guid) → IsText s g → Fitting g
text_fits s g t =
    record { fits0 = field_fits _ _ t.is0; fits1 = field_fits _ _ t.is1; fits2 = field_fits _ _ t.is2; fits3 = field_fits _ _ t.is3 }
