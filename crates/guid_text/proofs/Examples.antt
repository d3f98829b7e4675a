-- GUID texts at the edges, computed: what is printed, and A5's examples of texts that go wrong, each with the place and the
-- reason. Document 01's own examples stand in the crate of promises. Assumes nothing.
use mathlib.Core.Path.{◌≡◌, refl}
use mathlib.Core.List.{List, [], ◌∷◌, ◌++◌}
use Prim.Native.Nat.{ℕ}
use Rattle.words.specs.Answer.{refuse}
use Rattle.words.specs.Text.{text, digit, spelled, digit_of}
use Rattle.places.specs.Machine.{run}
use Rattle.guid_text.specs.declared.Reason.{Reason}
use Rattle.guid_text.specs.declared.Reason.TheVariants.{Empty, TooLong, NotHex, FieldCount}
use Rattle.guid_text.specs.declared.BadGuid.{BadGuid}
use Rattle.guid.specs.declared.Guid.{Guid}
use Rattle.std.specs.declared.result.Result.{Result}
use Rattle.std.specs.declared.result.Result.TheVariants.{Ok, Err}
use Rattle.guid.specs.Guid.{guid_of}
use Rattle.guid_text.specs.Split.{fields}
use Rattle.guid_text.specs.Text.{text_of, printing}
use Rattle.guid_text.specs.Normal.{lower, shorn, normal}
use Rattle.guid_text.specs.Statement.{Parses}
use Rattle.guid_text.proofs.Walk.{start, walk}
use Rattle.guid_text.proofs.ReasonLaws.{ending_of, parses}

infix 80 ◌gives◌
pub data Example : Type 0 where
  ◌gives◌ : List ℕ → Result Guid BadGuid → Example

-- each text of a table is answered so
abbrev pub AllParse : List Example → Type 0
AllParse [] = Unit {0}
AllParse ((s gives r) ∷ examples) = Parses s r × AllParse examples

abbrev AllRun : List Example → Type 0
AllRun [] = Unit {0}
AllRun ((s gives r) ∷ examples) = (run walk start 0 s ≡ ending_of r) × AllRun examples

all_parse : (examples : List Example) → AllRun examples → AllParse examples
all_parse [] runs = tt
all_parse ((s gives r) ∷ examples) runs = (parses s r runs.0, all_parse examples runs.1)

abbrev bad : ℕ → Reason → BadGuid
bad p why = record { position = p; reason = why }

-- both ends, a field's length, and a byte that is none
abbrev pub wrong : List Example
wrong =
    [] gives Err (bad 0 Empty)
    ∷ text "-" gives Err (bad 0 Empty)
    ∷ text "1" gives Err (bad 1 FieldCount)
    ∷ text "1-" gives Err (bad 2 Empty)
    ∷ text "g" gives Err (bad 0 NotHex)
    ∷ text "1g-" gives Err (bad 1 NotHex)
    ∷ text "1-+2-3-4" gives Err (bad 2 NotHex)
    ∷ text "1--2" gives Err (bad 2 Empty)
    ∷ text "1-2-3-" gives Err (bad 6 Empty)
    ∷ text "1-2-3-4-" gives Err (bad 7 FieldCount)
    ∷ (text "1-2-3-4" ++ 10 ∷ []) gives Err (bad 7 NotHex)
    ∷ text "1-2-3-123456789" gives Err (bad 14 TooLong)
    ∷ text "12345678" gives Err (bad 8 FieldCount)
    ∷ text "123456789" gives Err (bad 8 TooLong)
    ∷ text "12345678g" gives Err (bad 8 TooLong)
    ∷ text "12345678+" gives Err (bad 8 TooLong)
    ∷ text "12345678-" gives Err (bad 9 Empty)
    ∷ text "1-2-3-12345678-" gives Err (bad 14 FieldCount)
    ∷ text "+1-2-3-4" gives Err (bad 0 NotHex)
    ∷ text "0-0-0" gives Err (bad 5 FieldCount)
    ∷ text "1-2-3--" gives Err (bad 6 Empty)
    ∷ text "1-2-" gives Err (bad 4 Empty)
    ∷ text "1-2-3-4-5" gives Err (bad 7 FieldCount)
    ∷ text "1-2-3-4--" gives Err (bad 7 FieldCount)
    ∷ []

pub wrong_places : AllParse wrong
unfolding run digit_of
wrong_places =
    all_parse wrong (refl, (refl, (refl, (refl, (refl, (refl, (refl, (refl, (refl, (refl, (refl, (refl, (refl, (refl, (refl, (refl, (refl, (refl, (refl, (refl, (refl, (refl, (refl, (refl, tt))))))))))))))))))))))))

pub any_form : Parses (text "fEDcba98-0-0-00000001") (Ok (guid_of 1 0 0 0xfedc_ba98))
unfolding run digit_of
any_form = parses _ (Ok (guid_of 1 0 0 0xfedc_ba98)) refl

pub plain_form : normal (text "fEDcba98-0-0-00000001") ≡ text_of (guid_of 1 0 0 0xfedc_ba98)
unfolding text_of spelled digit fields shorn lower
plain_form = refl

pub null_text : text_of (guid_of 0 0 0 0) ≡ text "0-0-0-0"
unfolding text_of spelled digit
null_text = refl

pub no_room : printing (guid_of 0 0 0 0) 6 ≡ refuse 17 (4 ∷ 7 ∷ 6 ∷ [])
unfolding text_of spelled digit
no_room = refl
