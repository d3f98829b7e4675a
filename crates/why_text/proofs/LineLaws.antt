-- The lines, from the pieces that they are written in, and what a written line answers. Assumes nothing.
use Prim.Native.Nat.{ℕ, ◌<◌, ◌≤◌}
use Prim.Native.String.{String}
use mathlib.Core.Path.{◌≡◌, refl, ap}
use mathlib.Core.List.{List, [], ◌∷◌, ◌++◌, append_assoc}
use borrow.Author.Tests.{lt-ltb, le-ltb}
use lib.ListN.{length}
use Rattle.words.specs.Answer.{accepted}
use Rattle.words.specs.Note.{Wanted}
use Rattle.words.specs.Text.{text}
use Rattle.words.specs.declared.outcome.Room.TheVariants.{Output}
use Rattle.numerals.specs.Statement.{decimal}
use Rattle.listing.specs.Text.{line}
use Rattle.listing.specs.Stages.{Wrote}
use Rattle.listing.proofs.TextLaws.{wrote_front}
use Rattle.finding.specs.Saying.{waiting, refusing, breaking}
use Rattle.why_text.specs.Text.{wanted_text, line_of, line_room}
use Rattle.why_text.specs.Stages.{place_text}
use Rattle.why_text.specs.Statement.{Writes}
use Rattle.std.specs.declared.result.Result.TheVariants.{Ok, Err}

pub place_text_lem : (name : List ℕ) (offset value : ℕ) (wanted : Wanted)
    → (((name ++ 32 ∷ []) ++ (decimal offset ++ 32 ∷ [])) ++ (decimal value ++ 32 ∷ [])) ++ line (wanted_text wanted ∷ [])
    ≡ line (name ∷ decimal offset ∷ decimal value ∷ wanted_text wanted ∷ [])
place_text_lem name offset value wanted = simp append_assoc

pub more_text : (name : String) (n : ℕ) → ((text "more" ++ 32 ∷ []) ++ (text name ++ 32 ∷ [])) ++ (decimal n ++ 10 ∷ []) ≡ line_of (waiting name n)
unfolding line_of
more_text name n = simp append_assoc

pub refused_text : (code : ℕ) (name : String) (offset value : ℕ) (wanted : Wanted)
    → ((text "refused" ++ 32 ∷ []) ++ (decimal code ++ 32 ∷ [])) ++ place_text name offset value wanted ≡ line_of (refusing code name offset value wanted)
unfolding line_of
refused_text code name offset value wanted = append_tail (text "refused" ++ 32 ∷ []) (decimal code) (place_text name offset value wanted)
  where
    append_tail : (a b c : List ℕ) → (a ++ (b ++ 32 ∷ [])) ++ c ≡ a ++ (b ++ 32 ∷ c)
    append_tail a b c = simp append_assoc

pub not_plain_text : (name : String) (offset value : ℕ) (wanted : Wanted) → (text "not-plain" ++ 32 ∷ []) ++ place_text name offset value wanted ≡ line_of (breaking name offset value wanted)
unfolding line_of
not_plain_text name offset value wanted = refl

-- what a text over the front of a buffer answers

module _ (ws before : List ℕ) where
  pub no_room : length before < line_room → Writes ws before (Err (record { room = Output; needed = line_room; given = length before })) before
  no_room short = let so = lt-ltb (length before) line_room short in (rw so, rw so)

  pub has_room : line_room ≤ length before → {end : ℕ} {after : List ℕ} → Wrote ws 0 before end after → Writes ws before (Ok end) after
  has_room fits wrote =
      let front = wrote_front wrote in
      let so = le-ltb (length before) line_room fits in
      (rw so (ap (λ (n : ℕ). accepted n []) front.0), rw so front.1)
