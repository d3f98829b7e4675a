-- One result for each statement: two results, or two results with their exits, that meet a public function's statement are
-- equal. An input has one reading, as far as an answer can tell. Assumes nothing.
use mathlib.Core.Path.{◌≡◌, refl, sym, ◌∙◌, ap}
use mathlib.Core.List.{List, [], ◌∷◌}
use Prim.Native.Nat.{ℕ, ◌/◌}
use lib.ListN.{length, get_or}
use Rattle.words.specs.Answer.{Answer, accepted, more, refused, afterwards}
use Rattle.words.specs.Decide.{◌=?◌, ◌⇒◌, decide}
use Rattle.words.specs.Statement.{OneResult}
use Rattle.words.specs.Paper.{room_line}
use Rattle.words.specs.declared.outcome.NoRoom.{NoRoom}
use Rattle.words.specs.declared.outcome.Room.TheVariants.{Items as ItemRoom}
use Rattle.words.proofs.Unique.{means_one, equal_to_one}
use Rattle.words.proofs.PaperLaws.{no_room_of, no_room_back}
use Rattle.yson_grammar.specs.Items.{outer}
use Rattle.yson_grammar.proofs.Place.{one_place, not_both}
use Rattle.yson_grammar.proofs.OneListing.{outer_same}
use Rattle.yson.specs.Reading.{Reading, good, bad, deep, words_of, count, checking, listing}
use Rattle.yson.specs.Paper.{paper}
use Rattle.yson.specs.Statement.{Checks, Lists, Breaks}
use Rattle.yson.specs.declared.YsonError.{YsonError}
use Rattle.yson.specs.declared.YsonError.TheVariants.{Broken, Short}
use Rattle.std.specs.declared.result.Result.{Result}
use Rattle.std.specs.declared.result.Result.TheVariants.{Ok, Err}
use Rattle.yson.specs.declared.Fault.{Fault}
use Rattle.yson.specs.declared.Fault.TheVariants.{BadYson, TooDeep}

-- back from an answer to the result
refused_back : ℕ → List ℕ → YsonError
refused_back number values =
    decide (number =? 20 ⇒ Broken (BadYson (get_or values 0 0)) ∷ number =? 21 ⇒ Broken (TooDeep (get_or values 0 0)) ∷ []) (Short (no_room_of values))

listed_back : Answer → Result ℕ YsonError
listed_back (accepted n fields) = Ok (get_or fields 0 0)
listed_back more = Ok 0
listed_back (refused number values consumed) = Err (refused_back number values)

listed_back_lem : (r : Result ℕ YsonError) → listed_back (paper r) ≡ r
unfolding listed_back refused_back
listed_back_lem (Ok n) = refl
listed_back_lem (Err (Broken (BadYson p))) = refl
listed_back_lem (Err (Broken (TooDeep p))) = refl
listed_back_lem (Err (Short short)) = ap (λ (n : NoRoom). Err (Short n)) (no_room_back short)

module _ (s : List ℕ) where
  -- what two readings of one input share
  pub record Same (x y : Reading s) : Type 0 where
    pub words : words_of x ≡ words_of y
    pub checked : checking x ≡ checking y
    pub listed : (room : ℕ) → listing x room ≡ listing y room

  pub one_reading : (x y : Reading s) → Same x y
  one_reading (good d) (good d') =
      let same : outer d ≡ outer d' = outer_same s d d' in
      let counts : count d ≡ count d' = ap (λ (l : List ℕ). length l / 4) same in
      record {
        words = same;
        checked = ap (λ (n : ℕ). accepted 0 (n ∷ [])) counts;
        listed = λ room. ap (λ (n : ℕ). decide (room_line ItemRoom n room ∷ []) (accepted 0 (n ∷ []))) counts;
      }
  one_reading (good d) (bad q f) = absurd (f.0.broken d)
  one_reading (good d) (deep q f) = absurd (f.0.broken d)
  one_reading (bad p e) (good d) = absurd (e.0.broken d)
  one_reading (bad p e) (bad q f) = let same : p ≡ q = one_place s p q e.0 f.0 in record { words = refl; checked = cc; listed = λ room. cc }
  one_reading (bad p e) (deep q f) = absurd (not_both s p q e f)
  one_reading (deep p e) (good d) = absurd (e.0.broken d)
  one_reading (deep p e) (bad q f) = absurd (not_both s q p f e)
  one_reading (deep p e) (deep q f) = let same : p ≡ q = one_place s p q e.0 f.0 in record { words = refl; checked = cc; listed = λ room. cc }

  pub check_unique : OneResult (Checks s)
  check_unique r r' p q =
      means_one paper listed_back listed_back_lem (checking q.0) r r' (p.1 ∙ (one_reading p.0 q.0).checked) q.1

  pub items_unique : (before : List ℕ) → OneResult (λ (p : Result ℕ YsonError × List ℕ). Lists s before p.0 p.1)
  items_unique before p p' q q' =
      let same = one_reading q.0 q'.0 in
      let room : ℕ = length before / 4 in
      let answer = means_one paper listed_back listed_back_lem (listing q'.0 room) p.0 p'.0 (q.1 ∙ same.listed room) q'.1 in
      let exits : p.1 ≡ p'.1 =
      q.2
      ∙ ap (λ (a : Answer). afterwards a (words_of q.0) before) (same.listed room)
      ∙ ap (λ (ws : List ℕ). afterwards (listing q'.0 room) ws before) same.words
      ∙ sym q'.2 in
      λ i. (answer i, exits i)

pub ysonerror_unique : (fault : Fault) → OneResult (Breaks fault)
ysonerror_unique fault = equal_to_one _
