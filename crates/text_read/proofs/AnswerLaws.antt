-- What the two walks come to: the answer, and what the tables and the area hold. Assumes nothing.
use mathlib.Core.Path.{◌≡◌, refl, sym, ◌∙◌, ap}
use mathlib.Core.List.{List, [], ◌∷◌}
use mathlib.Core.Logic.{◌⊎◌, inl, inr}
use Prim.Native.Nat.{ℕ, ◌/◌, ◌<◌, ◌≤◌}
use native.Mathlib.Omega.{arith}
use borrow.Author.Tests.{lt-ltb, le-ltb}
use lib.ListN.{length}
use lib.Seq.{sets}
use Rattle.words.specs.Answer.{Answer, accepted, NotTaken, afterwards}
use Rattle.words.specs.Buffer.{over}
use Rattle.words.specs.Statement.{Holds}
use Rattle.words.specs.declared.outcome.Room.TheVariants.{Rows, Values, Output}
use Rattle.words.proofs.AnswerLaws.{not_taken_keeps}
use Rattle.words.proofs.BufferLaws.{fitted_sets, fitted_fits}
use Rattle.places.specs.Machine.{Ending, read, stopped}
use Rattle.wire.specs.Layout.{entry_words}
use Rattle.wire.specs.Content.{Row}
use Rattle.wire.specs.declared.error.WireError.TheVariants.{NoRoom}
use Rattle.wire.proofs.PaperLaws.{paper_not_taken}
use Rattle.text_form.specs.Walk.{start}
use Rattle.text_steps.specs.Tables.{all_cells, row_table, value_table, area_bytes}
use Rattle.text_walk.specs.Paper.{text_paper}
use Rattle.text_walk.specs.Statement.{walking, ending_as, counts, counting, Counts}
use Rattle.text_walk.specs.declared.error.TextError.{TextError}
use Rattle.text_walk.specs.declared.error.TextError.TheVariants.{BadText, Limit}
use Rattle.text_walk.specs.declared.walk.Walked.{Walked}
use Rattle.std.specs.declared.result.Result.{Result}
use Rattle.std.specs.declared.result.Result.TheVariants.{Ok, Err}
use Rattle.text_read.specs.Statement.{rows_read, roomed, reading_text, ReadsText}
use Rattle.text_read.specs.Stages.{HasText, FillsText}
use Rattle.text_steps.proofs.LimitNumbers.{ByLimit, limit_number}
use Rattle.text_read.proofs.TextLaws.{length_row_table, length_value_table}

pub text_not_taken : (e : TextError) → NotTaken (text_paper e)
text_not_taken (BadText place) = tt
text_not_taken (Limit e) = paper_not_taken e

-- a refusal that was met is the answer, whatever would have followed
same_refusal : (x : Ending (List Row) (Unit {0} ⊎ Answer)) (a : Answer) → NotTaken a → a ≡ ending_as counts x → (taken : List Row → Answer) → a ≡ ending_as taken x
same_refusal (read rows) a isnt e taken = absurd (rw e at isnt)
same_refusal (stopped place (inl none)) a isnt e taken = e
same_refusal (stopped place (inr refusal)) a isnt e taken = e

not_limit : (n : ℕ) (fields : List ℕ) (refusal : Answer) → accepted n fields ≡ refusal → ByLimit refusal → ⊥
not_limit n fields refusal e h = rw (← e) at h

-- what was counted is read
pub counted_read : (s : List ℕ) (a b n : ℕ) → Counts s (Ok record { rows = a; values = b; bytes = n })
    → (final : List Row) × (walking s ≡ read final) × (a ≡ length final) × (b ≡ length (all_cells final)) × (n ≡ length (area_bytes final))
unfolding counting
counted_read s a b n e = each (walking s) refl e
  where
    each : (x : Ending (List Row) (Unit {0} ⊎ Answer)) → walking s ≡ x → accepted n (a ∷ b ∷ []) ≡ ending_as counts x
        → (final : List Row) × (walking s ≡ read final) × (a ≡ length final) × (b ≡ length (all_cells final)) × (n ≡ length (area_bytes final))
    each (read final) is f = (final, is, cc, cc, cc)
    each (stopped place (inl none)) is f = absurd (let z : ◌≡◌ {A = ℕ} 0 1 = cc in omega arith)
    each (stopped place (inr refusal)) is f = absurd (not_limit n (a ∷ b ∷ []) refusal f (limit_number s start 0 place refusal is))

-- a run of stores from the front, where it fits
stored_over : (ws table : List ℕ) → length ws ≤ length table → sets table 0 ws ≡ over ws table
stored_over ws table h = fitted_sets ws table h ∙ fitted_fits ws table h

module _ (s rows values area : List ℕ) where
  -- a refusal leaves all as it was
  refuses : (e : TextError) → text_paper e ≡ reading_text s (length rows) (length values / entry_words) (length area) → ReadsText s rows values area (Err e) rows values area
  refuses e means = record { means = means; rows_hold = kept _ rows; values_hold = kept _ values; area_holds = kept _ area }
    where
      kept : (ws xs : List ℕ) → Holds (reading_text s (length rows) (length values / entry_words) (length area)) ws xs xs
      kept ws xs = sym (not_taken_keeps (text_paper e) ws xs (text_not_taken e)) ∙ ap (λ (a : Answer). afterwards a ws xs) means

  pub read_refused : (r : Result Walked TextError) → Counts s r → (e : TextError) → r ≡ Err e → ReadsText s rows values area (Err e) rows values area
  unfolding reading_text counting
  read_refused r told e is =
      let stops : Counts s (Err e) = rw is at told in
      refuses e (same_refusal (walking s) (text_paper e) (text_not_taken e) stops (roomed (length rows) (length values / entry_words) (length area)))

  module _ (r : Result Walked TextError) (told : Counts s r) (a b n : ℕ) (is : r ≡ Ok record { rows = a; values = b; bytes = n }) where
    mine : (final : List Row) × (walking s ≡ read final) × (a ≡ length final) × (b ≡ length (all_cells final)) × (n ≡ length (area_bytes final))
    mine = counted_read s a b n (rw is at told)

    roomed_so : reading_text s (length rows) (length values / entry_words) (length area) ≡ roomed (length rows) (length values / entry_words) (length area) mine.0
    unfolding reading_text
    roomed_so = ap (ending_as (roomed (length rows) (length values / entry_words) (length area))) mine.1

    pub no_rows : length rows < a → (w : Result Walked TextError) → w ≡ Err (Limit (NoRoom (record { room = Rows; needed = a; given = length rows }))) → ReadsText s rows values area w rows values area
    no_rows h w e = rw e (refuses _ (sym (roomed_so ∙ rw (← mine.2, lt-ltb (length rows) a h))))

    module _ (few : a ≤ length rows) where
      pub no_values : length values / entry_words < b → (w : Result Walked TextError) → w ≡ Err (Limit (NoRoom (record { room = Values; needed = b; given = length values / entry_words })))
          → ReadsText s rows values area w rows values area
      no_values h w e = rw e (refuses _ (sym (roomed_so ∙ rw (← mine.2, ← mine.3, le-ltb (length rows) a few, lt-ltb (length values / entry_words) b h))))

      module _ (fit : b ≤ length values / entry_words) where
        pub no_area : length area < n → (w : Result Walked TextError) → w ≡ Err (Limit (NoRoom (record { room = Output; needed = n; given = length area })))
            → ReadsText s rows values area w rows values area
        no_area h w e =
            rw e (refuses _ (sym (roomed_so ∙ rw (← mine.2, ← mine.3, ← mine.4, le-ltb (length rows) a few, le-ltb (length values / entry_words) b fit, lt-ltb (length area) n h))))

        module _ (room : n ≤ length area) where
          pub text_has : HasText s rows values area
          text_has = (mine.0, mine.1, omega (arith, mine.2), omega (arith, mine.3, fit), omega (arith, mine.4))

          accepts : accepted n (a ∷ b ∷ []) ≡ reading_text s (length rows) (length values / entry_words) (length area)
          accepts =
              sym (roomed_so ∙ rw (← mine.2, ← mine.3, ← mine.4, le-ltb (length rows) a few, le-ltb (length values / entry_words) b fit, le-ltb (length area) n room))

          held : (ws ws' xs xs' : List ℕ) → length ws ≤ length xs → xs' ≡ sets xs 0 ws → ws ≡ ws'
              → Holds (reading_text s (length rows) (length values / entry_words) (length area)) ws' xs xs'
          held ws ws' xs xs' fits e same =
              e ∙ stored_over ws xs fits ∙ ap (λ (l : List ℕ). over l xs) same ∙ ap (λ (x : Answer). afterwards x ws' xs) accepts

          same_rows : mine.0 ≡ rows_read (walking s)
          same_rows = ap rows_read (sym mine.1)

          pub text_read : (rows' values' area' : List ℕ) → FillsText s rows values area rows' values' area' → ReadsText s rows values area (Ok record { rows = a; values = b; bytes = n }) rows' values' area'
          text_read rows' values' area' fills =
              let all = fills mine.0 mine.1 in
              record {
                means = accepts;
                rows_hold = held (row_table mine.0) _ rows rows' (omega (arith, length_row_table mine.0, mine.2)) all.0 (ap row_table same_rows);
                values_hold = held (value_table mine.0) _ values values' (omega (arith, length_value_table mine.0, mine.3, fit)) all.1 (ap value_table same_rows);
                area_holds = held (area_bytes mine.0) _ area area' (omega (arith, mine.4)) all.2 (ap area_bytes same_rows);
              }
