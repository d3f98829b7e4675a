-- What writing a text answers, and what the output then holds. Assumes nothing.
use mathlib.Core.Path.{◌≡◌, refl, sym, ◌∙◌, ap}
use mathlib.Core.List.{List, [], ◌∷◌}
use Prim.Native.Nat.{ℕ, ◌*◌, ◌<◌, ◌≤◌}
use native.Mathlib.Omega.{arith}
use lib.ListN.{length}
use borrow.Author.Tests.{lt-ltb, le-ltb}
use Rattle.words.specs.Answer.{Answer, accepted, afterwards}
use Rattle.words.specs.Decide.{decide}
use Rattle.words.specs.Paper.{room_line}
use Rattle.words.specs.declared.outcome.Room.TheVariants.{Output}
use Rattle.words.proofs.DecideLaws.{decide_append}
use Rattle.wire.specs.Layout.{entry_words}
use Rattle.wire.specs.declared.error.WireError.{WireError}
use Rattle.wire.specs.declared.error.WireError.TheVariants.{NoRoom}
use Rattle.wire.proofs.PaperLaws.{paper_keeps}
use Rattle.wire_check.specs.Writing.{total, check_lines}
use Rattle.wire_check.specs.Stages.{Good}
use Rattle.std.specs.declared.result.Result.{Result}
use Rattle.std.specs.declared.result.Result.TheVariants.{Ok, Err}
use Rattle.wire_write.specs.Stages.{Puts}
use Rattle.wire_write.specs.Paper.{paper_encoded}
use Rattle.text_size.specs.Statement.{tables_text}
use Rattle.text_size.specs.Stages.{rows_text, TextFits}
use Rattle.text_write.specs.Statement.{writing_text, WritesText}

-- an answer and what it leaves, told by the result
writes : (area rows values before : List ℕ) (r : Result ℕ WireError) (after : List ℕ) → paper_encoded r ≡ writing_text area rows values (length before)
    → after ≡ afterwards (paper_encoded r) (tables_text area rows values) before → WritesText area rows values before r after
writes area rows values before r after means holds = (means, holds ∙ ap (λ (a : Answer). afterwards a (tables_text area rows values) before) means)

module _ (area rows values before : List ℕ) (r : Result ℕ WireError) (measured : TextFits area rows values r) where
  walks : (rest : Answer) → decide (check_lines area rows values) (decide (room_line Output (length (tables_text area rows values)) (length before) ∷ []) (accepted (length (tables_text area rows values)) [])) ≡ rest
      → writing_text area rows values (length before) ≡ rest
  unfolding writing_text
  walks rest e = decide_append (check_lines area rows values) (room_line Output (length (tables_text area rows values)) (length before) ∷ []) _ ∙ e

  pub write_refused : (refusal : WireError) → r ≡ Err refusal → WritesText area rows values before (Err refusal) before
  write_refused refusal e =
      let failed : TextFits area rows values (Err refusal) = rw e at measured in
      writes area rows values before (Err refusal) before (sym (walks _ (failed _))) (sym (paper_keeps refusal (tables_text area rows values) before))

  module _ (size : ℕ) (e : r ≡ Ok size) where
    fits : TextFits area rows values (Ok size)
    fits = rw e at measured

    pub writer_good : Good area values
    writer_good = fits.0.good

    pub writer_whole : length values ≡ entry_words * total rows
    writer_whole = fits.0.whole

    pub write_short : length before < size → WritesText area rows values before (Err (NoRoom (record { room = Output; needed = size; given = length before }))) before
    write_short h =
        let is : size ≡ length (tables_text area rows values) = fits.1 in
        writes area rows values before (Err (NoRoom (record { room = Output; needed = size; given = length before }))) before
        (sym (walks _ (fits.2 _ ∙ rw (← is, lt-ltb (length before) size h)))) refl

    module _ (enough : size ≤ length before) where
      pub text_room_lem : length (rows_text area rows values 0) ≤ length before
      unfolding tables_text
      text_room_lem = omega (arith, fits.1)

      pub write_done : (after : List ℕ) (n : ℕ) → Puts (rows_text area rows values 0) before after n → WritesText area rows values before (Ok size) after
      unfolding tables_text
      write_done after n puts =
          let is : size ≡ length (tables_text area rows values) = fits.1 in
          writes area rows values before (Ok size) after
          (sym (walks _ (fits.2 _ ∙ rw (← is, le-ltb (length before) size enough)))) puts.1
