-- What sizing a text answers. Assumes nothing.
use mathlib.Core.Path.{◌≡◌, sym, ◌∙◌, ap}
use mathlib.Core.List.{List, []}
use Prim.Native.Nat.{ℕ, ◌*◌, ◌^◌, ◌<◌}
use native.Mathlib.Omega.{arith}
use lib.ListN.{length}
use Rattle.words.specs.Answer.{Answer, accepted}
use Rattle.words.specs.Decide.{decide}
use Rattle.wire.specs.Layout.{entry_words}
use Rattle.wire.specs.declared.error.WireError.{WireError}
use Rattle.wire_check.specs.Writing.{total, check_lines}
use Rattle.wire_check.specs.Stages.{Good, Fits}
use Rattle.std.specs.declared.result.Result.{Result}
use Rattle.std.specs.declared.result.Result.TheVariants.{Ok, Err}
use Rattle.wire_check.proofs.LinesLaws.{check_lines_lem}
use Rattle.text_size.specs.Statement.{tables_text, sizing_text, SizesText}
use Rattle.text_size.specs.Stages.{rows_text, TextFits}
use Rattle.text_size.proofs.SizeLaws.{text_most}

-- Both of `text_size`: what it answers, and what the writer goes by

abbrev pub Sized : List ℕ → List ℕ → List ℕ → Result ℕ WireError → Type 0
Sized area rows values r = SizesText area rows values r × TextFits area rows values r

module _ (area rows values : List ℕ) (r : Result ℕ WireError) (measured : Fits area rows values r) where
  pub size_refused : (refusal : WireError) → r ≡ Err refusal → Sized area rows values (Err refusal)
  unfolding sizing_text
  size_refused refusal e =
      let failed : Fits area rows values (Err refusal) = rw e at measured in
      (sym (check_lines_lem area rows values _ ∙ failed _), λ rest. check_lines_lem area rows values rest ∙ failed rest)

  module _ (size : ℕ) (e : r ≡ Ok size) where
    passed : Fits area rows values (Ok size)
    passed = rw e at measured

    pub tables_good : Good area values
    tables_good = passed.0.good

    pub tables_whole : length values ≡ entry_words * total rows
    tables_whole = passed.0.whole

    pub text_short : length (rows_text area rows values 0) < 2 ^ 64
    text_short = omega (arith, text_most area rows values, passed.1.0, passed.1.1)

    pub size_told : (n : ℕ) → n ≡ length (rows_text area rows values 0) → Sized area rows values (Ok n)
    unfolding sizing_text tables_text
    size_told n is =
        let silent : (rest : Answer) → decide (check_lines area rows values) rest ≡ rest = λ rest. check_lines_lem area rows values rest ∙ passed.1.2 rest in
        (ap (λ (m : ℕ). accepted m []) is ∙ sym (silent _), (passed.0, is, silent))
