-- What writing a rowset answers, and what the output then holds. Assumes nothing.
use mathlib.Core.Path.{◌≡◌, refl, sym, ◌∙◌, ap}
use mathlib.Core.List.{List}
use Prim.Native.Nat.{ℕ, ◌*◌, ◌<◌, ◌≤◌}
use native.Mathlib.Omega.{arith}
use lib.ListN.{length}
use borrow.Author.Tests.{lt-ltb, le-ltb}
use Rattle.words.specs.Answer.{Answer, afterwards}
use Rattle.words.specs.declared.outcome.Room.TheVariants.{Output}
use Rattle.wire.specs.Layout.{entry_words, rowset_bytes}
use Rattle.wire.specs.declared.error.WireError.{WireError}
use Rattle.wire.specs.declared.error.WireError.TheVariants.{NoRoom}
use Rattle.wire.proofs.PaperLaws.{paper_keeps}
use Rattle.wire_check.specs.Writing.{total, rowset_size, writing}
use Rattle.wire_check.specs.Stages.{Good, Fits}
use Rattle.wire_write.specs.Statement.{Encodes}
use Rattle.wire_write.specs.Stages.{Puts}
use Rattle.std.specs.declared.result.Result.{Result}
use Rattle.std.specs.declared.result.Result.TheVariants.{Ok, Err}
use Rattle.wire_check.proofs.LinesLaws.{writing_walks}
use Rattle.wire_write.specs.Paper.{paper_encoded}
use Rattle.wire_write.proofs.LengthLaws.{rowset_length}

-- an answer and what it leaves, told by the result
encodes : (area rows values before : List ℕ) (r : Result ℕ WireError) (after : List ℕ) → paper_encoded r ≡ writing area rows values (length before)
    → after ≡ afterwards (paper_encoded r) (rowset_bytes area rows values) before → Encodes area rows values before r after
encodes area rows values before r after means holds = (means, holds ∙ ap (λ (a : Answer). afterwards a (rowset_bytes area rows values) before) means)

-- and back
pub encodes_told : (area rows values before : List ℕ) (r : Result ℕ WireError) (after : List ℕ) → Encodes area rows values before r after
    → after ≡ afterwards (paper_encoded r) (rowset_bytes area rows values) before
encodes_told area rows values before r after told = told.1 ∙ ap (λ (a : Answer). afterwards a (rowset_bytes area rows values) before) (sym told.0)

module _ (area rows values before : List ℕ) (r : Result ℕ WireError) (measured : Fits area rows values r) where
  pub encode_refused : (refusal : WireError) → r ≡ Err refusal → Encodes area rows values before (Err refusal) before
  encode_refused refusal e =
      let failed : Fits area rows values (Err refusal) = rw e at measured in
      encodes area rows values before (Err refusal) before (sym (writing_walks area rows values (length before) ∙ failed _)) (sym (paper_keeps refusal (rowset_bytes area rows values) before))

  module _ (size : ℕ) (e : r ≡ Ok size) where
    passed : Fits area rows values (Ok size)
    passed = rw e at measured

    pub encode_short : length before < size → Encodes area rows values before (Err (NoRoom (record { room = Output; needed = size; given = length before }))) before
    encode_short h =
        let is : size ≡ rowset_size rows values = passed.1.0 in
        encodes area rows values before (Err (NoRoom (record { room = Output; needed = size; given = length before }))) before
        (sym (writing_walks area rows values (length before) ∙ passed.1.2 _ ∙ rw (← is, lt-ltb (length before) size h))) refl

    pub tables_good : Good area values
    tables_good = passed.0.good

    pub tables_whole : length values ≡ entry_words * total rows
    tables_whole = passed.0.whole

    module _ (enough : size ≤ length before) where
      pub rowset_room : length (rowset_bytes area rows values) ≤ length before
      rowset_room = omega (arith, rowset_length area rows values passed.0, passed.1.0)

      pub encode_written : (after : List ℕ) (n : ℕ) → Puts (rowset_bytes area rows values) before after n → Encodes area rows values before (Ok size) after
      encode_written after n puts =
          let is : size ≡ rowset_size rows values = passed.1.0 in
          encodes area rows values before (Ok size) after
          (sym (writing_walks area rows values (length before) ∙ passed.1.2 _ ∙ rw (← is, le-ltb (length before) size enough))) puts.1
