-- What the two walks come to: the answer and the tables of a rowset. Assumes nothing.
use mathlib.Core.Path.{◌≡◌, refl, sym, ◌∙◌, ap}
use mathlib.Core.List.{List}
use Prim.Native.Nat.{ℕ, ◌*◌, ◌/◌, ◌<◌, ◌≤◌}
use native.Mathlib.Omega.{arith}
use lib.ListN.{length}
use lib.Seq.{sets}
use borrow.Author.Tests.{lt-ltb, le-ltb}
use Rattle.words.specs.Answer.{Answer, afterwards}
use Rattle.words.specs.Buffer.{over}
use Rattle.words.specs.declared.outcome.Room.TheVariants.{Rows, Values}
use Rattle.words.proofs.BufferLaws.{fitted_sets, fitted_fits}
use Rattle.wire.specs.Layout.{entry_words, count_at, next_rows, value_count, row_words, value_words}
use Rattle.wire.proofs.PaperLaws.{paper_keeps}
use Rattle.wire.specs.declared.error.WireError.{WireError}
use Rattle.wire.specs.declared.error.WireError.TheVariants.{NoRoom}
use Rattle.wire.proofs.LayoutLaws.{length_row_words, length_value_words}
use Rattle.wire_read.specs.Stages.{room_order}
use Rattle.wire_read.specs.Reading.{reading}
use Rattle.wire_read.specs.Stages.{WalksRowset}
use Rattle.wire_read.specs.Paper.{paper_decoded}
use Rattle.wire_read.specs.Statement.{Decodes}
use Rattle.wire_read.proofs.ReadingLaws.{reading_walks}
use Rattle.wire_read.specs.declared.walk.Walked.{Walked}
use Rattle.std.specs.declared.result.Result.{Result}
use Rattle.std.specs.declared.result.Result.TheVariants.{Ok, Err}
use Rattle.wire_read.specs.declared.rowset.Decoded.{Decoded}

-- a run of stores from the front, where it fits
stored_over : (words table : List ℕ) → length words ≤ length table → sets table 0 words ≡ over words table
stored_over words table h = fitted_sets words table h ∙ fitted_fits words table h

-- an answer and what it leaves, told by the result
decodes : (s rows values : List ℕ) (r : Result Decoded WireError) (rows' values' : List ℕ) → paper_decoded r ≡ reading s (length rows) (length values)
    → rows' ≡ afterwards (paper_decoded r) (row_words s (count_at s 0) 8) rows → values' ≡ afterwards (paper_decoded r) (value_words s (count_at s 0) 8) values
    → Decodes s rows values r rows' values'
decodes s rows values r rows' values' means first second = (
  means,
  first ∙ ap (λ (a : Answer). afterwards a (row_words s (count_at s 0) 8) rows) means,
  second ∙ ap (λ (a : Answer). afterwards a (value_words s (count_at s 0) 8) values) means,
)

-- and back
pub decodes_told : (s rows values : List ℕ) (r : Result Decoded WireError) (rows' values' : List ℕ) → Decodes s rows values r rows' values'
    → (rows' ≡ afterwards (paper_decoded r) (row_words s (count_at s 0) 8) rows) × (values' ≡ afterwards (paper_decoded r) (value_words s (count_at s 0) 8) values)
decodes_told s rows values r rows' values' told = (
  told.1 ∙ ap (λ (a : Answer). afterwards a (row_words s (count_at s 0) 8) rows) (sym told.0),
  told.2 ∙ ap (λ (a : Answer). afterwards a (value_words s (count_at s 0) 8) values) (sym told.0),
)

module _ (s rows values : List ℕ) (r : Result Walked WireError) (walks : WalksRowset s r) where
  pub decode_refused : (refusal : WireError) → r ≡ Err refusal → Decodes s rows values (Err refusal) rows values
  decode_refused refusal e =
      let stopped : WalksRowset s (Err refusal) = rw e at walks in
      decodes s rows values (Err refusal) rows values (sym (reading_walks s (length rows) (length values) ∙ stopped _)) (sym (paper_keeps refusal _ rows)) (sym (paper_keeps refusal _ values))

  -- the input is accepted: the room is left to be looked at
  module _ (end n count : ℕ) (e : r ≡ Ok record { next = end; values = n }) (is : count ≡ count_at s 0) where
    passed : WalksRowset s (Ok record { next = end; values = n })
    passed = rw e at walks

    sum : n ≡ value_count s count 8
    sum = rw is passed.1

    pub decode_lies : next_rows s count 8 ≤ length s
    decode_lies = rw (is, ← passed.0) passed.2

    pub no_rows : length rows < count → Decodes s rows values (Err (NoRoom (record { room = Rows; needed = count; given = length rows }))) rows values
    unfolding room_order
    no_rows h = decodes s rows values (Err (NoRoom (record { room = Rows; needed = count; given = length rows }))) rows values (sym (reading_walks s (length rows) (length values) ∙ passed.3 _ ∙ rw (← is, lt-ltb (length rows) count h))) refl refl

    module _ (fits : count ≤ length rows) where
      pub no_values : length values / entry_words < n → Decodes s rows values (Err (NoRoom (record { room = Values; needed = n; given = length values / entry_words }))) rows values
      unfolding room_order
      no_values h =
          decodes s rows values (Err (NoRoom (record { room = Values; needed = n; given = length values / entry_words }))) rows values
          (sym (reading_walks s (length rows) (length values) ∙ passed.3 _ ∙ rw (← is, le-ltb (length rows) count fits, ← sum, lt-ltb (length values / entry_words) n h))) refl refl

      module _ (room : n ≤ length values / entry_words) where
        pub decode_room : entry_words * value_count s count 8 ≤ length values
        decode_room = omega (arith, sum)

        pub decode_read : (rows' values' : List ℕ) → rows' ≡ sets rows 0 (row_words s count 8) → values' ≡ sets values 0 (value_words s count 8)
            → Decodes s rows values (Ok record { rows = count; values = n }) rows' values'
        unfolding room_order
        decode_read rows' values' first second =
            let few : length (row_words s count 8) ≤ length rows = rw (length_row_words s count 8) fits in
            let some : length (value_words s count 8) ≤ length values = rw (length_value_words s count 8) decode_room in
            decodes s rows values (Ok record { rows = count; values = n }) rows' values'
            (sym (reading_walks s (length rows) (length values) ∙ passed.3 _ ∙ rw (← is, le-ltb (length rows) count fits, ← sum, le-ltb (length values / entry_words) n room)))
            (rw (← is) (first ∙ stored_over (row_words s count 8) rows few))
            (rw (← is) (second ∙ stored_over (value_words s count 8) values some))
