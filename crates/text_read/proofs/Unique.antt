-- One result for the statement, and one exit of each lent buffer. Assumes nothing.
use mathlib.Core.Path.{◌≡◌}
use mathlib.Core.List.{List}
use Prim.Native.Nat.{ℕ, ◌/◌}
use lib.ListN.{length}
use Rattle.words.specs.Answer.{Answer}
use Rattle.words.proofs.Unique.{means_one, holds_one}
use Rattle.wire.specs.Layout.{entry_words}
use Rattle.text_steps.specs.Tables.{row_table, value_table, area_bytes}
use Rattle.text_walk.specs.Paper.{walked_paper}
use Rattle.text_walk.specs.Statement.{walking}
use Rattle.std.specs.declared.result.Result.{Result}
use Rattle.text_walk.specs.declared.error.TextError.{TextError}
use Rattle.text_walk.specs.declared.walk.Walked.{Walked}
use Rattle.text_walk.proofs.Unique.{walked_of, walked_back}
use Rattle.text_read.specs.Statement.{rows_read, reading_text, ReadsText}

pub read_text_unique : (s rows values area : List ℕ) (r r' : Result Walked TextError) (a a' b b' d d' : List ℕ) → ReadsText s rows values area r a b d → ReadsText s rows values area r' a' b' d'
    → (r ≡ r') × (a ≡ a') × (b ≡ b') × (d ≡ d')
read_text_unique s rows values area r r' a a' b b' d d' p q =
    let answer : Answer = reading_text s (length rows) (length values / entry_words) (length area) in (
      means_one walked_paper walked_of walked_back answer r r' p.means q.means,
      holds_one answer (row_table (rows_read (walking s))) rows a a' p.rows_hold q.rows_hold,
      holds_one answer (value_table (rows_read (walking s))) values b b' p.values_hold q.values_hold,
      holds_one answer (area_bytes (rows_read (walking s))) area d d' p.area_holds q.area_holds,
    )
