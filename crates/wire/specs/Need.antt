-- A read of n bytes at an offset. Document 01: each read that lacks bytes gives 9 with its offset and shortage; where
-- the start lies past the end, 9 carries that start and all n. Assumes nothing.
use Rattle.std.specs.Prelude.{ℕ, ◌-◌, Bool, List, [], ◌∷◌, length, Result, Ok, Err}
use Prim.Native.String.{String}
use Rattle.words.specs.Answer.{Answer, accepted, refuse}
use Rattle.words.specs.Decide.{Line, ◌⇒◌, decide, ◌<?◌}
use Rattle.words.specs.Note.{Told, ◌because◌, finds, number}
use Rattle.words.specs.Statement.{Means}
use Rattle.wire.specs.Paper.{paper}
use Rattle.wire.specs.declared.error.WireError.{WireError}

-- n bytes are not there from `at` on (past the end none is)
abbrev pub lacks : List ℕ → ℕ → ℕ → Bool
lacks s at n = (length s - at) <? n

-- 9: the offset of the read, and how many bytes are short
abbrev pub truncated : List ℕ → ℕ → ℕ → Answer
truncated s at n = refuse 9 (at ∷ (n - (length s - at)) ∷ [])

-- the line of a read, by the name of what is read
abbrev pub reads : String → List ℕ → ℕ → ℕ → Line Told
reads field s at n = lacks s at n ⇒ (truncated s at n because finds field at (length s - at) (number n))

-- a read, and what it answers where its bytes are there
abbrev pub needing : List ℕ → ℕ → ℕ → Answer → Answer
needing s at n there = decide (lacks s at n ⇒ truncated s at n ∷ []) there

abbrev pub paper_needed : Result (Unit {0}) WireError → Answer
paper_needed (Ok there) = accepted 0 []
paper_needed (Err refusal) = paper refusal

abbrev pub Needs : List ℕ → ℕ → ℕ → Result (Unit {0}) WireError → Type 0
Needs s at n r = Means paper_needed (needing s at n (accepted 0 [])) r
