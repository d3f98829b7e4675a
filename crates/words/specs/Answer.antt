-- What a definition answers, in document 01's terms: accepted, need-more, or a refusal by its number.
-- Each enum of the code has a map to this type, and the contracts speak of its image. Assumes nothing.
use Rattle.std.specs.Prelude.{ℕ, List}
use Rattle.words.specs.Buffer.{over}

pub data Answer : Type 0 where
  -- how many bytes were consumed or written, and the answer's fields
  accepted : ℕ → List ℕ → Answer
  -- the input may become acceptable with more bytes; nothing was consumed
  more : Answer
  -- document 01's number, the values it carries, and how many bytes were consumed
  refused : ℕ → List ℕ → ℕ → Answer

-- a refusal that consumes nothing: all but number 7
abbrev pub refuse : ℕ → List ℕ → Answer
refuse number values = refused number values 0

-- need-more or a refusal
abbrev pub NotTaken : Answer → Type 0
NotTaken (accepted n fields) = ⊥
NotTaken more = Unit {0}
NotTaken (refused number values consumed) = Unit {0}

-- What a lent table or buffer that held xs holds after an answer: ws over its front where that is accepted, else xs as
-- it was. Document 01: "All lent memory keeps its contents."
abbrev pub afterwards : Answer → List ℕ → List ℕ → List ℕ
afterwards (accepted n fields) ws xs = over ws xs
afterwards more ws xs = xs
afterwards (refused number values consumed) ws xs = xs
