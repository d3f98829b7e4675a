-- What `read_whole` promises: the bytes that it tells lie in the buffer. What a system call reads no contract can say.
-- Assumes nothing.
use Rattle.std.specs.Prelude.{ℕ, ◌≤◌, List, ◌≡◌, length, take, None, Some, Result, Ok, Err}
use Rattle.std.specs.declared.option.Option.{Option}

abbrev pub Inside : {E : Type 0} → List ℕ → Result ℕ E → Type 0
Inside buffer (Ok count) = (count ≤ length buffer) × (count ≡ length (take count buffer))
Inside buffer (Err failure) = Unit {0}

-- Where it is known which bytes a reader has: those at the buffer's front are all of them, or as many as it holds.
abbrev pub ReadsWhole : {E : Type 0} → Option (List ℕ) → List ℕ → Result ℕ E → Type 0
ReadsWhole (Some bytes) buffer (Ok count) = take count buffer ≡ take (length buffer) bytes
ReadsWhole (Some bytes) buffer (Err failure) = Unit {0}
ReadsWhole None buffer answer = Unit {0}
