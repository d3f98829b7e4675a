-- What `error_size` and `encode_error` answer in document 02's terms. Assumes nothing.
use Rattle.std.specs.Prelude.{ℕ, [], Result, Ok, Err}
use Rattle.words.specs.Answer.{Answer, accepted}
use Rattle.error_tree.specs.Paper.{paper}
use Rattle.error_tree.specs.declared.refusal.ErrorRefusal.{ErrorRefusal}

-- so many bytes, or the refusal
abbrev pub bytes_paper : Result ℕ ErrorRefusal → Answer
bytes_paper (Ok count) = accepted count []
bytes_paper (Err refusal) = paper refusal
