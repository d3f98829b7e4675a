-- What the answers mean in the documents' terms. Assumes nothing.
use Rattle.std.specs.Prelude.{ℕ, [], ◌∷◌, Result, Ok, Err}
use Rattle.words.specs.Answer.{Answer, accepted, refuse}
use Rattle.words.specs.Paper.{no_room_values}
use Rattle.yson.specs.declared.Fault.{Fault}
use Rattle.yson.specs.declared.Fault.TheVariants.{BadYson, TooDeep}
use Rattle.yson.specs.declared.YsonError.{YsonError}
use Rattle.yson.specs.declared.YsonError.TheVariants.{Broken, Short}

abbrev pub fault_paper : Fault → Answer
fault_paper (BadYson place) = refuse 20 (place ∷ [])
fault_paper (TooDeep place) = refuse 21 (place ∷ [])

abbrev pub paper : Result ℕ YsonError → Answer
paper (Ok n) = accepted 0 (n ∷ [])
paper (Err (Broken fault)) = fault_paper fault
paper (Err (Short short)) = refuse 17 (no_room_values short)
