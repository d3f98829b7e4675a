-- Two results that meet a function's statement are equal. The maps to document 01's numbers lose nothing: each has one
-- that undoes it. Assumes nothing.
use mathlib.Core.Path.{◌≡◌, refl}
use mathlib.Core.List.{List}
use Prim.Native.Nat.{ℕ}
use Rattle.words.specs.Answer.{Answer}
use Rattle.words.specs.Statement.{OneResult}
use Rattle.words.proofs.Unique.{means_one, equal_to_one}
use Rattle.packet.specs.declared.Mode.{Mode}
use Rattle.packet.specs.declared.PacketType.{PacketType}
use Rattle.packet.proofs.Back.{told, told_back}
use Rattle.std.specs.declared.result.Result.TheVariants.{Ok, Err}
use Rattle.packet_check.specs.Paper.{Validated, Measured, paper_validated, paper_measured}
use Rattle.packet_check.specs.Statement.{Validates, Measures, TellsMeasured}

abbrev validated_back : Answer → Validated
validated_back = told (λ n. Ok tt) Err

validated_undone : (r : Validated) → validated_back (paper_validated r) ≡ r
validated_undone (Ok valid) = refl
validated_undone (Err error) = told_back (λ n. Ok tt) Err error 0

abbrev measured_back_lem : Answer → Measured
measured_back_lem = told Ok Err

measured_undone : (r : Measured) → measured_back_lem (paper_measured r) ≡ r
measured_undone (Ok n) = refl
measured_undone (Err error) = told_back Ok Err error 0

pub validate_unique : (mode : Mode) (type : PacketType) (area table : List ℕ) → OneResult (Validates mode type area table)
validate_unique mode type area table = means_one paper_validated validated_back validated_undone _

pub encoded_size_unique : (mode : Mode) (type : PacketType) (area table : List ℕ) → OneResult (Measures mode type area table)
encoded_size_unique mode type area table = means_one paper_measured measured_back_lem measured_undone _

pub outcome_unique : (answer : Measured) → OneResult (TellsMeasured answer)
outcome_unique answer = equal_to_one _
