-- One result for each statement. Assumes nothing.
use mathlib.Core.Path.{refl, sym, ◌∙◌, ap}
use mathlib.Core.List.{List}
use Prim.Native.Nat.{ℕ}
use native.Mathlib.Omega.{arith}
use Rattle.words.specs.Statement.{OneResult}
use Rattle.words.proofs.Unique.{equal_to_one}
use Rattle.packet.specs.declared.PacketType.{PacketType}
use Rattle.packet.specs.declared.Mode.{Mode}
use Rattle.std.specs.declared.option.Option.TheVariants.{Some, None}
use Rattle.packet.specs.declared.PacketFlags.{PacketFlags}
use Rattle.packet.specs.declared.PacketError.{PacketError}
use Rattle.packet.specs.Statement.{NumbersType, FindsType, Refuses, TellsRetired, TellsVariableHeader, Contains, TellsNull, TellsOutside, LendsPart}
use Rattle.packet.proofs.Back.{type_injective, type_known}

pub type_number_unique : (type : PacketType) → OneResult (NumbersType type)
type_number_unique type = equal_to_one _

pub type_of_unique : (number : ℕ) → OneResult (FindsType number)
type_of_unique number (Some t) (Some t') p q = ap Some (type_injective t t' (p ∙ sym q))
type_of_unique number (Some t) None p q = absurd (omega (arith, p, q, type_known t))
type_of_unique number None (Some t) p q = absurd (omega (arith, p, q, type_known t))
type_of_unique number None None p q = refl

pub refused_unique : (error : PacketError) (consumed : ℕ) → OneResult (Refuses error consumed)
refused_unique error consumed = equal_to_one _

pub is_retired_unique : (mode : Mode) (type : PacketType) → OneResult (TellsRetired mode type)
is_retired_unique mode type = equal_to_one _

pub has_variable_header_unique : (type : PacketType) (n : ℕ) → OneResult (TellsVariableHeader type n)
has_variable_header_unique type n = equal_to_one _

pub contains_unique : (flags other : PacketFlags) → OneResult (Contains flags other)
contains_unique flags other = equal_to_one _

pub is_null_unique : (offset size : ℕ) → OneResult (TellsNull offset size)
is_null_unique offset size = equal_to_one _

pub is_outside_unique : (given offset size : ℕ) → OneResult (TellsOutside given offset size)
is_outside_unique given offset size = equal_to_one _

-- the stretch and its place
pub part_unique : (input table : List ℕ) (i : ℕ) (from : ℕ × ℕ)
    → OneResult (λ (x : List ℕ × (ℕ × ℕ)). LendsPart input table i from x.0 x.1)
part_unique input table i from x x' p q =
    λ j. ((p.bytes ∙ sym q.bytes) j, ((p.block ∙ sym q.block) j, (p.offset ∙ sym q.offset) j))
