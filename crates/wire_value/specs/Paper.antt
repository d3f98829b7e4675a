-- Document 01's answer for a value or a refusal: the five words of the value's entry, with the next offset. Assumes
-- nothing.
use Rattle.std.specs.Prelude.{ℕ, Bool, true, false, List, [], ◌∷◌, Result, Ok, Err}
use Rattle.words.specs.Answer.{Answer, accepted}
use Rattle.wire.specs.Layout.{null_type, int64, uint64, double, boolean, string, any, composite}
use Rattle.wire.specs.Paper.{paper}
use Rattle.wire.specs.declared.error.WireError.{WireError}
use Rattle.wire_value.specs.declared.value.Value.{Value}
use Rattle.wire_value.specs.declared.value.Value.TheVariants.{Null, Int64, Uint64, Double, Boolean, String, Any, Composite}
use Rattle.wire_value.specs.declared.value.UnversionedValue.{UnversionedValue}

-- the entry of a value with this id, aggregate flag and a scalar's bits: its type's number stands second, a scalar's
-- bits or a blob's offset fourth, a blob's length fifth
abbrev pub entry_of : ℕ → ℕ → ℕ → Value → List ℕ
entry_of id aggregate bits Null = id ∷ null_type ∷ aggregate ∷ bits ∷ 0 ∷ []
entry_of id aggregate bits (Int64 n) = id ∷ int64 ∷ aggregate ∷ bits ∷ 0 ∷ []
entry_of id aggregate bits (Uint64 n) = id ∷ uint64 ∷ aggregate ∷ bits ∷ 0 ∷ []
entry_of id aggregate bits (Double x) = id ∷ double ∷ aggregate ∷ bits ∷ 0 ∷ []
entry_of id aggregate bits (Boolean b) = id ∷ boolean ∷ aggregate ∷ bits ∷ 0 ∷ []
entry_of id aggregate bits (String offset n) = id ∷ string ∷ aggregate ∷ offset ∷ n ∷ []
entry_of id aggregate bits (Any offset n) = id ∷ any ∷ aggregate ∷ offset ∷ n ∷ []
entry_of id aggregate bits (Composite offset n) = id ∷ composite ∷ aggregate ∷ offset ∷ n ∷ []

abbrev pub bit : Bool → ℕ
bit true = 1
bit false = 0

abbrev pub paper_value : Result UnversionedValue WireError → Answer
paper_value (Ok v) = accepted v.next (entry_of v.id (bit v.aggregate) v.bits v.value)
paper_value (Err refusal) = paper refusal
