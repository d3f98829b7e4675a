-- What a private function hands on; nobody has to believe it. Assumes nothing.
use Rattle.std.specs.Prelude.{ℕ, ◌<◌, ◌≡◌, Option, Some, None}
use Rattle.field.specs.Field.{type_code}
use Rattle.field.specs.declared.field.WireType.{WireType}
use Rattle.error_tree.specs.Message.{any_type, wire_type}

-- the wire type of a field that the message knows; or none
abbrev pub TypesField : ℕ → ℕ → Option WireType → Type 0
TypesField known number (Some own) = (wire_type known number ≡ type_code own) × (type_code own < any_type)
TypesField known number None = wire_type known number ≡ any_type
