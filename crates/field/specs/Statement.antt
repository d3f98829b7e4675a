-- What the functions promise, by name. Assumes nothing.
use Rattle.std.specs.Prelude.{ℕ, ◌<◌, ◌≤◌, ◌≡◌, true, false, List, Option, Some, None}
use Rattle.field.specs.Field.{type_code, number_at, type_at, value_at, content_at, stop_at, whole_field}
use Rattle.field.specs.declared.field.Field.{Field}

-- the field at `at`; or none that is whole by `end`
abbrev pub ReadsField : List ℕ → ℕ → ℕ → Option Field → Type 0
ReadsField s at end (Some f) =
    (whole_field s at end ≡ true) × (f.number ≡ number_at s at) × (type_code f.wire ≡ type_at s at)
    × (f.value ≡ value_at s at) × (f.content ≡ content_at s at) × (f.stop ≡ stop_at s at) × (at < f.content)
    × (f.content ≤ f.stop) × (f.stop ≤ end)
ReadsField s at end None = whole_field s at end ≡ false
