-- What `read_known` promises, by name, and what its caller hands on of a field that was read. Assumes nothing.
use Rattle.std.specs.Prelude.{ℕ, ◌<◌, ◌≤◌, ◌≡◌, true, false, List, length, Option, Some, None}
use Rattle.field.specs.Field.{type_code, number_at, type_at, value_at, content_at, stop_at}
use Rattle.field.specs.declared.field.Field.{Field}
use Rattle.error_tree.specs.Message.{whole_in}

-- the field at `at` of a message that knows so many; or none
abbrev pub ReadsKnown : ℕ → List ℕ → ℕ → ℕ → Option Field → Type 0
ReadsKnown known s at end (Some f) =
    (whole_in known s at end ≡ true) × (f.number ≡ number_at s at) × (type_code f.wire ≡ type_at s at)
    × (f.value ≡ value_at s at) × (f.content ≡ content_at s at) × (f.stop ≡ stop_at s at) × (at < f.content)
    × (f.content ≤ f.stop) × (f.stop ≤ end)
ReadsKnown known s at end None = whole_in known s at end ≡ false

-- the field at `at`, as it was read
abbrev pub Lies : List ℕ → ℕ → Field → Type 0
Lies s at f =
    (f.number ≡ number_at s at) × (f.content ≡ content_at s at) × (f.stop ≡ stop_at s at) × (at < f.content)
    × (f.content ≤ f.stop) × (f.stop ≤ length s)
