-- Worked examples, by computing. Assumes nothing.
use mathlib.Core.Path.{◌≡◌, refl}
use mathlib.Core.List.{[], ◌∷◌}
use Rattle.varint.specs.Varint.{groups}
use Rattle.error_write.specs.Written.{attribute_bytes, rows_of, entries_bytes, own_bytes, inners_bytes, error_bytes}

-- two errors, the second inside the first with the code -1, and two attributes, the later error's first
two : error_bytes (0x61 ∷ 0x62 ∷ []) (0 ∷ 1 ∷ 0 ∷ 1 ∷ 4294967295 ∷ 2 ∷ 0 ∷ 0 ∷ []) (1 ∷ 0 ∷ 1 ∷ 0 ∷ 0 ∷ 0 ∷ 1 ∷ 1 ∷ 0 ∷ 2 ∷ [])
    ≡ 0x08 ∷ 0 ∷ 0x12 ∷ 1 ∷ 0x61
    ∷ 0x1a ∷ 9 ∷ 0x0a ∷ 7 ∷ 0x0a ∷ 1 ∷ 0x62 ∷ 0x12 ∷ 2 ∷ 0x61 ∷ 0x62
    ∷ 0x22 ∷ 17 ∷ 0x08 ∷ 0xff ∷ 0xff ∷ 0xff ∷ 0xff ∷ 0x0f ∷ 0x12 ∷ 0 ∷ 0x1a ∷ 7 ∷ 0x0a ∷ 5 ∷ 0x0a ∷ 1 ∷ 0x61 ∷ 0x12 ∷ 0 ∷ []
unfolding attribute_bytes rows_of entries_bytes own_bytes inners_bytes error_bytes groups
two = refl
