-- Worked examples, by computing. Assumes nothing.
use mathlib.Core.Path.{refl}
use mathlib.Core.List.{List, [], ◌∷◌}
use Prim.Native.Nat.{ℕ}
use native.Mathlib.Omega.{arith}
use Rattle.varint.specs.Varint.{size_in, value_in}
use Rattle.field.specs.Field.{payload_value, payload_content, payload_stop, whole_payload, whole_field}
use Rattle.error_tree.specs.Message.{wire_type, whole_in}
use Rattle.error_promises.specs.Unknown.{ended, put, kept, SameField, PutBetween, UnknownField}

-- an unknown field of each wire type: 5 a varint, eight bytes, two bytes, four bytes
number : UnknownField (0x28 ∷ 0x96 ∷ 1 ∷ [])
unfolding whole_in wire_type whole_field whole_payload payload_stop payload_content payload_value size_in value_in
number = record { whole = refl; all = refl; high = omega arith }

long : UnknownField (0x29 ∷ 1 ∷ 2 ∷ 3 ∷ 4 ∷ 5 ∷ 6 ∷ 7 ∷ 8 ∷ [])
unfolding whole_in wire_type whole_field whole_payload payload_stop payload_content payload_value size_in value_in
long = record { whole = refl; all = refl; high = omega arith }

bytes : UnknownField (0x2a ∷ 2 ∷ 0x61 ∷ 0x62 ∷ [])
unfolding whole_in wire_type whole_field whole_payload payload_stop payload_content payload_value size_in value_in
bytes = record { whole = refl; all = refl; high = omega arith }

short : UnknownField (0x2d ∷ 1 ∷ 2 ∷ 3 ∷ 4 ∷ [])
unfolding whole_in wire_type whole_field whole_payload payload_stop payload_content payload_value size_in value_in
short = record { whole = refl; all = refl; high = omega arith }

-- an attribute and an inner error
abbrev plain : List ℕ
plain = 0x1a ∷ 7 ∷ 0x0a ∷ 5 ∷ 0x0a ∷ 0 ∷ 0x12 ∷ 1 ∷ 0x76 ∷ 0x22 ∷ 3 ∷ 0x12 ∷ 1 ∷ 0x61 ∷ []

-- the same with four bytes in the attribute, a number in the dictionary and one in the inner error
abbrev mixed : List ℕ
mixed =
    0x1a ∷ 14 ∷ 0x0a ∷ 10 ∷ 0x0a ∷ 0 ∷ 0x1d ∷ 0 ∷ 0 ∷ 0 ∷ 0 ∷ 0x12 ∷ 1 ∷ 0x76 ∷ 0x10 ∷ 1
    ∷ 0x22 ∷ 5 ∷ 0x12 ∷ 1 ∷ 0x61 ∷ 0x28 ∷ 7 ∷ []

inside_all : PutBetween plain mixed
unfolding SameField whole_in wire_type whole_field whole_payload payload_stop payload_content payload_value size_in value_in
inside_all =
    kept {at = 0} {at' = 0} refl refl refl (
      (
        (λ one. absurd (omega arith)),
        (λ two. absurd (omega arith)),
        (λ three.
            kept {at = 2} {at' = 2} refl refl refl
            (λ one.
            kept {at = 4} {at' = 4} refl refl refl (λ low. (refl, refl))
            (put {at = 6} {at' = 6} refl (omega arith)
            (kept {at = 6} {at' = 11} refl refl refl (λ low. (refl, refl)) (ended {at = 9} {at' = 14} (omega arith) (omega arith)))))
            (put {at = 9} {at' = 14} refl (omega arith) (ended {at = 9} {at' = 16} (omega arith) (omega arith)))),
      ),
      (λ four. absurd (omega arith)),
    )
    (kept {at = 9} {at' = 16} refl refl refl (
      ((λ one. absurd (omega arith)), (λ two. absurd (omega arith)), (λ three. absurd (omega arith))),
      (λ four.
          kept {at = 11} {at' = 18} refl refl refl
          (((λ one. absurd (omega arith)), (λ two. (refl, refl)), (λ three. absurd (omega arith))), (λ more. absurd (omega arith)))
          (put {at = 14} {at' = 21} refl (omega arith) (ended {at = 14} {at' = 23} (omega arith) (omega arith)))),
    )
    (ended {at = 14} {at' = 23} (omega arith) (omega arith)))
