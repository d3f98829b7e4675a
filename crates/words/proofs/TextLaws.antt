-- A literal computes to its bytes, a number to its digits. Assumes nothing.
use mathlib.Core.List.{[], ◌∷◌}
use mathlib.Core.Path.{◌≡◌, refl}
use Rattle.words.specs.Text.{text, digit, spelled}

end_spelled : text "end" ≡ 101 ∷ 110 ∷ 100 ∷ []
end_spelled = refl

decimal_spelled : spelled 10 20 65_536 ≡ text "65536"
unfolding spelled digit
decimal_spelled = refl

hex_spelled : spelled 16 8 0xabc ≡ text "abc"
unfolding spelled digit
hex_spelled = refl
