-- The readings' places, by computing, and their example of a whole text. Assumes nothing.
use mathlib.Core.Path.{◌≡◌, refl}
use mathlib.Core.List.{List, [], ◌∷◌, ◌++◌}
use Rattle.places.specs.Place.{Place}
use Rattle.places.specs.Machine.{run}
use Rattle.words.specs.Text.{digit, spelled}
use Rattle.words.specs.Text as plain
use Rattle.wire.specs.Content.{nothing, bytes, null, values}
use Rattle.text_form.specs.Form.{tab, line_feed, text, row_text, more, cell_text, head, letter_of, units, unit, capital, Accepted}
use Rattle.text_form.specs.Walk.{step, close, type_of, small_value, capital_value, cell_of}
use Rattle.text_form.proofs.Exactly.{walk_place}

-- two values, a null row, an empty row
pub whole :
    text (values (cell_of 5 0 16 (bytes (plain.text "a b")) ∷ cell_of 65_535 1 2 nothing ∷ []) ∷ null ∷ values [] ∷ [])
    ≡ (plain.text "5:sa%20b") ++ (tab ∷ (plain.text "65535:!n") ++ (line_feed ∷ (plain.text "#") ++ (line_feed ∷ line_feed ∷ [])))
unfolding text row_text more cell_text head letter_of spelled digit units unit capital
whole = refl

pub places :
    (Place Accepted (plain.text "x") 0
    × Place Accepted ((plain.text ":n") ++ (line_feed ∷ [])) 0
    × Place Accepted ((tab ∷ []) ++ ((plain.text "5:n") ++ (line_feed ∷ []))) 0
    × Place Accepted (plain.text "#") 1
    × Place Accepted (plain.text "##") 1
    × Place Accepted ((plain.text "#5:n") ++ (line_feed ∷ [])) 1
    × Place Accepted ((line_feed ∷ line_feed ∷ []) ++ (plain.text "x")) 2
    × Place Accepted (plain.text "5") 1
    × Place Accepted ((plain.text "5") ++ (line_feed ∷ [])) 1
    × Place Accepted ((plain.text "00:n") ++ (line_feed ∷ [])) 1
    × Place Accepted ((plain.text "65536:n") ++ (line_feed ∷ [])) 4
    × Place Accepted (plain.text "70000") 4
    × Place Accepted ((plain.text "100000:n") ++ (line_feed ∷ [])) 5
    × Place Accepted (plain.text "5:") 2
    × Place Accepted ((plain.text "5:!!n") ++ (line_feed ∷ [])) 3
    × Place Accepted ((plain.text "5:N") ++ (line_feed ∷ [])) 2
    × Place Accepted (plain.text "5:n") 3
    × Place Accepted ((plain.text "5:n0") ++ (line_feed ∷ [])) 3
    × Place Accepted ((plain.text "5:n") ++ (13 ∷ line_feed ∷ [])) 3
    × Place Accepted ((plain.text "5:iF") ++ (line_feed ∷ [])) 3
    × Place Accepted ((plain.text "5:i000000000000000") ++ (line_feed ∷ [])) 18
    × Place Accepted ((plain.text "5:i0123456789abcdef0") ++ (line_feed ∷ [])) 19
    × Place Accepted (plain.text "5:b1") 3
    × Place Accepted ((plain.text "5:b0000000000000010") ++ (line_feed ∷ [])) 17
    × Place Accepted ((plain.text "5:b0000000000000002") ++ (line_feed ∷ [])) 18
    × Place Accepted ((plain.text "5:b000000000000000") ++ (line_feed ∷ [])) 18
    × Place Accepted (plain.text "5:s") 3
    × Place Accepted ((plain.text "5:sa b") ++ (line_feed ∷ [])) 4
    × Place Accepted ((plain.text "5:s") ++ (0x7f ∷ [])) 3
    × Place Accepted ((plain.text "5:s") ++ (0x80 ∷ [])) 3
    × Place Accepted (plain.text "5:s%") 4
    × Place Accepted (plain.text "5:s%%") 4
    × Place Accepted (plain.text "5:s%2") 5
    × Place Accepted (plain.text "5:s%20") 6
    × Place Accepted ((plain.text "5:s%21") ++ (line_feed ∷ [])) 5
    × Place Accepted ((plain.text "5:s%41") ++ (line_feed ∷ [])) 4
    × Place Accepted ((plain.text "5:s%a0") ++ (line_feed ∷ [])) 4
    × Place Accepted ((plain.text "5:s%7E") ++ (line_feed ∷ [])) 5
    × Place Accepted ((plain.text "5:s%7f") ++ (line_feed ∷ [])) 5
    × Place Accepted ((plain.text "5:s%0a") ++ (line_feed ∷ [])) 5
    × Place Accepted ((plain.text "5:n") ++ (tab ∷ [])) 4
    × Place Accepted ((plain.text "5:n") ++ (tab ∷ line_feed ∷ [])) 4
    × Place Accepted ((plain.text "5:n") ++ ((tab ∷ []) ++ ((plain.text "#") ++ (line_feed ∷ [])))) 4
    × Place Accepted ((plain.text "5:n") ++ ((tab ∷ []) ++ (plain.text "5:n"))) 7
    × Place Accepted (plain.text "5:i0123456789abcdef") 19)
unfolding run step close type_of small_value capital_value
places = (
  walk_place _ 0 tt refl,
  walk_place _ 0 tt refl,
  walk_place _ 0 tt refl,
  walk_place _ 1 tt refl,
  walk_place _ 1 tt refl,
  walk_place _ 1 tt refl,
  walk_place _ 2 tt refl,
  walk_place _ 1 tt refl,
  walk_place _ 1 tt refl,
  walk_place _ 1 tt refl,
  walk_place _ 4 tt refl,
  walk_place _ 4 tt refl,
  walk_place _ 5 tt refl,
  walk_place _ 2 tt refl,
  walk_place _ 3 tt refl,
  walk_place _ 2 tt refl,
  walk_place _ 3 tt refl,
  walk_place _ 3 tt refl,
  walk_place _ 3 tt refl,
  walk_place _ 3 tt refl,
  walk_place _ 18 tt refl,
  walk_place _ 19 tt refl,
  walk_place _ 3 tt refl,
  walk_place _ 17 tt refl,
  walk_place _ 18 tt refl,
  walk_place _ 18 tt refl,
  walk_place _ 3 tt refl,
  walk_place _ 4 tt refl,
  walk_place _ 3 tt refl,
  walk_place _ 3 tt refl,
  walk_place _ 4 tt refl,
  walk_place _ 4 tt refl,
  walk_place _ 5 tt refl,
  walk_place _ 6 tt refl,
  walk_place _ 5 tt refl,
  walk_place _ 4 tt refl,
  walk_place _ 4 tt refl,
  walk_place _ 5 tt refl,
  walk_place _ 5 tt refl,
  walk_place _ 5 tt refl,
  walk_place _ 4 tt refl,
  walk_place _ 4 tt refl,
  walk_place _ 4 tt refl,
  walk_place _ 7 tt refl,
  walk_place _ 19 tt refl,
)
