-- An example of the readings, `{"a"=<>#;}`: its derivation, and its one item. Assumes nothing.
use mathlib.Core.Path.{◌≡◌, refl}
use mathlib.Core.List.{List, [], ◌∷◌}
use Prim.Native.Nat.{ℕ}
use Rattle.words.specs.Buffer.{over}
use Rattle.varint.specs.Varint.{size_in, value_in}
use Rattle.yson_token.specs.Token.{within, number_end, string_from, text_end, punctuation, scalar, scalar_end, token_end}
use Rattle.yson_grammar.specs.Grammar.{plain, attributed, single, map, more, mapped, pair, Yson}
use Rattle.yson_grammar.specs.Grammar as Grammar
use Rattle.yson_grammar.specs.Items.{places, entry, entries, of_object, outer}
use Rattle.yson.specs.Statement.{Lists}
use Rattle.std.specs.declared.result.Result.TheVariants.{Ok}
use Rattle.yson_promises.proofs.Yson.{yson_items}

abbrev note : List ℕ
note = 0x7b ∷ 0x01 ∷ 0x02 ∷ 0x61 ∷ 0x3d ∷ 0x3c ∷ 0x3e ∷ 0x23 ∷ 0x3b ∷ 0x7d ∷ []

derived : Yson note
unfolding size_in value_in within number_end string_from text_end punctuation scalar scalar_end token_end
derived =
    plain (map
    (record { first = refl; whole = refl })
    (more
    (mapped (pair
    (record { first = refl; whole = refl })
    (record { first = refl; whole = refl })
    (attributed (record { first = refl; whole = refl }) (Grammar.none (record { first = refl; whole = refl })) (single refl refl))))
    (record { first = refl; whole = refl })
    (Grammar.none (record { first = refl; whole = refl }))))

item : outer derived ≡ 1 ∷ 4 ∷ 5 ∷ 8 ∷ []
unfolding derived outer of_object entries entry places
item = refl

-- what the reader says of it and leaves in the table
pub note_listed : (before after : List ℕ) (n : ℕ) → Lists note before (Ok n) after → after ≡ over (1 ∷ 4 ∷ 5 ∷ 8 ∷ []) before
note_listed before after n l = rw item at (yson_items note before after n l derived).2
