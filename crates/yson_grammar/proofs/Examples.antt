-- The cases that the readings name, computed. Assumes nothing.
use mathlib.Core.Path.{◌≡◌, refl}
use mathlib.Core.List.{[], ◌∷◌, ◌++◌}
use lib.ListN.{replicate}
use Rattle.varint.specs.Varint.{size_in, value_in}
use Rattle.yson_token.specs.Token.{within, number_end, string_from, text_end, punctuation, scalar, scalar_end, token_end}
use Rattle.yson_grammar.specs.Stages.{good, bad, deep, as_object, as_node, as_key, step, complete, taken, after, run, verdict}

-- # alone, nothing, #;#, #;
one : verdict (35 ∷ []) ≡ good
unfolding size_in value_in within number_end string_from text_end punctuation scalar scalar_end token_end as_object as_node as_key step complete taken after run
one = refl

none : verdict [] ≡ bad 0
unfolding size_in value_in within number_end string_from text_end punctuation scalar scalar_end token_end as_object as_node as_key step complete taken after run
none = refl

fragment : verdict (35 ∷ 59 ∷ 35 ∷ []) ≡ bad 1
unfolding size_in value_in within number_end string_from text_end punctuation scalar scalar_end token_end as_object as_node as_key step complete taken after run
fragment = refl

-- [#;] [;] [#;;] [##] [#
trailing : verdict (91 ∷ 35 ∷ 59 ∷ 93 ∷ []) ≡ good
unfolding size_in value_in within number_end string_from text_end punctuation scalar scalar_end token_end as_object as_node as_key step complete taken after run
trailing = refl

bare : verdict (91 ∷ 59 ∷ 93 ∷ []) ≡ bad 1
unfolding size_in value_in within number_end string_from text_end punctuation scalar scalar_end token_end as_object as_node as_key step complete taken after run
bare = refl

twice : verdict (91 ∷ 35 ∷ 59 ∷ 59 ∷ 93 ∷ []) ≡ bad 3
unfolding size_in value_in within number_end string_from text_end punctuation scalar scalar_end token_end as_object as_node as_key step complete taken after run
twice = refl

unparted : verdict (91 ∷ 35 ∷ 35 ∷ 93 ∷ []) ≡ bad 2
unfolding size_in value_in within number_end string_from text_end punctuation scalar scalar_end token_end as_object as_node as_key step complete taken after run
unparted = refl

-- <><># <> [<>]
attributes_twice : verdict (60 ∷ 62 ∷ 60 ∷ 62 ∷ 35 ∷ []) ≡ bad 2
unfolding size_in value_in within number_end string_from text_end punctuation scalar scalar_end token_end as_object as_node as_key step complete taken after run
attributes_twice = refl

attributes_alone : verdict (60 ∷ 62 ∷ []) ≡ bad 2
unfolding size_in value_in within number_end string_from text_end punctuation scalar scalar_end token_end as_object as_node as_key step complete taken after run
attributes_alone = refl

attributes_in_list : verdict (91 ∷ 60 ∷ 62 ∷ 93 ∷ []) ≡ bad 3
unfolding size_in value_in within number_end string_from text_end punctuation scalar scalar_end token_end as_object as_node as_key step complete taken after run
attributes_in_list = refl

-- 01 82 80 80 80 80 80 80 80 80 00 61; one more 80; 2^32 + 2; a negative length; a cut string in a list
overlong : verdict (1 ∷ 130 ∷ 128 ∷ 128 ∷ 128 ∷ 128 ∷ 128 ∷ 128 ∷ 128 ∷ 128 ∷ 0 ∷ 97 ∷ []) ≡ good
unfolding size_in value_in within number_end string_from text_end punctuation scalar scalar_end token_end as_object as_node as_key step complete taken after run
overlong = refl

too_long : verdict (1 ∷ 130 ∷ 128 ∷ 128 ∷ 128 ∷ 128 ∷ 128 ∷ 128 ∷ 128 ∷ 128 ∷ 128 ∷ 0 ∷ 97 ∷ []) ≡ bad 0
unfolding size_in value_in within number_end string_from text_end punctuation scalar scalar_end token_end as_object as_node as_key step complete taken after run
too_long = refl

too_large : verdict (1 ∷ 130 ∷ 128 ∷ 128 ∷ 128 ∷ 16 ∷ 97 ∷ []) ≡ bad 0
unfolding size_in value_in within number_end string_from text_end punctuation scalar scalar_end token_end as_object as_node as_key step complete taken after run
too_large = refl

negative : verdict (1 ∷ 1 ∷ 97 ∷ []) ≡ bad 0
unfolding size_in value_in within number_end string_from text_end punctuation scalar scalar_end token_end as_object as_node as_key step complete taken after run
negative = refl

cut : verdict (91 ∷ 1 ∷ 4 ∷ 97 ∷ []) ≡ bad 1
unfolding size_in value_in within number_end string_from text_end punctuation scalar scalar_end token_end as_object as_node as_key step complete taken after run
cut = refl

-- [ × 65, [ × 64, [ × 63 { {, [ × 63 <> []
deeper : verdict (replicate 65 91) ≡ deep 64
unfolding size_in value_in within number_end string_from text_end punctuation scalar scalar_end token_end as_object as_node as_key step complete taken after run
deeper = refl

deepest : verdict (replicate 64 91) ≡ bad 64
unfolding size_in value_in within number_end string_from text_end punctuation scalar scalar_end token_end as_object as_node as_key step complete taken after run
deepest = refl

no_key : verdict (replicate 63 91 ++ (123 ∷ 123 ∷ [])) ≡ bad 64
unfolding size_in value_in within number_end string_from text_end punctuation scalar scalar_end token_end as_object as_node as_key step complete taken after run
no_key = refl

closed : verdict (replicate 63 91 ++ (60 ∷ 62 ∷ 91 ∷ 93 ∷ []) ++ replicate 63 93) ≡ good
unfolding size_in value_in within number_end string_from text_end punctuation scalar scalar_end token_end as_object as_node as_key step complete taken after run
closed = refl
