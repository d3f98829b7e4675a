-- The tokens of YSON's binary form (document 02, A4): where the token that begins at an offset ends. A byte past the
-- end of the input counts as 0, which begins no token. Assumes nothing.
use Rattle.std.specs.Prelude.{ℕ, ◌+◌, ◌/◌, ◌%◌, ◌^◌, Bool, true, List, [], ◌∷◌, length, get_or}
use Rattle.words.specs.Decide.{Line, decide, pick, ◌⇒◌, ◌<?◌, ◌=?◌}
use Rattle.varint.specs.Varint.{varint_at, varint_end, whole_varint}

-- What a token's first byte is.

abbrev pub string_mark : ℕ
string_mark = 0x01

abbrev pub signed_mark : ℕ
signed_mark = 0x02

abbrev pub double_mark : ℕ
double_mark = 0x03

abbrev pub false_mark : ℕ
false_mark = 0x04

abbrev pub true_mark : ℕ
true_mark = 0x05

abbrev pub unsigned_mark : ℕ
unsigned_mark = 0x06

-- #
abbrev pub entity_mark : ℕ
entity_mark = 35

-- ;
abbrev pub separator : ℕ
separator = 59

-- =
abbrev pub equals_sign : ℕ
equals_sign = 61

pub data Bracket : Type 0 where
  -- [ ]  a list's
  square : Bracket
  -- { }  a map's
  curly : Bracket
  -- < >  attributes'
  angle : Bracket

abbrev pub opening : Bracket → ℕ
opening square = 91
opening curly = 123
opening angle = 60

abbrev pub closing : Bracket → ℕ
closing square = 93
closing curly = 125
closing angle = 62

-- a token of one byte: [ ] { } < > ; =
unfoldable pub punctuation : ℕ → Bool
punctuation b =
    decide
    (b =? opening square ⇒ true
    ∷ b =? closing square ⇒ true
    ∷ b =? opening curly ⇒ true
    ∷ b =? closing curly ⇒ true
    ∷ b =? opening angle ⇒ true
    ∷ b =? closing angle ⇒ true
    ∷ b =? separator ⇒ true
    ∷ [])
    (b =? equals_sign)

-- what begins a scalar
unfoldable pub scalar : ℕ → Bool
scalar b =
    decide
    (b =? string_mark ⇒ true
    ∷ b =? signed_mark ⇒ true
    ∷ b =? double_mark ⇒ true
    ∷ b =? false_mark ⇒ true
    ∷ b =? true_mark ⇒ true
    ∷ b =? unsigned_mark ⇒ true
    ∷ [])
    (b =? entity_mark)

pub data End : Type 0 where
  -- a whole token ends here
  end : ℕ → End
  -- no whole token begins here
  none : End

-- an end within the input
unfoldable pub within : List ℕ → ℕ → End
within s e = decide (length s <? e ⇒ none ∷ []) (end e)

-- a varint of 64 bits
unfoldable pub number_end : List ℕ → ℕ → End
number_end s at = pick (whole_varint s at (length s)) (end (varint_end s at)) none

-- a length, zigzag in 32 bits and not negative, and as many bytes
unfoldable pub string_from : List ℕ → ℕ → ℕ → End
string_from s value e = decide ((value % 2) =? 1 ⇒ none ∷ value <? (2 ^ 32) ⇒ within s (e + value / 2) ∷ []) none

unfoldable pub text_end : List ℕ → ℕ → End
text_end s at = pick (whole_varint s at (length s)) (string_from s (varint_at s at) (varint_end s at)) none

-- where a scalar whose first byte is b ends
abbrev pub scalars : List ℕ → ℕ → ℕ → List (Line End)
scalars s at b =
    b =? string_mark ⇒ text_end s (at + 1)
    ∷ b =? signed_mark ⇒ number_end s (at + 1)
    ∷ b =? double_mark ⇒ within s (at + 9)
    ∷ b =? false_mark ⇒ end (at + 1)
    ∷ b =? true_mark ⇒ end (at + 1)
    ∷ b =? unsigned_mark ⇒ number_end s (at + 1)
    ∷ b =? entity_mark ⇒ end (at + 1)
    ∷ []

unfoldable pub scalar_end : List ℕ → ℕ → End
scalar_end s at = decide (scalars s at (get_or s at 0)) none

unfoldable pub token_end : List ℕ → ℕ → End
token_end s at = decide (punctuation (get_or s at 0) ⇒ end (at + 1) ∷ []) (scalar_end s at)

-- the end of a string: what may be a key
unfoldable pub key_end : List ℕ → ℕ → End
key_end s at = pick (get_or s at 0 =? string_mark) (text_end s (at + 1)) none
