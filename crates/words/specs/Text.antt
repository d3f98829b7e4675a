-- Text in definitions: a literal as its bytes, and numbers spelled in a base. Assumes nothing.
use Rattle.std.specs.Prelude.{ℕ, zero, suc, ◌+◌, ◌-◌, ◌/◌, ◌%◌, List, [], ◌∷◌, ◌++◌}
use Prim.Native.Char.{code}
use Prim.Native.String.{String, len, char_at}
use Rattle.words.specs.Decide.{pick, decide, ◌⇒◌, ◌<?◌}

-- the n characters of a text from the i-th on; each is one byte
abbrev pub text_from : String → ℕ → ℕ → List ℕ
text_from t i zero = []
text_from t i (suc n) = code (char_at t i) ∷ text_from t (i + 1) n

-- the bytes of a text of plain characters
abbrev pub text : String → List ℕ
text t = text_from t 0 (len t)

-- the digit of a value below 16: 0 to 9, a to f
unfoldable pub digit : ℕ → ℕ
digit value = pick (value <? 10) (48 + value) (87 + value)

-- a number below base ^ most, highest digit first, without leading zeros; 0 is "0"
unfoldable pub spelled : ℕ → ℕ → ℕ → List ℕ
spelled base zero n = []
spelled base (suc most) n =
    let longer = spelled base most (n / base) ++ digit (n % base) ∷ [] in
    pick (n <? base) (digit n ∷ []) longer

-- the value of a hex digit in either case; 16 for any other byte
unfoldable pub digit_of : ℕ → ℕ
digit_of b =
    decide
    (b <? 48 ⇒ 16
    ∷ b <? 58 ⇒ (b - 48)
    ∷ b <? 65 ⇒ 16
    ∷ b <? 71 ⇒ (b - 55)
    ∷ b <? 97 ⇒ 16
    ∷ b <? 103 ⇒ (b - 87)
    ∷ [])
    16
