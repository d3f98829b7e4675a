-- Varints, after document 02: one to ten bytes, all but the last 0x80 or above, the last below; the value is the sum of
-- (byte mod 128) * 2 ^ (7 * place), and below 2 ^ 64. A byte past the end of a list counts as 0. Assumes nothing.
use Rattle.std.specs.Prelude.{ℕ, zero, suc, ◌+◌, ◌*◌, ◌/◌, ◌%◌, Bool, ◌&&◌, List, [], ◌∷◌, length, get_or}
use Rattle.words.specs.Decide.{pick, ◌<?◌}

-- how many bytes the varint at `at` has, of k at most; k + 1 where none of the k ends it
unfoldable pub size_in : ℕ → List ℕ → ℕ → ℕ
size_in zero s at = 1
size_in (suc k) s at =
    let others = 1 + size_in k s (at + 1) in
    pick (get_or s at 0 <? 128) 1 others

-- the number that they spell, lowest group first
unfoldable pub value_in : ℕ → List ℕ → ℕ → ℕ
value_in zero s at = 0
value_in (suc k) s at =
    let others = get_or s at 0 % 128 + 128 * value_in k s (at + 1) in
    pick (get_or s at 0 <? 128) (get_or s at 0) others

abbrev pub varint_size : List ℕ → ℕ → ℕ
varint_size s at = size_in 10 s at

abbrev pub varint_at : List ℕ → ℕ → ℕ
varint_at s at = value_in 10 s at

-- where the varint at `at` ends
abbrev pub varint_end : List ℕ → ℕ → ℕ
varint_end s at = at + varint_size s at

-- one stands at `at` that ends by `end`, to which s reaches: ten bytes at most, below 2 ^ 64
abbrev pub whole_varint : List ℕ → ℕ → ℕ → Bool
whole_varint s at end =
    end <? (length s + 1)
    && (varint_end s at <? (end + 1) && (varint_size s at <? 11 && varint_at s at <? 0x1_0000_0000_0000_0000))

-- What is written: the shortest one, k bytes at most
unfoldable pub groups : ℕ → ℕ → List ℕ
groups zero n = []
groups (suc k) n =
    let others = (n % 128 + 128) ∷ groups k (n / 128) in
    pick (n <? 128) (n ∷ []) others

abbrev pub varint : ℕ → List ℕ
varint n = groups 10 n
