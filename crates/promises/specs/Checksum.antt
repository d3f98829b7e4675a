-- What is guaranteed of the checksum, each promise said of the functions through their own statements. Assumes nothing.
use Rattle.std.specs.Prelude.{ℕ, ◌+◌, ◌^◌, ◌<◌, ◌≡◌, List, ◌++◌, length, replicate}
use Rattle.std.specs.Int.Bits.{bit_xor}
use Rattle.words.specs.Word.{Bytes}
use Rattle.crc64.specs.Damage.{xor_bytes}
use Rattle.crc64.specs.Statement.{ChecksumIs, FoldIs, TableIs, FoldOverIs}
use Rattle.crc64_combine.specs.Statement.{CombineIs}
use Rattle.crc64_eight.specs.Statement.{TablesIs, FoldLentIs, Fold8Is}
use Rattle.checksum.specs.declared.Crc64.{Crc64}
use Rattle.checksum.specs.Statement.{NewIs, UpdateIs, AppendIs, FinishIs}

-- document 01: "An empty or all-zero part has checksum 0": whatever `checksum` answers for zeros, of any number, is 0
abbrev pub ChecksumOfZeros : Type 0
ChecksumOfZeros = (count r : ℕ) → ChecksumIs (replicate count 0) r → r ≡ 0

-- document 01: "folding a then b equals folding a joined to b": two updates leave what one of the stretches joined
-- leaves
abbrev pub UpdatesJoin : Type 0
UpdatesJoin =
    (before between after : Crc64) (a b : List ℕ)
    → UpdateIs before a between → UpdateIs between b after → UpdateIs before (a ++ b) after

-- `new`, `update` and `finish` answer what `checksum` answers
abbrev pub UpdateIsChecksum : Type 0
UpdateIsChecksum =
    (first last : Crc64) (bytes : List ℕ) (r : ℕ)
    → NewIs first → UpdateIs first bytes last → FinishIs last r → ChecksumIs bytes r

-- document 02, A8: "for equal lengths the checksum of the byte-wise exclusive or is the exclusive or of the checksums"
abbrev pub ChecksumXor : Type 0
ChecksumXor =
    (a b : List ℕ) (sumA sumB sum : ℕ)
    → length a ≡ length b → ChecksumIs a sumA → ChecksumIs b sumB → ChecksumIs (xor_bytes a b) sum
    → sum ≡ bit_xor sumA sumB

-- document 02, A8: what `combine` answers for the checksums of a and b and b's length is the checksum of a joined to
-- b. (That the joined length fits 64 bits makes b's length one that the function can be given; the law asks nothing
-- of it.)
abbrev pub CombineJoins : Type 0
CombineJoins =
    (a b : List ℕ) (sumA sumB sum : ℕ)
    → ChecksumIs a sumA → ChecksumIs b sumB → CombineIs sumA sumB (length b) sum → ChecksumIs (a ++ b) sum

-- document 02, A8: "grouping three stretches either way agrees": for any three numbers, m and n being the lengths of
-- the second and the third stretch, first the left two or first the right two
abbrev pub CombineGroups : Type 0
CombineGroups =
    (a b c m n ab left bc right : ℕ)
    → CombineIs a b m ab → CombineIs ab c n left → CombineIs b c n bc → CombineIs a bc (m + n) right → left ≡ right

-- document 02, A8: a stretch that is appended by its checksum and its length leaves what its bytes leave
abbrev pub AppendIsUpdate : Type 0
AppendIsUpdate =
    (before appended updated : Crc64) (bytes : List ℕ) (sum : ℕ)
    → ChecksumIs bytes sum → AppendIs before sum (length bytes) appended → UpdateIs before bytes updated
    → appended ≡ updated

-- document 02, A7: "For every register and every byte string it gives the same register as the plain engine"
abbrev pub EightIsPlain : Type 0
EightIsPlain =
    (register : ℕ) (bytes : List ℕ) (plain r : ℕ) → FoldIs register bytes plain → Fold8Is register bytes r → r ≡ plain

-- the same of tables that are bound once and lent: eight that follow their rule give what the one gives
abbrev pub LentIsPlain : Type 0
LentIsPlain =
    (tables table : List ℕ) (register : ℕ) (bytes : List ℕ) (plain r : ℕ)
    → register < 2 ^ 64 → Bytes bytes
    → TablesIs tables → TableIs table → FoldOverIs table register bytes plain → FoldLentIs tables register bytes r
    → r ≡ plain
