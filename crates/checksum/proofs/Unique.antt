-- Two results that meet a function's statement are equal. Assumes nothing.
use mathlib.Core.Path.{◌≡◌, sym, ◌∙◌}
use mathlib.Core.List.{List}
use Prim.Native.Nat.{ℕ}
use Rattle.crc64.specs.Statement.{ChecksumIs}
use Rattle.checksum.specs.declared.Crc64.{Crc64}
use Rattle.checksum.specs.Statement.{UpdatedIs, NewIs, UpdateIs, ChainIs, AppendIs, FinishIs}

pub checksum_unique : (bytes : List ℕ) {r r' : ℕ} → ChecksumIs bytes r → ChecksumIs bytes r' → r ≡ r'
checksum_unique bytes p q = p ∙ sym q

pub updated_unique : (register : ℕ) (bytes : List ℕ) {r r' : ℕ} → UpdatedIs register bytes r → UpdatedIs register bytes r' → r ≡ r'
updated_unique register bytes p q = p ∙ sym q

-- a `Crc64` is its register
pub same_register : {r r' : Crc64} → r.register ≡ r'.register → r ≡ r'
same_register e i = record { register = e i }

pub Crc64-new-unique : {r r' : Crc64} → NewIs r → NewIs r' → r ≡ r'
Crc64-new-unique p q = same_register (p ∙ sym q)

pub Crc64-update-unique : (before : Crc64) (bytes : List ℕ) {after after' : Crc64}
    → UpdateIs before bytes after → UpdateIs before bytes after' → after ≡ after'
Crc64-update-unique before bytes p q = same_register (p ∙ sym q)

pub Crc64-chain-unique : (before : Crc64) (bytes : List ℕ) {after after' : Crc64}
    → ChainIs before bytes after → ChainIs before bytes after' → after ≡ after'
Crc64-chain-unique = Crc64-update-unique

pub Crc64-append-unique : (before : Crc64) (checksum length : ℕ) {after after' : Crc64}
    → AppendIs before checksum length after → AppendIs before checksum length after' → after ≡ after'
Crc64-append-unique before checksum length p q = same_register (p ∙ sym q)

pub Crc64-finish-unique : (c : Crc64) {r r' : ℕ} → FinishIs c r → FinishIs c r' → r ≡ r'
Crc64-finish-unique c p q = p ∙ sym q
