-- Examples of the register after bytes, from 0123456789abcdef, and the first entries of the eight tables, as computed tests.
-- Assumes nothing.
use mathlib.Core.Path.{◌≡◌, refl}
use mathlib.Core.List.{[], ◌∷◌, map}
use Prim.Native.Nat.{ℕ}
use lib.ListN.{replicate}
use Rattle.crc64.specs.Polynomial.{step, steps, fold_byte, fold}
use Rattle.crc64.specs.Table.{swapped}
use Rattle.crc64_eight.specs.Statement.{Fold8Is}

abbrev from : ℕ
from = 0x0123_4567_89ab_cdef

pub no_byte : Fold8Is from [] from
unfolding fold
no_byte = refl

pub eight_bytes : Fold8Is from (0x00 ∷ 0x11 ∷ 0x22 ∷ 0x33 ∷ 0x44 ∷ 0x55 ∷ 0x66 ∷ 0x77 ∷ []) 0xe718_8b61_064a_10a4
unfolding fold fold_byte steps step
eight_bytes = refl

pub nine_bytes : Fold8Is from (0x00 ∷ 0x11 ∷ 0x22 ∷ 0x33 ∷ 0x44 ∷ 0x55 ∷ 0x66 ∷ 0x77 ∷ 0x88 ∷ []) 0xa365_5f4f_cd73_2a5c
unfolding fold fold_byte steps step
nine_bytes = refl

-- its own bytes leave nothing
pub own_bytes_lem : Fold8Is from (0x01 ∷ 0x23 ∷ 0x45 ∷ 0x67 ∷ 0x89 ∷ 0xab ∷ 0xcd ∷ 0xef ∷ []) 0
unfolding fold fold_byte steps step
own_bytes_lem = refl

-- the rule at the byte 1: the entries 256k + 1
pub of_byte_1 : map (λ (k : ℕ). swapped 8 (fold 0 (1 ∷ replicate k 0))) (0 ∷ 1 ∷ 2 ∷ 3 ∷ 4 ∷ 5 ∷ 6 ∷ 7 ∷ [])
    ≡ 0x8178_9265_9727_43e5
    ∷ 0x1d17_2bdd_d0a0_d0ec
    ∷ 0x90d5_0cbb_1962_0125
    ∷ 0x34ea_f471_7c0c_3868
    ∷ 0x5858_c0e5_65dc_ee16
    ∷ 0x1cf6_a523_75be_fb05
    ∷ 0x8777_099d_c783_7741
    ∷ 0x66a4_cb82_db01_a4d0
    ∷ []
unfolding swapped fold fold_byte steps step
of_byte_1 = refl
