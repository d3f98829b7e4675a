-- The laws of an output that is filled piece by piece, for writers that answer how many bytes they put. Assumes nothing.
use mathlib.Core.Path.{◌≡◌, sym, ◌∙◌, ap}
use mathlib.Core.List.{List, [], ◌++◌, append-nil}
use Prim.Native.Nat.{ℕ, ◌+◌, ◌-◌, ◌≤◌}
use native.Mathlib.Omega.{arith}
use lib.ListN.{length, length-append}
use borrow.Rule.Slice.PartMut.{mid_of, put_mid}
use Rattle.words.specs.Word.{bytes_of}
use Rattle.words.specs.Buffer.{fitted}
use Rattle.words.proofs.WordLaws.{length_bytes_of}
use Rattle.words.proofs.BufferLaws.{fitted_fits}
use Rattle.words.proofs.FillingLaws as Laws
use Rattle.wire_write.specs.Stages.{Puts}
pub use Rattle.words.specs.Stages.{Filling}
pub use Rattle.words.proofs.FillingLaws.{begins, room_left, length_now}

-- the first piece, over the whole output
pub opens : (ws rest : List ℕ) (at : ℕ) {before now : List ℕ} → length (ws ++ rest) ≤ length before → length ws ≡ at → now ≡ fitted ws before → Filling (ws ++ rest) rest before now at
opens ws rest at {before} h reach e =
    let both : length (ws ++ rest) ≡ length ws + length rest = length-append ws rest in
    Laws.opens ws rest at h reach (e ∙ fitted_fits ws before (omega arith))

-- all is written
pub ends : {whole before now : List ℕ} {at : ℕ} → Filling whole [] before now at → Puts whole before now at
ends {whole} {before} f = (sym f.reached ∙ ap length (sym (append-nil f.done) ∙ f.joins), Laws.ends f)

module _ {whole rest before now : List ℕ} {at : ℕ} (f : Filling whole rest before now at) where
  pub within : at + length rest ≤ length now
  within = let left : at + length rest ≤ length before = room_left f in let same : length now ≡ length before = length_now f in omega arith

  pub mid_room : length rest ≤ length (mid_of at (length now - at) now)
  mid_room = omega (arith, Laws.mid_room f)

-- the next piece, over the part that is lent
pub step : (ws rest : List ℕ) {whole before now after : List ℕ} {at n : ℕ} → Filling whole (ws ++ rest) before now at
    → Puts ws (mid_of at (length now - at) now) after n → Filling whole rest before (put_mid at (length now - at) now after) (at + n)
step ws rest {at = at} {n = n} f puts = Laws.step ws rest (at + n) f (ap (λ (k : ℕ). at + k) (sym puts.0)) puts.1

-- the last one
pub closes : (ws : List ℕ) {whole before now after : List ℕ} {at n : ℕ} → Filling whole ws before now at
    → Puts ws (mid_of at (length now - at) now) after n → Puts whole before (put_mid at (length now - at) now after) (at + n)
closes ws {whole} {before} {now} {at = at} f puts =
    let last : Filling whole (ws ++ []) before now at = rw (append-nil ws) f in
    ends (step ws [] last puts)

-- a word, and what stands behind it
pub word_opens : (x : ℕ) (rest : List ℕ) {before now : List ℕ} → length (bytes_of 8 x ++ rest) ≤ length before
    → now ≡ fitted (bytes_of 8 x) before → Filling (bytes_of 8 x ++ rest) rest before now 8
word_opens x rest h e = opens (bytes_of 8 x) rest 8 h (length_bytes_of 8 x) e
