-- The laws of an output that is filled piece by piece, and of sealing its front. The part that begins at `at` is
-- `mid_of at (length now - at) now`, and what comes back stands there as `put_mid`. Assumes nothing.
use mathlib.Core.Path.{◌≡◌, refl, sym, ◌∙◌, ap}
use mathlib.Core.List.{List, ◌++◌}
use Prim.Native.Nat.{ℕ, ◌+◌, ◌≤◌}
use native.Mathlib.Omega.{arith}
use lib.ListN.{length, take, drop, length-append, take-append-drop}
use lib.Seq.{take_at, drop_at, length-take-le, drop-drop}
use Rattle.words.specs.Word.{bytes_of}
use Rattle.words.specs.Buffer.{over}
use Rattle.words.proofs.WordLaws.{length_bytes_of}
use Rattle.crc64.specs.Polynomial.{checksum}
use Rattle.packet.specs.Wire.{sealed}
use Rattle.packet_write.proofs.PieceLaws.{length_sealed}
use Rattle.words.specs.Stages.{Filling}
pub use Rattle.words.proofs.FillingLaws.{begins, opens, ends, room_left, length_now, place, front, mid_room, leaves, step, word_opens, word_step, closes, word_closes}

-- the checksum of the front, behind it
module _ (size : ℕ) (xs : List ℕ) where
  pub sealing : size + 8 ≤ length xs → Filling (sealed (take size xs)) (bytes_of 8 (checksum (take size xs))) xs xs size
  unfolding sealed
  sealing h =
      let front_length : length (take size xs) ≡ size = length-take-le size xs (omega arith) in
      let sum-length : length (bytes_of 8 (checksum (take size xs))) ≡ 8 = length_bytes_of 8 (checksum (take size xs)) in
      record {
        done = take size xs;
        joins = refl;
        reached = front_length;
        fits = rw length-append (omega arith);
        holds = sym (take-append-drop size xs) ∙ ap (λ (n : ℕ). take size xs ++ drop n xs) (sym front_length);
      }

-- bytes are sealed: their checksum takes the place of the eight bytes behind them
pub sealed_front : (bs rest : List ℕ) {now after : List ℕ} {at : ℕ} → length bs ≡ at → now ≡ bs ++ rest → after ≡ over (sealed (take at now)) now → after ≡ sealed bs ++ drop 8 rest
sealed_front bs rest {now} {after} {at} reach e sealed-now =
    let long : length (sealed bs) ≡ at + 8 = length_sealed bs ∙ ap (λ (n : ℕ). n + 8) reach in
    let behind : drop at now ≡ rest = ap (drop at) e ∙ drop_at bs rest at reach in
    sealed-now
    ∙ ap (λ (z : List ℕ). over (sealed z) now) (ap (take at) e ∙ take_at bs rest at reach)
    ∙ ap (λ (n : ℕ). sealed bs ++ drop n now) long
    ∙ ap (λ (z : List ℕ). sealed bs ++ z) (sym (drop-drop 8 at now) ∙ ap (drop 8) behind)

-- bytes over a front
pub sealed_over : (bs before : List ℕ) {now after : List ℕ} {at : ℕ} → length bs ≡ at → now ≡ over bs before → after ≡ over (sealed (take at now)) now → after ≡ over (sealed bs) before
sealed_over bs before reach e sealed-now =
    sealed_front bs (drop (length bs) before) reach e sealed-now
    ∙ ap (λ (z : List ℕ). sealed bs ++ z) (drop-drop 8 (length bs) before ∙ ap (λ (n : ℕ). drop n before) (sym (length_sealed bs)))
