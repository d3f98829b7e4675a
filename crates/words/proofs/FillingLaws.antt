-- An output that is filled piece by piece, each piece by a writer that is lent the rest of it. The part that begins at `at` is
-- `mid_of at (length now - at) now`, and what comes back stands there as `put_mid`. Assumes nothing.
use mathlib.Core.Path.{◌≡◌, refl, sym, ◌∙◌, ap}
use mathlib.Core.List.{List, [], ◌++◌, append_assoc, append-nil}
use Prim.Native.Nat.{ℕ, ◌+◌, ◌-◌, ◌≤◌}
use native.Mathlib.Omega.{arith}
use lib.ListN.{length, take, drop, length-append, length-drop}
use lib.Seq.{take_at}
use borrow.Rule.Slice.PartMut.{mid_of, put_mid}
use Rattle.words.specs.Word.{bytes_of}
use Rattle.words.specs.Buffer.{over, fitted}
use Rattle.words.proofs.WordLaws.{length_bytes_of}
use Rattle.words.proofs.BufferLaws.{fitted_fits, length_over}
use Rattle.words.proofs.LentLaws.{tail_is_drop, lent_over}
use Rattle.words.specs.Stages.{Filling}

-- nothing is written yet
pub begins : (whole before : List ℕ) → length whole ≤ length before → Filling whole whole before before 0
begins whole before h = record { done = []; joins = refl; reached = refl; fits = h; holds = refl }

-- the first piece, over the whole output
pub opens : (ws rest : List ℕ) (at : ℕ) {before now : List ℕ} → length (ws ++ rest) ≤ length before → length ws ≡ at → now ≡ over ws before → Filling (ws ++ rest) rest before now at
opens ws rest at h reach e = record { done = ws; joins = refl; reached = reach; fits = h; holds = e }

-- all is written
pub ends : {whole before now : List ℕ} {at : ℕ} → Filling whole [] before now at → now ≡ over whole before
ends {before = before} f = f.holds ∙ ap (λ (d : List ℕ). over d before) (sym (append-nil f.done) ∙ f.joins)

module _ {whole rest before now : List ℕ} {at : ℕ} (f : Filling whole rest before now at) where
  pub room_left : at + length rest ≤ length before
  room_left =
      let joined : length f.done + length rest ≡ length whole = sym (length-append f.done rest) ∙ ap length f.joins in
      let so_far : length f.done ≡ at = f.reached in
      let room : length whole ≤ length before = f.fits in
      omega arith

  pub length_now : length now ≡ length before
  length_now =
      let so_far : length f.done ≡ at = f.reached in
      let left : at + length rest ≤ length before = room_left in
      ap length f.holds ∙ length_over f.done before (omega arith)

  pub place : at ≤ length now
  place =
      let left : at + length rest ≤ length before = room_left in
      let same : length now ≡ length before = length_now in
      omega arith

  -- what stands in front of the place is the front of the whole
  pub front : take at now ≡ take at whole
  front =
      ap (take at) f.holds ∙ take_at f.done (drop (length f.done) before) at f.reached
      ∙ sym (take_at f.done rest at f.reached) ∙ ap (take at) f.joins

  pub mid_room : at + length rest ≤ at + length (mid_of at (length now - at) now)
  mid_room =
      let left : at + length rest ≤ length before = room_left in
      let same : length now ≡ length before = length_now in
      rw (tail_is_drop now at, length-drop at now) (omega arith)

-- the lent part has room for the next piece
pub mid_fits : (ws rest : List ℕ) {whole before now : List ℕ} {at : ℕ} → Filling whole (ws ++ rest) before now at → length ws ≤ length (mid_of at (length now - at) now)
mid_fits ws rest {now = now} {at = at} f =
    let room : at + length (ws ++ rest) ≤ at + length (mid_of at (length now - at) now) = mid_room f in
    let both : length (ws ++ rest) ≡ length ws + length rest = length-append ws rest in
    omega arith

-- what a writer left of the lent part, where it has the room
pub leaves : (ws rest : List ℕ) {whole before now after : List ℕ} {at : ℕ} → Filling whole (ws ++ rest) before now at
    → after ≡ fitted ws (mid_of at (length now - at) now) → after ≡ over ws (mid_of at (length now - at) now)
leaves ws rest {now = now} {at = at} f e = e ∙ fitted_fits ws (mid_of at (length now - at) now) (mid_fits ws rest f)

-- the next piece, over the part that is lent
pub step : (ws rest : List ℕ) (next : ℕ) {whole before now after : List ℕ} {at : ℕ} → Filling whole (ws ++ rest) before now at → at + length ws ≡ next
    → after ≡ over ws (mid_of at (length now - at) now) → Filling whole rest before (put_mid at (length now - at) now after) next
step ws rest next {before = before} {now = now} {after = after} {at = at} f reach e =
    let so_far : length f.done ≡ at = f.reached in
    let left : at + length (ws ++ rest) ≤ length before = room_left f in
    let both : length (ws ++ rest) ≡ length ws + length rest = length-append ws rest in
    record {
      done = f.done ++ ws;
      joins = append_assoc f.done ws rest ∙ f.joins;
      reached = length-append f.done ws ∙ omega arith;
      fits = f.fits;
      holds = lent_over f.done ws before now after at f.holds f.reached (omega arith) e;
    }

-- a word of k bytes
pub word_opens : (k n : ℕ) (rest : List ℕ) {before now : List ℕ} → length (bytes_of k n ++ rest) ≤ length before
    → now ≡ fitted (bytes_of k n) before → Filling (bytes_of k n ++ rest) rest before now k
word_opens k n rest {before = before} h e =
    let both : length (bytes_of k n ++ rest) ≡ length (bytes_of k n) + length rest = length-append (bytes_of k n) rest in
    opens (bytes_of k n) rest k h (length_bytes_of k n) (e ∙ fitted_fits (bytes_of k n) before (omega arith))

pub word_step : (k n : ℕ) (rest : List ℕ) (next : ℕ) {whole before now after : List ℕ} {at : ℕ} → Filling whole (bytes_of k n ++ rest) before now at → at + k ≡ next
    → after ≡ fitted (bytes_of k n) (mid_of at (length now - at) now) → Filling whole rest before (put_mid at (length now - at) now after) next
word_step k n rest next f reach e =
    step (bytes_of k n) rest next f (rw (length_bytes_of k n) reach) (leaves (bytes_of k n) rest f e)

-- the last one
pub closes : (ws : List ℕ) {whole before now after : List ℕ} {at : ℕ} → Filling whole ws before now at
    → after ≡ over ws (mid_of at (length now - at) now) → put_mid at (length now - at) now after ≡ over whole before
closes ws {whole} {before} {now} {after} {at} f e =
    let last : Filling whole (ws ++ []) before now at = rw (append-nil ws) f in
    ends (step ws [] (at + length ws) last refl e)

pub word_closes : (k n : ℕ) {whole before now after : List ℕ} {at : ℕ} → Filling whole (bytes_of k n) before now at
    → after ≡ fitted (bytes_of k n) (mid_of at (length now - at) now) → put_mid at (length now - at) now after ≡ over whole before
word_closes k n {whole} {before} {now} {after} {at} f e =
    let last : Filling whole (bytes_of k n ++ []) before now at = rw (append-nil (bytes_of k n)) f in
    closes (bytes_of k n) f (leaves (bytes_of k n) [] last e)
