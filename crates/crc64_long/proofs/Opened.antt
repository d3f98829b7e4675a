-- The window that a register opens, and the whole: bytes that left, what they owe, and the last ones. Assumes nothing.
use mathlib.Core.Path.{◌≡◌, refl, sym, ap, ap₂, ◌∙◌}
use mathlib.Core.List.{List, ◌++◌}
use Prim.Native.Nat.{ℕ, ◌-◌, ◌^◌, ◌≤◌, ◌<◌}
use native.Mathlib.Omega.{arith}
use lib.ListN.{length, take, drop}
use Rattle.words.specs.Word.{bytes_of}
use Rattle.words.specs.Buffer.{over, fitted}
use Rattle.words.proofs.WordLaws.{length_bytes_of}
use Rattle.words.proofs.BufferLaws.{fitted_fits}
use Rattle.crc64.specs.Polynomial.{fold}
use Rattle.crc64.specs.Table.{swapped}
use Rattle.crc64.proofs.Swap.{swapped_lt, swapped_twice}
use Rattle.crc64_sparse.specs.Stages.{places, owed, zeros, opened}
use Rattle.crc64_sparse.proofs.Run.{enters}

laid : (q : ℕ) (blank : List ℕ) → take 1848 (drop 8 blank) ≡ zeros 1848 → take 1856 (over (bytes_of 8 q) blank) ≡ bytes_of 8 q ++ zeros 1848
unfolding bytes_of
laid q blank empty = ap (λ (t : List ℕ). bytes_of 8 q ++ t) empty

pub opened_window : (q : ℕ) (blank : List ℕ) {w : List ℕ} → q < 2 ^ 64 → 8 ≤ length blank → take 1848 (drop 8 blank) ≡ zeros 1848
    → w ≡ fitted (bytes_of 8 q) blank → take 1856 w ≡ opened (swapped 8 q)
unfolding opened
opened_window q blank hq room empty e =
    ap (take 1856) (e ∙ fitted_fits (bytes_of 8 q) blank (omega (arith, length_bytes_of 8 q)))
    ∙ laid q blank empty
    ∙ ap (λ (x : ℕ). bytes_of 8 x ++ zeros 1848) (sym (swapped_twice 8 q hq))

nothing_swapped : swapped 8 0 ≡ 0
unfolding swapped
nothing_swapped = refl

pub all_left : (q : ℕ) (s h₀ h t : List ℕ) {u : List ℕ} {r : ℕ} → 1856 ≤ length s → h₀ ≡ opened (swapped 8 q)
    → fold 0 (owed places h (drop (length s - 1856) s)) ≡ fold 0 (owed places h₀ s)
    → t ≡ drop (length s - 1856) s → u ≡ owed places h t → r ≡ swapped 8 (fold (swapped 8 0) u) → r ≡ swapped 8 (fold (swapped 8 q) s)
all_left q s h₀ h t room entered gone last paid e =
    e
    ∙ ap (swapped 8)
    (ap₂ fold nothing_swapped (paid ∙ ap (owed places h) last)
    ∙ gone
    ∙ ap (λ (z : List ℕ). fold 0 (owed places z s)) entered
    ∙ enters (swapped 8 q) s (swapped_lt 8 q) room)
