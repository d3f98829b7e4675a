-- Bytes, words and halves are one GUID: each way there and back. Assumes nothing.
use mathlib.Core.Path.{◌≡◌, refl, sym, ◌∙◌, ap}
use mathlib.Core.Bool.{true, false}
use mathlib.Core.Logic.{⊎_elim}
use mathlib.Core.List.{List, [], ◌++◌, append-nil}
use Prim.Native.Nat.{ℕ, ◌+◌, ◌/◌, ◌%◌, ◌^◌, ◌<◌, ◌≤◌}
use native.Mathlib.Omega.{arith}
use borrow.Author.Tests.{eq-eqb, ne_eqb}
use lib.ListN.{length, take, drop, replicate}
use lib.Seq.{drop-drop, take-add}
use Rattle.words.specs.Word.{word, bytes_of, Bytes}
use Rattle.words.specs.Buffer.{stretch, over}
use Rattle.words.proofs.WordLaws.{bytes_of_join, bytes_of_word}
use Rattle.guid.specs.declared.Guid.{Guid}
use Rattle.guid.specs.Guid.{guid_of, Fitting, wire_bytes, guid_at, first_half, second_half, guid_of_halves, is_null}
use Rattle.guid.proofs.WireLaws.{guid_back, words_of_halves, half_of_words, wire_in_halves}
use Rattle.numerals.proofs.Cases.{same_or_other, true_not_false}

guid_same : (g : Guid) {a b c d : ℕ} → g.w0 ≡ a → g.w1 ≡ b → g.w2 ≡ c → g.w3 ≡ d → g ≡ guid_of a b c d
guid_same g {a} {b} {c} p q r t =
    ap (λ (x : ℕ). guid_of x g.w1 g.w2 g.w3) p ∙ ap (λ (x : ℕ). guid_of a x g.w2 g.w3) q ∙ ap (λ (x : ℕ). guid_of a b x g.w3) r ∙ ap (guid_of a b c) t

-- The bytes that were written over a buffer's front read as the GUID.
pub write_then_read : (g : Guid) (before : List ℕ) → Fitting g → guid_at (over (wire_bytes g) before) 0 ≡ g
write_then_read g before fits = guid_back [] (drop (length (wire_bytes g)) before) 0 g fits refl

-- The wire bytes are those of the two halves.
pub wire_of_halves : (g : Guid) → Fitting g → bytes_of 8 (first_half g) ++ bytes_of 8 (second_half g) ≡ wire_bytes g
wire_of_halves g fits =
    let halves = half_of_words g fits in
    let low : List ℕ = bytes_of 4 g.w0 ++ bytes_of 4 g.w1 in
    let first : bytes_of 8 (first_half g) ≡ low = ap (bytes_of 8) halves.0 ∙ bytes_of_join 4 4 g.w0 g.w1 fits.fits0 in
    let second : bytes_of 8 (second_half g) ≡ bytes_of 4 g.w2 ++ bytes_of 4 g.w3 =
    ap (bytes_of 8) halves.1 ∙ bytes_of_join 4 4 g.w2 g.w3 fits.fits2 in
    ap (λ (l : List ℕ). l ++ bytes_of 8 (second_half g)) first ∙ ap (λ (l : List ℕ). low ++ l) second ∙ wire_in_halves g

-- Halves, made into a GUID, come back; and so does a GUID, taken in halves.
pub halves_back : (first second : ℕ) → first < 2 ^ 64 → second < 2 ^ 64
    → (first_half (guid_of_halves first second) ≡ first) × (second_half (guid_of_halves first second) ≡ second)
halves_back first second low high =
    let g : Guid = guid_of (first % 2 ^ 32) (first / 2 ^ 32) (second % 2 ^ 32) (second / 2 ^ 32) in
    let fits : Fitting g = record { fits0 = omega arith; fits1 = omega arith; fits2 = omega arith; fits3 = omega arith } in
    let halves = half_of_words g fits in
    let words : guid_of_halves first second ≡ g = words_of_halves first second low high in
    (ap first_half words ∙ halves.0 ∙ omega arith, ap second_half words ∙ halves.1 ∙ omega arith)

pub guid_of_halves_lem : (g : Guid) → Fitting g → guid_of_halves (first_half g) (second_half g) ≡ g
guid_of_halves_lem g fits =
    ap (λ (s : List ℕ). guid_at s 0) (wire_of_halves g fits ∙ sym (append-nil (wire_bytes g))) ∙ guid_back [] [] 0 g fits refl

-- Sixteen bytes that were read are written as they stood.
pub read_then_write : (s : List ℕ) (at : ℕ) → Bytes s → at + 16 ≤ length s → wire_bytes (guid_at s at) ≡ stretch s at 16
unfolding wire_bytes
read_then_write s at bytes room =
    let t : List ℕ = drop at s in
    let w1 : bytes_of 4 (word 4 s (at + 4)) ≡ take 4 (drop 4 t) = bytes_of_word 4 s (at + 4) bytes (omega arith) ∙ ap (take 4) (sym (drop-drop 4 at s)) in
    let w2 : bytes_of 4 (word 4 s (at + 8)) ≡ take 4 (drop 8 t) = bytes_of_word 4 s (at + 8) bytes (omega arith) ∙ ap (take 4) (sym (drop-drop 8 at s)) in
    let w3 : bytes_of 4 (word 4 s (at + 12)) ≡ take 4 (drop 12 t) = bytes_of_word 4 s (at + 12) bytes (omega arith) ∙ ap (take 4) (sym (drop-drop 12 at s)) in
    rw (bytes_of_word 4 s at bytes (omega arith), w1, w2, w3) (sym (take-add 12 4 t ∙ ap (λ (l : List ℕ). l ++ take 4 (drop 12 t)) (take-add 8 4 t ∙ ap (λ (l : List ℕ). l ++ take 4 (drop 8 t)) (take-add 4 4 t))))

-- The null GUID, and no other, is sixteen bytes of 0.
null_guid : (g : Guid) → is_null g ≡ true → g ≡ guid_of 0 0 0 0
null_guid g null =
    let no : (is_null g ≡ false → ⊥) = λ e. true_not_false (sym null ∙ e) in
    ⊎_elim
    (λ (p : g.w0 ≡ 0). ⊎_elim
    (λ (q : g.w1 ≡ 0). ⊎_elim
    (λ (r : g.w2 ≡ 0). ⊎_elim
    (λ (t : g.w3 ≡ 0). guid_same g p q r t)
    (λ t. absurd (no (rw (eq-eqb g.w0 0 p, eq-eqb g.w1 0 q, eq-eqb g.w2 0 r, ne_eqb g.w3 0 t))))
    (same_or_other g.w3 0))
    (λ r. absurd (no (rw (eq-eqb g.w0 0 p, eq-eqb g.w1 0 q, ne_eqb g.w2 0 r))))
    (same_or_other g.w2 0))
    (λ q. absurd (no (rw (eq-eqb g.w0 0 p, ne_eqb g.w1 0 q))))
    (same_or_other g.w1 0))
    (λ p. absurd (no (rw (ne_eqb g.w0 0 p))))
    (same_or_other g.w0 0)

pub null_bytes : (g : Guid) → is_null g ≡ true → wire_bytes g ≡ replicate 16 0
unfolding wire_bytes bytes_of
null_bytes g null = ap wire_bytes (null_guid g null)

pub bytes_null : (g : Guid) → Fitting g → wire_bytes g ≡ replicate 16 0 → is_null g ≡ true
unfolding word
bytes_null g fits zeros =
    let back : guid_at (wire_bytes g ++ []) 0 ≡ g = guid_back [] [] 0 g fits refl in
    let null : guid_of 0 0 0 0 ≡ g = ap (λ (s : List ℕ). guid_at (s ++ []) 0) (sym zeros) ∙ back in
    ap is_null (sym null)
