-- Laws of a GUID's wire bytes, words and halves. Assumes nothing.
use mathlib.Core.Path.{◌≡◌, refl, sym, ◌∙◌, ap}
use mathlib.Core.List.{List, [], ◌++◌, append_assoc, append-nil}
use Prim.Native.Nat.{ℕ, ◌+◌, ◌*◌, ◌/◌, ◌%◌, ◌^◌, ◌<◌}
use native.Mathlib.Nat.{add-zero, mod-eq_of_lt}
use native.Mathlib.Omega.{arith}
use lib.ListN.{length, length-append}
use Rattle.words.specs.Word.{word, bytes_of, Bytes}
use Rattle.words.proofs.WordLaws.{word_lt, word_split, word_bytes_of, word_behind, length_bytes_of, bytes_of_split}
use Rattle.guid.specs.declared.Guid.{Guid}
use Rattle.guid.specs.Guid.{guid_of, Fitting, wire_bytes, guid_at, first_half, second_half, guid_of_halves}

pub length_wire : (g : Guid) → length (wire_bytes g) ≡ 16
unfolding wire_bytes
length_wire g = simp (length-append, length_bytes_of)

-- a word whose bytes stand behind p
word_in : (p t : List ℕ) (n at : ℕ) → length p ≡ at → word 4 (p ++ (bytes_of 4 n ++ t)) at ≡ n % 256 ^ 4
word_in p t n at e =
    ap (λ (k : ℕ). word 4 (p ++ (bytes_of 4 n ++ t)) k) (sym e ∙ sym (add-zero (length p))) ∙ word_behind 4 p (bytes_of 4 n ++ t) 0 ∙ word_bytes_of 4 n t

-- what is read out of bytes is a GUID that a program can hold
pub read_fits : (s : List ℕ) (at : ℕ) → Bytes s → Fitting (guid_at s at)
read_fits s at bytes =
    record { fits0 = word_lt 4 s at bytes; fits1 = word_lt 4 s (at + 4) bytes; fits2 = word_lt 4 s (at + 8) bytes; fits3 = word_lt 4 s (at + 12) bytes }

-- wire bytes that stand behind p, read back
pub wire_read : (p t : List ℕ) (at : ℕ) (g : Guid) → length p ≡ at
    → guid_at (p ++ (wire_bytes g ++ t)) at ≡ guid_of (g.w0 % 256 ^ 4) (g.w1 % 256 ^ 4) (g.w2 % 256 ^ 4) (g.w3 % 256 ^ 4)
unfolding wire_bytes
wire_read p t at g e =
    let a : List ℕ = bytes_of 4 g.w0 in
    let b : List ℕ = bytes_of 4 g.w1 in
    let c : List ℕ = bytes_of 4 g.w2 in
    let d : List ℕ = bytes_of 4 g.w3 in
    let s : List ℕ = p ++ (a ++ b ++ c ++ d ++ t) in
    let s0 : s ≡ p ++ (a ++ (b ++ (c ++ (d ++ t)))) = simp append_assoc in
    let s1 : s ≡ p ++ a ++ (b ++ (c ++ (d ++ t))) = simp append_assoc in
    let s2 : s ≡ p ++ a ++ b ++ (c ++ (d ++ t)) = simp append_assoc in
    let s3 : s ≡ p ++ a ++ b ++ c ++ (d ++ t) = simp append_assoc in
    let w0 : word 4 s at ≡ g.w0 % 256 ^ 4 = ap (λ (l : List ℕ). word 4 l at) s0 ∙ word_in p (b ++ (c ++ (d ++ t))) g.w0 at e in
    let w1 : word 4 s (at + 4) ≡ g.w1 % 256 ^ 4 =
    ap (λ (l : List ℕ). word 4 l (at + 4)) s1 ∙ word_in (p ++ a) (c ++ (d ++ t)) g.w1 (at + 4) (simp (length-append, length_bytes_of, e)) in
    let w2 : word 4 s (at + 8) ≡ g.w2 % 256 ^ 4 =
    ap (λ (l : List ℕ). word 4 l (at + 8)) s2 ∙ word_in (p ++ a ++ b) (d ++ t) g.w2 (at + 8) (simp (length-append, length_bytes_of, e) (omega arith)) in
    let w3 : word 4 s (at + 12) ≡ g.w3 % 256 ^ 4 =
    ap (λ (l : List ℕ). word 4 l (at + 12)) s3 ∙ word_in (p ++ a ++ b ++ c) t g.w3 (at + 12) (simp (length-append, length_bytes_of, e) (omega arith)) in
    cc

-- of a GUID that a program can hold, the GUID itself
pub guid_back : (p t : List ℕ) (at : ℕ) (g : Guid) → Fitting g → length p ≡ at → guid_at (p ++ (wire_bytes g ++ t)) at ≡ g
guid_back p t at g fits e =
    wire_read p t at g e ∙ rw (mod-eq_of_lt {m = 256 ^ 4} fits.fits0, mod-eq_of_lt {m = 256 ^ 4} fits.fits1, mod-eq_of_lt {m = 256 ^ 4} fits.fits2, mod-eq_of_lt {m = 256 ^ 4} fits.fits3)

-- the two words of each half
pub wire_in_halves : (g : Guid) → bytes_of 4 g.w0 ++ bytes_of 4 g.w1 ++ (bytes_of 4 g.w2 ++ bytes_of 4 g.w3) ≡ wire_bytes g
unfolding wire_bytes
wire_in_halves g = sym (append_assoc (bytes_of 4 g.w0 ++ bytes_of 4 g.w1) (bytes_of 4 g.w2) (bytes_of 4 g.w3))

-- the bytes of two halves are those of four words
pub halves_wire : (first second : ℕ)
    → bytes_of 8 first ++ bytes_of 8 second ≡ wire_bytes (guid_of first (first / 2 ^ 32) second (second / 2 ^ 32))
halves_wire first second =
    rw (bytes_of_split 4 4 first, bytes_of_split 4 4 second) (wire_in_halves (guid_of first (first / 2 ^ 32) second (second / 2 ^ 32)))

-- so the words of two halves are their low and high parts
pub words_of_halves : (first second : ℕ) → first < 2 ^ 64 → second < 2 ^ 64
    → guid_of_halves first second ≡ guid_of (first % 2 ^ 32) (first / 2 ^ 32) (second % 2 ^ 32) (second / 2 ^ 32)
words_of_halves first second low high =
    let g : Guid = guid_of first (first / 2 ^ 32) second (second / 2 ^ 32) in
    let bytes : bytes_of 8 first ++ bytes_of 8 second ≡ wire_bytes g ++ [] = halves_wire first second ∙ sym (append-nil (wire_bytes g)) in
    ap (λ (s : List ℕ). guid_at s 0) bytes ∙ wire_read [] [] 0 g refl
    ∙ rw (mod-eq_of_lt {n = first / 2 ^ 32} {m = 2 ^ 32} (omega arith), mod-eq_of_lt {n = second / 2 ^ 32} {m = 2 ^ 32} (omega arith))

-- a half is a low word and a high word
pub half_of_words : (g : Guid) → Fitting g → (first_half g ≡ g.w0 + 2 ^ 32 * g.w1) × (second_half g ≡ g.w2 + 2 ^ 32 * g.w3)
half_of_words g fits =
    let s : List ℕ = wire_bytes g in
    let back : guid_at s 0 ≡ g = ap (λ (l : List ℕ). guid_at l 0) (sym (append-nil s)) ∙ guid_back [] [] 0 g fits refl in (
      word_split 4 4 s 0 ∙ rw (ap (λ (h : Guid). h.w0) back, ap (λ (h : Guid). h.w1) back),
      word_split 4 4 s 8 ∙ rw (ap (λ (h : Guid). h.w2) back, ap (λ (h : Guid). h.w3) back),
    )
