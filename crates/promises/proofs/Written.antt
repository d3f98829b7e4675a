-- What the words of a written packet are, read where the layout has them. Assumes nothing.
use mathlib.Core.Path.{◌≡◌, sym, ◌∙◌, ap}
use mathlib.Core.List.{List, [], ◌∷◌, ◌++◌, append_assoc}
use Prim.Native.Nat.{ℕ, zero, suc, ◌+◌, ◌*◌, ◌^◌, ◌<◌, ◌≤◌}
use native.Mathlib.Nat.{mod-eq_of_lt}
use native.Mathlib.Omega.{arith}
use lib.ListN.{length, get_or, take, drop, length-append}
use lib.Seq.{drop-append-add, take-append_seam}
use Rattle.words.specs.Word.{word, bytes_of}
use Rattle.words.proofs.WordLaws.{word_behind, word_bytes_of, length_bytes_of}
use Rattle.crc64.specs.Polynomial.{checksum}
use Rattle.crc64.proofs.Folding.{fold_lt}
use Rattle.packet.specs.Layout.{largest_part}
use Rattle.packet.specs.Wire.{Part, null, bytes, size_word, sum_word, content, sizes, sums, contents}

-- the word that stands at the front
pub word_front : (k w : ℕ) (x : List ℕ) → w < 256 ^ k → word k (bytes_of k w ++ x) 0 ≡ w
word_front k w x fits = word_bytes_of k w x ∙ mod-eq_of_lt fits

-- a word behind another
pub word_next : (j k w off : ℕ) (x : List ℕ) → word j (bytes_of k w ++ x) (k + off) ≡ word j x off
word_next j k w off x = ap (λ (n : ℕ). word j (bytes_of k w ++ x) (n + off)) (sym (length_bytes_of k w)) ∙ word_behind j (bytes_of k w) x off

-- behind a front of known length
pub word_past_front : (j n off : ℕ) (a x : List ℕ) → length a ≡ n → word j (a ++ x) (n + off) ≡ word j x off
word_past_front j n off a x e = ap (λ (m : ℕ). word j (a ++ x) (m + off)) (sym e) ∙ word_behind j a x off

pub checksum_fits : (bs : List ℕ) → checksum bs < 2 ^ 64
checksum_fits bs = fold_lt 0 bs (omega arith)

sum_fits : (p : Part) → sum_word p < 256 ^ 8
sum_fits null = omega arith
sum_fits (bytes b) = checksum_fits b

-- the size word of part i
pub sizes_at : (ps : List Part) (x : List ℕ) (i : ℕ) → i < length ps → length (content (get_or ps i null)) ≤ largest_part → word 4 (sizes ps ++ x) (4 * i) ≡ size_word (get_or ps i null)
unfolding sizes
sizes_at [] x i h small = absurd (omega arith)
sizes_at (p ∷ ps) x zero h small = rw (append_assoc (bytes_of 4 (size_word p)) (sizes ps) x) (word_front 4 (size_word p) (sizes ps ++ x) (fits p small))
  where
    fits : (p : Part) → length (content p) ≤ largest_part → size_word p < 256 ^ 4
    fits null h = omega arith
    fits (bytes b) h = omega arith
sizes_at (p ∷ ps) x (suc i) h small =
    let place : 4 * suc i ≡ 4 + 4 * i = omega arith in
    rw (append_assoc (bytes_of 4 (size_word p)) (sizes ps) x, place) (word_next 4 4 (size_word p) (4 * i) (sizes ps ++ x) ∙ sizes_at ps x i (omega arith) small)

-- its checksum word
pub sums_at : (ps : List Part) (x : List ℕ) (i : ℕ) → i < length ps → word 8 (sums ps ++ x) (8 * i) ≡ sum_word (get_or ps i null)
unfolding sums
sums_at [] x i h = absurd (omega arith)
sums_at (p ∷ ps) x zero h = rw (append_assoc (bytes_of 8 (sum_word p)) (sums ps) x) (word_front 8 (sum_word p) (sums ps ++ x) (sum_fits p))
sums_at (p ∷ ps) x (suc i) h =
    let place : 8 * suc i ≡ 8 + 8 * i = omega arith in
    rw (append_assoc (bytes_of 8 (sum_word p)) (sums ps) x, place) (word_next 8 8 (sum_word p) (8 * i) (sums ps ++ x) ∙ sums_at ps x i (omega arith))

-- the contents in front of part i, and part i's
pub contents_at : (ps : List Part) (x : List ℕ) (i : ℕ) → i < length ps
    → take (length (content (get_or ps i null))) (drop (length (contents (take i ps))) (contents ps ++ x)) ≡ content (get_or ps i null)
unfolding contents
contents_at [] x i h = absurd (omega arith)
contents_at (p ∷ ps) x zero h = rw (append_assoc (content p) (contents ps) x) (take-append_seam (content p) (contents ps ++ x))
contents_at (p ∷ ps) x (suc i) h =
    rw (append_assoc (content p) (contents ps) x, length-append (content p) (contents (take i ps)), drop-append-add (content p) (contents ps ++ x) (length (contents (take i ps)))) (contents_at ps x i (omega arith))
