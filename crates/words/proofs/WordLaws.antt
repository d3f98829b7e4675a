-- Laws of words and bytes, each over the width. Assumes nothing.
use mathlib.Core.Path.{◌≡◌, refl, sym, ◌∙◌, ap}
use mathlib.Core.List.{List, ◌∷◌, ◌++◌}
use Prim.Native.Nat.{ℕ, zero, suc, ◌+◌, ◌*◌, ◌/◌, ◌%◌, ◌^◌, ◌<◌, ◌≤◌, ◌-◌}
use native.Mathlib.Nat.{zero-add, add-zero, add_assoc, suc-add, one-mul, mul_assoc, pow-succ', mod-one, mod-eq_of_lt, div-eq_of_lt, mod-lt, div-div-eq-div-mul, mod-add-div, add-mul-mod_self_left, add-mul-div_left, add_comm, div-one}
use native.Mathlib.Numerals.{add-one}
use native.Mathlib.Omega.{arith}
use lib.ListN.{length, get_or, take, drop, get_or-eq_default}
use lib.Seq.{drop-cons, get_or-drop, get_or-take, get_or-append-add}
use Rattle.words.specs.Word.{word, bytes_of, Bytes}

-- the same bytes spell the same word
pub word_same : (k : ℕ) (s t : List ℕ) (at bt : ℕ) → ((i : ℕ) → i < k → get_or s (at + i) 0 ≡ get_or t (bt + i) 0) → word k s at ≡ word k t bt
unfolding word
word_same zero s t at bt same = refl
word_same (suc k) s t at bt same =
    let head : get_or s at 0 ≡ get_or t bt 0 = simp add-zero at (same 0 (omega arith)) in
    let tail : word k s (at + 1) ≡ word k t (bt + 1) = word_same k s t (at + 1) (bt + 1) (λ i h. rw (add_assoc at 1 i, add_assoc bt 1 i) (same (1 + i) (omega arith))) in
    cc

-- past the end a word is 0
pub word_past : (k : ℕ) (s : List ℕ) (at : ℕ) → length s ≤ at → word k s at ≡ 0
unfolding word
word_past zero s at h = refl
word_past (suc k) s at h = rw (get_or-eq_default s 0 h, word_past k s (at + 1) (omega arith))

-- a word of j + k bytes is one of j bytes and one of k bytes above it
pub word_split : (j k : ℕ) (s : List ℕ) (at : ℕ) → word (j + k) s at ≡ word j s at + 256 ^ j * word k s (at + j)
unfolding word
word_split zero k s at = rw (zero-add k, add-zero at, one-mul) (sym (zero-add _))
word_split (suc j) k s at =
    let high : ℕ = word k s (at + suc j) in
    let rest : word (j + k) s (at + 1) ≡ word j s (at + 1) + 256 ^ j * high = word_split j k s (at + 1) ∙ ap (λ (n : ℕ). word j s (at + 1) + 256 ^ j * word k s n) (omega arith) in
    let scaled : 256 ^ suc j * high ≡ 256 * (256 ^ j * high) = rw (pow-succ' 256 j, mul_assoc 256 (256 ^ j) high) in
    rw (suc-add j k) (omega arith)

-- a word of bytes fits its width
pub word_lt : (k : ℕ) (s : List ℕ) (at : ℕ) → Bytes s → word k s at < 256 ^ k
unfolding word
word_lt zero s at bytes = omega arith
word_lt (suc k) s at bytes =
    let low : get_or s at 0 < 256 = bytes at in
    let high : word k s (at + 1) < 256 ^ k = word_lt k s (at + 1) bytes in
    rw pow-succ' (omega arith)

-- so many bytes as were asked for
pub length_bytes_of : (k n : ℕ) → length (bytes_of k n) ≡ k
unfolding bytes_of
length_bytes_of zero n = refl
length_bytes_of (suc k) n = ap suc (length_bytes_of k (n / 256))

pub bytes_bytes_of : (k n : ℕ) → Bytes (bytes_of k n)
unfolding bytes_of
bytes_bytes_of zero n i = omega arith
bytes_bytes_of (suc k) n zero = omega arith
bytes_bytes_of (suc k) n (suc i) = bytes_bytes_of k (n / 256) i

-- the bytes of a word are the stretch that spells it
pub bytes_of_word : (k : ℕ) (s : List ℕ) (at : ℕ) → Bytes s → at + k ≤ length s → bytes_of k (word k s at) ≡ take k (drop at s)
unfolding word bytes_of
bytes_of_word zero s at bytes h = refl
bytes_of_word (suc k) s at bytes h =
    let low : get_or s at 0 < 256 = bytes at in
    let head : (get_or s at 0 + 256 * word k s (at + 1)) % 256 ≡ get_or s at 0 = omega arith in
    let tail : (get_or s at 0 + 256 * word k s (at + 1)) / 256 ≡ word k s (at + 1) = omega arith in
    rw (drop-cons s at 0 (omega arith), ← add-one at, ← bytes_of_word k s (at + 1) bytes (omega arith), head, tail)

-- a remainder by 256 * m, lowest byte first
mod_bytes : (n m : ℕ) → 0 < m → n % 256 + 256 * (n / 256 % m) ≡ n % (256 * m)
mod_bytes n m h =
    let q : ℕ = n / 256 in
    let low : q % m < m = mod-lt q h in
    let parts : q % m + m * (q / m) ≡ q = mod-add-div q m in
    let scaled : 256 * m * (q / m) ≡ 256 * (m * (q / m)) = mul_assoc 256 m (q / m) in
    let whole : n ≡ n % 256 + 256 * (q % m) + 256 * m * (q / m) = omega arith in
    let small : n % 256 + 256 * (q % m) < 256 * m = omega arith in
    sym (ap (λ (x : ℕ). x % (256 * m)) whole ∙ add-mul-mod_self_left (n % 256 + 256 * (q % m)) (256 * m) (q / m) ∙ mod-eq_of_lt small)

pow_pos : (k : ℕ) → 0 < 256 ^ k
pow_pos zero = omega arith
pow_pos (suc k) = let h : 0 < 256 ^ k = pow_pos k in rw pow-succ' (omega arith)

-- the bytes of a number spell it, as far as they reach
pub word_bytes_of : (k n : ℕ) (t : List ℕ) → word k (bytes_of k n ++ t) 0 ≡ n % 256 ^ k
unfolding word bytes_of
word_bytes_of zero n t = sym (mod-one n)
word_bytes_of (suc k) n t =
    let s : List ℕ = bytes_of k (n / 256) ++ t in
    let tail : word k (n % 256 ∷ s) 1 ≡ word k s 0 = word_same k (n % 256 ∷ s) s 1 0 (λ i h. rw (add_comm 1 i, add-one i, zero-add i)) in
    rw (tail, word_bytes_of k (n / 256) t, mod_bytes n (256 ^ k) (pow_pos k), pow-succ' 256 k)

-- behind p
pub word_behind : (k : ℕ) (p s : List ℕ) (at : ℕ) → word k (p ++ s) (length p + at) ≡ word k s at
word_behind k p s at = word_same k (p ++ s) s (length p + at) at (λ i h. rw (add_assoc (length p) at i, get_or-append-add p s (at + i) 0))

-- a word of a stretch
pub word_drop : (k n : ℕ) (s : List ℕ) (at : ℕ) → word k (drop n s) at ≡ word k s (n + at)
word_drop k n s at = word_same k (drop n s) s at (n + at) (λ i h. rw (add_assoc n at i, get_or-drop n s (at + i) 0))

pub word_take : (k n : ℕ) (s : List ℕ) (at : ℕ) → at + k ≤ n → word k (take n s) at ≡ word k s at
word_take k n s at h = word_same k (take n s) s at at (λ i below. get_or-take n s (at + i) 0 (omega arith))

-- the bytes of a word, lent by themselves, have the word that stands at their place
pub word_lent : (k : ℕ) (s : List ℕ) (at : ℕ) {w : ℕ} → w ≡ word k (take (at + k - at) (drop at s)) 0 → w ≡ word k s at
word_lent k s at e = e ∙ word_take k (at + k - at) (drop at s) 0 (omega arith) ∙ word_drop k at s 0 ∙ ap (word k s) (add-zero at)

-- the bytes of a number of j + k bytes: those of its low j, then those of what is above
pub bytes_of_split : (j k n : ℕ) → bytes_of (j + k) n ≡ bytes_of j n ++ bytes_of k (n / 256 ^ j)
unfolding bytes_of
bytes_of_split zero k n = rw (zero-add k, div-one n)
bytes_of_split (suc j) k n =
    rw (suc-add j k, bytes_of_split j k (n / 256), div-div-eq-div-mul n 256 (256 ^ j), ← pow-succ' 256 j)

-- above the width nothing counts
pub bytes_of_mod : (k n : ℕ) → bytes_of k (n % 256 ^ k) ≡ bytes_of k n
unfolding bytes_of
bytes_of_mod zero n = refl
bytes_of_mod (suc k) n =
    let split : n % 256 + 256 * (n / 256 % 256 ^ k) ≡ n % 256 ^ suc k = mod_bytes n (256 ^ k) (pow_pos k) ∙ ap (λ (m : ℕ). n % m) (sym (pow-succ' 256 k)) in
    let head : n % 256 ^ suc k % 256 ≡ n % 256 = omega arith in
    let tail : n % 256 ^ suc k / 256 ≡ n / 256 % 256 ^ k = omega arith in
    rw (head, tail, bytes_of_mod k (n / 256))

-- two numbers one above the other
pub bytes_of_join : (j k a b : ℕ) → a < 256 ^ j → bytes_of (j + k) (a + 256 ^ j * b) ≡ bytes_of j a ++ bytes_of k b
bytes_of_join j k a b h =
    let low : (a + 256 ^ j * b) % 256 ^ j ≡ a = add-mul-mod_self_left a (256 ^ j) b ∙ mod-eq_of_lt h in
    let high : (a + 256 ^ j * b) / 256 ^ j ≡ b = add-mul-div_left a b (pow_pos j) ∙ ap (λ (q : ℕ). q + b) (div-eq_of_lt h) ∙ zero-add b in
    bytes_of_split j k (a + 256 ^ j * b) ∙ rw (← bytes_of_mod j (a + 256 ^ j * b), low, high)

-- two halves of j bytes are a word of twice as many
pub word_halves : (j : ℕ) (s : List ℕ) (at : ℕ) {low high : ℕ} → low ≡ word j s at → high ≡ word j s (at + j) → low + 256 ^ j * high ≡ word (j + j) s at
word_halves j s at l h = rw (l, h) (sym (word_split j j s at))
