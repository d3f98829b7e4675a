-- One value: where its bytes stand in an input, it is read as it was, and its checks pass. Assumes nothing.
use mathlib.Core.Path.{◌≡◌, refl, sym, ◌∙◌, ap}
use mathlib.Core.Bool.{Bool, true, false, ◌&&◌}
use mathlib.Core.List.{List, [], ◌∷◌, ◌++◌, append_assoc}
use Prim.Native.Nat.{ℕ, ◌+◌, ◌-◌, ◌^◌, ◌<◌, ◌≤◌}
use native.Mathlib.Nat.{add-zero, mod-eq_of_lt}
use native.Mathlib.Omega.{arith}
use lib.Dec.{ltb, eqb}
use lib.ListN.{length, get_or, take, drop, replicate, length-append, length-drop, length-replicate}
use lib.Seq.{drop-drop, drop-append_seam, take_at}
use borrow.Author.Tests.{ltb-true, ltb-false, lt-ltb, le-ltb, eqb-true, eqb-false, eq-eqb, ne_eqb}
use Rattle.words.specs.Answer.{Answer}
use Rattle.words.specs.Buffer.{stretch}
use Rattle.words.specs.Decide.{pick, decide}
use Rattle.words.specs.Word.{word as word_at, bytes_of}
use Rattle.words.proofs.WordLaws.{word_drop, word_behind, word_bytes_of, length_bytes_of}
use Rattle.wire.specs.Layout.{max_length, boolean, scalar, blob, known, padding, payload, flag, bits_of, id_at, type_at, aggregate_at, length_at, scalar_at, next_value}
use Rattle.wire_value.specs.ValueOrder.{value_order}
use Rattle.wire.specs.Content.{Content, nothing, word, bytes, Cell, length_word, content_bytes, cell_bytes}
use Rattle.promises.specs.RowContent.{content_at, cell_at, FitsType, GoodCell}

-- a word that stands behind j bytes
pub word_stands : (k j n : ℕ) (s a b : List ℕ) (at : ℕ) → drop at s ≡ a ++ (bytes_of k n ++ b) → length a ≡ j → n < 256 ^ k → word_at k s (at + j) ≡ n
word_stands k j n s a b at e size fits =
    sym (word_drop k at s j)
    ∙ ap (λ (x : List ℕ). word_at k x j) e
    ∙ ap (λ (i : ℕ). word_at k (a ++ (bytes_of k n ++ b)) i) (sym size ∙ sym (add-zero (length a)))
    ∙ word_behind k a (bytes_of k n ++ b) 0
    ∙ word_bytes_of k n b
    ∙ mod-eq_of_lt fits

-- a byte is a word of one byte
pub one_byte : (s : List ℕ) (at : ℕ) → word_at 1 s at ≡ get_or s at 0
unfolding word_at
one_byte s at = add-zero (get_or s at 0)

-- behind a list
pub drop_behind : (s a b : List ℕ) (at n : ℕ) → drop at s ≡ a ++ b → length a ≡ n → drop (at + n) s ≡ b
drop_behind s a b at n e size = sym (drop-drop n at s) ∙ ap (drop n) e ∙ ap (λ (m : ℕ). drop m (a ++ b)) (sym size) ∙ drop-append_seam a b

pub by_test : {A : Type 0} (t : Bool) → (t ≡ true → A) → (t ≡ false → A) → A
by_test true hit miss = hit refl
by_test false hit miss = miss refl

both : (a b : Bool) → (a && b) ≡ true → (a ≡ true) × (b ≡ true)
both true b e = (refl, e)
both false b e = absurd (let z : ◌≡◌ {A = ℕ} 0 1 = cc in omega arith)

-- no type is both a scalar and a blob
pub scalar_no_blob : (type : ℕ) → scalar type ≡ true → blob type ≡ false
scalar_no_blob type is =
    let high : type < 7 = ltb-true type 7 (both (ltb 2 type) (ltb type 7) is).1 in
    rw (le-ltb 15 type (omega arith))

pub blob_no_scalar : (type : ℕ) → blob type ≡ true → scalar type ≡ false
blob_no_scalar type is =
    let low : 15 < type = ltb-true 15 type (both (ltb 15 type) (ltb type 19) is).0 in
    rw (lt-ltb 2 type (omega arith), le-ltb type 7 (omega arith))

pub small_flag : (x : ℕ) → x ≤ 1 → flag x ≡ x
small_flag x h = by_test (eqb x 0) (λ e. rw e (sym (eqb-true x 0 e))) (λ e. rw e (omega (arith, eqb-false x 0 e)))

-- what a content that fits its type says of the type
pub type_known : (type : ℕ) (c : Content) → FitsType type c → known type ≡ true
type_known type nothing e = rw e
type_known type (word n) fits = by_test (eqb type 2) (λ t. rw t) (λ t. rw (t, fits.0))
type_known type (bytes b) fits = by_test (eqb type 2) (λ t. rw t) (λ t. rw (t, blob_no_scalar type fits.0, fits.0))

type_byte : (type : ℕ) (c : Content) → FitsType type c → type < 256
type_byte type nothing e = omega arith
type_byte type (word n) fits = omega (arith, ltb-true type 7 (both (ltb 2 type) (ltb type 7) fits.0).1)
type_byte type (bytes b) fits = omega (arith, ltb-true type 19 (both (ltb 15 type) (ltb type 19) fits.0).1)

length_fits : (type : ℕ) (c : Content) → FitsType type c → length_word c ≤ max_length
length_fits type nothing e = omega arith
length_fits type (word n) fits = omega arith
length_fits type (bytes b) fits = fits.1

pub length_content : (type : ℕ) (c : Content) → FitsType type c → length (content_bytes c) ≡ payload type (length_word c)
unfolding payload
length_content type nothing e = rw e
length_content type (word n) fits = rw (scalar_no_blob type fits.0, fits.0) (length_bytes_of 8 n)
length_content type (bytes b) fits =
    rw fits.0 (length-append b (replicate (padding (length b)) 0) ∙ rw (length-replicate {A = ℕ} (padding (length b)) 0))

-- the value's bytes stand at `at`, with any tail
module _ (c : Cell) (good : GoodCell c) (s tail : List ℕ) (at : ℕ) (stands : drop at s ≡ cell_bytes c ++ tail) where
  n : ℕ
  n = length_word c.content

  rest : List ℕ
  rest = content_bytes c.content ++ tail

  nested : drop at s ≡ bytes_of 2 c.id ++ (bytes_of 1 c.type ++ (bytes_of 1 c.aggregate ++ (bytes_of 4 (length_word c.content) ++ (content_bytes c.content ++ tail))))
  nested = stands ∙ simp append_assoc

  head3 : drop at s ≡ (bytes_of 2 c.id ++ bytes_of 1 c.type) ++ (bytes_of 1 c.aggregate ++ (bytes_of 4 (length_word c.content) ++ (content_bytes c.content ++ tail)))
  head3 = nested ∙ simp append_assoc

  head4 : drop at s ≡ ((bytes_of 2 c.id ++ bytes_of 1 c.type) ++ bytes_of 1 c.aggregate) ++ (bytes_of 4 (length_word c.content) ++ (content_bytes c.content ++ tail))
  head4 = nested ∙ simp append_assoc

  head8 : drop at s ≡ (((bytes_of 2 c.id ++ bytes_of 1 c.type) ++ bytes_of 1 c.aggregate) ++ bytes_of 4 (length_word c.content)) ++ (content_bytes c.content ++ tail)
  head8 = nested ∙ simp append_assoc

  pub reads_id : id_at s at ≡ c.id
  reads_id = ap (word_at 2 s) (sym (add-zero at)) ∙ word_stands 2 0 c.id s [] _ at nested refl (omega (arith, good.id_fits))

  pub reads_type : type_at s at ≡ c.type
  reads_type = sym (one_byte s (at + 2)) ∙ word_stands 1 2 c.type s (bytes_of 2 c.id) _ at nested (length_bytes_of 2 c.id) (type_byte c.type c.content good.fits_type)

  pub reads_aggregate : aggregate_at s at ≡ c.aggregate
  reads_aggregate =
      sym (one_byte s (at + 3))
      ∙ word_stands 1 3 c.aggregate s (bytes_of 2 c.id ++ bytes_of 1 c.type) _ at head3 (simp (length-append, length_bytes_of)) (omega (arith, good.aggregate_bit))

  pub reads_length : length_at s at ≡ length_word c.content
  reads_length =
      word_stands 4 4 (length_word c.content) s ((bytes_of 2 c.id ++ bytes_of 1 c.type) ++ bytes_of 1 c.aggregate) _ at head4 (simp (length-append, length_bytes_of))
      (omega (arith, length_fits c.type c.content good.fits_type))

  pub behind_header : drop (at + 8) s ≡ content_bytes c.content ++ tail
  behind_header = drop_behind s (((bytes_of 2 c.id ++ bytes_of 1 c.type) ++ bytes_of 1 c.aggregate) ++ bytes_of 4 (length_word c.content)) _ at 8 head8 (simp (length-append, length_bytes_of))

  -- where the value ends
  size : length (content_bytes c.content) ≡ payload c.type (length_word c.content)
  size = length_content c.type c.content good.fits_type

  next_is : next_value s at ≡ at + 8 + payload c.type (length_word c.content)
  unfolding next_value
  next_is = rw (reads_type, reads_length)

  pub tail_stands : drop (next_value s at) s ≡ tail
  tail_stands = rw next_is (drop_behind s (content_bytes c.content) tail (at + 8) (payload c.type (length_word c.content)) behind_header size)

  value_lies : at + 8 + payload c.type (length_word c.content) ≤ length s
  value_lies =
      let all : length s - at ≡ 8 + payload c.type (length_word c.content) + length tail =
      sym (length-drop at s) ∙ ap length nested ∙ simp (length-append, length_bytes_of, size) (omega arith) in
      omega arith

  pub value_passes : (rest : Answer) → decide (value_order s at) rest ≡ rest
  unfolding value_order
  value_passes rest =
      let allowed : (blob c.type && ltb max_length (length_word c.content)) ≡ false =
      by_test (blob c.type) (λ is. rw (is, le-ltb max_length (length_word c.content) (length_fits c.type c.content good.fits_type))) (λ isnt. rw isnt) in
      let lies : at + 8 + payload c.type (length_word c.content) ≤ length s = value_lies in
      rw (reads_type, reads_length, le-ltb (length s - at) 8 (omega arith), type_known c.type c.content good.fits_type, allowed, le-ltb (length s - (at + 8)) (payload c.type (length_word c.content)) (omega arith))

-- the content that stands behind the header
content_read : (type : ℕ) (c : Content) → FitsType type c → (s tail : List ℕ) (at : ℕ) → type_at s at ≡ type → length_at s at ≡ length_word c
    → drop (at + 8) s ≡ content_bytes c ++ tail → content_at s at ≡ c
content_read type nothing e s tail at t n there = rw (t, e)
content_read type (word w) fits s tail at t n there =
    let is : scalar_at s at ≡ w = ap (word_at 8 s) (sym (add-zero (at + 8))) ∙ word_stands 8 0 w s [] tail (at + 8) there refl fits.1 in
    rw (t, scalar_no_blob type fits.0, fits.0, is)
    (by_test (eqb type boolean) (λ b. rw b (ap word (small_flag w (fits.2 (eqb-true type boolean b))))) (λ b. rw b))
content_read type (bytes b) fits s tail at t n there =
    rw (t, fits.0, n, there) (ap bytes (ap (take (length b)) (append_assoc b (replicate (padding (length b)) 0) tail) ∙ take_at b (replicate (padding (length b)) 0 ++ tail) (length b) refl))

pub cell_read : (c : Cell) (good : GoodCell c) (s tail : List ℕ) (at : ℕ) → drop at s ≡ cell_bytes c ++ tail → cell_at s at ≡ c
cell_read c good s tail at stands =
    let id : id_at s at ≡ c.id = reads_id c good s tail at stands in
    let type : type_at s at ≡ c.type = reads_type c good s tail at stands in
    let flags : flag (aggregate_at s at) ≡ c.aggregate = ap flag (reads_aggregate c good s tail at stands) ∙ small_flag c.aggregate good.aggregate_bit in
    let content : content_at s at ≡ c.content =
    content_read c.type c.content good.fits_type s tail at type (reads_length c good s tail at stands) (behind_header c good s tail at stands) in
    λ i. record { id = id i; type = type i; aggregate = flags i; content = content i }
