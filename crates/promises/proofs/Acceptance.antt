-- The packet reader accepts exactly what is acceptable. Assumes nothing.
use mathlib.Core.Path.{◌≡◌, refl, sym, ◌∙◌, ap}
use mathlib.Core.Bool.{Bool, true, false, not, ◌&&◌, false≢true}
use mathlib.Core.List.{List, []}
use mathlib.Core.Logic.{⊎_elim, inl, inr}
use Prim.Native.Nat.{ℕ, ◌<◌, min}
use native.Mathlib.Omega.{arith}
use native.Mathlib.Nat.{zero-add}
use borrow.Author.Tests.{ltb-false, le-ltb, eq-eqb, eqb-true, not-false}
use lib.ListN.{length}
use Rattle.words.specs.Answer.{Answer, accepted, more, refused}
use Rattle.words.specs.Decide.{pick, ◌=?◌, ◌≠?◌, ◌<?◌, first}
use Rattle.words.proofs.DecideLaws.{first_none, first_all}
use Rattle.crc64.specs.Polynomial.{checksum}
use Rattle.packet.specs.Layout.{packet_signature, null_size, largest_part, most_parts, last_type, fixed_header_size, has_variable_header, headers, signature, type, count, fixed_sum, fixed_fields, fields, size, part_sum, variable, variable_sum, whole, part}
use Rattle.packet_read.specs.Reading.{Limits, fails, too_large, part_fails, reading}
use Rattle.packet.specs.Layout.{is_null}
use Rattle.promises.specs.Acceptance.{Guards, FixedHeader, VariableHeader, Acceptable, consumed, Acceptance}
use Rattle.packet_read.proofs.Lines.{Before, Behind, rest, reading_is, lines_before, lines_behind, pass_bare, pass_before, pass_behind}

-- a word guards its stretch exactly where the stretch does not fail it
pub guards : (stored : ℕ) (bytes : List ℕ) → fails stored bytes ≡ false → Guards stored bytes
guards stored bytes passed = zero_or (stored =? 0) refl
  where
    zero_or : (b : Bool) → (stored =? 0) ≡ b → Guards stored bytes
    zero_or true e = inl (eqb-true stored 0 e)
    zero_or false e = inr (eqb-true stored (checksum bytes) (not-false (stored =? checksum bytes) (rw e at passed)))

unfailed : (stored : ℕ) (bytes : List ℕ) → Guards stored bytes → fails stored bytes ≡ false
unfailed stored bytes = ⊎_elim (λ (zero : stored ≡ 0). rw zero) (λ (same : stored ≡ checksum bytes). last (stored ≠? 0) (eq-eqb stored (checksum bytes) same))
  where
    last : (b : Bool) → (stored =? checksum bytes) ≡ true → (b && stored ≠? checksum bytes) ≡ false
    last true e = rw e
    last false e = refl

-- a test that leaves nulls alone
pub present : (b c : Bool) → (b ≡ true → ⊥) → (not b && c) ≡ false → c ≡ false
present true c some e = absurd (some refl)
present false c some e = e

absent : (b c : Bool) → ((b ≡ true → ⊥) → c ≡ false) → (not b && c) ≡ false
absent true c some = refl
absent false c some = some false≢true

module _ (s : List ℕ) (n : ℕ) where
  pub none_of : (test : ℕ → Bool) → (first test n <? n) ≡ false → (i : ℕ) → i < n → test i ≡ false
  none_of test e i h = first_none test 0 n i (omega arith) (omega (arith, ltb-false (first test n) n e))

  never : (test : ℕ → Bool) → ((i : ℕ) → i < n → test i ≡ false) → (first test n <? n) ≡ false
  never test none = le-ltb (first test n) n (omega (arith, first_all test 0 n (λ k low high. none k (omega (arith, zero-add n)))))

  pub not_null : (i : ℕ) → (size s i ≡ null_size → ⊥) → is_null s i ≡ true → ⊥
  not_null i some e = some (eqb-true (size s i) null_size e)

  is_some : (i : ℕ) → (is_null s i ≡ true → ⊥) → size s i ≡ null_size → ⊥
  is_some i some e = some (eq-eqb (size s i) null_size e)

same_word : (a b : ℕ) → (a ≠? b) ≡ false → a ≡ b
same_word a b e = eqb-true a b (not-false (a =? b) e)

module _ (s : List ℕ) (limits : Limits) where
  fixed_of : Before s (count s) limits → FixedHeader s limits
  fixed_of b =
      record {
        there = ltb-false (length s) fixed_header_size b.there;
        signed = same_word (signature s) packet_signature b.signed;
        known = ltb-false last_type (type s) b.known;
        current = b.current;
        guarded = guards (fixed_sum s) (fixed_fields s) b.guarded;
        few = ltb-false (min most_parts limits.parts) (count s) b.few;
      }

  variable_of : (n : ℕ) → Behind s n limits → VariableHeader s n limits
  variable_of n b =
      record {
        short = ltb-false limits.bytes (headers n) b.short;
        headers_there = ltb-false (length s) (headers n) b.headers_there;
        guarded = guards (variable_sum s n) (variable s n) b.guarded;
        sizes = λ i h some. ltb-false largest_part (size s i) (present (is_null s i) (largest_part <? size s i) (not_null s n i some) (none_of s n (too_large s) b.sizes i h));
        within = ltb-false limits.bytes (whole s n) b.within;
        there = ltb-false (length s) (whole s n) b.there;
        parts = λ i h some. guards (part_sum s n i) (part s n i) (present (is_null s i) (fails (part_sum s n i) (part s n i)) (not_null s n i some) (none_of s n (part_fails s n) b.parts i h));
        roomy = ltb-false limits.room n b.roomy;
      }

  pub before_of : FixedHeader s limits → Before s (count s) limits
  before_of f =
      record {
        there = le-ltb (length s) fixed_header_size f.there;
        signed = ap not (eq-eqb (signature s) packet_signature f.signed);
        known = le-ltb last_type (type s) f.known;
        current = f.current;
        guarded = unfailed (fixed_sum s) (fixed_fields s) f.guarded;
        few = le-ltb (min most_parts limits.parts) (count s) f.few;
      }

  pub behind_of : (n : ℕ) → VariableHeader s n limits → Behind s n limits
  behind_of n v =
      record {
        short = le-ltb limits.bytes (headers n) v.short;
        headers_there = le-ltb (length s) (headers n) v.headers_there;
        guarded = unfailed (variable_sum s n) (variable s n) v.guarded;
        sizes = never s n (too_large s) (λ i h. absent (is_null s i) (largest_part <? size s i) (λ some. le-ltb largest_part (size s i) (v.sizes i h (is_some s n i some))));
        within = le-ltb limits.bytes (whole s n) v.within;
        there = le-ltb (length s) (whole s n) v.there;
        parts = never s n (part_fails s n) (λ i h. absent (is_null s i) (fails (part_sum s n i) (part s n i)) (λ some. unfailed (part_sum s n i) (part s n i) (v.parts i h (is_some s n i some))));
        roomy = le-ltb limits.room n v.roomy;
      }

  accepts : Acceptable s limits → reading s limits ≡ accepted (consumed s) (fields s)
  accepts ok = by_header (has_variable_header (type s) (count s)) refl
    where
      by_header : (b : Bool) → has_variable_header (type s) (count s) ≡ b → reading s limits ≡ accepted (pick b (whole s (count s)) fixed_header_size) (fields s)
      by_header true e =
          reading_is s (count s) limits refl ∙ pass_before s (count s) limits (before_of ok.0) (rest s (count s) limits) e
          ∙ pass_behind s (count s) limits (behind_of (count s) (ok.1 e))
      by_header false e = reading_is s (count s) limits refl ∙ pass_bare s (count s) limits (before_of ok.0) (rest s (count s) limits) e

  -- what an accepted answer says of the lines
  module _ (n : ℕ) (f : List ℕ) (e : reading s limits ≡ accepted n f) where
    pub passed_before : Before s (count s) limits
    passed_before = (lines_before s (count s) limits (accepted n f) refl (sym (reading_is s (count s) limits refl) ∙ e)).0

    pub passed_behind : has_variable_header (type s) (count s) ≡ true → Behind s (count s) limits
    passed_behind = lines_behind s (count s) limits (accepted n f) refl (sym (reading_is s (count s) limits refl) ∙ e)

    accepted_is : Acceptable s limits × (n ≡ consumed s) × (f ≡ fields s)
    accepted_is = (ok, ap counted same, ap given same)
      where
        ok : Acceptable s limits
        ok = (fixed_of passed_before, (λ h. variable_of (count s) (passed_behind h)))

        same : accepted n f ≡ accepted (consumed s) (fields s)
        same = sym e ∙ accepts ok

        counted : Answer → ℕ
        counted (accepted k g) = k
        counted more = 0
        counted (refused number values k) = k

        given : Answer → List ℕ
        given (accepted k g) = g
        given more = []
        given (refused number values k) = values

-- Demand 2, for the reader of packets: it accepts exactly the packets that the layout describes, with the fields that
-- stand in them, and consumes just their bytes.
pub acceptance : Acceptance
acceptance s limits = (accepts s limits, accepted_is s limits)
