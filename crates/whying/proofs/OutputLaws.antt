-- Whether an input begins with a word, and the output by its first line. Assumes nothing.
use Prim.Native.Nat.{ℕ, ◌+◌, ◌<◌, ◌≤◌}
use mathlib.Core.Path.{◌≡◌, refl, sym, ◌∙◌, ap, subst}
use mathlib.Core.Bool.{Bool, true, false, ◌&&◌}
use mathlib.Core.List.{List, [], ◌∷◌}
use native.Mathlib.Numerals.{add-one}
use native.Mathlib.Omega.{arith}
use borrow.Author.Tests.{lt-ltb, le-ltb, eq-eqb, ne_eqb}
use lib.ListN.{length, get_or, drop, drop_of_length-le}
use lib.Seq.{drop-cons}
use Rattle.words.specs.Buffer.{fitted}
use Rattle.words.specs.Decide.{◌=?◌}
use Rattle.words.specs.Text.{text}
use Rattle.words.proofs.BufferLaws.{fitted_fits}
use Rattle.words.proofs.LentLaws.{tail, tail_is_drop}
use Rattle.packet.specs.declared.Mode.TheVariants.{Archive}
use Rattle.listing.specs.Output.{most_bytes, byte_limit, part_ceiling}
use Rattle.finding.specs.declared.Finding.{Finding}
use Rattle.finding.specs.Meaning.{meaning}
use Rattle.why_packet.specs.Checks.{ExplainsPacket}
use Rattle.why_rowset.specs.Checks.{ExplainsRowset}
use Rattle.why_text.specs.Text.{line_of, line_room}
use Rattle.why_text.specs.Statement.{Line, Writes, WritesLine}
use Rattle.std.specs.declared.result.Result.TheVariants.{Ok}
use Rattle.whying.specs.Output.{first_line, starts, output}
use Rattle.whying.specs.Statement.{Whys}

and_false : (b : Bool) → (b && false) ≡ false
and_false true = refl
and_false false = refl

-- too short to begin with the word
pub starts_short : (word s : List ℕ) → length s < length word → false ≡ starts word s
starts_short [] s h = absurd (omega arith)
starts_short (b ∷ word) [] h = refl
starts_short (b ∷ word) (c ∷ s) h = sym (rw (← starts_short word s (omega arith)) (and_false (c =? b)))

-- what begins with a word is as long
pub starts_long : (word s : List ℕ) → starts word s ≡ true → length word ≤ length s
starts_long [] s h = omega arith
starts_long (b ∷ word) [] h = absurd (let z : ◌≡◌ {A = ℕ} 0 1 = cc in omega arith)
starts_long (b ∷ word) (c ∷ s) h = omega (arith, starts_long word s (behind (c =? b) h))
  where
    behind : (t : Bool) → (t && starts word s) ≡ true → starts word s ≡ true
    behind true e = e
    behind false e = absurd (let z : ◌≡◌ {A = ℕ} 0 1 = cc in omega arith)

-- The bytes from i on are still to be compared

abbrev pub StartsLeft : List ℕ → List ℕ → ℕ → Type 0
StartsLeft word s i = (i ≤ length word) × (length word ≤ length s) × (starts (drop i word) (drop i s) ≡ starts word s)

module _ (word s : List ℕ) (i : ℕ) (inv : StartsLeft word s i) where
  starts_more : i < length word → starts (drop i word) (drop i s) ≡ ((get_or s i 0 =? get_or word i 0) && starts (drop (i + 1) word) (drop (i + 1) s))
  starts_more h = let h' : i < length s = omega (arith, inv.1) in rw (add-one i, drop-cons word i 0, drop-cons s i 0)

  pub starts_not : i < length word → (get_or s i 0 ≡ get_or word i 0 → ⊥) → false ≡ starts word s
  starts_not h other = sym (sym inv.2 ∙ starts_more h ∙ rw (ne_eqb (get_or s i 0) (get_or word i 0) other))

  pub starts_go : i < length word → get_or s i 0 ≡ get_or word i 0 → StartsLeft word s (i + 1)
  starts_go h same = (omega arith, inv.1, sym (starts_more h ∙ rw (eq-eqb (get_or s i 0) (get_or word i 0) same)) ∙ inv.2)

  pub starts_end : length word ≤ i → true ≡ starts word s
  starts_end h = let nothing : drop i word ≡ [] = drop_of_length-le word {i = i} h in (rw nothing at inv.2)

-- The output

as_output : (s ws before : List ℕ) (r : Line) (after : List ℕ) → output s ≡ ws → Writes ws before r after → Whys s before r after
as_output s ws before r after e writes = subst (λ (l : List ℕ). Writes l before r after) (sym e) writes

module _ (s before : List ℕ) (r : Line) (after : List ℕ) where
  pub too_long : (first_line + most_bytes) < length s → Writes (text "bad input\n") before r after → Whys s before r after
  unfolding output
  too_long long = as_output s (text "bad input\n") before r after (rw (lt-ltb (first_line + most_bytes) (length s) long))

  module _ (few : length s ≤ first_line + most_bytes) where
    pub is_packet : true ≡ starts (text "packet\n") s → (f : Finding) → ExplainsPacket (tail s first_line) Archive byte_limit part_ceiling f → WritesLine f before r after → Whys s before r after
    unfolding output
    is_packet begins f explains =
        as_output s (line_of (meaning f)) before r after
        (rw (le-ltb (first_line + most_bytes) (length s) few, ← begins) (ap line_of (sym (rw (tail_is_drop s first_line) at explains))))

    module _ (no : false ≡ starts (text "packet\n") s) where
      pub is_rowset : true ≡ starts (text "rowset\n") s → (f : Finding) → ExplainsRowset (tail s first_line) f → WritesLine f before r after → Whys s before r after
      unfolding output
      is_rowset begins f explains =
          as_output s (line_of (meaning f)) before r after
          (rw (le-ltb (first_line + most_bytes) (length s) few, ← no, ← begins) (ap line_of (sym (rw (tail_is_drop s first_line) at explains))))

      pub is_neither : false ≡ starts (text "rowset\n") s → Writes (text "bad input\n") before r after → Whys s before r after
      unfolding output
      is_neither none = as_output s (text "bad input\n") before r after (rw (le-ltb (first_line + most_bytes) (length s) few, ← no, ← none))

-- `bad input` over the front of a buffer that has the room
pub bad_written : (before after : List ℕ) → line_room ≤ length before → after ≡ fitted (text "bad input\n") before → Writes (text "bad input\n") before (Ok 10) after
bad_written before after fits e =
    let so = le-ltb (length before) line_room fits in
    (rw so, rw so (e ∙ fitted_fits (text "bad input\n") before (omega arith)))
