-- Laws of text written at a place, and of the text's length. Assumes nothing.
use mathlib.Core.Path.{◌≡◌, refl, sym, ◌∙◌, ap, subst}
use mathlib.Core.Bool.{Bool, true, false}
use mathlib.Core.List.{List, [], ◌∷◌, ◌++◌, append_assoc, append-nil}
use Prim.Native.Nat.{ℕ, zero, suc, ◌+◌, ◌-◌, ◌*◌, ◌<◌, ◌≤◌}
use native.Mathlib.Nat.{zero-add, add-zero}
use native.Mathlib.Numerals.{add-one}
use native.Mathlib.Omega.{arith}
use borrow.Author.Tests.{le-ltb, eq-eqb, ne_eqb}
use lib.ListN.{length, get_or, set, take, drop, length-append, length-drop, drop_of_length-le, take-append-drop}
use lib.Seq.{take_at, drop_at, drop-drop, length-take-le, set_split}
use Rattle.words.specs.Decide.{pick, ◌=?◌}
use Rattle.words.specs.Buffer.{over, fitted}
use Rattle.words.proofs.BufferLaws.{fitted_fits}
use Rattle.words.proofs.LentLaws.{tail, back, tail_is_drop}
use Rattle.numerals.specs.Statement.{decimal}
use Rattle.numerals.proofs.SpelledLaws.{length_spelled_most}
use Rattle.guid_text.proofs.TextLaws.{length_text}
use Rattle.words.specs.Text.{text}
use Rattle.guid.specs.declared.Guid.{Guid}
use Rattle.guid_text.specs.Text.{text_of, printing}
use Rattle.words.specs.Statement.{Holds}
use Rattle.packet.specs.declared.Packet.{Packet}
use Rattle.packet.specs.Paper.{type_number, fields_of}
use Rattle.packet.specs.Entries.{entry_words, null_length, size_at, sum_at}
use Rattle.listing.specs.Text.{line, guard_text, packet_line, part_line, part_lines, end_line, more_line, refused_line}
use Rattle.listing.specs.Stages.{placed, Wrote, entry_text}

pub length_placed : (at : ℕ) (ws xs : List ℕ) → at + length ws ≤ length xs → length (placed at ws xs) ≡ length xs
unfolding placed
length_placed at ws xs h = simp (length-append, length-drop, length-take-le at xs (omega arith)) (omega arith)

-- one text behind the other
pub wrote_then : {ws vs : List ℕ} {at m r : ℕ} {xs ys zs : List ℕ} → m ≤ length xs → Wrote ws at xs m ys → Wrote vs m ys r zs → Wrote (ws ++ vs) at xs r zs
unfolding placed
wrote_then {ws} {vs} {at} {m} {r} {xs} {ys} {zs} room first second =
    let front : List ℕ = take at xs ++ ws in
    let long : length front ≡ m = length-append (take at xs) ws ∙ ap (λ (k : ℕ). k + length ws) (length-take-le at xs (omega (arith, first.ends))) ∙ sym first.ends in
    let both : length (ws ++ vs) ≡ length ws + length vs = length-append ws vs in
    let far : at + length ws + length vs ≡ at + length (ws ++ vs) = omega arith in
    let behind : drop (m + length vs) ys ≡ drop (at + length (ws ++ vs)) xs =
    sym (drop-drop (length vs) m ys)
    ∙ ap (drop (length vs)) (ap (drop m) first.holds ∙ drop_at front (drop (at + length ws) xs) m long)
    ∙ drop-drop (length vs) (at + length ws) xs
    ∙ ap (λ (k : ℕ). drop k xs) far in
    let before : take m ys ≡ front = ap (take m) first.holds ∙ take_at front (drop (at + length ws) xs) m long in
    record { ends = omega (arith, first.ends, second.ends); holds = second.holds ∙ rw (before, behind, append_assoc (take at xs) ws vs) }

-- one byte
pub wrote_byte : (at b : ℕ) (xs : List ℕ) → at < length xs → Wrote (b ∷ []) at xs (at + 1) (set xs at b)
unfolding placed
wrote_byte at b xs h =
    let one_more : suc at ≡ at + 1 = omega arith in
    record { ends = refl; holds = set_split xs at b h ∙ rw (one_more, append_assoc (take at xs) (b ∷ []) (drop (at + 1) xs)) }

-- a byte behind a text
pub wrote_behind : {ws : List ℕ} {at m : ℕ} {xs ys : List ℕ} (b : ℕ) → at + length ws < length xs → Wrote ws at xs m ys → Wrote (ws ++ b ∷ []) at xs (m + 1) (set ys m b)
wrote_behind {ws} {at} {m} {xs} {ys} b room first =
    let inside : m < length ys = omega (arith, first.ends, ap length first.holds, length_placed at ws xs (omega arith)) in
    wrote_then (omega (arith, first.ends)) first (wrote_byte m b ys inside)

-- over the front
pub wrote_front : {ws xs : List ℕ} {r : ℕ} {ys : List ℕ} → Wrote ws 0 xs r ys → (r ≡ length ws) × (ys ≡ over ws xs)
unfolding placed
wrote_front {ws} {xs} w = (w.ends ∙ zero-add (length ws), w.holds ∙ ap (λ (k : ℕ). ws ++ drop k xs) (zero-add (length ws)))

-- what fits at a place fits the tail that is lent from there
pub fits_tail : (ws xs : List ℕ) (at : ℕ) → at + length ws ≤ length xs → length ws ≤ length (tail xs at)
fits_tail ws xs at room = rw (tail_is_drop xs at) (simp length-drop (omega arith))

-- over the front of a tail that is lent
pub wrote_tail : (ws xs last : List ℕ) (at : ℕ) → at + length ws ≤ length xs → last ≡ fitted ws (tail xs at) → back xs at last ≡ placed at ws xs
unfolding placed
wrote_tail ws xs last at room wrote =
    let here : tail xs at ≡ drop at xs = tail_is_drop xs at in
    let fits : length ws ≤ length (tail xs at) = rw here (simp length-drop (omega arith)) in
    let nothing : drop (length xs - at) (drop at xs) ≡ [] = drop_of_length-le (drop at xs) {i = length xs - at} (simp length-drop (omega arith)) in
    rw (nothing, append-nil last, wrote, fitted_fits ws (tail xs at) fits, here, drop-drop (length ws) at xs, append_assoc (take at xs) ws (drop (at + length ws) xs))

-- a number over the front of a tail that is lent, and a byte behind it
pub decimal_short : (n : ℕ) → length (decimal n) ≤ 20
decimal_short n = length_spelled_most 10 20 n

-- the id has at most 35 bytes
pub id_short : (g : Guid) → length (text_of g) ≤ 35
id_short g = omega (arith, length_text g, length_spelled_most 16 8 g.w0, length_spelled_most 16 8 g.w1, length_spelled_most 16 8 g.w2, length_spelled_most 16 8 g.w3)

-- an id that fits is printed over the front
pub printed_fits : (g : Guid) (before after : List ℕ) → length (text_of g) ≤ length before → Holds (printing g (length before)) (text_of g) before after → after ≡ fitted (text_of g) before
printed_fits g before after fits holds = (rw (le-ltb (length before) (length (text_of g)) fits) at holds) ∙ sym (fitted_fits (text_of g) before fits)

-- The lines, from the pieces that they are written in.

joined_five : (a b c d e : List ℕ) → (a ++ 32 ∷ []) ++ (b ++ 32 ∷ []) ++ (c ++ 32 ∷ []) ++ (d ++ 32 ∷ []) ++ e ≡ a ++ 32 ∷ (b ++ 32 ∷ (c ++ 32 ∷ (d ++ 32 ∷ e)))
joined_five a b c d e = simp append_assoc

pub packet_text : (offset type : ℕ) (p : Packet) → type ≡ type_number p.packet_type
    → text "packet" ++ (32 ∷ []) ++ (decimal offset ++ 32 ∷ []) ++ (decimal type ++ 32 ∷ []) ++ (decimal p.flags.0 ++ 32 ∷ []) ++ (text_of p.id ++ 32 ∷ []) ++ (decimal p.parts ++ 10 ∷ []) ≡ packet_line offset (fields_of p)
unfolding packet_line
packet_text offset type p e =
    rw e (ap (λ (l : List ℕ). text "packet" ++ 32 ∷ l) (joined_five (decimal offset) (decimal (type_number p.packet_type)) (decimal p.flags.0) (text_of p.id) (decimal p.parts ++ 10 ∷ [])))

pub part_text : (index size sum : ℕ) → text "part" ++ (32 ∷ []) ++ (decimal index ++ 32 ∷ []) ++ entry_text size sum ≡ part_line index size sum
unfolding part_line entry_text
part_text index size sum = go (size =? null_length)
  where
    go : (b : Bool) → text "part" ++ (32 ∷ []) ++ (decimal index ++ 32 ∷ []) ++ pick b (line (text "null" ∷ [])) (line (decimal size ∷ guard_text sum ∷ []))
        ≡ pick b (line (text "part" ∷ decimal index ∷ text "null" ∷ [])) (line (text "part" ∷ decimal index ∷ decimal size ∷ guard_text sum ∷ []))
    go true = simp append_assoc
    go false = simp append_assoc

pub end_text : (offset : ℕ) → text "end" ++ (32 ∷ []) ++ (decimal offset ++ 10 ∷ []) ≡ end_line offset
unfolding end_line
end_text offset = refl

pub more_text : (offset : ℕ) → text "more" ++ (32 ∷ []) ++ (decimal offset ++ 10 ∷ []) ≡ more_line offset
unfolding more_line
more_text offset = refl

pub refused_text : (offset number : ℕ) → text "refused" ++ (32 ∷ []) ++ (decimal offset ++ 32 ∷ []) ++ (decimal number ++ 10 ∷ []) ≡ refused_line offset number
unfolding refused_line
refused_text offset number = simp append_assoc

-- a text by another name
pub wrote_as : {ws vs : List ℕ} {at r : ℕ} {xs ys : List ℕ} → ws ≡ vs → Wrote ws at xs r ys → Wrote vs at xs r ys
wrote_as {at = at} {r = r} {xs = xs} {ys = ys} e w = subst (λ (l : List ℕ). Wrote l at xs r ys) e w

-- whether it was guarded
pub bare_text : (sum : ℕ) → sum ≡ 0 → text "bare" ++ (10 ∷ []) ≡ line (guard_text sum ∷ [])
bare_text sum e = rw (eq-eqb sum 0 e)

pub guarded_text : (sum : ℕ) → (sum ≡ 0 → ⊥) → text "guarded" ++ (10 ∷ []) ≡ line (guard_text sum ∷ [])
guarded_text sum ne = rw (ne_eqb sum 0 ne)

-- a part's entry, null or not
pub null_entry : (size sum : ℕ) → size ≡ null_length → text "null" ++ (10 ∷ []) ≡ entry_text size sum
unfolding entry_text
null_entry size sum e = rw (eq-eqb size null_length e)

pub some_entry : (size sum : ℕ) → (size ≡ null_length → ⊥) → (decimal size ++ (32 ∷ [])) ++ line (guard_text sum ∷ []) ≡ entry_text size sum
unfolding entry_text
some_entry size sum ne = rw (ne_eqb size null_length ne) (append_assoc (decimal size) (32 ∷ []) (line (guard_text sum ∷ [])))

-- the lines of the parts, one after the other
more_lines : (entries : List ℕ) (i : ℕ) → part_lines entries i ++ part_line i (size_at entries i) (sum_at entries i) ≡ part_lines entries (i + 1)
unfolding part_lines
more_lines entries i = rw (add-one i)

pub no_parts : (entries : List ℕ) (at : ℕ) (xs : List ℕ) → Wrote (part_lines entries 0) at xs at xs
unfolding part_lines placed
no_parts entries at xs = record { ends = sym (add-zero at); holds = rw (add-zero at, append-nil (take at xs)) (sym (take-append-drop at xs)) }

pub part_more : (entries : List ℕ) (i : ℕ) {at m r : ℕ} {xs ys zs : List ℕ} → m ≤ length xs → Wrote (part_lines entries i) at xs m ys → Wrote (part_line i (size_at entries i) (sum_at entries i)) m ys r zs
    → Wrote (part_lines entries (i + 1)) at xs r zs
part_more entries i room first second = wrote_as (more_lines entries i) (wrote_then room first second)

-- two tables that agree on the entries' words
pub parts_same : (es ts : List ℕ) (n : ℕ) → ((k : ℕ) → k < entry_words * n → get_or es k 0 ≡ get_or ts k 0) → part_lines es n ≡ part_lines ts n
unfolding part_lines
parts_same es ts zero same = refl
parts_same es ts (suc n) same = rw (parts_same es ts n (λ k below. same k (omega arith)), same (entry_words * n + 1) (omega arith), same (entry_words * n + 2) (omega arith))

-- all of them
pub parts_all : (entries : List ℕ) (i n : ℕ) {at r : ℕ} {xs ys : List ℕ} → i ≤ n → n ≤ i → Wrote (part_lines entries i) at xs r ys → Wrote (part_lines entries n) at xs r ys
parts_all entries i n low high w = let e : i ≡ n = omega arith in wrote_as (ap (part_lines entries) e) w
