-- Laws of a packet's pieces: how many bytes each has, and what the table's entries have to do with the parts. Assumes
-- nothing.
use mathlib.Core.Path.{◌≡◌, refl, sym, ◌∙◌}
use mathlib.Core.Bool.{Bool, true, false}
use mathlib.Core.List.{List, [], ◌∷◌, ◌++◌}
use Prim.Native.Nat.{ℕ, zero, suc, ◌+◌, ◌*◌, ◌-◌, ◌<◌, ◌≤◌}
use native.Mathlib.Omega.{arith}
use lib.ListN.{length, drop, length-append, length-drop}
use lib.Seq.{length-take-le}
use Rattle.words.specs.Decide.{pick}
use Rattle.words.specs.Word.{bytes_of}
use Rattle.words.proofs.WordLaws.{length_bytes_of}
use Rattle.crc64.specs.Polynomial.{checksum, fold}
use Rattle.guid.specs.declared.Guid.{Guid}
use Rattle.guid.proofs.WireLaws.{length_wire}
use Rattle.packet.specs.Layout.{has_variable_header, headers}
use Rattle.packet.specs.Entries.{room}
use Rattle.packet.specs.Entries.{offset_at, size_at, null_at, lent_at}
use Rattle.packet.specs.Wire.{Part, null, bytes, size_word, sum_word, content, sizes, sums, contents, sealed, fixed_fields, body, packet_bytes, packet_size, part_at, parts_from}
use Rattle.packet_check.specs.Checks.{first_outside}
use Rattle.packet.proofs.EntryLaws.{inside, none_null, some_inside, lent_none, lent_some}
use Rattle.packet_check.proofs.WireLaws.{inside_at}
use Rattle.packet_write.specs.Stages.{entry_size, entry_sizes}

pub length_fixed : (type flags : ℕ) (id : Guid) (n : ℕ) → length (fixed_fields type flags id n) ≡ 28
unfolding fixed_fields
length_fixed type flags id n = simp (length-append, length_bytes_of, length_wire id)

pub length_sealed : (bs : List ℕ) → length (sealed bs) ≡ length bs + 8
unfolding sealed
length_sealed bs = simp (length-append, length_bytes_of)

pub length_sizes : (ps : List Part) → length (sizes ps) ≡ 4 * length ps
unfolding sizes
length_sizes [] = refl
length_sizes (p ∷ ps) = length-append (bytes_of 4 (size_word p)) (sizes ps) ∙ rw (length_bytes_of 4 (size_word p), length_sizes ps) (omega arith)

pub length_sums : (ps : List Part) → length (sums ps) ≡ 8 * length ps
unfolding sums
length_sums [] = refl
length_sums (p ∷ ps) = length-append (bytes_of 8 (sum_word p)) (sums ps) ∙ rw (length_bytes_of 8 (sum_word p), length_sums ps) (omega arith)

pub length_body : (ps : List Part) → length (body ps) ≡ 8 + 12 * length ps + length (contents ps)
unfolding body
length_body ps =
    length-append (sealed (sizes ps ++ sums ps)) (contents ps)
    ∙ rw (length_sealed (sizes ps ++ sums ps), length-append (sizes ps) (sums ps), length_sizes ps, length_sums ps) (omega arith)

-- a packet has as many bytes as its size says
pub length_packet : (type flags : ℕ) (id : Guid) (ps : List Part) → length (packet_bytes type flags id ps) ≡ packet_size type ps
unfolding packet_bytes packet_size
length_packet type flags id ps =
    length-append (sealed (fixed_fields type flags id (length ps))) (pick (has_variable_header type (length ps)) (body ps) [])
    ∙ rw (length_sealed (fixed_fields type flags id (length ps)), length_fixed type flags id (length ps)) (go (has_variable_header type (length ps)))
  where
    go : (b : Bool) → 36 + length (pick b (body ps) []) ≡ pick b (headers (length ps) + length (contents ps)) 36
    go true = rw (length_body ps) (omega arith)
    go false = refl

-- the pieces from part or entry i on, in a walk up to n
pub entries_next : (table : List ℕ) (i n : ℕ) → i < n
    → entry_sizes table i (n - i) ≡ bytes_of 4 (entry_size (offset_at table i) (size_at table i)) ++ entry_sizes table (i + 1) (n - (i + 1))
unfolding entry_sizes
entries_next table i n h = let one_more : n - i ≡ suc (n - (i + 1)) = omega arith in rw one_more

pub entries_end : (table : List ℕ) (i n : ℕ) → n ≤ i → entry_sizes table i (n - i) ≡ []
unfolding entry_sizes
entries_end table i n h = let none : n - i ≡ 0 = omega arith in rw none

pub length_entries : (table : List ℕ) (i k : ℕ) → length (entry_sizes table i k) ≡ 4 * k
unfolding entry_sizes
length_entries table i zero = refl
length_entries table i (suc k) =
    let word : ℕ = entry_size (offset_at table i) (size_at table i) in
    length-append (bytes_of 4 word) (entry_sizes table (i + 1) k) ∙ rw (length_bytes_of 4 word, length_entries table (i + 1) k) (omega arith)

module _ (area table : List ℕ) where
  pub parts_next : (i n : ℕ) → i < n → parts_from area table i (n - i) ≡ part_at area table i ∷ parts_from area table (i + 1) (n - (i + 1))
  unfolding parts_from
  parts_next i n h = let one_more : n - i ≡ suc (n - (i + 1)) = omega arith in rw one_more

  pub parts_end : (i n : ℕ) → n ≤ i → parts_from area table i (n - i) ≡ []
  unfolding parts_from
  parts_end i n h = let none : n - i ≡ 0 = omega arith in rw none

-- a null part's checksum word is that of no bytes
pub sum_content : (p : Part) → sum_word p ≡ checksum (content p)
unfolding fold
sum_content null = refl
sum_content (bytes bs) = refl

-- over a table whose entries lie in the area
module _ (area table : List ℕ) (within : room table ≤ first_outside area table) where
  pub lent_content : (i : ℕ) → i < room table → lent_at area table i ≡ content (part_at area table i)
  lent_content i h = go (null_at table i) refl
    where
      go : (b : Bool) → null_at table i ≡ b → lent_at area table i ≡ content (part_at area table i)
      go true e = rw e (sym (lent_none area table i (none_null area table i e)))
      go false e = rw e (sym (lent_some area table i (some_inside area table i h e (inside_at table area i h within))))

  size_entry : (i : ℕ) → i < room table → size_word (part_at area table i) ≡ entry_size (offset_at table i) (size_at table i)
  size_entry i h = go (null_at table i) refl
    where
      go : (b : Bool) → null_at table i ≡ b → size_word (part_at area table i) ≡ entry_size (offset_at table i) (size_at table i)
      go true e = rw e
      go false e =
          let inner : offset_at table i + size_at table i ≤ length area = inside (length area) (offset_at table i) (size_at table i) e (inside_at table area i h within) in
          rw e (length-take-le (size_at table i) (drop (offset_at table i) area) (rw length-drop (omega arith)))

  pub sizes_entries : (i k : ℕ) → i + k ≤ room table → sizes (parts_from area table i k) ≡ entry_sizes table i k
  unfolding sizes parts_from entry_sizes
  sizes_entries i zero h = refl
  sizes_entries i (suc k) h = rw (size_entry i (omega arith), sizes_entries (i + 1) k (omega arith))
