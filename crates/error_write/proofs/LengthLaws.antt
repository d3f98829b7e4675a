-- How long the written form of sound tables is. Assumes nothing.
use mathlib.Core.Path.{◌≡◌, refl, sym, ◌∙◌, ap}
use mathlib.Core.List.{List, [], ◌∷◌, ◌++◌}
use Prim.Native.Nat.{ℕ, zero, suc, ◌+◌, ◌<◌, ◌≤◌}
use native.Mathlib.Omega.{arith}
use borrow.Author.Tests.{ne_eqb}
use lib.ListN.{length, drop, length-append, length-drop}
use lib.Seq.{length-take-le}
use Rattle.words.specs.Buffer.{stretch}
use Rattle.words.specs.Decide.{◌=?◌}
use Rattle.words.proofs.DecideLaws.{pick_case}
use Rattle.error_table.specs.Table.{errors_in, code_in, text_in, text_length_in, attributes_in, index_in, key_in, key_length_in, value_in, value_length_in}
use Rattle.error_table.specs.Statement.{Sound}
use Rattle.error_table.proofs.SoundLaws.{text_inside, key_inside, value_inside}
use Rattle.error_write.specs.Written.{lead, delimited, attribute_bytes, rows_of, all_rows, entries_bytes, dictionary_bytes, own_bytes}
use Rattle.error_write.specs.Writing.{capped}
use Rattle.error_write.specs.Stages.{lead_size, delimited_size, attribute_size, entries_size, dictionary_size, own_size}
use Rattle.error_write.proofs.CappedLaws.{capped_add_right, capped_dictionary}

pub length_stretch : (area : List ℕ) (at n : ℕ) → at + n ≤ length area → length (stretch area at n) ≡ n
length_stretch area at n h = length-take-le n (drop at area) (rw length-drop (omega arith))

pub length_delimited : (tag : ℕ) (ws : List ℕ) → length (delimited tag ws) ≡ delimited_size (length ws)
length_delimited tag ws = length-append (lead tag (length ws)) ws ∙ omega arith

length_field : (tag : ℕ) (area : List ℕ) (at n : ℕ) → at + n ≤ length area → length (delimited tag (stretch area at n)) ≡ delimited_size n
length_field tag area at n h = length_delimited tag (stretch area at n) ∙ ap delimited_size (length_stretch area at n h)

pub length_dictionary : (ws : List ℕ) → length (dictionary_bytes ws) ≡ dictionary_size (length ws)
length_dictionary [] = refl
length_dictionary (w ∷ ws) = rw (ne_eqb (length (w ∷ ws)) 0 (λ z. omega arith)) (length_delimited 0x1a (w ∷ ws))

module _ {area errors attributes : List ℕ} (sound : Sound area errors attributes) where
  pub length_attribute : (k : ℕ) → k < attributes_in attributes → length (attribute_bytes area attributes k) ≡ attribute_size attributes k
  unfolding attribute_bytes
  length_attribute k h =
      let key : length (delimited 0x0a (stretch area (key_in attributes k) (key_length_in attributes k))) ≡ delimited_size (key_length_in attributes k) = length_field 0x0a area (key_in attributes k) (key_length_in attributes k) (key_inside sound k h) in
      let value : length (delimited 0x12 (stretch area (value_in attributes k) (value_length_in attributes k))) ≡ delimited_size (value_length_in attributes k) = length_field 0x12 area (value_in attributes k) (value_length_in attributes k) (value_inside sound k h) in
      length-append (delimited 0x0a (stretch area (key_in attributes k) (key_length_in attributes k))) (delimited 0x12 (stretch area (value_in attributes k) (value_length_in attributes k))) ∙ rw (key, value)

  length_rows : (i n k : ℕ) → k + n ≤ attributes_in attributes → length (entries_bytes area attributes (rows_of attributes i n k)) ≡ entries_size attributes (rows_of attributes i n k)
  unfolding rows_of entries_bytes entries_size
  length_rows i zero k h = refl
  length_rows i (suc n) k h =
      let others : length (entries_bytes area attributes (rows_of attributes i n (k + 1))) ≡ entries_size attributes (rows_of attributes i n (k + 1)) = length_rows i n (k + 1) (omega arith) in
      let one : length (delimited 0x0a (attribute_bytes area attributes k)) ≡ delimited_size (attribute_size attributes k) = length_delimited 0x0a (attribute_bytes area attributes k) ∙ ap delimited_size (length_attribute k (omega arith)) in
      pick_case (index_in attributes k =? i) (k ∷ rows_of attributes i n (k + 1)) (rows_of attributes i n (k + 1)) (λ (ks : List ℕ). length (entries_bytes area attributes ks) ≡ entries_size attributes ks)
      (λ e. length-append (delimited 0x0a (attribute_bytes area attributes k)) (entries_bytes area attributes (rows_of attributes i n (k + 1))) ∙ rw (one, others)) (λ e. others)

  pub length_entries : (i : ℕ) → length (entries_bytes area attributes (all_rows attributes i)) ≡ entries_size attributes (all_rows attributes i)
  length_entries i = length_rows i (attributes_in attributes) 0 (omega arith)

  pub length_own : (i : ℕ) → i < errors_in errors → length (own_bytes area errors attributes i) ≡ own_size errors i (entries_size attributes (all_rows attributes i))
  unfolding own_bytes
  length_own i h =
      let text : List ℕ = delimited 0x12 (stretch area (text_in errors i) (text_length_in errors i)) in
      let ws : List ℕ = dictionary_bytes (entries_bytes area attributes (all_rows attributes i)) in
      let a : length text ≡ delimited_size (text_length_in errors i) = length_field 0x12 area (text_in errors i) (text_length_in errors i) (text_inside sound i h) in
      let b : length ws ≡ dictionary_size (entries_size attributes (all_rows attributes i)) = length_dictionary (entries_bytes area attributes (all_rows attributes i)) ∙ ap dictionary_size (length_entries i) in
      let front : length (lead 0x08 (code_in errors i)) ≡ lead_size (code_in errors i) = omega arith in
      let both : length (text ++ ws) ≡ length text + length ws = length-append text ws in
      length-append (lead 0x08 (code_in errors i)) (text ++ ws) ∙ omega arith

  -- what `own_size` answers where the attributes' size was capped
  pub own_capped : (i : ℕ) → i < errors_in errors → {entries own : ℕ} → entries ≡ capped (entries_size attributes (all_rows attributes i)) → own ≡ capped (own_size errors i entries)
      → own ≡ capped (length (own_bytes area errors attributes i))
  own_capped i h {entries} {own} p e =
      let front : ℕ = lead_size (code_in errors i) + delimited_size (text_length_in errors i) in
      let x : ℕ = entries_size attributes (all_rows attributes i) in
      e ∙ ap (λ (n : ℕ). capped (own_size errors i n)) p ∙ sym (capped_add_right front (dictionary_size (capped x))) ∙ ap (λ (n : ℕ). capped (front + n)) (capped_dictionary x)
      ∙ capped_add_right front (dictionary_size x) ∙ ap capped (sym (length_own i h))
