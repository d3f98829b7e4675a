-- What `encode_error` wrote is read back by `decode_error`. Assumes nothing.
use mathlib.Core.Path.{◌≡◌, refl, sym, ◌∙◌, ap, subst}
use mathlib.Core.List.{List, [], ◌∷◌, ◌++◌, append-nil}
use mathlib.Core.Logic.{⊎_elim}
use Prim.Native.Nat.{ℕ, zero, suc, ◌+◌, ◌-◌, ◌%◌, ◌<◌, ◌≤◌}
use native.Mathlib.Omega.{arith}
use native.Mathlib.Nat.{zero-add}
use borrow.Author.Tests.{eqb-true, eqb-false, not-false, le-ltb, ltb-false}
use lib.ListN.{length, get_or, take, drop}
use lib.Seq.{take_at}
use Rattle.words.specs.Answer.{Answer, accepted, afterwards}
use Rattle.words.specs.Buffer.{stretch, over}
use Rattle.words.specs.Decide.{Silent}
use Rattle.words.specs.Paper.{room_line}
use Rattle.words.specs.declared.outcome.Room.TheVariants.{Output}
use Rattle.words.proofs.AcceptLaws.{silent, accepted_count}
use Rattle.words.proofs.DecideLaws.{le_or_gt, silent_decides}
use Rattle.error_tree.specs.Message.{error_fields, fields}
use Rattle.error_tree.specs.Tree.{levels, parts, tree, error_count, attribute_count, code_of, place_of, length_of}
use Rattle.error_tree.specs.Reading.{error_entry, attribute_entry}
use Rattle.error_table.specs.Table.{errors_in, attributes_in, depth_in, table_order}
use Rattle.error_table.specs.Statement.{Sound}
use Rattle.error_table.proofs.TableLaws.{tables_pass}
use Rattle.error_table.proofs.SoundLaws.{depth_good, depth_first, index_below}
use Rattle.error_tree.specs.declared.refusal.ErrorRefusal.{ErrorRefusal}
use Rattle.error_walk.specs.declared.walk.Counted.{Counted}
use Rattle.std.specs.declared.result.Result.{Result}
use Rattle.std.specs.declared.result.Result.TheVariants.{Ok}
use Rattle.error_read.specs.Statement.{Decodes}
use Rattle.error_write.specs.Written.{inners_bytes, error_bytes}
use Rattle.error_write.specs.Writing.{most_bytes, capped, needed, writing}
use Rattle.error_write.specs.Paper.{bytes_paper}
use Rattle.error_write.proofs.Unique.{encode_error_unique}
use Rattle.error_write.proofs.CappedLaws.{capped_small, capped_large}
use Rattle.error_promises.specs.Form.{WellFormed}
use Rattle.error_promises.specs.Errors.{Roomy, ErrorWritesExactly}
use Rattle.error_promises.specs.Round.{error, error_in, listed, errors_over, rows_over, by_error, ErrorRoundTrip}
use Rattle.error_promises.proofs.Errors.{error_accepts_exactly}
use Rattle.error_promises.proofs.Seen.{seen_errors, seen_rows, read_told, seen_rows_count, by_all}
use Rattle.error_promises.proofs.WrittenErrors.{Whole, whole_read, gap, gap_deeper, gap_next, inners_read}

-- tables that no rule of 18 refuses are sound
pub silent_sound : (area errors attributes : List ℕ) → Silent (table_order area errors attributes) → Sound area errors attributes
unfolding table_order
silent_sound area errors attributes quiet =
    let a : length errors % error_entry ≡ 0 = eqb-true (length errors % error_entry) 0 (not-false _ quiet.0) in
    let b : length attributes % attribute_entry ≡ 0 = eqb-true (length attributes % attribute_entry) 0 (not-false _ quiet.1.0) in
    let c : errors_in errors ≡ 0 → ⊥ = eqb-false (errors_in errors) 0 quiet.1.1.0 in
    (tables_pass area errors attributes a b c (ltb-false _ _ quiet.1.1.1.0) (ltb-false _ _ quiet.1.1.1.1.0)).0

-- The whole of what was written
module _ {area errors attributes : List ℕ} (sound : Sound area errors attributes) (s : List ℕ) (short : length s ≤ most_bytes) (is : s ≡ error_bytes area errors attributes) where
  -- all but the first are deeper than 1
  gap_all : (n i : ℕ) → 0 < i → i + n ≡ errors_in errors → gap errors 1 n i ≡ n
  unfolding gap
  gap_all zero i later all = refl
  gap_all (suc n) i later all =
      let deep : 2 ≤ depth_in errors i = (depth_good sound i (omega arith) later).0 in
      gap_deeper errors 1 n i (omega arith) ∙ ap suc (gap_all n (i + 1) (omega arith) (omega arith))

  abbrev others : ℕ
  others = errors_in errors - 1

  outermost : Whole area errors attributes sound s short levels 1 others 0 0 (length s)
  unfolding error_bytes
  outermost =
      let some : 0 < errors_in errors = sound.some in
      let ws : List ℕ = inners_bytes area errors attributes 2 others 1 in
      let one : depth_in errors 0 ≡ 1 = depth_first sound in
      let next : gap errors 2 others 1 ≡ 0 = ap (λ (d : ℕ). gap errors (d + 1) others 1) (sym one) ∙ gap_next sound s short others 0 (omega arith) in
      let all : gap errors 1 others 1 ≡ others = gap_all others 1 (omega arith) (omega arith) in
      whole_read area errors attributes sound s short levels 1 others 0 ws (length s) (omega arith)
      (λ at stands size. inners_read sound s short others levels 1 1 at (length s) refl (omega arith) (omega arith) (omega arith) stands size 1 others (omega arith) (omega arith) 0)
      some 0 (λ i below. rw (zero-add i) (ap (λ (l : List ℕ). get_or l i 0) is)) (zero-add _ ∙ ap length (sym is))

  abbrev fs : List ℕ
  fs = fields error_fields s 0 (length s)

  pub errors_back : error_count (tree s) ≡ errors_in errors
  unfolding tree error_count
  errors_back = omega (arith, outermost.counted, sound.some)

  pub errors_told : seen_errors s 1 (tree s) ≡ errors_over area errors (errors_in errors)
  unfolding tree seen_errors listed
  errors_told =
      let first : error (code_of s fs) 1 (length_of 2 s fs) (stretch s (place_of 2 s fs) (length_of 2 s fs)) ≡ error_in area errors 0 = λ k. error (outermost.code_is k) (sym (depth_first sound) k) (outermost.text_size k) (outermost.text_is k) in
      let rest : seen_errors s 2 (parts levels s fs) ++ [] ≡ listed (error_in area errors) others 1 = append-nil (seen_errors s 2 (parts levels s fs)) ∙ outermost.errors_are in
      let count : suc others ≡ errors_in errors = omega (arith, sound.some) in
      (λ k. first k ∷ rest k) ∙ ap (λ (n : ℕ). listed (error_in area errors) n 0) count

  pub rows_told : seen_rows s 0 0 (tree s) ≡ by_error (errors_in errors) 0 (rows_over area attributes (attributes_in attributes))
  unfolding tree seen_rows
  rows_told =
      let count : suc others ≡ errors_in errors = omega (arith, sound.some) in
      append-nil (seen_rows s 0 1 (parts levels s fs)) ∙ outermost.rows_are ∙ ap (λ (n : ℕ). by_error n 0 (rows_over area attributes (attributes_in attributes))) count

  pub rows_back : attribute_count (tree s) ≡ attributes_in attributes
  rows_back =
      sym (seen_rows_count s 0 0 (tree s)) ∙ ap length rows_told
      ∙ by_all area attributes (errors_in errors) (attributes_in attributes) 0 (λ j below. index_below sound j (omega arith))

  pub written_form : WellFormed s
  written_form = outermost.form

  -- and what is read of it
  module _ (table rows table' rows' : List ℕ) (r : Result Counted ErrorRefusal) (errors_fit : errors_in errors ≤ errors_in table) (rows_fit : attributes_in attributes ≤ attributes_in rows) (decodes : Decodes s table rows r table' rows') where
    roomy : Roomy s table rows
    roomy = record { errors_fit = rw errors_back errors_fit; attributes_fit = rw rows_back rows_fit }

    pub read_is : r ≡ Ok record { errors = errors_in errors; attributes = attributes_in attributes }
    read_is = (error_accepts_exactly s table rows table' rows' r decodes).0 written_form roomy ∙ (λ k. Ok record { errors = errors_back k; attributes = rows_back k })

    told : (errors_in errors ≡ error_count (tree s)) × (attributes_in attributes ≡ attribute_count (tree s)) × (errors_over s table' (errors_in errors) ≡ seen_errors s 1 (tree s)) × (rows_over s rows' (attributes_in attributes) ≡ seen_rows s 0 0 (tree s))
    told = read_told s table rows table' rows' record { errors = errors_in errors; attributes = attributes_in attributes } (subst (λ (a : Result Counted ErrorRefusal). Decodes s table rows a table' rows') read_is decodes)

    pub read_errors : errors_over s table' (errors_in errors) ≡ errors_over area errors (errors_in errors)
    read_errors = told.2 ∙ errors_told

    pub read_rows_lem : rows_over s rows' (attributes_in attributes) ≡ by_error (errors_in errors) 0 (rows_over area attributes (attributes_in attributes))
    read_rows_lem = told.3 ∙ rows_told

-- an output shorter than the most bytes holds what is written whole
uncapped : (n room : ℕ) → capped n ≤ room → room < most_bytes → capped n ≡ n
uncapped n room fits small =
    ⊎_elim (λ (low : n ≤ most_bytes). capped_small n low) (λ (high : most_bytes < n). let large : capped n ≡ most_bytes = capped_large n (omega arith) in absurd (omega arith)) (le_or_gt n most_bytes)

-- what an answer of bytes written says: no rule of 18 is broken, and the output has the room
pub writes_only : (area errors attributes : List ℕ) (room count : ℕ) → accepted count [] ≡ writing area errors attributes room
    → Silent (table_order area errors attributes) × (needed area errors attributes ≤ room) × (count ≡ needed area errors attributes)
unfolding writing table_order
writes_only area errors attributes room count e =
    let size : ℕ = needed area errors attributes in
    let tables = silent (table_order area errors attributes) (refl, (refl, (refl, (refl, (refl, tt))))) (sym e) refl in
    let output = silent (room_line Output size room ∷ []) (refl, tt) tables.1 refl in
    (tables.0, ltb-false room size output.0.0, ap accepted_count (sym output.1))

pub error_writes_exactly : ErrorWritesExactly
unfolding writing
error_writes_exactly area errors attributes out out' r encodes = (
  (λ quiet fits.
      let size : ℕ = needed area errors attributes in
      let taken : accepted size [] ≡ writing area errors attributes (length out) = sym (silent_decides (table_order area errors attributes) _ quiet ∙ rw (le-ltb (length out) size fits)) in
      ap (λ (p : Result ℕ ErrorRefusal × List ℕ). p.0) (encode_error_unique area errors attributes out (r, out') (Ok size, afterwards (writing area errors attributes (length out)) (error_bytes area errors attributes) out) encodes (taken, refl))),
  (λ n e. writes_only area errors attributes (length out) n (sym (ap bytes_paper e) ∙ encodes.0)),
)

pub error_round_trip : ErrorRoundTrip
error_round_trip area errors attributes out out' count small encodes table rows table' rows' r errors_fit rows_fit decodes =
    let bytes : List ℕ = error_bytes area errors attributes in
    let only : Silent (table_order area errors attributes) × (needed area errors attributes ≤ length out) × (count ≡ needed area errors attributes) = writes_only area errors attributes (length out) count encodes.0 in
    let sound : Sound area errors attributes = silent_sound area errors attributes only.0 in
    let size : count ≡ length bytes = only.2 ∙ uncapped (length bytes) (length out) only.1 small in
    let after : out' ≡ over bytes out = encodes.1 ∙ ap (λ (a : Answer). afterwards a bytes out) (sym encodes.0) in
    let is : take count out' ≡ bytes = ap (take count) after ∙ take_at bytes (drop (length bytes) out) count (sym size) in
    let short : length (take count out') ≤ most_bytes = rw is (omega (arith, only.1, only.2)) in (
      read_is sound (take count out') short is table rows table' rows' r errors_fit rows_fit decodes,
      read_errors sound (take count out') short is table rows table' rows' r errors_fit rows_fit decodes,
      read_rows_lem sound (take count out') short is table rows table' rows' r errors_fit rows_fit decodes,
    )
