-- How the second walk fills a value: what stands behind its letter, and the five words of its entry. Assumes nothing.
use mathlib.Core.Path.{◌≡◌, refl, sym, ◌∙◌, ap}
use mathlib.Core.Bool.{false, true≢false}
use mathlib.Core.List.{List, [], ◌∷◌}
use Prim.Native.Nat.{ℕ, suc, ◌+◌, ◌-◌, ◌<◌, ◌≤◌}
use native.Mathlib.Omega.{arith}
use lib.ListN.{length, get_or, set}
use lib.Seq.{sets}
use Rattle.words.specs.Decide.{◌=?◌}
use Rattle.places.specs.Machine.{read}
use Rattle.wire.specs.Layout.{null_type, known, entry_words}
use Rattle.wire.specs.Content.{nothing, word, bytes, Cell, Row}
use Rattle.wire.proofs.TypeLaws.{scalar_yes, blob_yes, blob_low}
use Rattle.text_form.specs.Form.{line_feed}
use Rattle.text_form.specs.Walk.{Phase, number, digits, full, at, cell_of}
use Rattle.text_steps.specs.Tables.{fourth_word, fifth_word, entries_from}
use Rattle.text_steps.specs.Stages.{from, opened, EndsThere}
use Rattle.text_read.specs.Stages.{Has, HasWord, ReadsWord, ReadsHead, HasBlob, CopiesUnits, HasContent, ReadsContent, HasValue, FillsValue}
use Rattle.text_read.specs.declared.fill.Head.{Head}
use Rattle.text_read.specs.declared.fill.Copied.{Copied}
use Rattle.text_read.specs.declared.fill.Payload.{Payload}
use Rattle.text_steps.proofs.AheadLaws.{cells_so_far, within_end}
use Rattle.text_steps.proofs.ReadLaws as reads

-- What stands behind a letter

module _ (s : List ℕ) (i type used : ℕ) (area : List ℕ) (has : HasContent s i type used area) where
  pub payload_null : type ≡ null_type → ReadsContent s i type used area area (record { next = i; used = used; fourth = 0; fifth = 0 })
  payload_null is rows cells id aggregate final here =
      let whole : from s i (at rows cells (full (cell_of id aggregate null_type nothing))) ≡ read final = rw is at here in
      let ends : EndsThere s i = (reads.full_there s i rows cells _ final whole, reads.closed_ends s i rows cells _ final whole tt) in
      (nothing, omega arith, ends, (omega arith, refl, refl, refl), rw is whole)

  pub payload_unknown : known type ≡ false → (area' : List ℕ) (r : Payload) → ReadsContent s i type used area area' r
  payload_unknown isnt area' r = absurd (true≢false (sym has.6 ∙ isnt))

  module _ (low : 2 < type) (high : type < 7) where
    shape : (id aggregate : ℕ) → opened id aggregate type ≡ digits id aggregate type 15 0
    shape id aggregate = rw (blob_low type (omega arith), scalar_yes type low high)

    in_word : (rows : List Row) (cells : List Cell) (id aggregate : ℕ) (final : List Row) → from s i (at rows cells (opened id aggregate type)) ≡ read final
        → from s i (at rows cells (digits id aggregate type 15 0)) ≡ read final
    in_word rows cells id aggregate final here = sym (ap (λ (p : Phase). from s i (at rows cells p)) (shape id aggregate)) ∙ here

    pub word_has : HasWord s i type
    word_has = (has.2, has.3, (has.0, has.1, has.4, in_word has.0 has.1 has.2 has.3 has.4 has.5))

    module _ (w : ℕ) (told : ReadsWord s i type w) where
      pub word_within : i + 16 < length s
      word_within =
          reads.full_there s (i + 16) has.0 has.1 _ has.4
          (told has.0 has.1 has.2 has.3 has.4 (in_word has.0 has.1 has.2 has.3 has.4 has.5))

      pub payload_scalar : ReadsContent s i type used area area (record { next = i + 16; used = used; fourth = w; fifth = 0 })
      payload_scalar rows cells id aggregate final here =
          let whole = told rows cells id aggregate final (in_word rows cells id aggregate final here) in
          let ends : EndsThere s (i + 16) = (reads.full_there s (i + 16) rows cells _ final whole, reads.closed_ends s (i + 16) rows cells _ final whole tt) in
          (word w, omega arith, ends, (omega arith, refl, refl, refl), whole)

  module _ (low : 15 < type) (high : type < 19) where
    in_blob : (rows : List Row) (cells : List Cell) (id aggregate : ℕ) (final : List Row) → from s i (at rows cells (opened id aggregate type)) ≡ read final
        → from s i (at rows cells (full (cell_of id aggregate type (bytes [])))) ≡ read final
    in_blob rows cells id aggregate final here =
        let open-blob : opened id aggregate type ≡ full (cell_of id aggregate type (bytes [])) = rw (blob_yes type low high) in
        sym (ap (λ (p : Phase). from s i (at rows cells p)) open-blob) ∙ here

    pub blob_has : HasBlob s i used area
    blob_has = (has.0, has.1, has.2, has.3, type, has.4, in_blob has.0 has.1 has.2 has.3 has.4 has.5, has.7)

    module _ (area' : List ℕ) (r : Copied) (told : CopiesUnits s i used area area' r) where
      pub copied_behind : used ≤ r.used
      copied_behind = omega (arith, (told has.0 has.1 has.2 has.3 type has.4 (in_blob has.0 has.1 has.2 has.3 has.4 has.5)).3)

      pub payload_blob : ReadsContent s i type used area area' (record { next = r.next; used = r.used; fourth = used; fifth = r.used - used })
      payload_blob rows cells id aggregate final here =
          let all = told rows cells id aggregate type final (in_blob rows cells id aggregate final here) in
          (bytes all.0, all.1, all.2, (all.3, all.4, refl, omega (arith, all.3)), all.5)

-- A value

stored_entry : (xs : List ℕ) (k a b d f g : ℕ) → set (set (set (set (set xs k a) (k + 1) b) (k + 2) d) (k + 3) f) (k + 4) g ≡ sets xs k (a ∷ b ∷ d ∷ f ∷ g ∷ [])
stored_entry xs k a b d f g =
    let one : k + 1 ≡ suc k = omega arith in
    let two : k + 2 ≡ suc (suc k) = omega arith in
    let three : k + 3 ≡ suc (suc (suc k)) = omega arith in
    let four : k + 4 ≡ suc (suc (suc (suc k))) = omega arith in
    rw (one, two, three, four)

entry_is : (c : Cell) (used f g : ℕ) → f ≡ fourth_word used c.content → g ≡ fifth_word c.content
    → c.id ∷ c.type ∷ c.aggregate ∷ f ∷ g ∷ [] ≡ entries_from used (c ∷ [])
unfolding entries_from
entry_is c used f g is_f is-g = rw (is_f, is-g)

module _ (s : List ℕ) (i n : ℕ) (values : List ℕ) (k : ℕ) (area : List ℕ) (used : ℕ) (has : HasValue s i n values k area used) where
  pub entry_room : k + entry_words ≤ length values
  unfolding cells_so_far
  entry_room = omega (arith, (within_end s i _ has.2 has.3).cells_within, has.4.0, has.4.1)

  pub head_has : Has s i (number n)
  head_has = (has.0, has.1, has.2, has.3)

  module _ (h : Head) (told : ReadsHead s i n h) where
    pub payload_has : HasContent s h.next h.kind used area
    payload_has =
        let all = told has.0 has.1 has.2 has.3 in
        (has.0, has.1, h.id, h.aggregate, has.2, all.2, all.1, has.5)

    module _ (area' : List ℕ) (p : Payload) (stores : ReadsContent s h.next h.kind used area area' p) where
      pub end_there : p.next < length s
      end_there =
          let all = told has.0 has.1 has.2 has.3 in
          (stores has.0 has.1 h.id h.aggregate has.2 all.2).2.0

      pub value_fills : FillsValue s i n k used values area
          (set (set (set (set (set values k h.id) (k + 1) h.kind) (k + 2) h.aggregate) (k + 3) p.fourth) (k + 4) p.fifth) area'
          (record { next = p.next + 1; used = p.used; last = get_or s p.next 0 =? line_feed })
      value_fills rows cells final here =
          let all = told rows cells final here in
          let rest = stores rows cells h.id h.aggregate final all.2 in
          let c : Cell = cell_of h.id h.aggregate h.kind rest.0 in (
            c,
            omega (arith, all.0, rest.1),
            omega (arith, rest.2.0),
            rest.3.0,
            stored_entry values k h.id h.kind h.aggregate p.fourth p.fifth ∙ ap (sets values k) (entry_is c used p.fourth p.fifth rest.3.2 rest.3.3),
            rest.3.1,
            reads.value_ends s p.next rows cells c final rest.4 rest.2.1,
          )
