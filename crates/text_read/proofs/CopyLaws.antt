-- How the second walk copies a blob: an escape, and the blob byte by byte into the area. Assumes nothing.
use mathlib.Core.Path.{◌≡◌, refl, sym, ◌∙◌, ap}
use mathlib.Core.List.{List, [], ◌∷◌, ◌++◌}
use Prim.Native.Nat.{ℕ, ◌+◌, ◌*◌, ◌<◌, ◌≤◌}
use native.Mathlib.Omega.{arith}
use lib.ListN.{length, get_or, set, length-append}
use lib.Seq.{sets, length-sets}
use Rattle.places.specs.Machine.{read}
use Rattle.wire.specs.Content.{bytes, Cell, Row}
use Rattle.wire.proofs.LayoutLaws.{sets_append}
use Rattle.text_form.specs.Form.{tab, line_feed, percent_sign}
use Rattle.text_form.specs.Walk.{full, percent, second, at, cell_of, capital_value}
use Rattle.text_steps.specs.Stages.{from, EndsThere}
use Rattle.text_read.specs.Stages.{HasEscape, ReadsEscape, HasBlob, CopiesUnits}
use Rattle.text_steps.proofs.AheadLaws.{bytes_so_far, within_end}
use Rattle.text_steps.proofs.ReadLaws as reads

-- The two digits of an escape

module _ (s : List ℕ) (i : ℕ) (rows : List Row) (cells : List Cell) (id aggregate type : ℕ) (t : List ℕ) (final : List Row) (here : from s i (at rows cells (percent id aggregate type t)) ≡ read final) where
  behind_high : from s (i + 1) (at rows cells (second id aggregate type t (capital_value (get_or s i 0)))) ≡ read final
  behind_high = (reads.high_fits s i rows cells id aggregate type t final here).1

  two_there : i + 2 ≤ length s
  two_there = let low : i + 1 < length s = reads.low_there s (i + 1) rows cells id aggregate type t final _ behind_high in omega arith

  -- what they spell
  both_fit : (h l : ℕ) → h ≡ capital_value (get_or s i 0) → l ≡ capital_value (get_or s (i + 1) 0)
      → (h ≤ 15) × (l ≤ 15) × (from s (i + 2) (at rows cells (full (cell_of id aggregate type (bytes (t ++ (h * 16 + l) ∷ []))))) ≡ read final)
  both_fit h l is-h is-l =
      let low = reads.low_fits s (i + 1) rows cells id aggregate type t final _ behind_high in
      let place : i + 1 + 1 ≡ i + 2 = omega arith in
      (rw is-h (reads.high_fits s i rows cells id aggregate type t final here).0, rw is-l low.0, rw (is-h, is-l, ← place) low.1)

module _ (s : List ℕ) (i : ℕ) (has : HasEscape s i) where
  pub escape_there : i + 2 ≤ length s
  escape_there = two_there s i has.4.0 has.4.1 has.0 has.1 has.2 has.3 has.4.2 has.4.3

  module _ (h l : ℕ) (is-h : h ≡ capital_value (get_or s i 0)) (is-l : l ≡ capital_value (get_or s (i + 1) 0)) where
    pub escape_small : (h ≤ 15) × (l ≤ 15)
    escape_small =
        let all = both_fit s i has.4.0 has.4.1 has.0 has.1 has.2 has.3 has.4.2 has.4.3 h l is-h is-l in
        (all.0, all.1)

    pub escape_read : ReadsEscape s i (h * 16 + l)
    escape_read rows cells id aggregate type t final here =
        (two_there s i rows cells id aggregate type t final here, (both_fit s i rows cells id aggregate type t final here h l is-h is-l).2)

-- A blob: up to the place i its bytes lie in the area, which is used up to the byte `used`

abbrev pub UnitsLeft : List ℕ → ℕ → ℕ → List ℕ → List ℕ → ℕ → ℕ → Type 0
UnitsLeft s start first area₀ area i used =
    (rows : List Row) (cells : List Cell) (id aggregate type : ℕ) (final : List Row)
    → from s start (at rows cells (full (cell_of id aggregate type (bytes [])))) ≡ read final
    → (t : List ℕ) × (start ≤ i) × (used ≡ first + length t) × (area ≡ sets area₀ first t)
    × (from s i (at rows cells (full (cell_of id aggregate type (bytes t)))) ≡ read final)

pub units_begin : (s : List ℕ) (start first : ℕ) (area : List ℕ) → UnitsLeft s start first area area start first
units_begin s start first area rows cells id aggregate type final here = ([], omega arith, omega arith, refl, here)

-- one byte more
stored : (area₀ area t : List ℕ) (first used b : ℕ) → used ≡ first + length t → area ≡ sets area₀ first t → set area used b ≡ sets area₀ first (t ++ b ∷ [])
stored area₀ area t first used b is holds = rw (is, holds) (sym (sets_append area₀ first (length t) t (b ∷ []) refl))

longer : (t : List ℕ) (b first used : ℕ) → used ≡ first + length t → used + 1 ≡ first + length (t ++ b ∷ [])
longer t b first used is = omega (arith, length-append t (b ∷ []))

module _ (s : List ℕ) (start first : ℕ) (area₀ : List ℕ) (has : HasBlob s start first area₀) (area : List ℕ) (i used : ℕ) (so_far : UnitsLeft s start first area₀ area i used) where
  mine : (t : List ℕ) × (start ≤ i) × (used ≡ first + length t) × (area ≡ sets area₀ first t)
      × (from s i (at has.0 has.1 (full (cell_of has.2 has.3 has.4 (bytes t)))) ≡ read has.5)
  mine = so_far has.0 has.1 has.2 has.3 has.4 has.5 has.6

  pub unit_there : i < length s
  unit_there = reads.blob_there s i has.0 has.1 has.2 has.3 has.4 mine.0 has.5 mine.4

  pub same_area : length area ≡ length area₀
  same_area = ap length mine.3 ∙ length-sets area₀ first mine.0

  pub units_end : EndsThere s i → CopiesUnits s start first area₀ area (record { next = i; used = used })
  units_end ends rows cells id aggregate type final here =
      let all = so_far rows cells id aggregate type final here in
      (all.0, all.1, ends, all.2, all.3, all.4)

  module _ (sign : get_or s i 0 ≡ percent_sign) where
    behind_sign : from s (i + 1) (at has.0 has.1 (percent has.2 has.3 has.4 mine.0)) ≡ read has.5
    behind_sign = reads.blob_sign s i has.0 has.1 has.2 has.3 has.4 mine.0 has.5 mine.4 sign

    pub escape_has : HasEscape s (i + 1)
    escape_has = (has.2, has.3, has.4, mine.0, (has.0, has.1, has.5, behind_sign))

    pub escape_room : used < length area
    unfolding bytes_so_far
    escape_room = omega (arith, (within_end s (i + 1) _ has.5 behind_sign).bytes_within, mine.2, has.7.0, has.7.1, same_area)

    pub escape_within : i + 3 ≤ length s
    escape_within = omega (arith, escape_there s (i + 1) escape_has)

    pub escape_more : (b : ℕ) → ReadsEscape s (i + 1) b → UnitsLeft s start first area₀ (set area used b) (i + 3) (used + 1)
    escape_more b told rows cells id aggregate type final here =
        let all = so_far rows cells id aggregate type final here in
        let next = told rows cells id aggregate type all.0 final (reads.blob_sign s i rows cells id aggregate type all.0 final all.4 sign) in
        let place : i + 1 + 2 ≡ i + 3 = omega arith in
        (all.0 ++ b ∷ [], omega (arith, all.1), longer all.0 b first used all.2, stored area₀ area all.0 first used b all.2 all.3, rw (← place) next.1)

  module _ (other : get_or s i 0 ≡ percent_sign → ⊥) (tabbed : get_or s i 0 ≡ tab → ⊥) (fed : get_or s i 0 ≡ line_feed → ⊥) where
    pub plain_room : used < length area
    unfolding bytes_so_far
    plain_room =
        omega (
          arith,
          (within_end s (i + 1) _ has.5 (reads.blob_plain s i has.0 has.1 has.2 has.3 has.4 mine.0 has.5 mine.4 other tabbed fed)).bytes_within,
          length-append mine.0 (get_or s i 0 ∷ []),
          mine.2,
          has.7.0,
          has.7.1,
          same_area,
        )

    pub plain_more : UnitsLeft s start first area₀ (set area used (get_or s i 0)) (i + 1) (used + 1)
    plain_more rows cells id aggregate type final here =
        let all = so_far rows cells id aggregate type final here in (
          all.0 ++ get_or s i 0 ∷ [],
          omega (arith, all.1),
          longer all.0 (get_or s i 0) first used all.2,
          stored area₀ area all.0 first used (get_or s i 0) all.2 all.3,
          reads.blob_plain s i rows cells id aggregate type all.0 final all.4 other tabbed fed,
        )
