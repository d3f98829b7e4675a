-- Laws of the writer's checks: each refusal, and what is known where none is made. Assumes nothing.
use mathlib.Core.Path.{◌≡◌, refl, sym, ◌∙◌, ap}
use mathlib.Core.Bool.{Bool, true, false, true≢false}
use Rattle.std.specs.Result.{IsErr, IsErrAnd}
use Rattle.std.specs.declared.result.Result.TheVariants.{Ok, Err}
use Rattle.packet_check.specs.Paper.{Measured, paper_measured}
use mathlib.Core.List.{List, [], ◌∷◌}
use Prim.Native.Nat.{ℕ, ◌%◌, ◌<◌, ◌≤◌}
use lib.ListN.{length}
use borrow.Author.Tests.{eq-eqb, ne_eqb, lt-ltb, le-ltb, eqb-true, ltb-false, not-false}
use Rattle.words.specs.Answer.{Answer, accepted, refuse}
use Rattle.words.specs.Decide.{decide}
use Rattle.words.proofs.AcceptLaws.{is_accepted, accepted_count, silent, decided}
use Rattle.packet.specs.Layout.{most_parts}
use Rattle.packet.specs.Entries.{entry_words, room}
use Rattle.packet.specs.Paper.{refusal}
use Rattle.packet.specs.declared.PacketError.{PacketError}
use Rattle.packet.specs.declared.Mode.{Mode}
use Rattle.packet.specs.Mode.{is_retired}
use Rattle.packet.specs.Entries.{size_at}
use Rattle.packet_check.specs.Checks.{capped, first_outside, first_too_large, table_lines, retired_lines, limit_lines, checks, validating, sizing}
use Rattle.packet_check.specs.Stages.{Passes, size_by}
use Rattle.packet.specs.Wire.{packet_size, parts_of}
use Rattle.packet_check.proofs.WireLaws.{size_taken}

module _ (mode : Mode) (type : ℕ) (area table : List ℕ) where
  -- each check's refusal, with the values that the code found
  pub refuses_odd : (length table % entry_words ≡ 0 → ⊥) → refuse 18 (1 ∷ room table ∷ []) ≡ validating mode type area table
  unfolding validating checks table_lines
  refuses_odd odd = rw (ne_eqb (length table % entry_words) 0 odd)

  module _ {outside : ℕ} (whole : length table % entry_words ≡ 0) (found : outside ≡ first_outside area table) where
    pub refuses_outside : outside < room table → refuse 18 (3 ∷ outside ∷ []) ≡ validating mode type area table
    unfolding validating checks table_lines
    refuses_outside h = rw (found, eq-eqb (length table % entry_words) 0 whole, lt-ltb (first_outside area table) (room table) (rw found at h))

    module _ {retired : Bool} (inside : room table ≤ outside) (told : retired ≡ is_retired mode type) where
      pub refuses_retired : {number : ℕ} → retired ≡ true → number ≡ type → refuse 24 (number ∷ []) ≡ validating mode type area table
      unfolding validating checks table_lines retired_lines
      refuses_retired is e = rw (e, eq-eqb (length table % entry_words) 0 whole, le-ltb (first_outside area table) (room table) (rw found at inside), ← told, is)

      module _ (current : retired ≡ false) where
        pub refuses_many : {count : ℕ} → most_parts < room table → count ≡ capped (room table) → refuse 3 (count ∷ []) ≡ validating mode type area table
        unfolding validating checks table_lines retired_lines limit_lines
        refuses_many h e = rw (e, eq-eqb (length table % entry_words) 0 whole, le-ltb (first_outside area table) (room table) (rw found at inside), ← told, current, lt-ltb most_parts (room table) h)

        module _ {index : ℕ} (few : room table ≤ most_parts) (large : index ≡ first_too_large table) where
          pub refuses_large : {size : ℕ} → index < room table → size ≡ capped (size_at table index) → refuse 4 (index ∷ size ∷ []) ≡ validating mode type area table
          unfolding validating checks table_lines retired_lines limit_lines
          refuses_large h e = rw (e, large, eq-eqb (length table % entry_words) 0 whole, le-ltb (first_outside area table) (room table) (rw found at inside), ← told, current, le-ltb most_parts (room table) few, lt-ltb (first_too_large table) (room table) (rw large at h))

          pub passes_all : room table ≤ index → accepted 0 [] ≡ validating mode type area table
          unfolding validating checks table_lines retired_lines limit_lines
          passes_all h = rw (eq-eqb (length table % entry_words) 0 whole, le-ltb (first_outside area table) (room table) (rw found at inside), ← told, current, le-ltb most_parts (room table) few, le-ltb (first_too_large table) (room table) (rw large at h))

  -- where the checks pass
  pub passes : {last answer : Answer} → decide (checks mode type area table) last ≡ answer → is_accepted answer ≡ true
      → Passes area table × (is_retired mode type ≡ false) × (last ≡ answer)
  unfolding checks table_lines retired_lines limit_lines
  passes e good =
      let found = silent (checks mode type area table) (refl, (refl, (refl, (refl, (refl, tt))))) e good in
      let tests = found.0 in
      (record { whole = eqb-true (length table % entry_words) 0 (not-false _ tests.0); inside = ltb-false (first_outside area table) (room table) tests.1.0; few = ltb-false most_parts (room table) tests.1.1.1.0; small = ltb-false (first_too_large table) (room table) tests.1.1.1.1.0 }, tests.1.1.0, found.1)

  pub checks_pass : Passes area table → is_retired mode type ≡ false → (last : Answer) → decide (checks mode type area table) last ≡ last
  unfolding checks table_lines retired_lines limit_lines
  checks_pass good current last =
      rw (eq-eqb (length table % entry_words) 0 good.whole, le-ltb (first_outside area table) (room table) good.inside, current, le-ltb most_parts (room table) good.few, le-ltb (first_too_large table) (room table) good.small)

  -- from the answer of `validate`
  pub validated : accepted 0 [] ≡ validating mode type area table → Passes area table × (is_retired mode type ≡ false)
  unfolding validating
  validated e = let found = passes (sym e) refl in (found.0, found.1)

  pub sizing_refuses : (error : PacketError) → refusal error 0 ≡ validating mode type area table → refusal error 0 ≡ sizing mode type area table
  unfolding validating sizing
  sizing_refuses error e = sym (decided (checks mode type area table) (accepted 0 []) (accepted (packet_size type (parts_of area table)) []) refl (sym e) refl)

  -- what `?` hands on of a refusal by `validate`
  pub sizing_err : (error : PacketError) (r : Measured) → IsErr r × IsErrAnd r (λ e. e ≡ error) → refusal error 0 ≡ validating mode type area table
      → paper_measured r ≡ sizing mode type area table
  sizing_err error (Ok size) told e = absurd (true≢false (sym told.0))
  sizing_err error (Err other) told e = rw told.1 (sizing_refuses error e)

  pub sizing_passes : {size : ℕ} → accepted 0 [] ≡ validating mode type area table → size ≡ size_by type table → accepted size [] ≡ sizing mode type area table
  unfolding sizing
  sizing_passes e is =
      let good = validated e in
      let last = accepted (packet_size type (parts_of area table)) [] in
      ap (λ (n : ℕ). accepted n []) (is ∙ size_taken table area type good.0) ∙ sym (checks_pass good.0 good.1 last)

  -- from the answer of `encoded_size`
  pub sized : {size : ℕ} → accepted size [] ≡ sizing mode type area table
      → Passes area table × (is_retired mode type ≡ false) × (packet_size type (parts_of area table) ≡ size)
  unfolding sizing
  sized e = let found = passes (sym e) refl in (found.0, found.1, ap accepted_count found.2)
