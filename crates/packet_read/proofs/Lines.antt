-- What an accepted answer says of the reading order: the lines that refuse or ask for more are silent. Assumes nothing.
use mathlib.Core.Path.{◌≡◌, refl, ◌∙◌, ap}
use mathlib.Core.Bool.{true, false}
use mathlib.Core.List.{List, [], ◌∷◌}
use Prim.Native.Nat.{ℕ, min}
use lib.ListN.{length}
use Rattle.words.specs.Answer.{Answer, accepted, refuse}
use Rattle.words.specs.Decide.{◌≠?◌, ◌<?◌, ◌⇒◌}
use Rattle.words.specs.Note.{answers}
use Rattle.packet.specs.Layout.{packet_signature, most_parts, last_type, fixed_header_size, has_variable_header, headers, signature, type, count, fixed_sum, fixed_fields, fields, variable, variable_sum, whole}
use Rattle.packet.specs.Mode.{is_retired}
use Rattle.packet_read.specs.Reading.{Limits, fails, first_too_large, first_failing, fixed_lines, count_lines, variable_lines, size_lines, part_lines, room_lines, reading}
use Rattle.packet_read.specs.Stages.{through, behind}
use Rattle.packet_read.proofs.OrderLaws.{order_split}
use Rattle.words.proofs.AcceptLaws.{is_accepted, silent}

-- the tests of the fixed header and of the count
pub record Before (s : List ℕ) (n : ℕ) (limits : Limits) : Type 0 where
  pub there : (length s <? fixed_header_size) ≡ false
  pub signed : (signature s ≠? packet_signature) ≡ false
  pub known : (last_type <? type s) ≡ false
  pub current : is_retired limits.mode (type s) ≡ false
  pub guarded : fails (fixed_sum s) (fixed_fields s) ≡ false
  pub few : (min most_parts limits.parts <? n) ≡ false

-- and of those behind
pub record Behind (s : List ℕ) (n : ℕ) (limits : Limits) : Type 0 where
  pub short : (limits.bytes <? headers n) ≡ false
  pub headers_there : (length s <? headers n) ≡ false
  pub guarded : fails (variable_sum s n) (variable s n) ≡ false
  pub sizes : (first_too_large s n <? n) ≡ false
  pub within : (limits.bytes <? whole s n) ≡ false
  pub there : (length s <? whole s n) ≡ false
  pub parts : (first_failing s n <? n) ≡ false
  pub roomy : (limits.room <? n) ≡ false

-- the answer with n parts: the pieces of the order one after the other
module _ (s : List ℕ) (n : ℕ) (limits : Limits) where
  abbrev end : Answer
  end = accepted (whole s n) (fields s)

  abbrev pub rest : Answer
  rest = behind s n limits.bytes limits.room end

  abbrev pub front : Answer → Answer
  front a = through (fixed_lines s limits.mode) (through (count_lines s n limits.parts) a)

  pub reading_is : count s ≡ n → reading s limits ≡ front rest
  unfolding reading
  reading_is counted =
      order_split s (count s) limits (accepted (whole s (count s)) (fields s))
      ∙ ap (λ (k : ℕ). through (fixed_lines s limits.mode) (through (count_lines s k limits.parts) (behind s k limits.bytes limits.room (accepted (whole s k) (fields s))))) counted

  module _ (w : Answer) (good : is_accepted w ≡ true) where
    pub lines_before : front rest ≡ w → Before s n limits × (through (count_lines s n limits.parts) rest ≡ w)
    unfolding fixed_lines count_lines
    lines_before e =
        let fixed = silent (answers (fixed_lines s limits.mode)) (refl, (refl, (refl, (refl, (refl, tt))))) e good in
        let few = silent (min most_parts limits.parts <? n ⇒ refuse 3 (n ∷ []) ∷ []) (refl, tt) fixed.1 good in
        let t = fixed.0 in
        (record { there = t.0; signed = t.1.0; known = t.1.1.0; current = t.1.1.1.0; guarded = t.1.1.1.1.0; few = few.0.0 }, fixed.1)

    lines_rest : rest ≡ w → Behind s n limits
    unfolding variable_lines size_lines part_lines room_lines
    lines_rest e =
        let v = silent (answers (variable_lines s n limits.bytes)) (refl, (refl, (refl, tt))) e good in
        let z = silent (answers (size_lines s n limits.bytes)) (refl, (refl, (refl, tt))) v.1 good in
        let p = silent (answers (part_lines s n)) (refl, tt) z.1 good in
        let r = silent (answers (room_lines n limits.room)) (refl, tt) p.1 good in
        record {
          short = v.0.0;
          headers_there = v.0.1.0;
          guarded = v.0.1.1.0;
          sizes = z.0.0;
          within = z.0.1.0;
          there = z.0.1.1.0;
          parts = p.0.0;
          roomy = r.0.0;
        }

    -- with a variable header, every line behind is silent
    pub lines_behind : front rest ≡ w → has_variable_header (type s) n ≡ true → Behind s n limits
    unfolding count_lines
    lines_behind e with-header =
        let b = lines_before e in
        lines_rest (rw (b.0.few, with-header) at b.1)

  -- the way back: where the tests fail, the lines are passed
  module _ (before : Before s n limits) (a : Answer) where
    pub pass_bare : has_variable_header (type s) n ≡ false → front a ≡ accepted fixed_header_size (fields s)
    unfolding fixed_lines count_lines
    pass_bare without = rw (before.there, before.signed, before.known, before.current, before.guarded, before.few, without)

    pub pass_before : has_variable_header (type s) n ≡ true → front a ≡ a
    unfolding fixed_lines count_lines
    pass_before with-header = rw (before.there, before.signed, before.known, before.current, before.guarded, before.few, with-header)

  pub pass_behind : Behind s n limits → rest ≡ end
  unfolding variable_lines size_lines part_lines room_lines
  pass_behind b = rw (b.short, b.headers_there, b.guarded, b.sizes, b.within, b.there, b.parts, b.roomy)
