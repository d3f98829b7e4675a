-- What the pieces of the reading order answer, line by line: each law takes the facts that a stage of the code has
-- tested. Assumes nothing.
use mathlib.Core.Path.{◌≡◌, ◌∙◌, ap}
use mathlib.Core.Bool.{Bool, true, false}
use mathlib.Core.List.{List, [], ◌∷◌, ◌++◌}
use Prim.Native.Nat.{ℕ, ◌+◌, ◌<◌, ◌≤◌, min}
use native.Mathlib.Omega.{arith}
use borrow.Author.Tests.{lt-ltb, le-ltb, eq-eqb, ne_eqb}
use lib.ListN.{length}
use Rattle.words.specs.Answer.{Answer, accepted, more, refused}
use Rattle.words.specs.Decide.{Line, decide}
use Rattle.words.specs.Note.{Told, answers}
use Rattle.words.proofs.DecideLaws.{decide_append, answers_append}
use Rattle.crc64.specs.Polynomial.{checksum}
use Rattle.packet.specs.Layout.{packet_signature, most_parts, last_type, fixed_header_size, has_variable_header, headers, signature, type, fixed_sum, fixed_fields, fields, variable, variable_sum, whole, size, part_sum, start, part}
use Rattle.packet.specs.declared.Mode.{Mode}
use Rattle.packet.specs.Mode.{is_retired}
use Rattle.packet_read.specs.Reading.{Limits, fails, order, first_too_large, first_failing, fixed_lines, count_lines, variable_lines, size_lines, part_lines, room_lines}
use Rattle.std.specs.declared.option.Option.{Option}
use Rattle.std.specs.declared.option.Option.TheVariants.{Some, None}
use Rattle.std.specs.declared.result.Result.{Result}
use Rattle.std.specs.declared.result.Result.TheVariants.{Ok, Err}
use Rattle.packet.specs.declared.PacketError.{PacketError}
use Rattle.packet_read.specs.Stages.{through, behind, SizedStage, VariableStage}

-- one piece, then the other
pub split : (xs ys : List (Line Told)) (a : Answer) → through (xs ++ ys) a ≡ through xs (through ys a)
split xs ys a = ap (λ (l : List (Line Answer)). decide l a) (answers_append xs ys) ∙ decide_append (answers xs) (answers ys) a

-- the whole order, piece by piece
pub order_split : (s : List ℕ) (n : ℕ) (limits : Limits) (rest : Answer)
    → through (order s n limits) rest ≡ through (fixed_lines s limits.mode) (through (count_lines s n limits.parts) (behind s n limits.bytes limits.room rest))
unfolding order
order_split s n limits rest =
    split (f ++ c ++ v ++ z ++ p) r rest
    ∙ split (f ++ c ++ v ++ z) p (through r rest)
    ∙ split (f ++ c ++ v) z (through p (through r rest))
    ∙ split (f ++ c) v (through z (through p (through r rest)))
    ∙ split f c (behind s n limits.bytes limits.room rest)
  where
    f : List (Line Told)
    f = fixed_lines s limits.mode

    c : List (Line Told)
    c = count_lines s n limits.parts

    v : List (Line Told)
    v = variable_lines s n limits.bytes

    z : List (Line Told)
    z = size_lines s n limits.bytes

    p : List (Line Told)
    p = part_lines s n

    r : List (Line Told)
    r = room_lines n limits.room

module _ (s : List ℕ) (mode : Mode) (rest : Answer) where
  -- the fixed header: need-more, 1, 2, 24, 5
  pub fixed_more : length s < fixed_header_size → through (fixed_lines s mode) rest ≡ more
  unfolding fixed_lines
  fixed_more short = rw (lt-ltb _ _ short)

  module _ (found : ℕ) (long : fixed_header_size ≤ length s) (read : found ≡ signature s) where
    pub fixed_signature : (found ≡ packet_signature → ⊥) → through (fixed_lines s mode) rest ≡ refused 1 (found ∷ []) 0
    unfolding fixed_lines
    fixed_signature other = rw (le-ltb _ _ long, ← read, ne_eqb _ _ other)

    module _ (raw : ℕ) (same : found ≡ packet_signature) (read-type : raw ≡ type s) where
      pub fixed_type : last_type < raw → through (fixed_lines s mode) rest ≡ refused 2 (raw ∷ []) 0
      unfolding fixed_lines
      fixed_type high = rw (le-ltb _ _ long, ← read, eq-eqb _ _ same, ← read-type, lt-ltb _ _ high)

      module _ (low : raw ≤ last_type) (retired : Bool) (told : retired ≡ is_retired mode raw) where
        pub fixed_retired : retired ≡ true → through (fixed_lines s mode) rest ≡ refused 24 (raw ∷ []) 0
        unfolding fixed_lines
        fixed_retired is = rw (le-ltb _ _ long, ← read, eq-eqb _ _ same, ← read-type, le-ltb _ _ low, ← told, is)

        module _ (stored : ℕ) (current : retired ≡ false) (read-sum : stored ≡ fixed_sum s) where
          pub fixed_fails : (actual : ℕ) → fails stored (fixed_fields s) ≡ true → actual ≡ checksum (fixed_fields s)
              → through (fixed_lines s mode) rest ≡ refused 5 (stored ∷ actual ∷ []) 0
          unfolding fixed_lines
          fixed_fails actual failed is =
              rw (le-ltb _ _ long, ← read, eq-eqb _ _ same, ← read-type, le-ltb _ _ low, ← told, current, ← read-sum, failed, is)

          pub fixed_passes : fails stored (fixed_fields s) ≡ false → through (fixed_lines s mode) rest ≡ rest
          unfolding fixed_lines
          fixed_passes passed =
              rw (le-ltb _ _ long, ← read, eq-eqb _ _ same, ← read-type, le-ltb _ _ low, ← told, current, ← read-sum, passed)

-- the count of parts: 3, and the packet without a variable header
module _ (s : List ℕ) (n ceiling : ℕ) (rest : Answer) (most : ℕ) (is : most ≡ min most_parts ceiling) where
  pub count_high : most < n → through (count_lines s n ceiling) rest ≡ refused 3 (n ∷ []) 0
  unfolding count_lines
  count_high high = rw (← is, lt-ltb _ _ high)

  module _ (has : Bool) (low : n ≤ most) (has-is : has ≡ has_variable_header (type s) n) where
    pub count_bare : has ≡ false → through (count_lines s n ceiling) rest ≡ accepted fixed_header_size (fields s)
    unfolding count_lines
    count_bare without = rw (← is, le-ltb _ _ low, ← has-is, without)

    pub count_pass : has ≡ true → through (count_lines s n ceiling) rest ≡ rest
    unfolding count_lines
    count_pass with = rw (← is, le-ltb _ _ low, ← has-is, with)

-- the variable header: 8, need-more, 6
module _ (s : List ℕ) (n limit : ℕ) (rest : Answer) where
  pub headers_long : (total : ℕ) → total ≡ headers n → limit < total → through (variable_lines s n limit) rest ≡ refused 8 (total ∷ limit ∷ []) 0
  unfolding variable_lines
  headers_long total is high = rw (← is, lt-ltb _ _ high)

  module _ (low : headers n ≤ limit) where
    pub headers_more : length s < headers n → through (variable_lines s n limit) rest ≡ more
    unfolding variable_lines
    headers_more short = rw (le-ltb _ _ low, lt-ltb _ _ short)

    module _ (stored : ℕ) (long : headers n ≤ length s) (read : stored ≡ variable_sum s n) where
      pub variable_fails : (actual : ℕ) → fails stored (variable s n) ≡ true → actual ≡ checksum (variable s n)
          → through (variable_lines s n limit) rest ≡ refused 6 (stored ∷ actual ∷ []) 0
      unfolding variable_lines
      variable_fails actual failed is = rw (le-ltb _ _ low, le-ltb _ _ long, ← read, failed, is)

      pub variable_passes : fails stored (variable s n) ≡ false → through (variable_lines s n limit) rest ≡ rest
      unfolding variable_lines
      variable_passes passed = rw (le-ltb _ _ low, le-ltb _ _ long, ← read, passed)

  -- the sizes: 4, 8, need-more
  pub sized_large : (index found : ℕ) → first_too_large s n ≡ index → index < n → found ≡ size s index
      → through (size_lines s n limit) rest ≡ refused 4 (index ∷ found ∷ []) 0
  unfolding size_lines
  sized_large index found first_is below read = rw (first_is, lt-ltb _ _ below, read)

  module _ (total : ℕ) (none : first_too_large s n ≡ n) (is : total ≡ whole s n) where
    pub sized_long : limit < total → through (size_lines s n limit) rest ≡ refused 8 (total ∷ limit ∷ []) 0
    unfolding size_lines
    sized_long high = rw (none, le-ltb n n (omega arith), ← is, lt-ltb _ _ high)

    pub sized_more : total ≤ limit → length s < total → through (size_lines s n limit) rest ≡ more
    unfolding size_lines
    sized_more low short = rw (none, le-ltb n n (omega arith), ← is, le-ltb _ _ low, lt-ltb _ _ short)

    pub sized_passes : total ≤ limit → total ≤ length s → through (size_lines s n limit) rest ≡ rest
    unfolding size_lines
    sized_passes low long = rw (none, le-ltb n n (omega arith), ← is, le-ltb _ _ low, le-ltb _ _ long)

-- the parts: 7
module _ (s : List ℕ) (n : ℕ) (rest : Answer) where
  pub parts_fail : (index expected actual consumed : ℕ) → first_failing s n ≡ index → index < n → expected ≡ part_sum s n index
      → actual ≡ checksum (part s n index) → consumed ≡ start s n (index + 1)
      → through (part_lines s n) rest ≡ refused 7 (index ∷ expected ∷ actual ∷ []) consumed
  unfolding part_lines
  parts_fail index expected actual consumed first_is below stored computed place = rw (first_is, lt-ltb _ _ below, stored, computed, place)

  pub parts_pass : first_failing s n ≡ n → through (part_lines s n) rest ≡ rest
  unfolding part_lines
  parts_pass none = rw (none, le-ltb n n (omega arith))

-- the table: 17
module _ (n room : ℕ) (rest : Answer) where
  pub room_short : room < n → through (room_lines n room) rest ≡ refused 17 (1 ∷ n ∷ room ∷ []) 0
  unfolding room_lines
  room_short short = rw (lt-ltb _ _ short)

  pub room_pass : n ≤ room → through (room_lines n room) rest ≡ rest
  unfolding room_lines
  room_pass enough = rw (le-ltb _ _ enough)

-- where the variable header's own lines are silent, its stage is the stage behind its checksum
pub behind_variable : (s : List ℕ) (n limit : ℕ) (v : Result (Option ℕ) PacketError) → ((rest : Answer) → through (variable_lines s n limit) rest ≡ rest)
    → SizedStage s n limit v → VariableStage s n limit v
behind_variable s n limit (Ok None) quiet told = λ rest. quiet (through (size_lines s n limit) rest) ∙ told rest
behind_variable s n limit (Err error) quiet told = λ rest. quiet (through (size_lines s n limit) rest) ∙ told rest
behind_variable s n limit (Ok (Some total)) quiet told =
    ((λ rest. quiet (through (size_lines s n limit) rest) ∙ told.0 rest), told.1, told.2)
