-- Laws of the walk: what an accepted packet is known to be, each answer of a step, and the steps together. Assumes nothing.
use mathlib.Core.Path.{◌≡◌, refl, sym, ◌∙◌, ap, subst}
use mathlib.Core.Bool.{Bool, true, false, or-true, true≢false}
use mathlib.Core.List.{List, [], ◌++◌, append_assoc}
use Prim.Native.Nat.{ℕ, zero, suc, ◌+◌, ◌*◌, ◌-◌, ◌<◌, ◌≤◌, min}
use native.Mathlib.Omega.{arith}
use borrow.Author.Tests.{lt-ltb, le-ltb, le-leb, lt-leb, ltb-false}
use lib.ListN.{length, get_or, drop, length-append, length-drop, get_or-append}
use Rattle.words.specs.Answer.{Answer, accepted, afterwards}
use Rattle.words.specs.Buffer.{over}
use Rattle.words.specs.Decide.{◌=?◌}
use Rattle.words.specs.Text.{text}
use Rattle.words.specs.declared.outcome.Room.TheVariants.{Output}
use Rattle.words.proofs.AcceptLaws.{accepted_count, accepted_fields}
use Rattle.words.proofs.LentLaws.{tail, tail_is_drop}
use Rattle.packet.specs.declared.Packet.{Packet}
use Rattle.packet.specs.declared.PacketError.{PacketError}
use Rattle.packet.specs.Layout.{most_parts, fixed_header_size, part_header_size, has_variable_header, type, count, fields, whole}
use Rattle.packet.specs.Entries.{entry_words, room, entries}
use Rattle.packet.specs.Paper.{number_of, fields_of}
use Rattle.packet_answer.specs.Paper.{Decoded}
use Rattle.std.specs.declared.option.Option.TheVariants.{Some, None}
use Rattle.std.specs.declared.result.Result.TheVariants.{Ok, Err}
use Rattle.packet.specs.declared.Mode.TheVariants.{Archive}
use Rattle.packet_read.specs.Reading.{Limits, limited, reading}
use Rattle.packet_answer.specs.Paper as Read
use Rattle.packet_read.specs.Statement.{Decodes}
use Rattle.packet_read.proofs.EntryLaws.{length_entries}
use Rattle.packet_read.proofs.Lines.{Before, rest, front, reading_is, lines_before, lines_behind, pass_bare, pass_before, pass_behind}
use Rattle.listing.specs.Text.{packet_line, part_lines, end_line, more_line, refused_line}
use Rattle.listing.specs.Output.{most_bytes, byte_limit, part_ceiling, limits, text_room, answer, answered, lines_then, lines_from, output}
use Rattle.listing.specs.Statement.{Lists}
use Rattle.listing.specs.Stages.{placed, Wrote, LastLine, PacketLines}
use Rattle.listing.proofs.TextLaws.{wrote_then, wrote_front, wrote_as, parts_same}

-- without a variable header there are no parts
bare_count : (type n : ℕ) → has_variable_header type n ≡ false → n ≡ 0
bare_count type zero none = refl
bare_count type (suc n) none =
    let some : has_variable_header type (suc n) ≡ true = rw (lt-ltb 0 (suc n) (omega arith), or-true (type =? 0)) in
    absurd (true≢false (sym some ∙ none))

-- what an accepted packet is known to be: its fields are the input's, its parts few enough, and its bytes there
pub record Accepts (s : List ℕ) (limits : Limits) (consumed : ℕ) (found : List ℕ) : Type 0 where
  pub read : found ≡ fields s
  pub few : count s ≤ limits.parts
  pub some : fixed_header_size + part_header_size * count s ≤ consumed
  pub inside : consumed ≤ length s

module _ (s : List ℕ) (limits : Limits) (consumed : ℕ) (found : List ℕ) (e : reading s limits ≡ accepted consumed found) where
  abbrev n : ℕ
  n = count s

  fronted : front s n limits (rest s n limits) ≡ accepted consumed found
  fronted = sym (reading_is s n limits refl) ∙ e

  passed : Before s n limits
  passed = (lines_before s n limits (accepted consumed found) refl fronted).0

  accepts_as : (k : ℕ) → fixed_header_size + part_header_size * n ≤ k → k ≤ length s → accepted k (fields s) ≡ accepted consumed found → Accepts s limits consumed found
  accepts_as k some inside same =
      let counted : k ≡ consumed = ap accepted_count same in
      record {
        read = sym (ap accepted_fields same);
        few = omega (arith, ltb-false (min most_parts limits.parts) n passed.few);
        some = omega arith;
        inside = omega arith;
      }

  by_header : (b : Bool) → has_variable_header (type s) n ≡ b → Accepts s limits consumed found
  by_header true with-header =
      let behind = lines_behind s n limits (accepted consumed found) refl fronted with-header in
      accepts_as (whole s n) (omega arith) (ltb-false (length s) (whole s n) behind.there)
      (sym (pass_before s n limits passed (rest s n limits) with-header ∙ pass_behind s n limits behind) ∙ fronted)
  by_header false without =
      let none : n ≡ 0 = bare_count (type s) n without in
      accepts_as fixed_header_size (omega arith) (ltb-false (length s) fixed_header_size passed.there)
      (sym (pass_bare s n limits passed (rest s n limits) without) ∙ fronted)

  pub accepts : Accepts s limits consumed found
  accepts = by_header (has_variable_header (type s) n) refl

-- a text over the front of a buffer that keeps its length fits it
pub text_fits : {ws xs ys : List ℕ} {r : ℕ} → Wrote ws 0 xs r ys → length ys ≡ length xs → r ≤ length xs
text_fits wrote kept =
    let front = wrote_front wrote in
    omega (arith, front.0, simp (length-append, length-drop) at (ap length front.1))

-- The step's answers

module _ (s : List ℕ) (offset at : ℕ) (before : List ℕ) where
  -- no bytes left
  pub ends_here : {end : ℕ} {after : List ℕ} → length s ≤ offset → Wrote (end_line offset) at before end after → LastLine s offset at before end after
  unfolding lines_then
  ends_here past wrote = record { lines = end_line offset; are = λ later. rw (le-leb (length s) offset past); wrote = wrote }

  module _ (some : offset < length s) (table table' : List ℕ) (roomy : length table ≡ entry_words * part_ceiling) where
    -- the reader's answer
    abbrev Reads : Decoded → Type 0
    Reads r = Decodes (tail s offset) (limited Archive byte_limit part_ceiling table) table r table'

    at_rest : (r : Decoded) → Reads r → Decodes (drop offset s) limits table r table'
    at_rest r d =
        let rooms : room table ≡ part_ceiling = omega arith in
        subst (λ (k : ℕ). Decodes (drop offset s) (record { mode = Archive; bytes = byte_limit; parts = part_ceiling; room = k }) table r table') rooms
        (subst (λ (t : List ℕ). Decodes t (limited Archive byte_limit part_ceiling table) table r table') (tail_is_drop s offset) d)

    answered_so : (r : Decoded) → Reads r → answer s offset ≡ Read.paper r
    answered_so r d = sym (at_rest r d).answer

    lines_so : (r : Decoded) → Reads r → (later : ℕ → List ℕ) → lines_then s offset later ≡ answered s offset later (Read.paper r)
    unfolding lines_then
    lines_so r d later = rw (lt-leb (length s) offset some) (ap (answered s offset later) (answered_so r d))

    pub unfinished : {end : ℕ} {after : List ℕ} → Reads (Ok None) → Wrote (more_line offset) at before end after → LastLine s offset at before end after
    unfinished d wrote = record { lines = more_line offset; are = lines_so (Ok None) d; wrote = wrote }

    pub refusal : (error : PacketError) {consumed number end : ℕ} {after : List ℕ} → Reads (Err record { error = error; consumed = consumed }) → number ≡ number_of error
        → Wrote (refused_line offset number) at before end after → LastLine s offset at before end after
    refusal error {consumed} {number} d e wrote =
        record { lines = refused_line offset number; are = λ later. lines_so (Err record { error = error; consumed = consumed }) d later ∙ ap (refused_line offset) (sym e); wrote = wrote }

    module _ (packet : Packet) (consumed : ℕ) (d : Reads (Ok (Some record { packet = packet; consumed = consumed }))) where
      abbrev left : List ℕ
      left = drop offset s

      found : Accepts left limits consumed (fields_of packet)
      found = accepts left limits consumed (fields_of packet) (sym (at_rest (Ok (Some record { packet = packet; consumed = consumed })) d).answer)

      counted : packet.parts ≡ count left
      counted = ap (λ (f : List ℕ). get_or f 6 0) found.read

      filled : table' ≡ over (entries left) table
      filled =
          (at_rest (Ok (Some record { packet = packet; consumed = consumed })) d).tables
          ∙ ap (λ (a : Answer). afterwards a (entries left) table) (sym (at_rest (Ok (Some record { packet = packet; consumed = consumed })) d).answer)

      words : length (entries left) ≡ entry_words * packet.parts
      words = length_entries left (count left) 0 (count left) ∙ ap (λ (n : ℕ). entry_words * n) (sym counted)

      pub parts_held : entry_words * packet.parts ≤ length table'
      parts_held = omega (arith, words, simp length-append at (ap length filled))

      -- where the packet ends, and that its lines have room
      pub goes_on : (offset < offset + consumed) × (offset + consumed ≤ length s) × (36 + 12 * packet.parts ≤ consumed)
      goes_on = (omega (arith, found.some), omega (arith, found.inside, length-drop offset s), omega (arith, found.some, counted))

      same_lines : part_lines table' packet.parts ≡ part_lines (entries left) packet.parts
      same_lines = parts_same table' (entries left) packet.parts (λ k below. ap (λ (t : List ℕ). get_or t k 0) filled ∙ get_or-append (entries left) (drop (length (entries left)) table) 0 k (omega (arith, words)))

      pub packet_listed : {end : ℕ} {after : List ℕ} → at ≤ 5 * offset
          → Wrote (packet_line offset (fields_of packet) ++ part_lines table' packet.parts) at before end after → end ≤ at + (128 + 55 * packet.parts)
          → PacketLines s offset at before (offset + consumed) end after
      packet_listed early wrote short =
          record {
            lines = packet_line offset (fields_of packet) ++ part_lines (entries left) packet.parts;
            are = lines_so (Ok (Some record { packet = packet; consumed = consumed })) d;
            wrote = wrote_as (ap (λ (l : List ℕ). packet_line offset (fields_of packet) ++ l) same_lines) wrote;
            behind = goes_on.0;
            inside = goes_on.1;
            short = omega (arith, goes_on.2);
          }

-- The steps together: the lines written so far, and behind them those still to come, of at most `left` packets more

pub record Listing (s before now : List ℕ) (offset at : ℕ) : Type 0 where
  pub left : ℕ
  pub enough : length s ≤ offset + left
  pub inside : offset ≤ length s
  pub early : at ≤ 5 * offset
  pub done : List ℕ
  pub joins : done ++ lines_from (suc left) s offset ≡ lines_from (suc (length s)) s 0
  pub wrote : Wrote done 0 before at now

pub listing_begins : (s before : List ℕ) → Listing s before before 0 0
unfolding placed
listing_begins s before =
    record { left = length s; enough = omega arith; inside = omega arith; early = omega arith; done = []; joins = refl; wrote = record { ends = refl; holds = refl } }

pub listing_goes_on : {s before now after : List ℕ} {offset at next end : ℕ} → at ≤ length before → Listing s before now offset at → PacketLines s offset at now next end after → Listing s before after next end
unfolding lines_from
listing_goes_on {s} {before} {now} {after} {offset} {at} {next} {end} room so p =
    let one_less : so.left ≡ suc (so.left - 1) = omega (arith, so.enough, p.behind, p.inside) in
    record {
      left = so.left - 1;
      enough = omega (arith, so.enough, p.behind, p.inside);
      inside = p.inside;
      early = p.short;
      done = so.done ++ p.lines;
      joins = append_assoc so.done p.lines (lines_then s next (lines_from (so.left - 1) s)) ∙ ap (λ (l : List ℕ). so.done ++ (p.lines ++ l)) (ap (λ (k : ℕ). lines_from k s next) (sym one_less)) ∙ ap (λ (l : List ℕ). so.done ++ l) (sym (p.are (lines_from so.left s))) ∙ so.joins;
      wrote = wrote_then room so.wrote p.wrote;
    }

pub listing_ends : {s before now after : List ℕ} {offset at end : ℕ} → at ≤ length before → Listing s before now offset at → LastLine s offset at now end after
    → Wrote (lines_from (length s + 1) s 0) 0 before end after
unfolding lines_from
listing_ends {s} {before} {now} {after} {offset} {at} {end} room so p =
    let one_more : length s + 1 ≡ suc (length s) = omega arith in
    wrote_as (ap (λ (l : List ℕ). so.done ++ l) (sym (p.are (lines_from so.left s))) ∙ so.joins ∙ ap (λ (k : ℕ). lines_from k s 0) (sym one_more)) (wrote_then room so.wrote p.wrote)

-- The whole output

module _ (s before : List ℕ) where
  pub output_short : length before < text_room → Lists s before (Err (record { room = Output; needed = text_room; given = length before })) before
  output_short short = let so = lt-ltb (length before) text_room short in (rw so, rw so)

  module _ (fits : text_room ≤ length before) where
    written : {text : List ℕ} {end : ℕ} {after : List ℕ} → output s ≡ text → Wrote text 0 before end after → Lists s before (Ok end) after
    written {text} {end} e wrote =
        let front = wrote_front (wrote_as (sym e) wrote) in
        let so = le-ltb (length before) text_room fits in
        (rw so (ap (λ (n : ℕ). accepted n []) front.0), rw so front.1)

    pub output_too_long : {end : ℕ} {after : List ℕ} → most_bytes < length s → Wrote (text "too long\n") 0 before end after → Lists s before (Ok end) after
    unfolding output
    output_too_long long wrote = written (rw (lt-ltb most_bytes (length s) long)) wrote

    pub output_lines : {end : ℕ} {after : List ℕ} → length s ≤ most_bytes → Wrote (lines_from (length s + 1) s 0) 0 before end after → Lists s before (Ok end) after
    unfolding output
    output_lines few wrote = written (rw (le-ltb most_bytes (length s) few)) wrote
