-- One result for each statement, since the map to document 01's terms loses nothing. Assumes nothing.
use mathlib.Core.List.{List}
use Prim.Native.Nat.{ℕ}
use Rattle.words.specs.Statement.{OneResult}
use Rattle.words.proofs.Unique.{means_one, holds_one}
use Rattle.packet.specs.declared.Mode.{Mode}
use Rattle.packet.specs.Entries.{entries}
use Rattle.packet_answer.specs.Paper.{Decoded, paper}
use Rattle.packet_answer.proofs.Back.{back, paper_back_lem}
use Rattle.packet_read.specs.Reading.{Limits, limited, reading}
use Rattle.packet_read.specs.Statement.{Decodes, default_ceiling}

-- the answer and the table at exit
pub decode_with_unique : (s : List ℕ) (limits : Limits) (table : List ℕ)
    → OneResult (λ (x : Decoded × List ℕ). Decodes s limits table x.0 x.1)
decode_with_unique s limits table x x' p p' =
    let same = means_one paper back paper_back_lem (reading s limits) x.0 x'.0 p.answer p'.answer in
    let table_same = holds_one (reading s limits) (entries s) table x.1 x'.1 p.tables p'.tables in
    λ i. (same i, table_same i)

pub decode_unique : (mode : Mode) (s : List ℕ) (limit : ℕ) (table : List ℕ)
    → OneResult (λ (x : Decoded × List ℕ). Decodes s (limited mode limit default_ceiling table) table x.0 x.1)
decode_unique mode s limit table = decode_with_unique s (limited mode limit default_ceiling table) table
