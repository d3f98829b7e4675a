-- A refusal or need-more changes no lent table or buffer, and an acceptance nothing past its entries. Assumes nothing.
use mathlib.Core.Path.{◌≡◌, refl, sym, ◌∙◌, ap}
use mathlib.Core.List.{List}
use Prim.Native.Nat.{ℕ, ◌*◌}
use lib.ListN.{length, drop}
use lib.Seq.{drop_at}
use Rattle.words.specs.Answer.{Answer, accepted, more, refused, afterwards}
use Rattle.words.proofs.Unique.{holds_kept}
use Rattle.packet_read.specs.Reading.{reading}
use Rattle.packet_write.specs.Writing.{writing}
use Rattle.packet.specs.Paper.{type_number}
use Rattle.guid_text.specs.Text.{text_of}
use Rattle.packet.specs.Layout.{count}
use Rattle.packet.specs.Entries.{entry_words, entries}
use Rattle.packet_read.proofs.EntryLaws.{length_entries}
use Rattle.packet_write.specs.Statement.{bytes_for}
use Rattle.wire.specs.Layout.{rowset_bytes}
use Rattle.wire.proofs.PaperLaws.{paper_keeps}
use Rattle.wire_read.proofs.DecodeLaws.{decodes_told}
use Rattle.std.specs.declared.result.Result.TheVariants as result
use Rattle.wire_write.proofs.EncodeLaws.{encodes_told}
use Rattle.promises.specs.TablesKeep.{PacketTablesKeep, PacketOutputKeeps, RowsetTablesKeep, RowsetOutputKeeps, TextKeeps}

past : (s table : List ℕ) (a : Answer) → drop (entry_words * count s) (afterwards a (entries s) table) ≡ drop (entry_words * count s) table
past s table (accepted n f) =
    let long : length (entries s) ≡ entry_words * count s = length_entries s (count s) 0 (count s) in
    drop_at (entries s) (drop (length (entries s)) table) (entry_words * count s) long ∙ ap (λ (k : ℕ). drop k table) long
past s table more = refl
past s table (refused number values consumed) = refl

-- Every refusal and need-more leaves the part table as it was; entries past those filled are unchanged.
pub packet_tables_keep : PacketTablesKeep
packet_tables_keep s limits table r after told = (
  (λ taken. holds_kept (reading s limits) (entries s) table after (rw told.answer at taken) told.tables),
  ap (drop (entry_words * count s)) told.tables ∙ past s table (reading s limits),
)

-- A packet that is not written leaves the output.
pub packet_output_keeps : PacketOutputKeeps
packet_output_keeps mode type flags id area table out error after told =
    holds_kept (writing mode (type_number type) area table (length out)) (bytes_for type flags id area table) out after (rw (← told.answer) tt) told.output

-- A rowset that is refused leaves both tables.
pub rowset_tables_keep : RowsetTablesKeep
rowset_tables_keep s rows values rows' values' refusal told =
    let tables = decodes_told s rows values (result.Err refusal) rows' values' told in
    (tables.0 ∙ paper_keeps refusal _ rows, tables.1 ∙ paper_keeps refusal _ values)

-- A rowset that is not written leaves the output.
pub rowset_output_keeps : RowsetOutputKeeps
rowset_output_keeps area rows values out refusal after told = encodes_told area rows values out (result.Err refusal) after told ∙ paper_keeps refusal (rowset_bytes area rows values) out

-- A text that has not the room leaves the buffer.
pub text_keeps : TextKeeps
text_keeps g before short after told =
    told.1 ∙ ap (λ (a : Answer). afterwards a (text_of g) before) (sym told.0)
