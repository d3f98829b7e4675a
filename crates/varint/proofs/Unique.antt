-- One result for each statement: two results, or two results with their exits, that meet a public function's statement are equal.
-- Assumes nothing.
use mathlib.Core.Path.{sym, ◌∙◌}
use mathlib.Core.Bool.{true≢false}
use mathlib.Core.List.{List}
use Prim.Native.Nat.{ℕ}
use lib.ListN.{length}
use Rattle.words.specs.Statement.{OneResult}
use Rattle.words.proofs.Unique.{equal_to_one}
use Rattle.varint.specs.Varint.{varint}
use Rattle.varint.specs.Statement.{ReadsVarint, SizesVarint, WritesVarint}
use Rattle.std.specs.declared.option.Option.TheVariants.{Some, None}

pub read_varint_unique : (s : List ℕ) (at end : ℕ) → OneResult (ReadsVarint s at end)
read_varint_unique s at end (Some v) (Some v') p q =
    λ i. Some record { value = (p.1 ∙ sym q.1) i; next = (p.2 ∙ sym q.2) i }
read_varint_unique s at end (Some v) None p q = absurd (true≢false (sym p.0 ∙ q))
read_varint_unique s at end None (Some v) p q = absurd (true≢false (sym q.0 ∙ p))
read_varint_unique s at end None None p q = λ i. None

pub varint_size_unique : (n : ℕ) → OneResult (SizesVarint n)
varint_size_unique n = equal_to_one (length (varint n))

pub write_varint_unique : (n : ℕ) (before : List ℕ) → OneResult (λ (p : ℕ × List ℕ). WritesVarint n before p.0 p.1)
write_varint_unique n before p p' q q' = λ i. ((q.0 ∙ sym q'.0) i, (q.1 ∙ sym q'.1) i)
