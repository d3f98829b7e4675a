-- One result for each statement. Assumes nothing.
use mathlib.Core.Path.{sym, ◌∙◌}
use mathlib.Core.Bool.{true≢false}
use mathlib.Core.List.{List}
use Prim.Native.Nat.{ℕ}
use Rattle.words.specs.Statement.{OneResult}
use Rattle.field.specs.Statement.{ReadsField}
use Rattle.field.proofs.FieldLaws.{type_one}
use Rattle.std.specs.declared.option.Option.TheVariants.{Some, None}

pub read_field_unique : (s : List ℕ) (at end : ℕ) → OneResult (ReadsField s at end)
read_field_unique s at end (Some f) (Some g) p q =
    λ i. Some record {
      number = (p.1 ∙ sym q.1) i;
      wire = type_one f.wire g.wire (p.2 ∙ sym q.2) i;
      value = (p.3 ∙ sym q.3) i;
      content = (p.4 ∙ sym q.4) i;
      stop = (p.5 ∙ sym q.5) i;
    }
read_field_unique s at end (Some f) None p q = absurd (true≢false (sym p.0 ∙ q))
read_field_unique s at end None (Some g) p q = absurd (true≢false (sym q.0 ∙ p))
read_field_unique s at end None None p q = λ i. None
