-- Laws of the whole of the first walk. Assumes nothing.
use mathlib.Core.Path.{sym, ◌∙◌}
use mathlib.Core.List.{List}
use Prim.Native.Nat.{ℕ, ◌+◌}
use native.Mathlib.Omega.{arith}
use lib.ListN.{length}
use Rattle.error_tree.specs.Message.{error_fields, fields}
use Rattle.error_tree.specs.Tree.{levels}
use Rattle.error_tree.specs.declared.refusal.ErrorRefusal.{ErrorRefusal}
use Rattle.error_tree.proofs.TreeLaws.{tree_errors, tree_attributes}
use Rattle.error_walk.specs.Stages.{WalksError}
use Rattle.error_walk.specs.Statement.{Counts}
use Rattle.error_walk.specs.declared.walk.Counted.{Counted}
use Rattle.std.specs.declared.result.Result.TheVariants.{Ok, Err}
use Rattle.error_walk.proofs.CountLaws.{parts_errors, parts_attributes}

module _ (s : List ℕ) where
  pub all_stopped : (refusal : ErrorRefusal) → WalksError levels s 0 (length s) (Err refusal) → Counts s (Err refusal)
  all_stopped refusal stops = stops

  module _ (c : Counted) (passes : WalksError levels s 0 (length s) (Ok c)) where
    -- the outermost error is one more
    pub all_counted : Counts s (Ok record { errors = 1 + c.errors; attributes = c.attributes })
    all_counted =
        let outer : List ℕ = fields error_fields s 0 (length s) in
        (omega (arith, passes.0 ∙ sym (parts_errors levels s outer), tree_errors s), passes.1 ∙ sym (parts_attributes levels s outer) ∙ sym (tree_attributes s), passes.3)
