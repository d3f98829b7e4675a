-- Laws of the tree's counts. Assumes nothing.
use mathlib.Core.Path.{◌≡◌, refl}
use mathlib.Core.List.{List, [], ◌∷◌}
use Prim.Native.Nat.{ℕ, ◌+◌}
use native.Mathlib.Nat.{add-zero}
use lib.ListN.{length}
use Rattle.words.specs.Decide.{◌=?◌}
use Rattle.words.proofs.DecideLaws.{pick_case}
use Rattle.field.specs.Field.{number_at}
use Rattle.error_tree.specs.Message.{error_fields, attribute_fields, fields, inside}
use Rattle.error_tree.specs.Tree.{Parts, attribute_of, dictionary, parts, levels, tree, error_count, attribute_count}

-- a dictionary has no errors
pub dictionary_errors : (s fs : List ℕ) (more : Parts) → error_count (dictionary s fs more) ≡ error_count more
unfolding error_count dictionary
dictionary_errors s [] more = refl
dictionary_errors s (f ∷ fs) more =
    let rest : error_count (dictionary s fs more) ≡ error_count more = dictionary_errors s fs more in
    pick_case (number_at s f =? 1) (attribute_of s (inside attribute_fields s f) (dictionary s fs more)) (dictionary s fs more) (λ (p : Parts). error_count p ≡ error_count more) (λ e. rest) (λ e. rest)

-- the outermost error and what it holds
module _ (s : List ℕ) where
  pub tree_errors : error_count (tree s) ≡ 1 + error_count (parts levels s (fields error_fields s 0 (length s)))
  unfolding tree error_count
  tree_errors = add-zero _

  pub tree_attributes : attribute_count (tree s) ≡ attribute_count (parts levels s (fields error_fields s 0 (length s)))
  unfolding tree attribute_count
  tree_attributes = add-zero _
