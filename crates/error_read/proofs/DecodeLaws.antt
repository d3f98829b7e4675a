-- Laws of reading a TError: the first walk, the room, the second walk. Assumes nothing.
use mathlib.Core.Path.{◌≡◌, refl, ◌∙◌}
use mathlib.Core.List.{List}
use Prim.Native.Nat.{ℕ, ◌*◌, ◌/◌, ◌<◌, ◌≤◌}
use native.Mathlib.Omega.{arith}
use borrow.Author.Tests.{lt-ltb, le-ltb}
use lib.ListN.{length}
use Rattle.words.specs.Answer.{afterwards}
use Rattle.words.specs.declared.outcome.Room.TheVariants.{Errors, Attributes}
use Rattle.words.proofs.BufferLaws.{fitted_sets, fitted_fits}
use Rattle.error_tree.specs.Paper.{paper}
use Rattle.error_tree.specs.Tree.{tree, error_count, attribute_count, error_words, attribute_words}
use Rattle.error_tree.specs.Reading.{room_order, reading, error_entry, attribute_entry}
use Rattle.error_tree.specs.declared.refusal.ErrorRefusal.{ErrorRefusal}
use Rattle.error_tree.specs.declared.refusal.ErrorRefusal.TheVariants.{BadMessage, ErrorsTooDeep, BadTable, NoRoom}
use Rattle.error_walk.specs.Statement.{Counts}
use Rattle.error_walk.specs.declared.walk.Counted.{Counted}
use Rattle.std.specs.declared.result.Result.TheVariants.{Ok, Err}
use Rattle.error_read.specs.Stages.{Room, FillsAll}
use Rattle.error_read.specs.Paper.{decoded_paper}
use Rattle.error_read.specs.Statement.{Decodes}
use Rattle.error_read.proofs.TableLaws.{length_error_words, length_attribute_words}

-- a refusal leaves a table as it was
keeps : (refusal : ErrorRefusal) (ws xs : List ℕ) → xs ≡ afterwards (paper refusal) ws xs
keeps (BadMessage place) ws xs = refl
keeps (ErrorsTooDeep place) ws xs = refl
keeps (BadTable rule position) ws xs = refl
keeps (NoRoom short) ws xs = refl

module _ (s errors attributes : List ℕ) where
  -- the answer is this refusal
  refused_by : (refusal : ErrorRefusal) → reading s (length errors) (length attributes) ≡ paper refusal → Decodes s errors attributes (Err refusal) errors attributes
  refused_by refusal e =
      rw e (refl, keeps refusal (error_words 1 (tree s)) errors, keeps refusal (attribute_words 0 0 (tree s)) attributes)

  pub refused_early : (refusal : ErrorRefusal) → Counts s (Err refusal) → Decodes s errors attributes (Err refusal) errors attributes
  unfolding reading
  refused_early refusal stops = refused_by refusal (stops _)

  module _ (c : Counted) (passes : Counts s (Ok c)) where
    pub errors_short : length errors / error_entry < c.errors
        → Decodes s errors attributes (Err (NoRoom record { room = Errors; needed = c.errors; given = length errors / error_entry })) errors attributes
    unfolding reading room_order
    errors_short h = refused_by (NoRoom record { room = Errors; needed = c.errors; given = length errors / error_entry }) (passes.2 _ ∙ rw (← passes.0, lt-ltb (length errors / error_entry) c.errors h))

    module _ (enough : c.errors ≤ length errors / error_entry) where
      pub attributes_short : length attributes / attribute_entry < c.attributes
          → Decodes s errors attributes (Err (NoRoom record { room = Attributes; needed = c.attributes; given = length attributes / attribute_entry })) errors attributes
      unfolding reading room_order
      attributes_short h =
          refused_by (NoRoom record { room = Attributes; needed = c.attributes; given = length attributes / attribute_entry }) (passes.2 _ ∙ rw (← passes.0, ← passes.1, le-ltb (length errors / error_entry) c.errors enough, lt-ltb (length attributes / attribute_entry) c.attributes h))

      module _ (enough' : c.attributes ≤ length attributes / attribute_entry) where
        pub rooms : Room (tree s) 0 0 errors attributes
        rooms = record { errors_fit = omega (arith, passes.0); attributes_fit = omega (arith, passes.1) }

        taken : reading s (length errors) (length attributes) ≡ decoded_paper (Ok c)
        unfolding reading room_order
        taken = passes.2 _ ∙ rw (← passes.0, ← passes.1, le-ltb (length errors / error_entry) c.errors enough, le-ltb (length attributes / attribute_entry) c.attributes enough')

        pub decoded : (errors' attributes' : List ℕ) → FillsAll s errors attributes errors' attributes' → Decodes s errors attributes (Ok c) errors' attributes'
        decoded errors' attributes' fills =
            let ew : List ℕ = error_words 1 (tree s) in
            let aw : List ℕ = attribute_words 0 0 (tree s) in
            let e-size : length ew ≡ error_entry * error_count (tree s) = length_error_words 1 (tree s) in
            let a-size : length aw ≡ attribute_entry * attribute_count (tree s) = length_attribute_words 0 0 (tree s) in
            let e-fit : length ew ≤ length errors = omega (arith, passes.0) in
            let a-fit : length aw ≤ length attributes = omega (arith, passes.1) in
            rw taken (
              refl,
              fills.0 ∙ fitted_sets ew errors e-fit ∙ fitted_fits ew errors e-fit,
              fills.1 ∙ fitted_sets aw attributes a-fit ∙ fitted_fits aw attributes a-fit,
            )
