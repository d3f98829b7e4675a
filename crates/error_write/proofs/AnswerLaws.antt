-- Laws of the answers: the checks of the tables, the room, the bytes. Assumes nothing.
use mathlib.Core.Path.{◌≡◌, refl, sym, ◌∙◌}
use mathlib.Core.List.{List}
use Prim.Native.Nat.{ℕ, ◌<◌, ◌≤◌}
use borrow.Author.Tests.{lt-ltb, le-ltb}
use mathlib.Core.Logic.{⊎_elim}
use native.Mathlib.Omega.{arith}
use lib.ListN.{length}
use Rattle.words.proofs.DecideLaws.{le_or_gt}
use Rattle.error_write.proofs.CappedLaws.{capped_small, capped_large}
use Rattle.words.specs.Answer.{afterwards}
use Rattle.words.specs.Buffer.{over}
use Rattle.words.specs.declared.outcome.Room.TheVariants.{Output}
use Rattle.error_tree.specs.Paper.{paper}
use Rattle.error_tree.specs.declared.refusal.ErrorRefusal.{ErrorRefusal}
use Rattle.error_tree.specs.declared.refusal.ErrorRefusal.TheVariants.{BadMessage, ErrorsTooDeep, BadTable, NoRoom}
use Rattle.error_table.specs.Statement.{Sound, ChecksTables}
use Rattle.std.specs.declared.result.Result.{Result}
use Rattle.std.specs.declared.result.Result.TheVariants.{Ok, Err}
use Rattle.error_write.specs.Written.{error_bytes}
use Rattle.error_write.specs.Writing.{most_bytes, needed, measuring, writing, capped}
use Rattle.error_write.specs.Paper.{bytes_paper}
use Rattle.error_write.specs.Statement.{Measures, Encodes}
use Rattle.error_write.specs.Stages.{Sizes}

module _ (area errors attributes : List ℕ) where
  pub tables_sound : (u : Unit {0}) → ChecksTables area errors attributes (Ok u) → Sound area errors attributes
  tables_sound u passed = passed.0

  pub size_failed : (refusal : ErrorRefusal) → ChecksTables area errors attributes (Err refusal) → Sizes area errors attributes (Err refusal)
  size_failed refusal stops = stops

  pub size_passed : (u : Unit {0}) → ChecksTables area errors attributes (Ok u) → (n : ℕ) → n ≡ needed area errors attributes → Sizes area errors attributes (Ok n)
  size_passed u passed n is = (is, passed.0, passed.1)

pub sizes_measure : (area errors attributes : List ℕ) (r : Result ℕ ErrorRefusal) → Sizes area errors attributes r → Measures area errors attributes r
unfolding measuring
sizes_measure area errors attributes (Ok n) sizes = rw sizes.0 (sym (sizes.2 _))
sizes_measure area errors attributes (Err refusal) sizes = sym (sizes _)

-- a refusal leaves the output as it was
keeps : (refusal : ErrorRefusal) (ws xs : List ℕ) → xs ≡ afterwards (paper refusal) ws xs
keeps (BadMessage place) ws xs = refl
keeps (ErrorsTooDeep place) ws xs = refl
keeps (BadTable rule position) ws xs = refl
keeps (NoRoom short) ws xs = refl

module _ (area errors attributes out : List ℕ) where
  refused_by : (refusal : ErrorRefusal) → writing area errors attributes (length out) ≡ paper refusal → Encodes area errors attributes out (Err refusal) out
  refused_by refusal e = rw e (refl, keeps refusal (error_bytes area errors attributes) out)

  pub write_refused : (refusal : ErrorRefusal) → Sizes area errors attributes (Err refusal) → Encodes area errors attributes out (Err refusal) out
  unfolding writing
  write_refused refusal stops = refused_by refusal (stops _)

  module _ (n : ℕ) (passes : Sizes area errors attributes (Ok n)) where
    pub write_short : length out < n → Encodes area errors attributes out (Err (NoRoom record { room = Output; needed = n; given = length out })) out
    unfolding writing
    write_short h = refused_by (NoRoom record { room = Output; needed = n; given = length out }) (passes.2 _ ∙ rw (← passes.0, lt-ltb (length out) n h))

    pub write_done : n ≤ length out → (out' : List ℕ) → out' ≡ over (error_bytes area errors attributes) out → Encodes area errors attributes out (Ok n) out'
    unfolding writing
    write_done h out' is =
        let taken : writing area errors attributes (length out) ≡ bytes_paper (Ok n) = passes.2 _ ∙ rw (← passes.0, le-ltb (length out) n h) in
        rw taken (refl, is)

    -- what the output holds was not capped
    pub write_room : n ≤ length out → length out < most_bytes → Sound area errors attributes × (n ≡ length (error_bytes area errors attributes)) × (n ≤ length out)
    write_room h small = (passes.1, uncapped, h)
      where
        uncapped : n ≡ length (error_bytes area errors attributes)
        uncapped =
            ⊎_elim (λ (low : length (error_bytes area errors attributes) ≤ most_bytes). passes.0 ∙ capped_small (length (error_bytes area errors attributes)) low)
            (λ (high : most_bytes < length (error_bytes area errors attributes)). let large : capped (length (error_bytes area errors attributes)) ≡ most_bytes = capped_large (length (error_bytes area errors attributes)) (omega arith) in absurd (omega (arith, passes.0)))
            (le_or_gt (length (error_bytes area errors attributes)) most_bytes)
