-- What asking for a word answers. Assumes nothing.
use mathlib.Core.Path.{◌≡◌, sym}
use mathlib.Core.List.{List, [], ◌∷◌}
use Prim.Native.Nat.{ℕ, ◌+◌, ◌-◌, ◌≤◌}
use lib.ListN.{length}
use borrow.Author.Tests.{le-ltb}
use Rattle.words.specs.Answer.{accepted}
use Rattle.words.specs.Word.{word}
use Rattle.wire.specs.Need.{Needs}
use Rattle.wire.specs.declared.error.WireError.{WireError}
use Rattle.std.specs.declared.result.Result.{Result}
use Rattle.std.specs.declared.result.Result.TheVariants.{Ok, Err}
use Rattle.wire.proofs.NeedLaws.{enough_room, short_stops}
use Rattle.wire_reader.specs.Statement.{ReadsU64}

module _ (s : List ℕ) (at : ℕ) (r : Result (Unit {0}) WireError) (needs : Needs s at 8 r) where
  pub word_room : r ≡ Ok tt → 8 ≤ length s - at
  word_room e = enough_room s at 8 r needs e

  pub word_got : r ≡ Ok tt → (n : ℕ) → n ≡ word 8 s at → ReadsU64 s at (Ok record { value = n; next = at + 8 })
  word_got e n is = rw (le-ltb (length s - at) 8 (word_room e), is)

  pub word_refused : (refusal : WireError) → r ≡ Err refusal → ReadsU64 s at (Err refusal)
  word_refused refusal e = sym (short_stops s at 8 r needs refusal e (accepted (at + 8) (word 8 s at ∷ [])))
