-- What asking for bytes answers, and what its answer says. Assumes nothing.
use mathlib.Core.Path.{◌≡◌, refl, sym}
use mathlib.Core.Bool.{Bool, true, false}
use mathlib.Core.List.{List, [], ◌∷◌}
use Prim.Native.Nat.{ℕ, ◌-◌, ◌<◌, ◌≤◌}
use native.Mathlib.Omega.{arith}
use lib.ListN.{length}
use borrow.Author.Tests.{lt-ltb, le-ltb, ltb-false}
use Rattle.words.specs.Answer.{Answer, accepted, refuse}
use Rattle.words.specs.Decide.{pick}
use Rattle.wire.specs.Paper.{paper}
use Rattle.wire.specs.Need.{lacks, needing, Needs}
use Rattle.wire.specs.declared.error.WireError.{WireError}
use Rattle.wire.specs.declared.error.WireError.TheVariants.{Truncated}
use Rattle.std.specs.declared.result.Result.{Result}
use Rattle.std.specs.declared.result.Result.TheVariants.{Ok, Err}
use Rattle.wire.proofs.PaperLaws.{paper_never_accepted}

-- an answer that accepts is not the refusal
accepting : (test : Bool) (number : ℕ) (values : List ℕ) → accepted 0 [] ≡ pick test (refuse number values) (accepted 0 []) → test ≡ false
accepting true number values e = absurd (let z : ◌≡◌ {A = ℕ} 0 1 = cc in omega arith)
accepting false number values e = refl

-- a refusal is that of the bytes, whatever would follow
refusing : (test : Bool) (number : ℕ) (values : List ℕ) (there : Answer) (e : WireError)
    → paper e ≡ pick test (refuse number values) (accepted 0 []) → pick test (refuse number values) there ≡ paper e
refusing true number values there e h = sym h
refusing false number values there e h = absurd (paper_never_accepted e 0 [] h)

module _ (s : List ℕ) (at n : ℕ) where
  pub need_enough : n ≤ length s - at → Needs s at n (Ok tt)
  need_enough h = rw (le-ltb (length s - at) n h)

  pub need_short : (m : ℕ) → length s - at < n → m ≡ n - (length s - at) → Needs s at n (Err (Truncated at m))
  need_short m h e = rw (lt-ltb (length s - at) n h, e)

  module _ (r : Result (Unit {0}) WireError) (needs : Needs s at n r) where
    -- the bytes are there
    pub enough_room : r ≡ Ok tt → n ≤ length s - at
    enough_room e =
        let enough : Needs s at n (Ok tt) = rw e at needs in
        ltb-false (length s - at) n (accepting (lacks s at n) 9 (at ∷ (n - (length s - at)) ∷ []) enough)

    -- they are not, and the refusal says so, whatever would follow
    pub short_stops : (e : WireError) → r ≡ Err e → (rest : Answer) → needing s at n rest ≡ paper e
    short_stops e is rest =
        let short : Needs s at n (Err e) = rw is at needs in
        refusing (lacks s at n) 9 (at ∷ (n - (length s - at)) ∷ []) rest e short
