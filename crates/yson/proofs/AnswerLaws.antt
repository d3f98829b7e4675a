-- What each public function answers, one law for each of its returns. Assumes nothing.
use mathlib.Core.Path.{◌≡◌, refl, sym, ◌∙◌, ap}
use mathlib.Core.List.{List, [], ◌∷◌}
use Prim.Native.Nat.{ℕ, ◌*◌, ◌/◌, ◌<◌, ◌≤◌}
use native.Mathlib.Omega.{arith}
use borrow.Author.Tests.{lt-ltb, le-ltb}
use lib.ListN.{length}
use Rattle.words.specs.Answer.{Answer, accepted, afterwards}
use Rattle.words.specs.Paper.{no_room}
use Rattle.words.specs.declared.outcome.Room.TheVariants.{Items as ItemRoom}
use Rattle.yson_grammar.specs.Grammar.{Yson}
use Rattle.yson_grammar.specs.Items.{outer}
use Rattle.yson_grammar.proofs.Place.{bad_there, deep_there}
use Rattle.yson.specs.Reading.{good, bad, deep, count, listing}
use Rattle.yson.specs.Statement.{Checks, Lists}
use Rattle.yson.specs.declared.Read.{Read}
use Rattle.yson.specs.Stages.{ReadsWhole, Ready, Fills}
use Rattle.yson.specs.declared.Fault.{Fault}
use Rattle.yson.specs.declared.Fault.TheVariants.{BadYson, TooDeep}
use Rattle.std.specs.declared.result.Result.TheVariants.{Ok, Err}
use Rattle.yson.specs.declared.YsonError.TheVariants.{Broken, Short}
use Rattle.yson.proofs.FillLaws.{ready, filled_words}

module _ (s : List ℕ) where
  pub checks_broken : (q : Fault) → ReadsWhole s (Err q) → Checks s (Err (Broken q))
  checks_broken (BadYson p) e = (bad p (bad_there s p (sym e)), refl)
  checks_broken (TooDeep p) e = (deep p (deep_there s p (sym e)), refl)

  counted : (d : Yson s) (n : ℕ) → length (outer d) ≡ 4 * n → n ≡ count d
  counted d n sized = omega (arith, sized)

  pub checks_items : (x : Read) → ReadsWhole s (Ok x) → Checks s (Ok x.items)
  checks_items x r = (good r.0, ap (λ (k : ℕ). accepted 0 (k ∷ [])) (counted r.0 x.items r.2))

  module _ (before : List ℕ) where
    pub lists_broken : (q : Fault) → ReadsWhole s (Err q) → Lists s before (Err (Broken q)) before
    lists_broken (BadYson p) e = (bad p (bad_there s p (sym e)), refl, refl)
    lists_broken (TooDeep p) e = (deep p (deep_there s p (sym e)), refl, refl)

    module _ (x : Read) (r : ReadsWhole s (Ok x)) where
      pub lists_short : length before / 4 < x.items → Lists s before (Err (Short record { room = ItemRoom; needed = x.items; given = length before / 4 })) before
      lists_short short =
          let is : x.items ≡ count r.0 = counted r.0 x.items r.2 in
          let answer : listing (good r.0) (length before / 4) ≡ no_room ItemRoom x.items (length before / 4) = rw (sym is, lt-ltb (length before / 4) x.items short) in
          (good r.0, sym answer, sym (ap (λ (a : Answer). afterwards a (outer r.0) before) answer))

      pub lists_ready : x.items ≤ length before / 4 → Ready s x.start x.items (length before)
      lists_ready room = ready s r.0 x.start x.items (length before) r.1 r.2 room

      pub lists_items : x.items ≤ length before / 4 → (after : List ℕ) → Fills s x.start x.items before after → Lists s before (Ok x.items) after
      lists_items room after f =
          let is : x.items ≡ count r.0 = counted r.0 x.items r.2 in
          let answer : listing (good r.0) (length before / 4) ≡ accepted 0 (x.items ∷ []) = rw (sym is, le-ltb (length before / 4) x.items room) in (
            good r.0,
            sym answer,
            filled_words s r.0 x.start x.items before after r.1 r.2 f ∙ sym (ap (λ (a : Answer). afterwards a (outer r.0) before) answer),
          )
