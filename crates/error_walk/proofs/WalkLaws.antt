-- Laws of the first walk: what is still to come of a message is all that its contract speaks of. Assumes nothing.
use mathlib.Core.Path.{◌≡◌, refl, sym, ◌∙◌}
use mathlib.Core.Bool.{false}
use mathlib.Core.List.{List, [], ◌∷◌}
use Prim.Native.Nat.{ℕ, ◌+◌, ◌-◌, ◌<◌, ◌≤◌}
use native.Mathlib.Nat.{zero-add}
use native.Mathlib.Omega.{arith}
use borrow.Author.Tests.{lt-ltb, le-ltb}
use lib.ListN.{length}
use Rattle.words.specs.Answer.{Answer}
use Rattle.field.specs.Field.{stop_at}
use Rattle.field.specs.declared.field.Field.{Field}
use Rattle.error_tree.specs.Message.{whole_in, fields}
use Rattle.error_tree.specs.Reading.{check_fields, check_message, nothing}
use Rattle.error_tree.specs.Statement.{Lies}
use Rattle.error_walk.specs.Stages.{NextField, sum_of, no, WalksMessage, WalksField}
use Rattle.error_tree.specs.declared.refusal.ErrorRefusal.{ErrorRefusal}
use Rattle.error_walk.specs.declared.walk.Counted.{Counted}
use Rattle.std.specs.declared.result.Result.TheVariants.{Ok, Err}
use Rattle.error_tree.proofs.MessageLaws.{fields_more, fields_none, fields_end}

-- One message, whatever its fields hold: `e` errors and `a` attributes were passed, and the fields from `at` on are still to come

module _ (each : ℕ → Answer → Answer) (errors attributes : ℕ → ℕ) (known : ℕ) (s : List ℕ) (start end : ℕ) where
  pub record Left (at e a : ℕ) : Type 0 where
    pub from : start ≤ at
    pub to : at ≤ end
    pub few : e + a ≤ at - start
    pub errors_left : e + sum_of errors (fields known s at end) ≡ sum_of errors (fields known s start end)
    pub attributes_left : a + sum_of attributes (fields known s at end) ≡ sum_of attributes (fields known s start end)
    pub checks_left : (rest : Answer) → check_message each known s at end rest ≡ check_message each known s start end rest

  pub begin : start ≤ end → Left start 0 0
  begin h = record { from = omega arith; to = h; few = omega arith; errors_left = zero-add _; attributes_left = zero-add _; checks_left = λ rest. refl }

module _ {each : ℕ → Answer → Answer} {errors attributes : ℕ → ℕ} {known : ℕ} {s : List ℕ} {start end at e a : ℕ} (left : Left each errors attributes known s start end at e a) where
  -- the end is reached
  pub done : end ≤ at → WalksMessage each errors attributes known s start end (Ok record { errors = e; attributes = a })
  unfolding sum_of check_fields
  done h =
      let none : fields known s at end ≡ [] = fields_end known s end at h in
      let es : e + 0 ≡ sum_of errors (fields known s start end) = rw none at left.errors_left in
      let «as» : a + 0 ≡ sum_of attributes (fields known s start end) = rw none at left.attributes_left in
      let few : e + a ≤ at - start = left.few in
      let to : at ≤ end = left.to in
      (omega arith, omega arith, omega arith, (λ rest. sym (left.checks_left rest) ∙ rw (none, le-ltb at end h)))

  -- no whole field stands here
  pub broken : at < end → (refusal : ErrorRefusal) → NextField known s at end (Err refusal) → WalksMessage each errors attributes known s start end (Err refusal)
  unfolding check_fields
  broken more refusal next rest =
      let cut : whole_in known s at end ≡ false = next.1 in
      sym (left.checks_left rest) ∙ rw (fields_none known s end at cut, lt-ltb at end more, next.0)

  module _ (f : Field) (whole : NextField known s at end (Ok f)) where
    pub ahead : (at < f.stop) × (f.stop ≤ end)
    ahead =
        let low : at < f.content = whole.6 in
        let high : f.content ≤ f.stop = whole.7 in
        (omega arith, whole.8)

    pub lies : end ≤ length s → Lies s at f
    lies h = (whole.1, whole.4, whole.5, whole.6, whole.7, (let far : f.stop ≤ end = whole.8 in omega arith))

    pub stopped : (refusal : ErrorRefusal) → WalksField each errors attributes s at (Err refusal) → WalksMessage each errors attributes known s start end (Err refusal)
    unfolding check_fields
    stopped refusal stops rest =
        sym (left.checks_left rest) ∙ rw (fields_more known s end at whole.0) (stops (check_message each known s (stop_at s at) end rest))

    module _ (c : Counted) (passes : WalksField each errors attributes s at (Ok c)) where
      pub fewer : e + a + (c.errors + c.attributes) ≤ f.stop - start
      fewer =
          let there : f.stop ≡ stop_at s at = whole.5 in
          let from : start ≤ at = left.from in
          let few : e + a ≤ at - start = left.few in
          let few' : c.errors + c.attributes ≤ stop_at s at - at = passes.2 in
          let ahead : at < f.content = whole.6 in
          let ahead' : f.content ≤ f.stop = whole.7 in
          omega arith

      pub goes : Left each errors attributes known s start end f.stop (e + c.errors) (a + c.attributes)
      unfolding check_fields sum_of
      goes =
          let there : f.stop ≡ stop_at s at = whole.5 in
          let first : fields known s at end ≡ at ∷ fields known s (stop_at s at) end = fields_more known s end at whole.0 in
          let es : e + (errors at + sum_of errors (fields known s (stop_at s at) end)) ≡ sum_of errors (fields known s start end) = rw first at left.errors_left in
          let «as» : a + (attributes at + sum_of attributes (fields known s (stop_at s at) end)) ≡ sum_of attributes (fields known s start end) = rw first at left.attributes_left in
          let unrolled : (rest : Answer) → each at (check_message each known s (stop_at s at) end rest) ≡ check_message each known s start end rest = rw first at left.checks_left in
          let e-is : c.errors ≡ errors at = passes.0 in
          let a-is : c.attributes ≡ attributes at = passes.1 in
          let from : start ≤ at = left.from in
          let ahead : at < f.content = whole.6 in
          let ahead' : f.content ≤ f.stop = whole.7 in
          record {
            from = omega arith;
            to = whole.8;
            few = let less : e + a + (c.errors + c.attributes) ≤ f.stop - start = fewer in omega arith;
            errors_left = rw there (omega arith);
            attributes_left = rw there (omega arith);
            checks_left = rw there (λ rest. sym (passes.3 (check_message each known s (stop_at s at) end rest)) ∙ unrolled rest);
          }

-- a field that is passed by holds nothing
pub passes_by : (s : List ℕ) (at : ℕ) → WalksField nothing no no s at (Ok record { errors = 0; attributes = 0 })
passes_by s at = (refl, refl, omega arith, (λ rest. refl))

-- where no errors are counted
pub goes_flat : {each : ℕ → Answer → Answer} {attributes : ℕ → ℕ} {known : ℕ} {s : List ℕ} {start end at a : ℕ} (left : Left each no attributes known s start end at 0 a)
    (f : Field) (whole : NextField known s at end (Ok f)) (c : Counted) (passes : WalksField each no attributes s at (Ok c)) → Left each no attributes known s start end f.stop 0 (a + c.attributes)
goes_flat {each} {attributes} {known} {s} {start} {end} {at} {a} left f whole c passes =
    let none : 0 + c.errors ≡ 0 = zero-add c.errors ∙ passes.0 in
    let gone : Left each no attributes known s start end f.stop (0 + c.errors) (a + c.attributes) = goes left f whole c passes in
    rw none at gone
