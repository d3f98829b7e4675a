-- The checks of a message pass exactly where it is well formed. Assumes nothing.
use mathlib.Core.Path.{◌≡◌, refl, ◌∙◌}
use mathlib.Core.Bool.{Bool, true, false}
use mathlib.Core.List.{List, [], ◌∷◌}
use mathlib.Core.Logic.{⊎_elim}
use Prim.Native.Nat.{ℕ, zero, suc, ◌+◌, ◌<◌, ◌≤◌}
use native.Mathlib.Omega.{arith}
use native.Mathlib.Decide.{ℕ_discrete}
use borrow.Author.Tests.{lt-ltb, le-ltb, eq-eqb, ne_eqb}
use lib.ListN.{length}
use Rattle.words.specs.Answer.{Answer, accepted}
use Rattle.words.proofs.AnswerLaws.{refused_not_accepted}
use Rattle.words.proofs.DecideLaws.{le_or_gt}
use Rattle.field.specs.Field.{number_at, content_at, stop_at}
use Rattle.field.proofs.FieldLaws.{stop_far}
use Rattle.error_tree.specs.Message.{error_fields, dictionary_fields, attribute_fields, whole_in}
use Rattle.error_tree.specs.Tree.{levels}
use Rattle.error_tree.specs.Reading.{check_fields, check_message, nothing, check_entry, check_field, check_inner, check_error}
use Rattle.error_tree.proofs.MessageLaws.{fields_more, fields_none, fields_end}
use Rattle.error_promises.specs.Form.{Message, reached, field, Held, Anything, Entry, ErrorField, WellFormed}

-- what a field holds passes its checks, and only what is good does
pub record Exact (Inside : Type 0) (checks : Answer → Answer) : Type 0 where
  pub passes : Inside → (rest : Answer) → checks rest ≡ rest
  pub only : (rest : Answer) (n : ℕ) (f : List ℕ) → checks rest ≡ accepted n f → Inside × (rest ≡ accepted n f)

module _ (known : ℕ) (Inside : ℕ → Type 0) (s : List ℕ) (end : ℕ) (each : ℕ → Answer → Answer) (exact : (at : ℕ) → Exact (Inside at) (each at)) where
  message_passes : {at : ℕ} → Message known Inside s end at → (rest : Answer) → check_message each known s at end rest ≡ rest
  unfolding check_fields
  message_passes {at} (reached h) rest = rw (fields_end known s end at h, le-ltb at end h)
  message_passes {at} (field whole inside more) rest =
      rw (fields_more known s end at whole) ((exact at).passes inside (check_message each known s (stop_at s at) end rest)) ∙ message_passes more rest

  message_only : (k at : ℕ) → end ≤ at + k → (rest : Answer) (n : ℕ) (f : List ℕ) → check_message each known s at end rest ≡ accepted n f → Message known Inside s end at × (rest ≡ accepted n f)
  unfolding check_fields
  message_only zero at enough rest n f e =
      let there : end ≤ at = omega arith in
      (reached there, rw (fields_end known s end at there, le-ltb at end there) at e)
  message_only (suc k) at enough rest n f e = go (λ next h q. message_only k next h rest n f q) (whole_in known s at end) refl
    where
      go : ((next : ℕ) → end ≤ next + k → check_message each known s next end rest ≡ accepted n f → Message known Inside s end next × (rest ≡ accepted n f))
          → (b : Bool) → whole_in known s at end ≡ b → Message known Inside s end at × (rest ≡ accepted n f)
      go further true whole =
          let unrolled : each at (check_message each known s (stop_at s at) end rest) ≡ accepted n f = rw (fields_more known s end at whole) at e in
          let here : Inside at × (check_message each known s (stop_at s at) end rest ≡ accepted n f) = (exact at).only (check_message each known s (stop_at s at) end rest) n f unrolled in
          let far : at < stop_at s at = stop_far s at in
          let others : Message known Inside s end (stop_at s at) × (rest ≡ accepted n f) = further (stop_at s at) (omega arith) here.1 in
          (field whole here.0 others.0, others.1)
      go further false cut =
          ⊎_elim (λ (there : end ≤ at). (reached there, rw (fields_none known s end at cut, le-ltb at end there) at e))
          (λ (before : at < end). absurd (refused_not_accepted 22 (at ∷ []) 0 n f (rw (fields_none known s end at cut, lt-ltb at end before) at e)))
          (le_or_gt end at)

  pub message_exact : (at : ℕ) → Exact (Message known Inside s end at) (check_message each known s at end)
  message_exact at = record { passes = message_passes; only = λ rest n f e. message_only end at (omega arith) rest n f e }

anything : (at : ℕ) → Exact (Anything at) (nothing at)
anything at = record { passes = λ inside rest. refl; only = λ rest n f e. (tt, e) }

module _ (s : List ℕ) where
  entry_exact : (at : ℕ) → Exact (Entry s at) (check_entry s at)
  unfolding check_entry
  entry_exact at = go (ℕ_discrete (number_at s at) 1)
    where
      held : Exact (Held attribute_fields Anything s at) (check_message nothing attribute_fields s (content_at s at) (stop_at s at))
      held = message_exact attribute_fields Anything s (stop_at s at) nothing anything (content_at s at)

      go : Dec (number_at s at ≡ 1) → Exact (Entry s at) (check_entry s at)
      go (yes one) =
          record {
            passes = λ inside rest. rw (eq-eqb (number_at s at) 1 one) (held.passes (inside one) rest);
            only = λ rest n f e.
                let found : Held attribute_fields Anything s at × (rest ≡ accepted n f) = held.only rest n f (rw (eq-eqb (number_at s at) 1 one) at e) in
                ((λ x. found.0), found.1);
          }
      go (no other) =
          record {
            passes = λ inside rest. rw (ne_eqb (number_at s at) 1 other);
            only = λ rest n f e. ((λ x. absurd (other x)), rw (ne_eqb (number_at s at) 1 other) at e);
          }

  -- a field of an error, an inner one's checks being `deeper`
  field_with : (at : ℕ) (Inner : Type 0) (deeper : ℕ → Answer → Answer) → Exact Inner (deeper at)
      → Exact ((number_at s at ≡ 3 → Held dictionary_fields (Entry s) s at) × (number_at s at ≡ 4 → Inner)) (check_field deeper s at)
  unfolding check_field
  field_with at Inner deeper inner = go (ℕ_discrete (number_at s at) 3) (ℕ_discrete (number_at s at) 4)
    where
      held : Exact (Held dictionary_fields (Entry s) s at) (check_message (check_entry s) dictionary_fields s (content_at s at) (stop_at s at))
      held = message_exact dictionary_fields (Entry s) s (stop_at s at) (check_entry s) entry_exact (content_at s at)

      clash : number_at s at ≡ 3 → number_at s at ≡ 4 → ⊥
      clash three four = omega arith

      go : Dec (number_at s at ≡ 3) → Dec (number_at s at ≡ 4) → Exact ((number_at s at ≡ 3 → Held dictionary_fields (Entry s) s at) × (number_at s at ≡ 4 → Inner)) (check_field deeper s at)
      go (yes three) d =
          record {
            passes = λ inside rest. rw (eq-eqb (number_at s at) 3 three) (held.passes (inside.0 three) rest);
            only = λ rest n f e.
                let found : Held dictionary_fields (Entry s) s at × (rest ≡ accepted n f) = held.only rest n f (rw (eq-eqb (number_at s at) 3 three) at e) in
                (((λ x. found.0), (λ four. absurd (clash three four))), found.1);
          }
      go (no other) (yes four) =
          record {
            passes = λ inside rest. rw (ne_eqb (number_at s at) 3 other, eq-eqb (number_at s at) 4 four) (inner.passes (inside.1 four) rest);
            only = λ rest n f e.
                let found : Inner × (rest ≡ accepted n f) = inner.only rest n f (rw (ne_eqb (number_at s at) 3 other, eq-eqb (number_at s at) 4 four) at e) in
                (((λ three. absurd (other three)), (λ x. found.0)), found.1);
          }
      go (no other) (no others) =
          record {
            passes = λ inside rest. rw (ne_eqb (number_at s at) 3 other, ne_eqb (number_at s at) 4 others);
            only = λ rest n f e. (((λ three. absurd (other three)), (λ four. absurd (others four))), rw (ne_eqb (number_at s at) 3 other, ne_eqb (number_at s at) 4 others) at e);
          }

  too_deep : (at : ℕ) → Exact ⊥ (check_inner 0 s at)
  unfolding check_inner
  too_deep at = record { passes = λ none rest. absurd none; only = λ rest n f e. absurd (refused_not_accepted 23 (at ∷ []) 0 n f e) }

  field_exact : (left at : ℕ) → Exact (ErrorField left s at) (check_field (check_inner left s) s at)
  unfolding ErrorField check_inner
  field_exact zero at = field_with at ⊥ (check_inner 0 s) (too_deep at)
  field_exact (suc left) at =
      field_with at (Held error_fields (ErrorField left s) s at) (check_inner (suc left) s)
      (message_exact error_fields (ErrorField left s) s (stop_at s at) (check_field (check_inner left s) s) (field_exact left) (content_at s at))

  pub error_exact : Exact (WellFormed s) (check_error levels s 0 (length s))
  error_exact = message_exact error_fields (ErrorField levels s) s (length s) (check_field (check_inner levels s) s) (field_exact levels) 0
