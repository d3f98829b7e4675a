-- The promises of reading and writing errors, proved. Assumes nothing.
use mathlib.Core.Path.{◌≡◌, refl, sym, ◌∙◌, ap}
use mathlib.Core.List.{List, [], ◌∷◌, ◌++◌, Memᴰ}
use mathlib.Core.Logic.{⊎_elim}
use Prim.Native.Nat.{ℕ, ◌/◌, ◌%◌, ◌<◌, ◌≤◌}
use native.Mathlib.Omega.{arith}
use borrow.Author.Tests.{lt-ltb, le-ltb, eq-eqb, ne_eqb}
use lib.ListN.{length, get_or}
use Rattle.words.specs.Answer.{Answer, accepted}
use Rattle.words.specs.Decide.{decide, pick, ◌=?◌}
use Rattle.words.proofs.AnswerLaws.{refused_not_accepted}
use Rattle.words.proofs.DecideLaws.{le_or_gt}
use Rattle.words.specs.Buffer.{over}
use Rattle.field.specs.Field.{number_at, value_at, content_at}
use Rattle.error_tree.specs.Message.{error_fields, fields, latest}
use Rattle.error_tree.specs.Tree.{Parts, tree, code_of, place_of, length_of, error_count, attribute_count, error_words, parts_with, field_parts}
use Rattle.error_tree.specs.Reading.{error_entry, attribute_entry, room_order, reading}
use Rattle.error_tree.specs.declared.refusal.ErrorRefusal.TheVariants.{BadMessage, ErrorsTooDeep, BadTable, NoRoom}
use Rattle.error_read.specs.Paper.{decoded_paper}
use Rattle.error_read.specs.Statement.{Decodes}
use Rattle.error_walk.specs.declared.walk.Counted.{Counted}
use Rattle.std.specs.declared.result.Result.TheVariants.{Ok}
use Rattle.error_read.proofs.Unique.{decoded_told}
use Rattle.error_promises.specs.Form.{WellFormed}
use Rattle.error_promises.specs.Errors.{Roomy, ErrorAcceptsExactly, ErrorTablesKeep, ErrorOutputKeeps, LastCounts, LastIsStored, UnknownAddsNothing}
use Rattle.error_promises.proofs.Form.{error_exact}

-- the room behind the checks: the counts exactly where the tables hold them
module _ (s errors attributes : List ℕ) where
  abbrev rooms : Answer → Answer
  rooms rest = decide (room_order s (length errors / error_entry) (length attributes / attribute_entry)) rest

  rooms_pass : Roomy s errors attributes → (rest : Answer) → rooms rest ≡ rest
  unfolding room_order
  rooms_pass fit rest = rw (le-ltb (length errors / error_entry) (error_count (tree s)) fit.errors_fit, le-ltb (length attributes / attribute_entry) (attribute_count (tree s)) fit.attributes_fit)

  rooms_only : (rest : Answer) (n : ℕ) (f : List ℕ) → rooms rest ≡ accepted n f → Roomy s errors attributes × (rest ≡ accepted n f)
  unfolding room_order
  rooms_only rest n f e = ⊎_elim fits (λ (short : length errors / error_entry < error_count (tree s)). absurd (refused_not_accepted _ _ _ n f (rw (lt-ltb (length errors / error_entry) (error_count (tree s)) short) at e))) (le_or_gt (error_count (tree s)) (length errors / error_entry))
    where
      fits : error_count (tree s) ≤ length errors / error_entry → Roomy s errors attributes × (rest ≡ accepted n f)
      fits first =
          ⊎_elim
          (λ (second : attribute_count (tree s) ≤ length attributes / attribute_entry). (
            record { errors_fit = first; attributes_fit = second },
            rw (le-ltb (length errors / error_entry) (error_count (tree s)) first, le-ltb (length attributes / attribute_entry) (attribute_count (tree s)) second) at e,
          ))
          (λ (short : length attributes / attribute_entry < attribute_count (tree s)).
          absurd (refused_not_accepted _ _ _ n f (rw (le-ltb (length errors / error_entry) (error_count (tree s)) first, lt-ltb (length attributes / attribute_entry) (attribute_count (tree s)) short) at e)))
          (le_or_gt (attribute_count (tree s)) (length attributes / attribute_entry))

  pub reads : WellFormed s → Roomy s errors attributes → reading s (length errors) (length attributes) ≡ accepted 0 (error_count (tree s) ∷ attribute_count (tree s) ∷ [])
  unfolding reading
  reads form fit = (error_exact s).passes form _ ∙ rooms_pass fit _

  pub reads_only : (n : ℕ) (f : List ℕ) → reading s (length errors) (length attributes) ≡ accepted n f → WellFormed s × Roomy s errors attributes × (accepted 0 (error_count (tree s) ∷ attribute_count (tree s) ∷ []) ≡ accepted n f)
  unfolding reading
  reads_only n f e =
      let checked : WellFormed s × (rooms (accepted 0 (error_count (tree s) ∷ attribute_count (tree s) ∷ [])) ≡ accepted n f) = (error_exact s).only _ n f e in
      let fit : Roomy s errors attributes × (accepted 0 (error_count (tree s) ∷ attribute_count (tree s) ∷ []) ≡ accepted n f) = rooms_only _ n f checked.1 in
      (checked.0, fit.0, fit.1)

pub error_accepts_exactly : ErrorAcceptsExactly
error_accepts_exactly s errors attributes errors' attributes' r decodes = (
  (λ form fit. decoded_told r (Ok record { errors = error_count (tree s); attributes = attribute_count (tree s) }) (decodes.0 ∙ reads s errors attributes form fit)),
  (λ c e.
      let back : reading s (length errors) (length attributes) ≡ accepted 0 (c.errors ∷ c.attributes ∷ []) = sym decodes.0 ∙ ap decoded_paper e in
      let all : WellFormed s × Roomy s errors attributes × (accepted 0 (error_count (tree s) ∷ attribute_count (tree s) ∷ []) ≡ accepted 0 (c.errors ∷ c.attributes ∷ [])) = reads_only s errors attributes 0 (c.errors ∷ c.attributes ∷ []) back in
      let same : accepted 0 (error_count (tree s) ∷ attribute_count (tree s) ∷ []) ≡ accepted 0 (c.errors ∷ c.attributes ∷ []) = all.2 in
      (all.0, all.1, cc, cc)),
)

pub error_tables_keep : ErrorTablesKeep
error_tables_keep s errors attributes errors' attributes' (BadMessage place) decodes = (rw (← decodes.0) at decodes.1, rw (← decodes.0) at decodes.2)
error_tables_keep s errors attributes errors' attributes' (ErrorsTooDeep place) decodes = (rw (← decodes.0) at decodes.1, rw (← decodes.0) at decodes.2)
error_tables_keep s errors attributes errors' attributes' (BadTable rule position) decodes = (rw (← decodes.0) at decodes.1, rw (← decodes.0) at decodes.2)
error_tables_keep s errors attributes errors' attributes' (NoRoom short) decodes = (rw (← decodes.0) at decodes.1, rw (← decodes.0) at decodes.2)

pub error_output_keeps : ErrorOutputKeeps
error_output_keeps area errors attributes out out' (BadMessage place) encodes = rw (← encodes.0) at encodes.1
error_output_keeps area errors attributes out out' (ErrorsTooDeep place) encodes = rw (← encodes.0) at encodes.1
error_output_keeps area errors attributes out out' (BadTable rule position) encodes = rw (← encodes.0) at encodes.1
error_output_keeps area errors attributes out out' (NoRoom short) encodes = rw (← encodes.0) at encodes.1

-- the fields of the outermost error
abbrev outermost : List ℕ → List ℕ
outermost s = fields error_fields s 0 (length s)

latest_none : (f : ℕ → ℕ) (number : ℕ) (s gs : List ℕ) (d : ℕ) → ((g : ℕ) → Memᴰ g gs → number_at s g ≡ number → ⊥) → latest f number s gs d ≡ d
unfolding latest
latest_none f number s [] d none = refl
latest_none f number s (g ∷ gs) d none =
    let here : pick (number_at s g =? number) (f g) d ≡ d = rw (ne_eqb (number_at s g) number (none g (Memᴰ.head refl))) in
    ap (λ (x : ℕ). latest f number s gs x) here ∙ latest_none f number s gs d (λ h m. none h (Memᴰ.tail m))

pub last_counts : LastCounts
unfolding latest
last_counts f number s [] gs at d is none =
    let here : pick (number_at s at =? number) (f at) d ≡ f at = rw (eq-eqb (number_at s at) number is) in
    ap (λ (x : ℕ). latest f number s gs x) here ∙ latest_none f number s gs (f at) none
last_counts f number s (x ∷ fs) gs at d is none = last_counts f number s fs gs at _ is none

-- the first entry of a table that errors were read into
first_entry : (s errors attributes errors' attributes' : List ℕ) (c : Counted) → Decodes s errors attributes (Ok c) errors' attributes'
    → (get_or errors' 0 0 ≡ code_of s (outermost s)) × (get_or errors' 2 0 ≡ place_of 2 s (outermost s)) × (get_or errors' 3 0 ≡ length_of 2 s (outermost s))
unfolding error_words tree
first_entry s errors attributes errors' attributes' c decodes =
    let all : errors' ≡ over (error_words 1 (tree s)) errors = rw (← decodes.0) at decodes.1 in
    (ap (λ (t : List ℕ). get_or t 0 0) all, ap (λ (t : List ℕ). get_or t 2 0) all, ap (λ (t : List ℕ). get_or t 3 0) all)

pub last_is_stored : LastIsStored
last_is_stored s errors attributes errors' attributes' c decodes fs gs at split none =
    let first = first_entry s errors attributes errors' attributes' c decodes in
    let last : (f : ℕ → ℕ) (number : ℕ) → number_at s at ≡ number → latest f number s (outermost s) 0 ≡ f at =
    λ (f : ℕ → ℕ) (number : ℕ) (is : number_at s at ≡ number). ap (λ (t : List ℕ). latest f number s t 0) split
    ∙ last_counts f number s fs gs at 0 is (λ g m e. none g m (e ∙ sym is)) in (
      λ is. first.0 ∙ ap (λ (x : ℕ). x % 0x1_0000_0000) (last (value_at s) 1 is),
      λ is. (first.1 ∙ last (content_at s) 2 is, first.2 ∙ last (value_at s) 2 is),
    )

unknown_parts : (s fs gs : List ℕ) (at : ℕ) → error_fields < number_at s at → (deeper : ℕ → Parts → Parts) → parts_with deeper s (fs ++ (at ∷ gs)) ≡ parts_with deeper s (fs ++ gs)
unfolding parts_with field_parts
unknown_parts s [] gs at high deeper = rw (ne_eqb (number_at s at) 3 (λ e. omega arith), ne_eqb (number_at s at) 4 (λ e. omega arith))
unknown_parts s (x ∷ fs) gs at high deeper = ap (field_parts deeper s x) (unknown_parts s fs gs at high deeper)

unknown_latest : (s fs gs : List ℕ) (at : ℕ) → error_fields < number_at s at → (f : ℕ → ℕ) (number d : ℕ) → number ≤ error_fields → latest f number s (fs ++ (at ∷ gs)) d ≡ latest f number s (fs ++ gs) d
unfolding latest
unknown_latest s [] gs at high f number d low =
    let here : pick (number_at s at =? number) (f at) d ≡ d = rw (ne_eqb (number_at s at) number (λ e. omega arith)) in
    ap (λ (x : ℕ). latest f number s gs x) here
unknown_latest s (x ∷ fs) gs at high f number d low = unknown_latest s fs gs at high f number _ low

pub unknown_adds_nothing : UnknownAddsNothing
unknown_adds_nothing s fs gs at high = (unknown_parts s fs gs at high, unknown_latest s fs gs at high)
