-- A message with unknown fields put between reads alike. Assumes nothing.
use mathlib.Core.Path.{◌≡◌, refl, sym, ◌∙◌, ap, subst}
use mathlib.Core.List.{List, ◌∷◌, ◌++◌}
use Prim.Native.Nat.{ℕ, zero, suc, ◌+◌, ◌%◌, ◌<◌, ◌≤◌}
use native.Mathlib.Omega.{arith}
use native.Mathlib.Decide.{ℕ_discrete}
use borrow.Author.Tests.{eq-eqb, ne_eqb}
use lib.ListN.{length}
use Rattle.words.specs.Buffer.{stretch}
use Rattle.words.specs.Decide.{pick, ◌=?◌}
use Rattle.field.specs.Field.{number_at, value_at, content_at, stop_at}
use Rattle.error_tree.specs.Message.{error_fields, dictionary_fields, attribute_fields, fields, inside, latest}
use Rattle.error_tree.specs.Tree.{Parts, none, attribute, inner, attribute_of, dictionary, field_parts, parts_with, error_of, inner_part, parts, levels, tree, error_count, attribute_count}
use Rattle.error_tree.proofs.MessageLaws.{fields_more, fields_end}
use Rattle.error_read.specs.Statement.{Decodes}
use Rattle.error_tree.specs.declared.refusal.ErrorRefusal.{ErrorRefusal}
use Rattle.error_walk.specs.declared.walk.Counted.{Counted}
use Rattle.std.specs.declared.result.Result.{Result}
use Rattle.std.specs.declared.result.Result.TheVariants.{Ok}
use Rattle.error_promises.specs.Form.{Message, reached, field, Held, Anything, Entry, ErrorField, WellFormed}
use Rattle.error_promises.specs.Errors.{Roomy}
use Rattle.error_promises.specs.Round.{error, row}
use Rattle.error_promises.specs.Unknown.{Between, ended, put, kept, SameBytes, HeldBetween, SamePart, SameEntry, SameOwn, SameField, PutBetween, UnknownFieldsSkipped}
use Rattle.error_promises.proofs.Errors.{error_accepts_exactly}
use Rattle.error_promises.proofs.Seen.{seen_errors, seen_rows, seen_rows_count, read_told}
use Rattle.error_promises.proofs.WrittenErrors.{latest_other}

-- what is taken of two fields of one number
module _ (a b number : ℕ) where
  picked : (v v' z z' : ℕ) → b ≡ a → (a ≡ number → v ≡ v') → z ≡ z' → pick (a =? number) v z ≡ pick (b =? number) v' z'
  picked v v' z z' same says e = go (ℕ_discrete a number)
    where
      go : Dec (a ≡ number) → pick (a =? number) v z ≡ pick (b =? number) v' z'
      go (yes is) = rw (same, eq-eqb a number is) (says is)
      go (no other) = rw (same, ne_eqb a number other) e

  picked_stretch : (s t : List ℕ) (c v c' v' p z p' z' : ℕ) → b ≡ a → (a ≡ number → stretch s c v ≡ stretch t c' v') → stretch s p z ≡ stretch t p' z'
      → stretch s (pick (a =? number) c p) (pick (a =? number) v z) ≡ stretch t (pick (b =? number) c' p') (pick (b =? number) v' z')
  picked_stretch s t c v c' v' p z p' z' same says e = go (ℕ_discrete a number)
    where
      go : Dec (a ≡ number) → stretch s (pick (a =? number) c p) (pick (a =? number) v z) ≡ stretch t (pick (b =? number) c' p') (pick (b =? number) v' z')
      go (yes is) = rw (same, eq-eqb a number is) (says is)
      go (no other) = rw (same, ne_eqb a number other) e

module _ (s t : List ℕ) where
  -- The message is well formed

  between_form : (known : ℕ) (Same : ℕ → ℕ → Type 0) (Inside : ℕ → Type 0) (end end' : ℕ)
      → ((at at' : ℕ) → number_at t at' ≡ number_at s at → Same at at' → Inside at') → ((at' : ℕ) → known < number_at t at' → Inside at')
      → {at at' : ℕ} → Between known Same s end t end' at at' → Message known Inside t end' at'
  between_form known Same Inside end end' both other (ended h h') = reached h'
  between_form known Same Inside end end' both other {at} {at'} (put whole high more) = field whole (other at' high) (between_form known Same Inside end end' both other more)
  between_form known Same Inside end end' both other {at} {at'} (kept whole whole' same inside more) = field whole' (both at at' same inside) (between_form known Same Inside end end' both other more)

  attribute_form : (at at' : ℕ) → HeldBetween attribute_fields (SamePart s t) s t at at' → Held attribute_fields Anything t at'
  attribute_form at at' d = between_form attribute_fields (SamePart s t) Anything (stop_at s at) (stop_at t at') (λ a b same x. tt) (λ b high. tt) d

  dictionary_form : (at at' : ℕ) → HeldBetween dictionary_fields (SameEntry s t) s t at at' → Held dictionary_fields (Entry t) t at'
  dictionary_form at at' d =
      between_form dictionary_fields (SameEntry s t) (Entry t) (stop_at s at) (stop_at t at') (λ a b same x one. attribute_form a b (x (sym same ∙ one))) (λ b high one. absurd (omega arith)) d

  unknown_form : (left at' : ℕ) → error_fields < number_at t at' → ErrorField left t at'
  unfolding ErrorField
  unknown_form zero at' high = ((λ e. absurd (omega arith)), (λ e. omega arith))
  unknown_form (suc left) at' high = ((λ e. absurd (omega arith)), (λ e. absurd (omega arith)))

  field_form : (left at at' : ℕ) → number_at t at' ≡ number_at s at → SameField left s t at at' → ErrorField left t at'
  unfolding ErrorField SameField
  field_form zero at at' same x = ((λ three. dictionary_form at at' (x.0.2 (sym same ∙ three))), (λ four. x.1 (sym same ∙ four)))
  field_form (suc left) at at' same x = (
    (λ three. dictionary_form at at' (x.0.2 (sym same ∙ three))),
    (λ four. between_form error_fields (SameField left s t) (ErrorField left t) (stop_at s at) (stop_at t at') (field_form left) (unknown_form left) (x.1 (sym same ∙ four))),
  )

  pub other_form : PutBetween s t → WellFormed t
  other_form d = between_form error_fields (SameField levels s t) (ErrorField levels t) (length s) (length t) (field_form levels) (unknown_form levels) d

  -- The last field of a number says the same

  module _ (known : ℕ) (Same : ℕ → ℕ → Type 0) (end end' number : ℕ) (low : number ≤ known) where
    same_values : ((a b : ℕ) → Same a b → number_at s a ≡ number → value_at s a ≡ value_at t b)
        → {at at' : ℕ} → Between known Same s end t end' at at' → (z z' : ℕ) → z ≡ z'
        → latest (value_at s) number s (fields known s at end) z ≡ latest (value_at t) number t (fields known t at' end') z'
    unfolding latest
    same_values says {at} {at'} (ended h h') z z' e = rw (fields_end known s end at h, fields_end known t end' at' h') e
    same_values says {at} {at'} (put whole high more) z z' e =
        rw (fields_more known t end' at' whole) (same_values says more z z' e ∙ sym (latest_other (value_at t) number t at' (fields known t (stop_at t at') end') z' (λ x. omega arith)))
    same_values says {at} {at'} (kept whole whole' same x more) z z' e =
        rw (fields_more known s end at whole, fields_more known t end' at' whole')
        (same_values says more (pick (number_at s at =? number) (value_at s at) z) (pick (number_at t at' =? number) (value_at t at') z') (picked (number_at s at) (number_at t at') number (value_at s at) (value_at t at') z z' same (says at at' x) e))

    same_stretches : ((a b : ℕ) → Same a b → number_at s a ≡ number → SameBytes s t a b)
        → {at at' : ℕ} → Between known Same s end t end' at at' → (p z p' z' : ℕ) → stretch s p z ≡ stretch t p' z'
        → stretch s (latest (content_at s) number s (fields known s at end) p) (latest (value_at s) number s (fields known s at end) z)
        ≡ stretch t (latest (content_at t) number t (fields known t at' end') p') (latest (value_at t) number t (fields known t at' end') z')
    unfolding latest
    same_stretches says {at} {at'} (ended h h') p z p' z' e = rw (fields_end known s end at h, fields_end known t end' at' h') e
    same_stretches says {at} {at'} (put whole high more) p z p' z' e =
        let fs : List ℕ = fields known t (stop_at t at') end' in
        rw (fields_more known t end' at' whole, latest_other (content_at t) number t at' fs p' (λ x. omega arith), latest_other (value_at t) number t at' fs z' (λ x. omega arith)) (same_stretches says more p z p' z' e)
    same_stretches says {at} {at'} (kept whole whole' same x more) p z p' z' e =
        rw (fields_more known s end at whole, fields_more known t end' at' whole')
        (same_stretches says more (pick (number_at s at =? number) (content_at s at) p) (pick (number_at s at =? number) (value_at s at) z) (pick (number_at t at' =? number) (content_at t at') p') (pick (number_at t at' =? number) (value_at t at') z')
        (picked_stretch (number_at s at) (number_at t at') number s t (content_at s at) (value_at s at) (content_at t at') (value_at t at') p z p' z' same (λ n. (says at at' x n).1) e))

  -- Two trees that tell the same, each over its input

  pub record Told (p q : Parts) : Type 0 where
    pub counted : error_count p ≡ error_count q
    pub errors_same : (depth : ℕ) → seen_errors s depth p ≡ seen_errors t depth q
    pub rows_same : (i next : ℕ) → seen_rows s i next p ≡ seen_rows t i next q

  told_none : Told none none
  unfolding error_count seen_errors seen_rows
  told_none = record { counted = refl; errors_same = λ depth. refl; rows_same = λ i next. refl }

  module _ {p q : Parts} (rest : Told p q) where
    told_attribute : {k kl v vl k' kl' v' vl' : ℕ} → kl ≡ kl' → stretch s k kl ≡ stretch t k' kl' → vl ≡ vl' → stretch s v vl ≡ stretch t v' vl'
        → Told (attribute k kl v vl p) (attribute k' kl' v' vl' q)
    unfolding error_count seen_errors seen_rows
    told_attribute a b c d = record { counted = rest.counted; errors_same = rest.errors_same; rows_same = λ i next x. row i (a x) (b x) (c x) (d x) ∷ rest.rows_same i next x }

    told_inner : {code at n code' at' n' : ℕ} {held held' : Parts} → code ≡ code' → n ≡ n' → stretch s at n ≡ stretch t at' n' → Told held held'
        → Told (inner code at n held p) (inner code' at' n' held' q)
    unfolding error_count seen_errors seen_rows
    told_inner {code} {at} {n} {code'} {at'} {n'} {held} {held'} a b c inside-it =
        let behind : (i next : ℕ) → seen_rows s i (next + 1 + error_count held) p ≡ seen_rows t i (next + 1 + error_count held') q = λ i next. rest.rows_same i (next + 1 + error_count held) ∙ ap (λ (k : ℕ). seen_rows t i (next + 1 + k) q) inside-it.counted in
        record {
          counted = (λ x. 1 + inside-it.counted x + rest.counted x);
          errors_same = λ depth x. error (a x) depth (b x) (c x) ∷ (inside-it.errors_same (depth + 1) x ++ rest.errors_same depth x);
          rows_same = λ i next x. inside-it.rows_same next (next + 1) x ++ behind i next x;
        }

    attribute_told : (at at' : ℕ) → HeldBetween attribute_fields (SamePart s t) s t at at' → Told (attribute_of s (inside attribute_fields s at) p) (attribute_of t (inside attribute_fields t at') q)
    attribute_told at at' d =
        told_attribute
        (same_values attribute_fields (SamePart s t) (stop_at s at) (stop_at t at') 1 (omega arith) (λ a b x e. (x (omega arith)).0) d 0 0 refl)
        (same_stretches attribute_fields (SamePart s t) (stop_at s at) (stop_at t at') 1 (omega arith) (λ a b x e. x (omega arith)) d 0 0 0 0 refl)
        (same_values attribute_fields (SamePart s t) (stop_at s at) (stop_at t at') 2 (omega arith) (λ a b x e. (x (omega arith)).0) d 0 0 refl)
        (same_stretches attribute_fields (SamePart s t) (stop_at s at) (stop_at t at') 2 (omega arith) (λ a b x e. x (omega arith)) d 0 0 0 0 refl)

  module _ {p q : Parts} (rest : Told p q) where
    entry_told : (at at' : ℕ) → number_at t at' ≡ number_at s at → SameEntry s t at at' → {p' q' : Parts} → Told p' q'
        → Told (pick (number_at s at =? 1) (attribute_of s (inside attribute_fields s at) p') p') (pick (number_at t at' =? 1) (attribute_of t (inside attribute_fields t at') q') q')
    entry_told at at' same x {p'} {q'} more = go (ℕ_discrete (number_at s at) 1)
      where
        go : Dec (number_at s at ≡ 1) → Told (pick (number_at s at =? 1) (attribute_of s (inside attribute_fields s at) p') p') (pick (number_at t at' =? 1) (attribute_of t (inside attribute_fields t at') q') q')
        go (yes one) = rw (eq-eqb (number_at s at) 1 one, eq-eqb (number_at t at') 1 (same ∙ one)) (attribute_told more at at' (x one))
        go (no other) = rw (ne_eqb (number_at s at) 1 other, ne_eqb (number_at t at') 1 (λ e. other (sym same ∙ e))) more

    dictionary_told : (end end' : ℕ) {at at' : ℕ} → Between dictionary_fields (SameEntry s t) s end t end' at at' → Told (dictionary s (fields dictionary_fields s at end) p) (dictionary t (fields dictionary_fields t at' end') q)
    unfolding dictionary
    dictionary_told end end' {at} {at'} (ended h h') = rw (fields_end dictionary_fields s end at h, fields_end dictionary_fields t end' at' h') rest
    dictionary_told end end' {at} {at'} (put whole high more) = rw (fields_more dictionary_fields t end' at' whole, ne_eqb (number_at t at') 1 (λ e. omega arith)) (dictionary_told end end' more)
    dictionary_told end end' {at} {at'} (kept whole whole' same x more) = rw (fields_more dictionary_fields s end at whole, fields_more dictionary_fields t end' at' whole') (entry_told at at' same x (dictionary_told end end' more))

  -- the fields of an error, given what an inner error's field holds
  module _ (deeper deeper' : ℕ → Parts → Parts) (Deeper : ℕ → ℕ → Type 0) (tells : (at at' : ℕ) (p q : Parts) → Deeper at at' → Told p q → Told (deeper at p) (deeper' at' q)) where
    field_told : (at at' : ℕ) {p q : Parts} → number_at t at' ≡ number_at s at → SameOwn s t at at' → (number_at s at ≡ 4 → Deeper at at') → Told p q → Told (field_parts deeper s at p) (field_parts deeper' t at' q)
    unfolding field_parts
    field_told at at' {p} {q} same own deep rest = go (ℕ_discrete (number_at s at) 3) (ℕ_discrete (number_at s at) 4)
      where
        go : Dec (number_at s at ≡ 3) → Dec (number_at s at ≡ 4) → Told (field_parts deeper s at p) (field_parts deeper' t at' q)
        go (yes three) d = rw (eq-eqb (number_at s at) 3 three, eq-eqb (number_at t at') 3 (same ∙ three)) (dictionary_told rest (stop_at s at) (stop_at t at') (own.2 three))
        go (no other) (yes four) = rw (ne_eqb (number_at s at) 3 other, ne_eqb (number_at t at') 3 (λ e. other (sym same ∙ e)), eq-eqb (number_at s at) 4 four, eq-eqb (number_at t at') 4 (same ∙ four)) (tells at at' p q (deep four) rest)
        go (no other) (no others) = rw (ne_eqb (number_at s at) 3 other, ne_eqb (number_at t at') 3 (λ e. other (sym same ∙ e)), ne_eqb (number_at s at) 4 others, ne_eqb (number_at t at') 4 (λ e. others (sym same ∙ e))) rest

    fields_told : (Same : ℕ → ℕ → Type 0) → ((a b : ℕ) → Same a b → SameOwn s t a b × (number_at s a ≡ 4 → Deeper a b)) → (end end' : ℕ) {at at' : ℕ} → Between error_fields Same s end t end' at at'
        → Told (parts_with deeper s (fields error_fields s at end)) (parts_with deeper' t (fields error_fields t at' end'))
    unfolding parts_with field_parts
    fields_told Same says end end' {at} {at'} (ended h h') = rw (fields_end error_fields s end at h, fields_end error_fields t end' at' h') told_none
    fields_told Same says end end' {at} {at'} (put whole high more) = rw (fields_more error_fields t end' at' whole, ne_eqb (number_at t at') 3 (λ e. omega arith), ne_eqb (number_at t at') 4 (λ e. omega arith)) (fields_told Same says end end' more)
    fields_told Same says end end' {at} {at'} (kept whole whole' same x more) = rw (fields_more error_fields s end at whole, fields_more error_fields t end' at' whole') (field_told at at' same (says at at' x).0 (says at at' x).1 (fields_told Same says end end' more))

  -- what the field of an inner error holds, where so many levels are left for it
  abbrev Below : ℕ → ℕ → ℕ → Type 0
  Below zero at at' = ⊥
  Below (suc left) at at' = HeldBetween error_fields (SameField left s t) s t at at'

  says : (left at at' : ℕ) → SameField left s t at at' → SameOwn s t at at' × (number_at s at ≡ 4 → Below left at at')
  unfolding SameField
  says zero at at' x = x
  says (suc left) at at' x = x

  error_told : (left : ℕ) → ((at at' : ℕ) (p q : Parts) → Below left at at' → Told p q → Told (inner_part left s at p) (inner_part left t at' q))
      → (end end' : ℕ) {at at' : ℕ} → Between error_fields (SameField left s t) s end t end' at at' → {p q : Parts} → Told p q
      → Told (error_of s (fields error_fields s at end) (parts left s (fields error_fields s at end)) p) (error_of t (fields error_fields t at' end') (parts left t (fields error_fields t at' end')) q)
  error_told left tells end end' d rest =
      let Same : ℕ → ℕ → Type 0 = SameField left s t in
      told_inner rest
      (ap (λ (c : ℕ). c % 0x1_0000_0000) (same_values error_fields Same end end' 1 (omega arith) (λ a b x e. (says left a b x).0.0 e) d 0 0 refl))
      (same_values error_fields Same end end' 2 (omega arith) (λ a b x e. ((says left a b x).0.1 e).0) d 0 0 refl)
      (same_stretches error_fields Same end end' 2 (omega arith) (λ a b x e. (says left a b x).0.1 e) d 0 0 0 0 refl)
      (fields_told (inner_part left s) (inner_part left t) (Below left) tells Same (says left) end end' d)

  inner_told : (left at at' : ℕ) (p q : Parts) → Below left at at' → Told p q → Told (inner_part left s at p) (inner_part left t at' q)
  unfolding inner_part
  inner_told zero at at' p q d rest = absurd d
  inner_told (suc left) at at' p q d rest = error_told left (inner_told left) (stop_at s at) (stop_at t at') d rest

  pub tree_told : PutBetween s t → Told (tree s) (tree t)
  unfolding tree
  tree_told d = error_told levels (inner_told levels) (length s) (length t) d told_none

pub unknown_fields_skipped : UnknownFieldsSkipped
unknown_fields_skipped s t d table rows table' rows' c decodes other others other' others' r errors_fit rows_fit decodes' =
    let first = read_told s table rows table' rows' c decodes in
    let told : Told s t (tree s) (tree t) = tree_told s t d in
    let count : error_count (tree t) ≡ c.errors = sym (first.0 ∙ told.counted) in
    let size : attribute_count (tree t) ≡ c.attributes = sym (first.1 ∙ sym (seen_rows_count s 0 0 (tree s)) ∙ ap length (told.rows_same 0 0) ∙ seen_rows_count t 0 0 (tree t)) in
    let roomy : Roomy t other others = record { errors_fit = rw count errors_fit; attributes_fit = rw size rows_fit } in
    let is : r ≡ Ok c = (error_accepts_exactly t other others other' others' r decodes').0 (other_form s t d) roomy ∙ (λ k. Ok record { errors = count k; attributes = size k }) in
    let second = read_told t other others other' others' c (subst (λ (a : Result Counted ErrorRefusal). Decodes t other others a other' others') is decodes') in
    (is, second.2 ∙ sym (told.errors_same 1) ∙ sym first.2, second.3 ∙ sym (told.rows_same 0 0) ∙ sym first.3)
