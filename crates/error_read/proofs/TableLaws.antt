-- Laws of the tables' words: their number, and that what follows is appended. Assumes nothing.
use mathlib.Core.Path.{◌≡◌, refl, sym, ◌∙◌, ap}
use mathlib.Core.Bool.{Bool, true, false}
use mathlib.Core.List.{List, [], ◌∷◌, ◌++◌, append-nil}
use Prim.Native.Nat.{ℕ, zero, suc, ◌+◌, ◌*◌}
use native.Mathlib.Nat.{add-zero, add_assoc}
use native.Mathlib.Omega.{arith}
use lib.ListN.{length, set, length-append}
use lib.Seq.{sets}
use Rattle.words.specs.Decide.{pick, ◌=?◌}
use Rattle.field.specs.Field.{number_at}
use Rattle.error_tree.specs.Message.{error_fields, dictionary_fields, attribute_fields, inside}
use Rattle.error_tree.specs.Tree.{Parts, none, attribute, inner, attribute_of, dictionary, field_parts, inner_part, parts, error_count, attribute_count, error_words, attribute_words, code_of, place_of, length_of}
use Rattle.error_read.specs.Stages.{dictionary_words}
use Rattle.error_tree.proofs.TreeLaws.{dictionary_errors}
use Rattle.error_tree.specs.Reading.{attribute_entry, error_entry}

pub length_error_words : (depth : ℕ) (p : Parts) → length (error_words depth p) ≡ error_entry * error_count p
unfolding error_words error_count
length_error_words depth none = refl
length_error_words depth (attribute k kl v vl more) = length_error_words depth more
length_error_words depth (inner code at n held more) =
    let both : length (error_words (depth + 1) held ++ error_words depth more) ≡ length (error_words (depth + 1) held) + length (error_words depth more) = length-append (error_words (depth + 1) held) (error_words depth more) in
    omega (arith, length_error_words (depth + 1) held, length_error_words depth more)

pub length_attribute_words : (i next : ℕ) (p : Parts) → length (attribute_words i next p) ≡ attribute_entry * attribute_count p
unfolding attribute_words attribute_count
length_attribute_words i next none = refl
length_attribute_words i next (attribute k kl v vl more) = omega (arith, length_attribute_words i next more)
length_attribute_words i next (inner code at n held more) =
    let both : length (attribute_words next (next + 1) held ++ attribute_words i (next + 1 + error_count held) more) ≡ length (attribute_words next (next + 1) held) + length (attribute_words i (next + 1 + error_count held) more)
    = length-append (attribute_words next (next + 1) held) (attribute_words i (next + 1 + error_count held) more) in
    omega (arith, length_attribute_words next (next + 1) held, length_attribute_words i (next + 1 + error_count held) more)

-- a dictionary, then what follows
pub dictionary_error_words : (depth : ℕ) (s fs : List ℕ) (more : Parts) → error_words depth (dictionary s fs more) ≡ error_words depth more
unfolding error_words dictionary
dictionary_error_words depth s [] more = refl
dictionary_error_words depth s (f ∷ fs) more = choose (number_at s f =? 1) (dictionary_error_words depth s fs more)
  where
    choose : (b : Bool) → error_words depth (dictionary s fs more) ≡ error_words depth more
        → error_words depth (pick b (attribute_of s (inside attribute_fields s f) (dictionary s fs more)) (dictionary s fs more)) ≡ error_words depth more
    choose true e = e
    choose false e = e

pub dictionary_words_lem : (i next : ℕ) (s fs : List ℕ) (more : Parts) → attribute_words i next (dictionary s fs more) ≡ dictionary_words i s fs ++ attribute_words i next more
unfolding attribute_words dictionary dictionary_words
dictionary_words_lem i next s [] more = refl
dictionary_words_lem i next s (f ∷ fs) more = choose (number_at s f =? 1) (dictionary_words_lem i next s fs more)
  where
    choose : (b : Bool) → attribute_words i next (dictionary s fs more) ≡ dictionary_words i s fs ++ attribute_words i next more
        → attribute_words i next (pick b (attribute_of s (inside attribute_fields s f) (dictionary s fs more)) (dictionary s fs more))
        ≡ (pick b (attribute_words i 0 (attribute_of s (inside attribute_fields s f) none)) [] ++ dictionary_words i s fs) ++ attribute_words i next more
    choose true e = rw e
    choose false e = e

error_first : (depth code at n : ℕ) (held more : Parts) → error_words depth (inner code at n held more) ≡ error_words depth (inner code at n held none) ++ error_words depth more
unfolding error_words
error_first depth code at n held more =
    ap (λ (l : List ℕ). code ∷ depth ∷ at ∷ n ∷ (l ++ error_words depth more)) (sym (append-nil (error_words (depth + 1) held)))

-- a field, then what follows
module _ (s : List ℕ) where
  inner_error_words : (left depth at : ℕ) (more : Parts) → error_words depth (inner_part left s at more) ≡ error_words depth (inner_part left s at none) ++ error_words depth more
  unfolding inner_part error_words
  inner_error_words zero depth at more = refl
  inner_error_words (suc left) depth at more =
      let fs : List ℕ = inside error_fields s at in
      error_first depth (code_of s fs) (place_of 2 s fs) (length_of 2 s fs) (parts left s fs) more

  pub field_error_words : (left depth at : ℕ) (more : Parts)
      → error_words depth (field_parts (inner_part left s) s at more) ≡ error_words depth (field_parts (inner_part left s) s at none) ++ error_words depth more
  unfolding field_parts error_words
  field_error_words left depth at more = choose (number_at s at =? 3) (number_at s at =? 4)
    where
      choose : (b c : Bool)
          → error_words depth (pick b (dictionary s (inside dictionary_fields s at) more) (pick c (inner_part left s at more) more))
          ≡ error_words depth (pick b (dictionary s (inside dictionary_fields s at) none) (pick c (inner_part left s at none) none)) ++ error_words depth more
      choose true c = dictionary_error_words depth s (inside dictionary_fields s at) more ∙ ap (λ (l : List ℕ). l ++ error_words depth more) (sym (dictionary_error_words depth s (inside dictionary_fields s at) none))
      choose false true = inner_error_words left depth at more
      choose false false = refl

  inner_words : (left i next at : ℕ) (more : Parts)
      → attribute_words i next (inner_part left s at more) ≡ attribute_words i next (inner_part left s at none) ++ attribute_words i (next + error_count (inner_part left s at none)) more
  unfolding inner_part attribute_words error_count
  inner_words zero i next at more = rw add-zero
  inner_words (suc left) i next at more = rw (append-nil, add-zero, add_assoc)

  pub field_words : (left i next at : ℕ) (more : Parts)
      → attribute_words i next (field_parts (inner_part left s) s at more)
      ≡ attribute_words i next (field_parts (inner_part left s) s at none) ++ attribute_words i (next + error_count (field_parts (inner_part left s) s at none)) more
  unfolding field_parts attribute_words error_count
  field_words left i next at more = choose (number_at s at =? 3) (number_at s at =? 4)
    where
      gs : List ℕ
      gs = inside dictionary_fields s at

      choose : (b c : Bool)
          → attribute_words i next (pick b (dictionary s (inside dictionary_fields s at) more) (pick c (inner_part left s at more) more))
          ≡ attribute_words i next (pick b (dictionary s (inside dictionary_fields s at) none) (pick c (inner_part left s at none) none))
          ++ attribute_words i (next + error_count (pick b (dictionary s (inside dictionary_fields s at) none) (pick c (inner_part left s at none) none))) more
      choose true c = rw (dictionary_errors s (inside dictionary_fields s at) none, add-zero next, dictionary_words_lem i next s (inside dictionary_fields s at) more, dictionary_words_lem i next s (inside dictionary_fields s at) none, append-nil)
      choose false true = inner_words left i next at more
      choose false false = rw add-zero

-- stored one after the other
pub sets_append : (xs : List ℕ) (i : ℕ) (ys zs : List ℕ) → sets (sets xs i ys) (i + length ys) zs ≡ sets xs i (ys ++ zs)
sets_append xs i [] zs = ap (λ (k : ℕ). sets xs k zs) (add-zero i)
sets_append xs i (y ∷ ys) zs = ap (λ (k : ℕ). sets (sets xs i (y ∷ ys)) k zs) (omega arith) ∙ sets_append (set xs i y) (suc i) ys zs
