-- Laws of the second walk. Assumes nothing.
use mathlib.Core.Path.{◌≡◌, refl, sym, ◌∙◌, ap}
use mathlib.Core.List.{List, [], ◌∷◌, ◌++◌}
use Prim.Native.Nat.{ℕ, suc, ◌+◌, ◌<◌, ◌≤◌}
use native.Mathlib.Nat.{add-zero}
use native.Mathlib.Omega.{arith}
use borrow.Author.Tests.{eq-eqb, ne_eqb}
use lib.ListN.{length, set, length-append}
use lib.Seq.{sets, length-sets}
use Rattle.words.specs.Decide.{pick, ◌=?◌}
use Rattle.field.specs.Field.{number_at, value_at, content_at}
use Rattle.field.specs.declared.field.Field.{Field}
use Rattle.std.specs.declared.option.Option.TheVariants.{Some, None}
use Rattle.error_tree.specs.Message.{dictionary_fields, fields, latest}
use Rattle.error_tree.specs.Tree.{attribute_words, place_of, length_of}
use Rattle.error_tree.specs.Statement.{ReadsKnown, Lies}
use Rattle.error_read.specs.Stages.{Scanned, entry_words, dictionary_words, Stored}
use Rattle.error_read.specs.declared.fill.Own.{Own}
use Rattle.error_tree.proofs.MessageLaws.{fields_more, fields_none, fields_end}
use Rattle.error_read.proofs.TableLaws.{sets_append}
use Rattle.error_tree.specs.Reading.{attribute_entry}

-- What is left of a message
pub none_left : (known : ℕ) (s : List ℕ) (at end : ℕ) → ReadsKnown known s at end None → fields known s at end ≡ []
none_left known s at end cut = fields_none known s end at cut

-- and behind a field
module _ (known : ℕ) (s : List ℕ) (at end : ℕ) (f : Field) (whole : ReadsKnown known s at end (Some f)) where
  pub one_left : fields known s at end ≡ at ∷ fields known s f.stop end
  one_left = fields_more known s end at whole.0 ∙ ap (λ (k : ℕ). at ∷ fields known s k end) (sym whole.5)

  pub step : (at < f.stop) × (f.stop ≤ end)
  step =
      let low : at < f.content = whole.6 in
      let high : f.content ≤ f.stop = whole.7 in
      (omega arith, whole.8)

  pub field_lies : end ≤ length s → Lies s at f
  field_lies h = (whole.1, whole.4, whole.5, whole.6, whole.7, (let far : f.stop ≤ end = whole.8 in omega arith))

  -- the last of a number: this one where it has that number
  latest_on : (g : ℕ → ℕ) (n d v : ℕ) → v ≡ g at → (d' : ℕ) → d' ≡ pick (f.number =? n) v d → latest g n s (fields known s f.stop end) d' ≡ latest g n s (fields known s at end) d
  unfolding latest
  latest_on g n d v is d' e = rw (one_left, e, whole.1, is)

-- the scan: what is still to come says the last of each
module _ (known : ℕ) (s : List ℕ) (start end : ℕ) where
  pub record Scanning (at : ℕ) (own : Own) : Type 0 where
    pub to : at ≤ end
    pub v1_left : latest (value_at s) 1 s (fields known s at end) own.value1 ≡ length_of 1 s (fields known s start end)
    pub p1_left : latest (content_at s) 1 s (fields known s at end) own.place1 ≡ place_of 1 s (fields known s start end)
    pub v2_left : latest (value_at s) 2 s (fields known s at end) own.value2 ≡ length_of 2 s (fields known s start end)
    pub p2_left : latest (content_at s) 2 s (fields known s at end) own.place2 ≡ place_of 2 s (fields known s start end)

  pub scanning : start ≤ end → Scanning start record { value1 = 0; place1 = 0; value2 = 0; place2 = 0 }
  scanning h = record { to = h; v1_left = refl; p1_left = refl; v2_left = refl; p2_left = refl }

module _ {known : ℕ} {s : List ℕ} {start end at : ℕ} {own : Own} (left : Scanning known s start end at own) where
  pub scanned : fields known s at end ≡ [] → Scanned s (fields known s start end) own
  unfolding latest
  scanned e =
      record {
        value1 = rw e at left.v1_left;
        place1 = rw e at left.p1_left;
        value2 = rw e at left.v2_left;
        place2 = rw e at left.p2_left;
      }

  pub scanned_end : end ≤ at → Scanned s (fields known s start end) own
  scanned_end h = scanned (fields_end known s end at h)

  pub scans : (f : Field) (whole : ReadsKnown known s at end (Some f)) (own' : Own)
      → own'.value1 ≡ pick (f.number =? 1) f.value own.value1 → own'.place1 ≡ pick (f.number =? 1) f.content own.place1
      → own'.value2 ≡ pick (f.number =? 2) f.value own.value2 → own'.place2 ≡ pick (f.number =? 2) f.content own.place2
      → Scanning known s start end f.stop own'
  scans f whole own' a b c d =
      record {
        to = whole.8;
        v1_left = latest_on known s at end f whole (value_at s) 1 own.value1 f.value whole.3 own'.value1 a ∙ left.v1_left;
        p1_left = latest_on known s at end f whole (content_at s) 1 own.place1 f.content whole.4 own'.place1 b ∙ left.p1_left;
        v2_left = latest_on known s at end f whole (value_at s) 2 own.value2 f.value whole.3 own'.value2 c ∙ left.v2_left;
        p2_left = latest_on known s at end f whole (content_at s) 2 own.place2 f.content whole.4 own'.place2 d ∙ left.p2_left;
      }

-- A table while it is filled: `left` goes to k on, and then it holds `all` from `first` on
pub record Storing (xs now : List ℕ) (first k : ℕ) (all left : List ℕ) : Type 0 where
  pub sum : k + length left ≡ first + length all
  pub same : length now ≡ length xs
  pub holds : sets now k left ≡ sets xs first all

pub storing : (xs : List ℕ) (first : ℕ) (all : List ℕ) → Storing xs xs first first all all
storing xs first all = record { sum = refl; same = refl; holds = refl }

pub stored_all : {xs now : List ℕ} {first k : ℕ} {all left : List ℕ} → Storing xs now first k all left → left ≡ [] → (now ≡ sets xs first all) × (k ≡ first + length all)
stored_all {xs} {now} {first} {k} {all} {left} t e =
    let sum : k + 0 ≡ first + length all = rw e at t.sum in
    (rw e at t.holds, omega arith)

module _ {xs now : List ℕ} {first k : ℕ} {all left : List ℕ} (t : Storing xs now first k all left) (ws rest : List ℕ) (e : left ≡ ws ++ rest) where
  both : k + (length ws + length rest) ≡ first + length all
  both = ap (λ (n : ℕ). k + n) (sym (length-append ws rest) ∙ ap length (sym e)) ∙ t.sum

  pub has_room : first + length all ≤ length xs → k + length ws ≤ length now
  has_room h = omega (arith, both, t.same)

  pub stored_on : (now' : List ℕ) (k' : ℕ) → now' ≡ sets now k ws → k' ≡ k + length ws → Storing xs now' first k' all rest
  stored_on now' k' is at =
      record {
        sum = omega (arith, both);
        same = ap length is ∙ length-sets now k ws ∙ t.same;
        holds = rw (is, at) (sets_append now k ws rest ∙ ap (λ (l : List ℕ). sets now k l) (sym e) ∙ t.holds);
      }

-- a dictionary's field
module _ (s : List ℕ) (at : ℕ) (f : Field) (lies : Lies s at f) (i k : ℕ) (xs : List ℕ) where
  pub entry_skips : (f.number ≡ 1 → ⊥) → Stored (entry_words i s at) xs k xs k
  entry_skips h = rw (ne_eqb (number_at s at) 1 (λ e. h (lies.0 ∙ e))) (refl, sym (add-zero k))

  module _ (one : f.number ≡ 1) where
    pub entry_room : k + length (entry_words i s at) ≤ length xs → k + attribute_entry ≤ length xs
    unfolding attribute_words
    entry_room h = rw (eq-eqb (number_at s at) 1 (sym lies.0 ∙ one)) at h

    pub entry_stored : (own : Own) → Scanned s (fields 2 s f.content f.stop) own
        → Stored (entry_words i s at) xs k (set (set (set (set (set xs k i) (k + 1) own.place1) (k + 2) own.value1) (k + 3) own.place2) (k + 4) own.value2) (k + attribute_entry)
    unfolding attribute_words
    entry_stored own scan =
        let a : k + 1 ≡ suc k = omega arith in
        let b : k + 2 ≡ suc (suc k) = omega arith in
        let c : k + 3 ≡ suc (suc (suc k)) = omega arith in
        let d : k + 4 ≡ suc (suc (suc (suc k))) = omega arith in
        rw (eq-eqb (number_at s at) 1 (sym lies.0 ∙ one), ← lies.1, ← lies.2, ← scan.place1, ← scan.value1, ← scan.place2, ← scan.value2, a, b, c, d) (refl, refl)

-- a dictionary: the words of its first field, then the others
pub dictionary_next : (i : ℕ) (s : List ℕ) (at end stop : ℕ) → fields dictionary_fields s at end ≡ at ∷ fields dictionary_fields s stop end
    → dictionary_words i s (fields dictionary_fields s at end) ≡ entry_words i s at ++ dictionary_words i s (fields dictionary_fields s stop end)
unfolding dictionary_words
dictionary_next i s at end stop e = rw e

pub dictionary_done : (i : ℕ) (s : List ℕ) (at end : ℕ) → fields dictionary_fields s at end ≡ [] → dictionary_words i s (fields dictionary_fields s at end) ≡ []
unfolding dictionary_words
dictionary_done i s at end e = rw e
