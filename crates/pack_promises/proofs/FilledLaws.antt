-- What packing answers, both ways: what an answer says of the tables, and the answer that tables have. Assumes
-- nothing.
use mathlib.Core.Path.{◌≡◌, refl, sym, ◌∙◌, ap}
use mathlib.Core.Bool.{Bool, true, false, not}
use mathlib.Core.List.{List, [], ◌∷◌}
use Prim.Native.Nat.{ℕ, ◌*◌, ◌%◌, ◌<◌, ◌≤◌}
use native.Mathlib.Omega.{arith}
use lib.ListN.{length}
use borrow.Author.Tests.{eq-eqb, le-ltb, ltb-false, eqb-true, not-false}
use Rattle.words.specs.Answer.{Answer, accepted, refused, refuse, afterwards}
use Rattle.words.specs.Buffer.{over}
use Rattle.words.specs.Decide.{◌⇒◌, decide, ◌<?◌, ◌=?◌, ◌≠?◌}
use Rattle.words.proofs.AnswerLaws.{refused_not_accepted}
use Rattle.wire.specs.Layout.{entry_words}
use Rattle.wire_check.specs.Writing.{entries_in, bad_entry, first_bad}
use Rattle.wire_check.specs.Stages.{Good}
use Rattle.wire_check.proofs.TableLaws.{none_bad}
use Rattle.words.proofs.DecideLaws.{first_all}
use Rattle.pack_pairs.specs.Packing.{packing, packed_table, packed_area, needed_bytes}
use Rattle.pack_pairs.specs.Stages.{packed, packed_bytes, needed}
use Rattle.pack_pairs.proofs.PackingLaws.{needed_is, packed_is, area_is}
use Rattle.pack_answer.specs.Statement.{Packs}
use Rattle.std.specs.declared.result.Result.TheVariants.{Ok}
use Rattle.pack_answer.proofs.AnswerLaws.{over_all, table_long}

-- where the order of three checks accepts, each of them was passed
all_passed : (a b c : Bool) (v w x : List ℕ) (n m : ℕ) → accepted n [] ≡ decide (a ⇒ refuse 18 v ∷ b ⇒ refuse 18 w ∷ c ⇒ refuse 17 x ∷ []) (accepted m [])
    → (a ≡ false) × (b ≡ false) × (c ≡ false) × (n ≡ m)
all_passed true b c v w x n m e = absurd (refused_not_accepted 18 v 0 n [] (sym e))
all_passed false true c v w x n m e = absurd (refused_not_accepted 18 w 0 n [] (sym e))
all_passed false false true v w x n m e = absurd (refused_not_accepted 17 x 0 n [] (sym e))
all_passed false false false v w x n m e = (refl, refl, refl, cc)

-- where it answers 17, the last one decided
pub last_decided : (a b c : Bool) (v w x y : List ℕ) (m : ℕ) → refuse 17 y ≡ decide (a ⇒ refuse 18 v ∷ b ⇒ refuse 18 w ∷ c ⇒ refuse 17 x ∷ []) (accepted m [])
    → (c ≡ true) × (y ≡ x)
last_decided true b c v w x y m e = absurd (let z : ◌≡◌ {A = ℕ} 17 18 = cc in omega arith)
last_decided false true c v w x y m e = absurd (let z : ◌≡◌ {A = ℕ} 17 18 = cc in omega arith)
last_decided false false true v w x y m e = (refl, cc)
last_decided false false false v w x y m e = absurd (refused_not_accepted 17 y 0 m [] e)

-- what an acceptance says
pub record Filling (area values out : List ℕ) (n : ℕ) (values' out' : List ℕ) : Type 0 where
  pub whole : length values % entry_words ≡ 0
  pub good : Good area values
  pub sum : n ≡ needed values
  pub fits : needed values ≤ length out
  pub table : values' ≡ packed values
  pub bytes : out' ≡ over (packed_bytes area values (entries_in values)) out

module _ (area values out : List ℕ) where
  pub filling : (n : ℕ) (values' out' : List ℕ) → Packs area values out (Ok n) values' out' → Filling area values out n values' out'
  unfolding packing
  filling n values' out' told =
      let tests = all_passed ((length values % entry_words) ≠? 0) (first_bad (length area) values <? entries_in values) (length out <? needed_bytes values) _ _ _ n (needed_bytes values) told.0 in
      let is_whole : length values % entry_words ≡ 0 = eqb-true (length values % entry_words) 0 (not-false ((length values % entry_words) =? 0) tests.0) in
      let to-table : values' ≡ over (packed_table values) values = told.1 ∙ ap (λ (a : Answer). afterwards a (packed_table values) values) (sym told.0) in
      let to-area : out' ≡ over (packed_area area values) out = told.2 ∙ ap (λ (a : Answer). afterwards a (packed_area area values) out) (sym told.0) in
      record {
        whole = is_whole;
        good = none_bad area values (ltb-false (first_bad (length area) values) (entries_in values) tests.1);
        sum = tests.3 ∙ sym (needed_is values);
        fits = omega (arith, needed_is values, ltb-false (length out) (needed_bytes values) tests.2);
        table = to-table ∙ over_all (packed_table values) values (table_long values) ∙ sym (packed_is values is_whole);
        bytes = to-area ∙ ap (λ (l : List ℕ). over l out) (sym (area_is values area));
      }

  -- and tables that are packed
  pub packs : length values % entry_words ≡ 0 → first_bad (length area) values ≡ entries_in values → needed values ≤ length out
      → Packs area values out (Ok (needed values)) (packed values) (over (packed_bytes area values (entries_in values)) out)
  unfolding packing
  packs whole none fits =
      rw (eq-eqb (length values % entry_words) 0 whole, none, le-ltb (entries_in values) (entries_in values) (omega arith), le-ltb (length out) (needed_bytes values) (omega (arith, needed_is values)))
      (ap (λ (n : ℕ). accepted n []) (needed_is values), packed_is values whole ∙ sym (over_all (packed_table values) values (table_long values)), ap (λ (l : List ℕ). over l out) (area_is values area))

-- no entry is bad
pub none_found : (area values : List ℕ) → ((i : ℕ) → i < entries_in values → bad_entry (length area) values (entry_words * i) ≡ false)
    → first_bad (length area) values ≡ entries_in values
unfolding first_bad
none_found area values good = first_all (λ (i : ℕ). bad_entry (length area) values (entry_words * i)) 0 (entries_in values) (λ k low high. good k (omega arith)) ∙ omega arith
