-- The machine takes exactly the texts of rows, reads each as its rows, and stops where a text goes wrong. Assumes nothing.
use mathlib.Core.Path.{◌≡◌, refl, sym, ◌∙◌, ap}
use mathlib.Core.List.{List, [], ◌∷◌, ◌++◌}
use Prim.Native.Nat.{ℕ}
use Rattle.places.specs.Place.{Place}
use Rattle.places.specs.Machine.{Ending, read, stopped, run}
use Rattle.places.proofs.Ways.{Leads, Way, After, Takes, Alive}
use Rattle.places.proofs.MachineLaws.{leads_read, leads_keep, after_map, run_told, stops_in_place}
use Rattle.wire.specs.Content.{Row}
use Rattle.text_form.specs.Form.{text, FitsRows, IsText, Accepted}
use Rattle.text_form.specs.Walk.{fresh, number, letter, digits, full, percent, second, State, hash, at, start, step, close, walk}
use Rattle.text_form.proofs.TextLaws.{fronts}
use Rattle.text_form.proofs.Said.{said, said_phase, Fine, step_kept, ends}
use Rattle.text_form.proofs.Reading.{leads_text}
use Rattle.text_form.proofs.Alive.{way_hash, way_fresh, way_full, way_digits, way_letter, way_number, way_percent, way_second}

Said : State → List ℕ → Type 0
Said q t = Fine q × (t ≡ said q)

keeps : (q : State) (b : ℕ) (t : List ℕ) → Said q t → After (λ next. Said next (t ++ b ∷ [])) (step q b)
unfolding Said
keeps q b t s = after_map (λ next. Fine next × (said next ≡ said q ++ b ∷ [])) (λ next. Said next (t ++ b ∷ []))
    (λ next k. (k.0, ap (λ (l : List ℕ). l ++ b ∷ []) s.1 ∙ sym k.1)) (step q b) (step_kept q b s.0)

-- a text that is read is the text of the rows read
pub read_text : (s : List ℕ) (rows : List Row) → run walk start 0 s ≡ read rows → IsText s rows
unfolding Said said said_phase fronts text
read_text s rows e = run_told walk Said IsText keeps (λ q t said. ends q t said.0 said.1) start ((tt, tt, tt), refl) s rows e

-- the text of rows is read as these rows
pub text_read : (s : List ℕ) (rows : List Row) → IsText s rows → run walk start 0 s ≡ read rows
unfolding close
text_read s rows is = ap (run walk start 0) is.1 ∙ leads_read walk start (at rows [] fresh) (text rows) rows (leads_text rows [] is.0) refl 0

-- no two rows have one text
pub text_injective : (rows rows' : List Row) → FitsRows rows → FitsRows rows' → text rows ≡ text rows' → rows ≡ rows'
text_injective rows rows' fit fit' e =
    let same : ◌≡◌ {A = Ending (List Row) (Unit {0})} (read rows) (read rows') = sym (text_read (text rows) rows (fit, refl)) ∙ text_read (text rows) rows' (fit', e) in
    cc

pub walk_takes : Takes walk start Accepted
walk_takes = record { forth = λ s rows e. (rows, read_text s rows e); back = λ s a. (a.0, text_read s a.0 a.1) }

way : (q : State) → Fine q → Way walk q
way (hash rows) fine = way_hash rows
way (at rows vs fresh) fine = way_fresh rows vs
way (at rows vs (number n)) fine = way_number rows vs n
way (at rows vs (letter id aggregate)) fine = way_letter rows vs id aggregate
way (at rows vs (digits id aggregate type k w)) fine = way_digits rows vs id aggregate type k w
way (at rows vs (full c)) fine = way_full rows vs c
way (at rows vs (percent id aggregate type s)) fine = way_percent rows vs id aggregate type s
way (at rows vs (second id aggregate type s h)) fine = way_second rows vs id aggregate type s h fine.2.1

pub walk_alive : Alive walk start
walk_alive s q leads =
    way q
    (leads_keep walk Fine (λ q b fine. after_map (λ next. Fine next × (said next ≡ said q ++ b ∷ [])) Fine (λ next k. k.0) (step q b) (step_kept q b fine)) start q s leads (tt, tt, tt))

-- where it stops, the text goes wrong
pub walk_place : (s : List ℕ) (p : ℕ) (r : Unit {0}) → run walk start 0 s ≡ stopped p r → Place Accepted s p
walk_place = stops_in_place walk start Accepted walk_takes walk_alive
