-- The machine takes exactly the texts of the form, and none of its states is without a way out. Assumes nothing.
use mathlib.Core.Path.{◌≡◌, refl, sym, ◌∙◌, ap}
use mathlib.Core.List.{List, [], ◌∷◌, ◌++◌, map, append_assoc, append-nil}
use Prim.Native.Nat.{ℕ, zero, suc, ◌+◌, ◌-◌, ◌*◌, ◌<◌, ◌≤◌}
use native.Mathlib.Nat.{add-zero}
use native.Mathlib.Omega.{arith}
use lib.ListN.{length, take, length-append}
use lib.Seq.{take-take}
use Rattle.places.specs.Machine.{read, run}
use Rattle.places.proofs.Ways.{Leads, nowhere, by, Way, Alive, After, Takes}
use Rattle.places.proofs.MachineLaws.{leads_append, leads_read, leads_told, way_end, way_on, run_told}
use Rattle.words.specs.Text.{digit_of}
use Rattle.guid.specs.declared.Guid.{Guid}
use Rattle.guid.specs.Guid.{guid_of}
use Rattle.guid_text.specs.Digits.{Digits, value}
use Rattle.guid_text.specs.Fields.{dash}
use Rattle.guid_text.specs.Form.{IsField, IsText, Accepted}
use Rattle.guid_text.proofs.ValueLaws.{digit_byte, no_dash, digits_append, value_append}
use Rattle.guid_text.proofs.Walk.{State, st, start, walk}
use Rattle.guid_text.proofs.WalkLaws.{Step, empty, many, at_dash_lem, long, no_digit, digit, stepped, End, empty_end, few, whole, ended, dash_next, other_on, end_read}

-- a way out: a digit where the field has none yet, then fields "0"
out : (left count w0 w1 w2 w3 : ℕ) → 0 < count → Way walk (st left count w0 w1 w2 w3)
unfolding digit_of
out zero count w0 w1 w2 w3 some = way_end walk (st 0 count w0 w1 w2 w3) _ (end_read (st 0 count w0 w1 w2 w3) some refl)
out (suc left) count w0 w1 w2 w3 some =
    way_on walk (st (suc left) count w0 w1 w2 w3) (st left 0 0 w0 w1 w2) dash (dash_next (st (suc left) count w0 w1 w2 w3) dash left refl some refl)
    (way_on walk (st left 0 0 w0 w1 w2) (st left 1 0 w0 w1 w2) 48 refl (out left 1 0 w0 w1 w2 (omega arith)))

pub walk_alive : Alive walk start
unfolding digit_of
walk_alive s q leads = by_count q.count refl
  where
    by_count : (k : ℕ) → q.count ≡ k → Way walk q
    by_count zero e =
        way_on walk q (st q.left (q.count + 1) (q.w0 * 16 + 0) q.w1 q.w2 q.w3) 48 (other_on q 48 (λ d. omega arith) (omega arith) (omega arith))
        (out q.left (q.count + 1) (q.w0 * 16 + 0) q.w1 q.w2 q.w3 (omega arith))
    by_count (suc k) e = out q.left q.count q.w0 q.w1 q.w2 q.w3 (omega arith)

-- What has been read. The fields before this one, the last first, and each with its dash in the text.
abbrev pub front : List (List ℕ) → List ℕ
front [] = []
front (f ∷ done) = front done ++ (f ++ dash ∷ [])

abbrev pub Fields : List (List ℕ) → Type 0
Fields [] = Unit {0}
Fields (f ∷ done) = IsField f (value 0 f) × Fields done

pub record Said (q : State) (t : List ℕ) : Type 0 where
  pub done : List (List ℕ)
  pub last : List ℕ
  pub good : Fields done
  pub hex : Digits last
  pub counted : length last ≡ q.count
  pub short : q.count ≤ 8
  pub fields : length done + q.left ≡ 3
  pub joined : t ≡ front done ++ last
  pub spelled : q.w0 ≡ value 0 last
  pub words : q.w1 ∷ q.w2 ∷ q.w3 ∷ [] ≡ take 3 (map (value 0) done ++ 0 ∷ 0 ∷ 0 ∷ [])

said_start : Said start []
unfolding value
said_start = record { done = []; last = []; good = tt; hex = tt; counted = refl; short = omega arith; fields = refl; joined = refl; spelled = refl; words = refl }

-- the field that was read last is one, if it has a digit
whole_field_lem : (q : State) (t : List ℕ) → 0 < q.count → (s : Said q t) → IsField s.last (value 0 s.last)
whole_field_lem q t some s = record { any = omega (arith, s.counted); short = omega (arith, s.counted, s.short); hex = s.hex; spells = refl }

said_dash : (q : State) (t : List ℕ) → 0 < q.count → 0 < q.left → Said q t → Said (st (q.left - 1) 0 0 q.w0 q.w1 q.w2) (t ++ dash ∷ [])
unfolding value
said_dash q t some more s =
    let two : q.w1 ∷ q.w2 ∷ [] ≡ take 2 (map (value 0) s.done ++ 0 ∷ 0 ∷ 0 ∷ []) = ap (take 2) s.words ∙ take-take 2 3 (map (value 0) s.done ++ 0 ∷ 0 ∷ 0 ∷ []) (omega arith) in
    record {
      done = s.last ∷ s.done;
      last = [];
      good = (whole_field_lem q t some s, s.good);
      hex = tt;
      counted = refl;
      short = omega arith;
      fields = omega (arith, s.fields);
      joined = ap (λ (l : List ℕ). l ++ dash ∷ []) s.joined ∙ append_assoc (front s.done) s.last (dash ∷ []) ∙ sym (append-nil _);
      spelled = refl;
      words = ap (λ (n : ℕ). n ∷ q.w1 ∷ q.w2 ∷ []) s.spelled ∙ ap (λ (l : List ℕ). value 0 s.last ∷ l) two;
    }

said_digit : (q : State) (b : ℕ) (t : List ℕ) → q.count ≤ 7 → digit_of b ≤ 15 → Said q t → Said (st q.left (q.count + 1) (q.w0 * 16 + digit_of b) q.w1 q.w2 q.w3) (t ++ b ∷ [])
said_digit q b t room fine s =
    record {
      done = s.done;
      last = s.last ++ b ∷ [];
      good = s.good;
      hex = digits_append s.last (b ∷ []) s.hex (fine, tt);
      counted = length-append s.last (b ∷ []) ∙ ap (λ (k : ℕ). k + 1) s.counted;
      short = omega arith;
      fields = s.fields;
      joined = ap (λ (l : List ℕ). l ++ b ∷ []) s.joined ∙ append_assoc (front s.done) s.last (b ∷ []);
      spelled = ap (λ (n : ℕ). n * 16 + digit_of b) s.spelled ∙ sym (value_append 0 s.last b);
      words = s.words;
    }

keeps : (q : State) (b : ℕ) (t : List ℕ) → Said q t → After (λ next. Said next (t ++ b ∷ [])) (walk.step q b)
keeps q b t s = by_line (stepped q b)
  where
    by_line : Step q b → After (λ next. Said next (t ++ b ∷ [])) (walk.step q b)
    by_line (empty d none f) = rw f tt
    by_line (many d some none f) = rw f tt
    by_line (at_dash_lem d some more f) = rw (f, d) (said_dash q t some more s)
    by_line (long d full f) = rw f tt
    by_line (no_digit d room bad f) = rw f tt
    by_line (digit d room fine f) = rw f (said_digit q b t room fine s)

-- a field of this word
of_word : (f : List ℕ) (w : ℕ) → IsField f (value 0 f) → w ≡ value 0 f → IsField f w
of_word f w is e = record { any = is.any; short = is.short; hex = is.hex; spells = e }

text_of : (t : List ℕ) (w0 w1 w2 w3 : ℕ) (done : List (List ℕ)) (last : List ℕ) → Fields done → IsField last w0 → length done ≡ 3
    → t ≡ front done ++ last → w1 ∷ w2 ∷ w3 ∷ [] ≡ take 3 (map (value 0) done ++ 0 ∷ 0 ∷ 0 ∷ []) → IsText t (guid_of w0 w1 w2 w3)
text_of t w0 w1 w2 w3 [] last good is size joined words = absurd (omega arith)
text_of t w0 w1 w2 w3 (f1 ∷ []) last good is size joined words = absurd (omega arith)
text_of t w0 w1 w2 w3 (f1 ∷ f2 ∷ []) last good is size joined words = absurd (omega arith)
text_of t w0 w1 w2 w3 (f1 ∷ f2 ∷ f3 ∷ []) last good is size joined words =
    let v1 : w1 ≡ value 0 f1 = cc in
    let v2 : w2 ≡ value 0 f2 = cc in
    let v3 : w3 ≡ value 0 f3 = cc in
    record {
      f3 = f3;
      f2 = f2;
      f1 = f1;
      f0 = last;
      joined = joined ∙ simp append_assoc;
      is3 = of_word f3 w3 good.1.1.0 v3;
      is2 = of_word f2 w2 good.1.0 v2;
      is1 = of_word f1 w1 good.0 v1;
      is0 = is;
    }
text_of t w0 w1 w2 w3 (f1 ∷ f2 ∷ f3 ∷ f ∷ done) last good is size joined words = absurd (omega arith)

ends : (q : State) (t : List ℕ) → Said q t → After (IsText t) (walk.close q)
ends q t s = by_line (ended q)
  where
    by_line : End q → After (IsText t) (walk.close q)
    by_line (empty_end none f) = rw f tt
    by_line (few some more f) = rw f tt
    by_line (whole some none f) =
        rw f
        (text_of t q.w0 q.w1 q.w2 q.w3 s.done s.last s.good (of_word s.last q.w0 (whole_field_lem q t some s) s.spelled)
        (omega (arith, s.fields)) s.joined s.words)

-- and back: digits, a field with its dash, four fields
leads_digits : (f : List ℕ) (left count w0 w1 w2 w3 : ℕ) → Digits f → count + length f ≤ 8
    → Leads walk (st left count w0 w1 w2 w3) f (st left (count + length f) (value w0 f) w1 w2 w3)
unfolding value
leads_digits [] left count w0 w1 w2 w3 good short = rw (add-zero count) nowhere
leads_digits (b ∷ f) left count w0 w1 w2 w3 good short =
    let one_more : count + suc (length f) ≡ count + 1 + length f = omega arith in
    rw one_more
    (by (other_on (st left count w0 w1 w2 w3) b (no_dash b (digit_byte b good.0)) (omega arith) good.0)
    (leads_digits f left (count + 1) (w0 * 16 + digit_of b) w1 w2 w3 good.1 (omega arith)))

leads_word : (f : List ℕ) (w left w1 w2 w3 : ℕ) → IsField f w → Leads walk (st left 0 0 w1 w2 w3) f (st left (0 + length f) w w1 w2 w3)
leads_word f w left w1 w2 w3 is = rw is.spells (leads_digits f left 0 0 w1 w2 w3 is.hex (omega (arith, is.short)))

leads_field : (f : List ℕ) (w left w1 w2 w3 : ℕ) (t : List ℕ) (last : State) → IsField f w
    → Leads walk (st left 0 0 w w1 w2) t last → Leads walk (st (suc left) 0 0 w1 w2 w3) (f ++ dash ∷ t) last
leads_field f w left w1 w2 w3 t last is more =
    let q = st (suc left) (0 + length f) w w1 w2 w3 in
    leads_append walk (st (suc left) 0 0 w1 w2 w3) q last f (dash ∷ t) (leads_word f w (suc left) w1 w2 w3 is)
    (by (dash_next q dash left refl (omega (arith, is.any)) refl) more)

pub text_read : (s : List ℕ) (g : Guid) → IsText s g → run walk start 0 s ≡ read g
text_read s g t =
    let last = st 0 (0 + length t.f0) g.w0 g.w1 g.w2 g.w3 in
    ap (run walk start 0) t.joined
    ∙ leads_read walk start last _ g
    (leads_field t.f3 g.w3 2 0 0 0 _ last t.is3
    (leads_field t.f2 g.w2 1 g.w3 0 0 _ last t.is2
    (leads_field t.f1 g.w1 0 g.w2 g.w3 0 t.f0 last t.is1
    (leads_word t.f0 g.w0 0 g.w1 g.w2 g.w3 t.is0))))
    (end_read last (omega (arith, t.is0.any)) refl) 0

pub read_text : (s : List ℕ) (g : Guid) → run walk start 0 s ≡ read g → IsText s g
read_text s g e = run_told walk Said IsText keeps ends start said_start s g e

pub walk_takes : Takes walk start Accepted
walk_takes = record { forth = λ s g e. (g, read_text s g e); back = λ s a. (a.0, text_read s a.0 a.1) }

-- what a state says of the bytes that lead to it
pub walk_said : (s : List ℕ) (q : State) → Leads walk start s q → Said q s
walk_said s q leads = leads_told walk Said IsText keeps ends start q s [] leads said_start
