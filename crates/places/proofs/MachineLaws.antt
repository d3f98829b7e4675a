-- Laws of machines: how a reading is taken apart, what is known of what was read, and that it stops in the right place. Assumes nothing.
use mathlib.Core.Path.{◌≡◌, refl, sym, ◌∙◌, ap, subst}
use mathlib.Core.List.{List, [], ◌∷◌, ◌++◌, append_assoc, append-nil}
use mathlib.Core.Logic.{◌⊎◌, inl, inr, ⊎_elim}
use Prim.Native.Nat.{ℕ, zero, suc, ◌+◌, ◌<◌, ◌≤◌}
use native.Mathlib.Nat.{add-zero}
use native.Mathlib.Numerals.{add-one}
use native.Mathlib.Omega.{arith}
use lib.ListN.{length, take, drop, get_or, length-append, drop_of_length-le}
use lib.Seq.{take_at, get_or_at, take-suc, drop-cons}
use Rattle.places.specs.Place.{Mendable, Place}
use Rattle.places.specs.Machine.{Move, on, off, Machine, read, stopped, behind, run}
use Rattle.places.proofs.Ways.{Leads, nowhere, by, Stops, Way, Alive, After, Takes, StopsInPlace}

pub move_told : {S R : Type 0} (x : Move S R) → ((q : S) × (x ≡ on q)) ⊎ ((r : R) × (x ≡ off r))
move_told (on q) = inl (q, refl)
move_told (off r) = inr (r, refl)

pub read_not_stopped : {A R : Type 0} (a : A) (p : ℕ) (r : R) → read a ≡ stopped p r → ⊥
read_not_stopped a p r e = let z : ◌≡◌ {A = ℕ} 0 1 = cc in omega arith

-- where a reading stops, with the text in two pieces
data Fault {S A R : Type 0} (m : Machine S A R) (q : S) (r : R) : List ℕ → Type 0 where
  early : m.close q ≡ off r → Fault m q r []
  wrong : {b : ℕ} {s : List ℕ} → m.step q b ≡ off r → Fault m q r (b ∷ s)

record Stop {S A R : Type 0} (m : Machine S A R) (q : S) (at : ℕ) (s : List ℕ) (p : ℕ) (r : R) : Type 0 where
  before : List ℕ
  rest : List ℕ
  state : S
  joined : s ≡ before ++ rest
  there : p ≡ at + length before
  leads : Leads m q before state
  fault : Fault m state r rest

pub after_map : {S R : Type 0} (P Q : S → Type 0) → ((q : S) → P q → Q q) → (x : Move S R) → After P x → After Q x
after_map P Q f (on q) h = f q h
after_map P Q f (off r) h = tt

module _ {S A R : Type 0} (m : Machine S A R) where
  -- one byte, the end
  pub run_on : (q next : S) (at b : ℕ) (s : List ℕ) → m.step q b ≡ on next → run m q at (b ∷ s) ≡ run m next (at + 1) s
  unfolding run
  run_on q next at b s e = rw e

  pub run_off : (q : S) (at b : ℕ) (s : List ℕ) (r : R) → m.step q b ≡ off r → run m q at (b ∷ s) ≡ stopped at r
  unfolding run
  run_off q at b s r e = rw e

  pub run_read : (q : S) (at : ℕ) (a : A) → m.close q ≡ on a → run m q at [] ≡ read a
  unfolding run
  run_read q at a e = rw e

  pub run_early : (q : S) (at : ℕ) (r : R) → m.close q ≡ off r → run m q at [] ≡ stopped at r
  unfolding run
  run_early q at r e = rw e

  -- the same in a loop over the places of a text: what is still to come, from a place on
  pub loop_on : (q next : S) (s : List ℕ) (i : ℕ) → i < length s → m.step q (get_or s i 0) ≡ on next → run m q i (drop i s) ≡ run m next (i + 1) (drop (i + 1) s)
  loop_on q next s i h e = ap (run m q i) (drop-cons s i 0 h) ∙ run_on q next i (get_or s i 0) (drop (suc i) s) e ∙ ap (λ (k : ℕ). run m next (i + 1) (drop k s)) (sym (add-one i))

  pub loop_off : (q : S) (s : List ℕ) (i : ℕ) (r : R) → i < length s → m.step q (get_or s i 0) ≡ off r → run m q i (drop i s) ≡ stopped i r
  loop_off q s i r h e = ap (run m q i) (drop-cons s i 0 h) ∙ run_off q i (get_or s i 0) (drop (suc i) s) r e

  pub loop_read : (q : S) (s : List ℕ) (i : ℕ) (a : A) → length s ≤ i → m.close q ≡ on a → run m q i (drop i s) ≡ read a
  loop_read q s i a h e = ap (run m q i) (drop_of_length-le s {i = i} h) ∙ run_read q i a e

  pub loop_early : (q : S) (s : List ℕ) (i : ℕ) (r : R) → length s ≤ i → m.close q ≡ off r → run m q i (drop i s) ≡ stopped i r
  loop_early q s i r h e = ap (run m q i) (drop_of_length-le s {i = i} h) ∙ run_early q i r e

  pub run_leads : (q last : S) (s : List ℕ) → Leads m q s last → (at : ℕ) (t : List ℕ) → run m q at (s ++ t) ≡ run m last (at + length s) t
  run_leads q last s (nowhere) at t = ap (λ (k : ℕ). run m q k t) (sym (add-zero at))
  run_leads q last s (by {next} {b} {s = rest} e l) at t =
      run_on q next at b (rest ++ t) e ∙ run_leads next last rest l (at + 1) t
      ∙ ap (λ (k : ℕ). run m last k t) (omega arith)

  -- a reading that stops
  run_stop : (s : List ℕ) (q : S) (at p : ℕ) (r : R) → run m q at s ≡ stopped p r → Stop m q at s p r
  run_stop [] q at p r e = ends (move_told (m.close q))
    where
      ends : ((a : A) × (m.close q ≡ on a)) ⊎ ((r' : R) × (m.close q ≡ off r')) → Stop m q at [] p r
      ends (inl a) = absurd (read_not_stopped a.0 p r (sym (run_read q at a.0 a.1) ∙ e))
      ends (inr w) =
          let same : stopped at w.0 ≡ stopped p r = sym (run_early q at w.0 w.1) ∙ e in
          let there : p ≡ at = cc in
          let why : w.0 ≡ r = cc in
          record { before = []; rest = []; state = q; joined = refl; there = there ∙ sym (add-zero at); leads = nowhere; fault = early (w.1 ∙ ap off why) }
  run_stop (b ∷ s) q at p r e = steps (λ next. run_stop s next (at + 1) p r) (move_told (m.step q b))
    where
      steps : ((next : S) → run m next (at + 1) s ≡ stopped p r → Stop m next (at + 1) s p r) → ((next : S) × (m.step q b ≡ on next)) ⊎ ((r' : R) × (m.step q b ≡ off r')) → Stop m q at (b ∷ s) p r
      steps more (inl n) =
          let w : Stop m n.0 (at + 1) s p r = more n.0 (sym (run_on q n.0 at b s n.1) ∙ e) in
          record { before = b ∷ w.before; rest = w.rest; state = w.state; joined = ap (λ (l : List ℕ). b ∷ l) w.joined; there = w.there ∙ omega arith; leads = by n.1 w.leads; fault = w.fault }
      steps more (inr w) =
          let same : stopped at w.0 ≡ stopped p r = sym (run_off q at b s w.0 w.1) ∙ e in
          let there : p ≡ at = cc in
          let why : w.0 ≡ r = cc in
          record { before = []; rest = b ∷ s; state = q; joined = refl; there = there ∙ sym (add-zero at); leads = nowhere; fault = wrong (w.1 ∙ ap off why) }

  -- ways and their parts
  pub leads_append : (q next last : S) (s t : List ℕ) → Leads m q s next → Leads m next t last → Leads m q (s ++ t) last
  leads_append q next last s t (nowhere) k = k
  leads_append q next last s t (by {next = n} {s = rest} e l) k = by e (leads_append n next last rest t l k)

  pub leads_one : (q next : S) (b : ℕ) → m.step q b ≡ on next → Leads m q (b ∷ []) next
  leads_one q next b e = by e nowhere

  pub leads_read : (q last : S) (s : List ℕ) (a : A) → Leads m q s last → m.close last ≡ on a → (at : ℕ) → run m q at s ≡ read a
  leads_read q last s a l e at =
      ap (run m q at) (sym (append-nil s)) ∙ run_leads q last s l at [] ∙ run_read last (at + length s) a e

  pub way_end : (q : S) (a : A) → m.close q ≡ on a → Way m q
  way_end q a e = record { rest = []; last = q; value = a; leads = nowhere; closes = e }

  pub way_on : (q next : S) (b : ℕ) → m.step q b ≡ on next → Way m next → Way m q
  way_on q next b e w = record { rest = b ∷ w.rest; last = w.last; value = w.value; leads = by e w.leads; closes = w.closes }

  -- what each step keeps holds of every state on the way
  after_on : (P : S → Type 0) (x : Move S R) (next : S) → x ≡ on next → After P x → P next
  after_on P x next e h = rw e at h

  pub leads_keep : (P : S → Type 0) → ((q : S) (b : ℕ) → P q → After P (m.step q b)) → (q last : S) (s : List ℕ) → Leads m q s last → P q → P last
  leads_keep P keeps q last s (nowhere) h = h
  leads_keep P keeps q last s (by {next} {b} {s = rest} e l) h = leads_keep P keeps next last rest l (after_on P (m.step q b) next e (keeps q b h))

  -- What is known of the bytes read so far, kept at each byte and turned into what is said of a whole text at its end.
  module _
      (Said : S → List ℕ → Type 0)
      (Whole : List ℕ → A → Type 0)
      (keeps : (q : S) (b : ℕ) (t : List ℕ) → Said q t → After (λ next. Said next (t ++ b ∷ [])) (m.step q b))
      (ends : (q : S) (t : List ℕ) → Said q t → After (Whole t) (m.close q))
    where
      pub leads_told : (q last : S) (s t : List ℕ) → Leads m q s last → Said q t → Said last (t ++ s)
      leads_told q last s t (nowhere) said = rw (append-nil t) said
      leads_told q last s t (by {next} {b} {s = rest} e l) said =
          let one : Said next (t ++ b ∷ []) = after_on (λ (x : S). Said x (t ++ b ∷ [])) (m.step q b) next e (keeps q b t said) in
          rw append_assoc at (leads_told next last rest (t ++ b ∷ []) l one)

      run_said : (s : List ℕ) (q : S) (at : ℕ) (t : List ℕ) (a : A) → run m q at s ≡ read a → Said q t → Whole (t ++ s) a
      unfolding run
      run_said [] q at t a e said = finish (m.close q) e (ends q t said)
        where
          finish : (x : Move A R) → behind at x read ≡ read a → After (Whole t) x → Whole (t ++ []) a
          finish (on a') f w = let value : a' ≡ a = cc in rw (append-nil t, ← value) w
          finish (off r) f w = absurd (read_not_stopped a at r (sym f))
      run_said (b ∷ s) q at t a e said = steps (λ next. run_said s next (at + 1) (t ++ b ∷ []) a) (m.step q b) e (keeps q b t said)
        where
          steps : ((next : S) → run m next (at + 1) s ≡ read a → Said next (t ++ b ∷ []) → Whole ((t ++ b ∷ []) ++ s) a)
              → (x : Move S R) → behind at x (λ next. run m next (at + 1) s) ≡ read a → After (λ next. Said next (t ++ b ∷ [])) x → Whole (t ++ b ∷ s) a
          steps more (on next) f w = rw append_assoc at (more next f w)
          steps more (off r) f w = absurd (read_not_stopped a at r (sym f))

      pub run_told : (q : S) → Said q [] → (s : List ℕ) (a : A) → run m q 0 s ≡ read a → Whole s a
      run_told q first s a e = run_said s q 0 [] a e first

-- where it stops, said of the text
pub run_stops : {S A R : Type 0} (m : Machine S A R) (q : S) (s : List ℕ) (p : ℕ) (r : R) → run m q 0 s ≡ stopped p r → Stops m q s p r
run_stops {S} m q s p r e = record { state = w.state; leads = rw front w.leads; why = why w.rest w.joined w.fault }
  where
    w : Stop m q 0 s p r
    w = run_stop m s q 0 p r e

    here : p ≡ length w.before
    here = w.there ∙ omega arith

    front : take p s ≡ w.before
    front = ap (λ (l : List ℕ). take p l) w.joined ∙ take_at w.before w.rest p (sym here)

    why : (rest : List ℕ) → s ≡ w.before ++ rest → Fault m w.state r rest → ((p ≡ length s) × (m.close w.state ≡ off r)) ⊎ ((p < length s) × (m.step w.state (get_or s p 0) ≡ off r))
    why rest joined (early c) = inl (here ∙ ap length (sym (append-nil w.before) ∙ sym joined), c)
    why rest joined (wrong {b} {s = t} bad) =
        let byte : get_or s p 0 ≡ b = ap (λ (l : List ℕ). get_or l p 0) joined ∙ get_or_at w.before b t 0 p (sym here) in
        let size : length s ≡ length w.before + suc (length t) = ap length joined ∙ length-append w.before (b ∷ t) in
        inr (omega (arith, here), rw byte bad)

-- a machine that takes exactly these texts, and is in no state without a way out, stops where the text goes wrong
pub stops_in_place : {S A R : Type 0} (m : Machine S A R) (q : S) (accepted : List ℕ → Type 0) → Takes m q accepted → Alive m q → StopsInPlace m q accepted
stops_in_place {S} {A} {R} m q accepted takes alive s p r e = record { refused = refused; before = before; with_it = with_it w.why }
  where
    w : Stops m q s p r
    w = run_stops m q s p r e

    front : (t : List ℕ) → run m q 0 (take p s ++ t) ≡ run m w.state (0 + length (take p s)) t
    front t = run_leads m q w.state (take p s) w.leads 0 t

    refused : accepted s → ⊥
    refused good = let a = takes.back s good in read_not_stopped a.0 p r (sym a.1 ∙ e)

    before : Mendable accepted (take p s)
    before =
        let way = alive (take p s) w.state w.leads in
        (way.rest, takes.forth _ way.value (front way.rest ∙ leads_read m w.state way.last way.rest way.value way.leads way.closes (0 + length (take p s))))

    with_it : ((p ≡ length s) × (m.close w.state ≡ off r)) ⊎ ((p < length s) × (m.step w.state (get_or s p 0) ≡ off r)) → (p ≡ length s) ⊎ (Mendable accepted (take (suc p) s) → ⊥)
    with_it (inl h) = inl h.0
    with_it (inr h) =
        inr (λ mend.
        let a = takes.back _ mend.1 in
        let cut : take (suc p) s ++ mend.0 ≡ take p s ++ get_or s p 0 ∷ mend.0 =
        ap (λ (l : List ℕ). l ++ mend.0) (take-suc s p 0 h.0) ∙ append_assoc (take p s) (get_or s p 0 ∷ []) mend.0 in
        read_not_stopped a.0 (0 + length (take p s)) r
        (sym a.1 ∙ ap (run m q 0) cut ∙ front (get_or s p 0 ∷ mend.0) ∙ run_off m w.state (0 + length (take p s)) (get_or s p 0) mend.0 r h.1))
