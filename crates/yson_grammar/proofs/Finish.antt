-- Whatever the machine has come to, some bytes finish a good input: an entity where a node is due, then what closes the brackets, with
-- an entity behind attributes. Assumes nothing.
use mathlib.Core.Path.{◌≡◌, sym, ◌∙◌, ap}
use mathlib.Core.List.{List, [], ◌∷◌, ◌++◌}
use Prim.Native.Nat.{ℕ, zero, suc, ◌+◌, ◌-◌, ◌<◌, ◌≤◌}
use native.Mathlib.Nat.{add-zero}
use native.Mathlib.Omega.{arith}
use lib.ListN.{length, get_or, take, length-append}
use lib.Seq.{length-take-le, get_or-append-add}
use Rattle.words.specs.Word.{Bytes}
use Rattle.yson_token.specs.Token.{Bracket, square, curly, angle, closing, entity_mark, equals_sign}
use Rattle.yson_token.proofs.ScalarLaws.{scalar_entity}
use Rattle.yson_grammar.specs.Grammar.{Node}
use Rattle.yson_grammar.specs.Stages.{Due, node, object, item, next, equals, good, from}
use Rattle.yson_grammar.proofs.RunLaws.{object_scalar, node_object, item_close, next_close, equals_node, end_good}
use Rattle.yson_grammar.proofs.Sound.{After, Rest, accepts}
use Rattle.yson_grammar.specs.Place.{BeginsInBytes}
use Rattle.yson_grammar.proofs.Trace.{Trace, trace_runs, trace_moved, front_alike, Held, trace_held}

abbrev closers : List Bracket → List ℕ
closers [] = []
closers (square ∷ around) = closing square ∷ closers around
closers (curly ∷ around) = closing curly ∷ closers around
closers (angle ∷ around) = closing angle ∷ entity_mark ∷ closers around

abbrev finish : Due → List Bracket → List ℕ
finish node around = entity_mark ∷ closers around
finish object around = entity_mark ∷ closers around
finish item around = closers around
finish next around = closers around
finish equals around = equals_sign ∷ entity_mark ∷ closers around

-- they are bytes
more_bytes : (x : ℕ) (xs : List ℕ) → x < 256 → Bytes xs → Bytes (x ∷ xs)
more_bytes x xs h rest zero = h
more_bytes x xs h rest (suc i) = rest i

closers_bytes : (around : List Bracket) → Bytes (closers around)
closers_bytes [] = λ i. omega arith
closers_bytes (square ∷ around) = more_bytes 93 (closers around) (omega arith) (closers_bytes around)
closers_bytes (curly ∷ around) = more_bytes 125 (closers around) (omega arith) (closers_bytes around)
closers_bytes (angle ∷ around) =
    more_bytes 62 (35 ∷ closers around) (omega arith) (more_bytes 35 (closers around) (omega arith) (closers_bytes around))

entity_bytes : (around : List Bracket) → Bytes (35 ∷ closers around)
entity_bytes around = more_bytes 35 (closers around) (omega arith) (closers_bytes around)

finish_bytes : (due : Due) (around : List Bracket) → Bytes (finish due around)
finish_bytes node around = entity_bytes around
finish_bytes object around = entity_bytes around
finish_bytes item around = closers_bytes around
finish_bytes next around = closers_bytes around
finish_bytes equals around = more_bytes 61 (35 ∷ closers around) (omega arith) (entity_bytes around)

-- these bytes stand from p to the end
record Tail (t : List ℕ) (p : ℕ) (ys : List ℕ) : Type 0 where
  size : length t ≡ p + length ys
  bytes : (i : ℕ) → i < length ys → get_or t (p + i) 0 ≡ get_or ys i 0

module _ (t : List ℕ) where
  head : (p y : ℕ) (ys : List ℕ) → Tail t p (y ∷ ys) → get_or t p 0 ≡ y
  head p y ys x = rw add-zero at (x.bytes 0 (omega arith))

  tail : (p y : ℕ) (ys : List ℕ) → Tail t p (y ∷ ys) → Tail t (p + 1) ys
  tail p y ys x = record {
    size = omega (arith, x.size);
    bytes = λ i below. let e : p + 1 + i ≡ p + suc i = omega arith in rw e (x.bytes (suc i) (omega arith));
  }

  entity : (p room : ℕ) (around : List Bracket) → get_or t p 0 ≡ 35 → from t room object around p ≡ from t room next around (p + 1)
  entity p room around first =
      object_scalar t p around room (p + 1) (λ e. omega (arith, e, first)) (λ e. omega (arith, e, first)) (scalar_entity t p first)

  closes : (around : List Bracket) (p room : ℕ) → Tail t p (closers around) → from t room next around p ≡ good
  closes [] p room x = end_good t p room (omega (arith, x.size))
  closes (square ∷ around) p room x =
      next_close t p around square room (head p 93 (closers around) x) ∙ closes around (p + 1) (suc room) (tail p 93 (closers around) x)
  closes (curly ∷ around) p room x =
      next_close t p around curly room (head p 125 (closers around) x) ∙ closes around (p + 1) (suc room) (tail p 125 (closers around) x)
  closes (angle ∷ around) p room x =
      let y : Tail t (p + 1) (35 ∷ closers around) = tail p 62 (35 ∷ closers around) x in
      next_close t p around angle room (head p 62 (35 ∷ closers around) x)
      ∙ entity (p + 1) (suc room) around (head (p + 1) 35 (closers around) y)
      ∙ closes around (p + 1 + 1) (suc room) (tail (p + 1) 35 (closers around) y)

  finishes_object : (around : List Bracket) (p room : ℕ) → Tail t p (35 ∷ closers around) → from t room object around p ≡ good
  finishes_object around p room x = entity p room around (head p 35 (closers around) x) ∙ closes around (p + 1) room (tail p 35 (closers around) x)

  finishes_node : (around : List Bracket) (p room : ℕ) → Tail t p (35 ∷ closers around) → from t room node around p ≡ good
  finishes_node around p room x = node_object t p around room (λ e. omega (arith, e, head p 35 (closers around) x)) ∙ finishes_object around p room x

  finishes_item : (k : Bracket) (around : List Bracket) (p room : ℕ) → Tail t p (closers (k ∷ around)) → from t room item (k ∷ around) p ≡ good
  finishes_item square around p room x =
      item_close t p around square room (head p 93 (closers around) x) ∙ closes around (p + 1) (suc room) (tail p 93 (closers around) x)
  finishes_item curly around p room x =
      item_close t p around curly room (head p 125 (closers around) x) ∙ closes around (p + 1) (suc room) (tail p 125 (closers around) x)
  finishes_item angle around p room x =
      item_close t p around angle room (head p 62 (35 ∷ closers around) x) ∙ finishes_object around (p + 1) (suc room) (tail p 62 (35 ∷ closers around) x)

  finishes : (due : Due) (around : List Bracket) (p room : ℕ) → Held due around → Tail t p (finish due around) → from t room due around p ≡ good
  finishes node around p room held x = finishes_node around p room x
  finishes object around p room held x = finishes_object around p room x
  finishes item [] p room held x = absurd held
  finishes item (k ∷ around) p room held x = finishes_item k around p room x
  finishes next around p room held x = closes around p room x
  finishes equals around p room held x =
      equals_node t p around room (head p 61 (35 ∷ closers around) x) ∙ finishes_node around (p + 1) room (tail p 61 (35 ∷ closers around) x)

behind_front : (s ys : List ℕ) (n : ℕ) → n ≤ length s → Tail (take n s ++ ys) n ys
behind_front s ys n h =
    let size : length (take n s) ≡ n = length-take-le n s h in
    record {
      size = omega (arith, size, length-append (take n s) ys);
      bytes = λ i below. ap (λ (z : ℕ). get_or (take n s ++ ys) (z + i) 0) (sym size) ∙ get_or-append-add (take n s) ys i 0;
    }

-- what is accepted within so many brackets is a node
pub good_node : (t : List ℕ) (room : ℕ) → from t room node [] 0 ≡ good → Node t room 0 (length t)
unfolding Rest After
good_node t room h = let x = accepts t (suc (length t - 0)) room node [] 0 h in rw x.2 at x.1

-- what the machine has passed begins a good input
pub trace_begins : (s : List ℕ) (whole room p : ℕ) (due : Due) (around : List Bracket) → Trace s whole room due around p → p ≤ length s → BeginsInBytes whole (take p s)
trace_begins s whole room p due around trace h =
    let ys : List ℕ = finish due around in
    let t : List ℕ = take p s ++ ys in
    let same : 0 + whole ≡ whole = omega arith in
    let moved : Trace t (0 + whole) (0 + room) due around p = trace_moved s t 0 trace (front_alike s ys p h) in
    (ys, finish_bytes due around, good_node t whole (sym (ap (λ (n : ℕ). from t n node [] 0) same) ∙ trace_runs moved ∙ finishes t due around p (0 + room) (trace_held trace) (behind_front s ys p h)))
