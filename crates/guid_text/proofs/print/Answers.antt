-- Each field over the tail behind the fields before it. Assumes nothing.
use Prim.Native.Nat.{ℕ, ◌+◌, ◌≤◌, ◌<◌}
use mathlib.Core.Path.{◌≡◌, sym, ◌∙◌, ap}
use mathlib.Core.List.{List, ◌++◌}
use native.Mathlib.Omega.{arith}
use borrow.Author.Tests.{lt-ltb, le-ltb}
use lib.ListN.{length, length-append}
use Rattle.words.specs.Buffer.{over}
use Rattle.numerals.specs.Statement.{hex}
use Rattle.guid_text.specs.Stages.{dashed}
use Rattle.guid_text.specs.Text.{text_of}
use Rattle.words.proofs.LentLaws.{back, lent_over}
use Rattle.guid_text.proofs.TextLaws.{length_text, length_dashed, text_in_fields}
use Rattle.guid_text.proofs.print.Goals as goal

pub returns-then-out-needed : goal.returns-then-out-needed
returns-then-out-needed c =
    let start = c in
    let g = start.args.id in
    let xs : List ℕ = start.args.out.now in
    let size : c.text_size-needed.result ≡ length (text_of g) = c.text_size-needed.ensures in
    let short : length xs < length (text_of g) = omega arith in
    let tested = lt-ltb (length xs) (length (text_of g)) short in
    (rw (tested, size), rw tested)

pub returns : goal.returns
returns c =
    let start = c in
    let text_size = c.text_size-needed in
    let g = start.args.id in
    let xs : List ℕ = start.args.out.now in
    let size : text_size.result ≡ length (text_of g) = text_size.ensures in
    let room : length (text_of g) ≤ length xs = omega (arith, c.if-out-needed.false) in
    let whole = length_text g in
    let p3 = c.put_dashed-second in
    let p2 = c.put_dashed in
    let p1 = c.put_dashed-2 in
    let p0 = c.put in
    let f3 : List ℕ = dashed g.w3 in
    let f2 : List ℕ = dashed g.w2 in
    let f1 : List ℕ = dashed g.w1 in
    let f0 : List ℕ = hex g.w0 in
    let l3 : length f3 ≡ p3.result = length_dashed g.w3 ∙ sym p3.ensures.0 in
    let l2 : length f2 ≡ p2.result = length_dashed g.w2 ∙ sym p2.ensures.0 in
    let l1 : length f1 ≡ p1.result = length_dashed g.w1 ∙ sym p1.ensures.0 in
    let m2 : length (f3 ++ f2) ≡ p3.result + p2.result = omega (arith, length-append f3 f2) in
    let m1 : length (f3 ++ f2 ++ f1) ≡ p3.result + p2.result + p1.result = omega (arith, length-append (f3 ++ f2) f1) in
    let s3 : List ℕ = p3.new.out in
    let s2 : List ℕ = back s3 p3.result p2.new.out in
    let s1 : List ℕ = back s2 (p3.result + p2.result) p1.new.out in
    let s0 : List ℕ = back s1 (p3.result + p2.result + p1.result) p0.new.out in
    let e2 : s2 ≡ over (f3 ++ f2) xs = lent_over f3 f2 xs s3 p2.new.out p3.result p3.ensures.1 l3 (omega (arith, p3.ensures.0, p2.ensures.0)) p2.ensures.1 in
    let e1 : s1 ≡ over (f3 ++ f2 ++ f1) xs = lent_over (f3 ++ f2) f1 xs s2 p1.new.out (p3.result + p2.result) e2 m2 (omega (arith, p3.ensures.0, p2.ensures.0, p1.ensures.0)) p1.ensures.1 in
    let e0 : s0 ≡ over (f3 ++ f2 ++ f1 ++ f0) xs = lent_over (f3 ++ f2 ++ f1) f0 xs s1 p0.new.out (p3.result + p2.result + p1.result) e1 m1 (omega (arith, p3.ensures.0, p2.ensures.0, p1.ensures.0)) p0.ensures.1 in
    let tested = le-ltb (length xs) (length (text_of g)) room in
    (rw (tested, size), rw tested (e0 ∙ ap (λ (l : List ℕ). over l xs) (text_in_fields g)))
