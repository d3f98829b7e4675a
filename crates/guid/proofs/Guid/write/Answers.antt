-- Each word stands over the tail behind the words before it.
-- Assumes nothing.
use mathlib.Core.Path.{◌≡◌, sym, ◌∙◌}
use mathlib.Core.List.{List, ◌++◌}
use Prim.Native.Nat.{ℕ, ◌≤◌}
use native.Mathlib.Omega.{arith}
use lib.ListN.{length, length-append}
use Rattle.words.specs.Word.{bytes_of}
use Rattle.words.specs.Buffer.{over}
use Rattle.words.proofs.WordLaws.{length_bytes_of}
use Rattle.words.proofs.BufferLaws.{fitted_fits, fitted_short}
use Rattle.guid.specs.Guid.{wire_bytes}
use Rattle.words.proofs.LentLaws.{back, lent_fitted}
use Rattle.guid.proofs.WireLaws.{length_wire}
use Rattle.guid.proofs.Guid.write.Goals as goal

pub returns-then-out-lt16 : goal.returns-then-out-lt16
returns-then-out-lt16 c = sym (fitted_short (wire_bytes c.args.self) _ (rw (length_wire c.args.self) c.if-out-lt16.true))

pub returns : goal.returns
unfolding wire_bytes
returns c =
    let start = c in
    let g = start.args.self in
    let xs : List ℕ = start.args.out.now in
    let p0 = c.write_u32 in
    let p1 = c.write_u32-2 in
    let p2 = c.write_u32-3 in
    let p3 = c.write_u32-4 in
    let a : List ℕ = bytes_of 4 g.w0 in
    let b : List ℕ = bytes_of 4 g.w1 in
    let d : List ℕ = bytes_of 4 g.w2 in
    let e : List ℕ = bytes_of 4 g.w3 in
    let room : 16 ≤ length xs = c.if-out-lt16.false in
    let la : length a ≡ 4 = length_bytes_of 4 g.w0 in
    let lb : length b ≡ 4 = length_bytes_of 4 g.w1 in
    let ld : length d ≡ 4 = length_bytes_of 4 g.w2 in
    let le : length e ≡ 4 = length_bytes_of 4 g.w3 in
    let s0 : p0.new.out ≡ over a xs = p0.ensures ∙ fitted_fits a xs (omega arith) in
    let s1 : back p0.new.out 4 p1.new.out ≡ over (a ++ b) xs = lent_fitted a b xs p0.new.out p1.new.out 4 s0 la (omega arith) p1.ensures in
    let s2 : back (back p0.new.out 4 p1.new.out) 8 p2.new.out ≡ over (a ++ b ++ d) xs = lent_fitted (a ++ b) d xs (back p0.new.out 4 p1.new.out) p2.new.out 8 s1 (simp (length-append, la, lb)) (omega arith) p2.ensures in
    let s3 : back (back (back p0.new.out 4 p1.new.out) 8 p2.new.out) 12 p3.new.out ≡ over (a ++ b ++ d ++ e) xs = lent_fitted (a ++ b ++ d) e xs (back (back p0.new.out 4 p1.new.out) 8 p2.new.out) p3.new.out 12 s2 (simp (length-append, la, lb, ld)) (omega arith) p3.ensures in
    s3 ∙ sym (fitted_fits (a ++ b ++ d ++ e) xs (simp (length-append, la, lb, ld, le) room))
