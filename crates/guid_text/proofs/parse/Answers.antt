-- What the machine finds from here on is what it finds in the whole text.
-- Assumes nothing.
use mathlib.Core.Path.{◌≡◌, refl, sym, ◌∙◌, subst}
use Prim.Native.Nat.{ℕ, ◌+◌, ◌-◌, ◌≤◌}
use native.Mathlib.Omega.{arith}
use lib.ListN.{length}
use Rattle.places.proofs.MachineLaws.{loop_on, loop_off, loop_read, loop_early}
use Rattle.guid_text.specs.declared.Reason.TheVariants.{Empty, TooLong, NotHex, FieldCount}
use Rattle.std.specs.declared.result.Result.TheVariants.{Ok, Err}
use Rattle.guid.specs.Guid.{guid_of}
use Rattle.guid_text.specs.Statement.{Parses}
use Rattle.guid_text.proofs.Walk.{st, walk}
use Rattle.guid_text.proofs.WalkLaws.{word_more, word_fits, dash_empty, dash_many, dash_at, other_long, other_wrong, other_next, end_empty, end_few, end_read, word_none, apart}
use Rattle.guid_text.proofs.ReasonLaws.{parses}
use Rattle.guid_text.proofs.parse.Goals as goal

pub loop-at-init : goal.loop-at-init
loop-at-init c = (omega arith, omega arith, omega arith, omega arith, refl)

pub returns-then-count-eq0 : goal.returns-then-count-eq0
returns-then-count-eq0 c =
    let l = c.loop-at in
    let q = st l.left (l.at - l.start) l.w0 l.w1 l.w2 l.w3 in
    rw c.bad.ensures (parses _ (Err record { position = l.at; reason = Empty }) (sym l.invariant.4 ∙ loop_off walk q _ l.at Empty c.loop-at-test.true (dash_empty q _ c.if-byte-eq45.true c.if-count-eq0.true)))

pub returns-then-left-eq0 : goal.returns-then-left-eq0
returns-then-left-eq0 c =
    let l = c.loop-at in
    let q = st l.left (l.at - l.start) l.w0 l.w1 l.w2 l.w3 in
    rw c.bad-then-left-eq0.ensures (parses _ (Err record { position = l.at; reason = FieldCount }) (sym l.invariant.4 ∙ loop_off walk q _ l.at FieldCount c.loop-at-test.true (dash_many q _ c.if-byte-eq45.true (omega (arith, c.if-count-eq0.false)) c.if-left-eq0.true)))

pub loop-at-preserved-then-byte-eq45 : goal.loop-at-preserved-then-byte-eq45
loop-at-preserved-then-byte-eq45 c =
    let l = c.loop-at in
    let q = st l.left (l.at - l.start) l.w0 l.w1 l.w2 l.w3 in
    let step = dash_at q _ (l.at + 1) c.if-byte-eq45.true (omega (arith, c.if-count-eq0.false)) (omega (arith, c.if-left-eq0.false)) in
    (omega (arith, l.invariant.0), omega arith, omega arith, word_none (l.at + 1), sym (loop_on walk q _ _ l.at c.loop-at-test.true step) ∙ l.invariant.4)

pub returns-then-value-gt15 : goal.returns-then-value-gt15
returns-then-value-gt15 c =
    let l = c.loop-at in
    let q = st l.left (l.at - l.start) l.w0 l.w1 l.w2 l.w3 in
    rw c.bad-then-value-gt15.ensures (parses _ (Err record { position = l.at; reason = NotHex }) (sym l.invariant.4 ∙ loop_off walk q _ l.at NotHex c.loop-at-test.true (other_wrong q _ c.if-byte-eq45.false (omega (arith, c.if-count-lt7.true)) (omega (arith, c.if-value-gt15.true, c.digit_value-value.ensures)))))

pub overflow_mul-w0 : goal.overflow_mul-w0
overflow_mul-w0 c =
    let l = c.loop-at in
    let q = st l.left (l.at - l.start) l.w0 l.w1 l.w2 l.w3 in
    omega (arith, word_fits l.w0 (l.at - l.start) c.digit_value-value.result l.invariant.3 (omega (arith, c.if-count-lt7.true)) c.if-value-gt15.false)

pub overflow_add-w0 : goal.overflow_add-w0
overflow_add-w0 c =
    let l = c.loop-at in
    let q = st l.left (l.at - l.start) l.w0 l.w1 l.w2 l.w3 in
    omega (arith, word_fits l.w0 (l.at - l.start) c.digit_value-value.result l.invariant.3 (omega (arith, c.if-count-lt7.true)) c.if-value-gt15.false)

pub loop-at-preserved-then-count-lt7 : goal.loop-at-preserved-then-count-lt7
loop-at-preserved-then-count-lt7 c =
    let l = c.loop-at in
    let q = st l.left (l.at - l.start) l.w0 l.w1 l.w2 l.w3 in
    let more : l.at + 1 - l.start ≡ l.at - l.start + 1 = omega (arith, l.invariant.1) in
    let room : l.at - l.start ≤ 7 = omega (arith, c.if-count-lt7.true) in
    let step = other_next q _ c.digit_value-value.result (l.at + 1 - l.start) c.digit_value-value.ensures more c.if-value-gt15.false room in
    (l.invariant.0, omega (arith, l.invariant.1), omega (arith, room, more), word_more l.w0 (l.at - l.start) (l.at + 1 - l.start) c.digit_value-value.result more l.invariant.3 c.if-value-gt15.false, sym (loop_on walk q _ _ l.at c.loop-at-test.true step) ∙ l.invariant.4)

pub returns-then-count-gt7 : goal.returns-then-count-gt7
returns-then-count-gt7 c =
    let l = c.loop-at in
    let q = st l.left (l.at - l.start) l.w0 l.w1 l.w2 l.w3 in
    rw c.bad-then-count-gt7.ensures (parses _ (Err record { position = l.at; reason = TooLong }) (sym l.invariant.4 ∙ loop_off walk q _ l.at TooLong c.loop-at-test.true (other_long q _ c.if-byte-eq45.false c.if-count-gt7.true)))

pub returns-then-last-gt15 : goal.returns-then-last-gt15
returns-then-last-gt15 c =
    let l = c.loop-at in
    let q = st l.left (l.at - l.start) l.w0 l.w1 l.w2 l.w3 in
    rw c.bad-then-last-gt15.ensures (parses _ (Err record { position = l.at; reason = NotHex }) (sym l.invariant.4 ∙ loop_off walk q _ l.at NotHex c.loop-at-test.true (other_wrong q _ c.if-byte-eq45.false c.if-count-gt7.false (omega (arith, c.if-last-gt15.true, c.digit_value-last.ensures)))))

pub overflow_mul-w0-in-loop-at : goal.overflow_mul-w0-in-loop-at
overflow_mul-w0-in-loop-at c =
    let l = c.loop-at in
    let q = st l.left (l.at - l.start) l.w0 l.w1 l.w2 l.w3 in
    omega (arith, word_fits l.w0 (l.at - l.start) c.digit_value-last.result l.invariant.3 c.if-count-gt7.false c.if-last-gt15.false)

pub overflow_add-w0-in-loop-at : goal.overflow_add-w0-in-loop-at
overflow_add-w0-in-loop-at c =
    let l = c.loop-at in
    let q = st l.left (l.at - l.start) l.w0 l.w1 l.w2 l.w3 in
    omega (arith, word_fits l.w0 (l.at - l.start) c.digit_value-last.result l.invariant.3 c.if-count-gt7.false c.if-last-gt15.false)

pub loop-at-preserved : goal.loop-at-preserved
loop-at-preserved c =
    let l = c.loop-at in
    let q = st l.left (l.at - l.start) l.w0 l.w1 l.w2 l.w3 in
    let more : l.at + 1 - l.start ≡ l.at - l.start + 1 = omega (arith, l.invariant.1) in
    let room : l.at - l.start ≤ 7 = c.if-count-gt7.false in
    let step = other_next q _ c.digit_value-last.result (l.at + 1 - l.start) c.digit_value-last.ensures more c.if-last-gt15.false room in
    (l.invariant.0, omega (arith, l.invariant.1), omega (arith, room, more), word_more l.w0 (l.at - l.start) (l.at + 1 - l.start) c.digit_value-last.result more l.invariant.3 c.if-last-gt15.false, sym (loop_on walk q _ _ l.at c.loop-at-test.true step) ∙ l.invariant.4)

pub returns-then-text-start : goal.returns-then-text-start
returns-then-text-start c =
    let l = c.loop-at in
    let q = st l.left (l.at - l.start) l.w0 l.w1 l.w2 l.w3 in
    let end : l.at ≡ length c.args.text.now = omega arith in
    rw c.bad-then-text-start.ensures
    (subst (λ (p : ℕ). Parses c.args.text.now (Err record { position = p; reason = Empty })) end
    (parses _ (Err record { position = l.at; reason = Empty }) (sym l.invariant.4 ∙ loop_early walk q _ l.at Empty c.loop-at-test.false (end_empty q (omega (arith, c.if-text-start.true))))))

pub returns-then-left-gt0 : goal.returns-then-left-gt0
returns-then-left-gt0 c =
    let l = c.loop-at in
    let q = st l.left (l.at - l.start) l.w0 l.w1 l.w2 l.w3 in
    let end : l.at ≡ length c.args.text.now = omega arith in
    rw c.bad-then-left-gt0.ensures
    (subst (λ (p : ℕ). Parses c.args.text.now (Err record { position = p; reason = FieldCount })) end
    (parses _ (Err record { position = l.at; reason = FieldCount }) (sym l.invariant.4 ∙ loop_early walk q _ l.at FieldCount c.loop-at-test.false (end_few q (apart l.at l.start l.invariant.1 (λ e. c.if-text-start.false (sym end ∙ e))) c.if-left-gt0.true))))

pub returns : goal.returns
returns c =
    let l = c.loop-at in
    let q = st l.left (l.at - l.start) l.w0 l.w1 l.w2 l.w3 in
    let end : l.at ≡ length c.args.text.now = omega arith in
    parses _ (Ok (guid_of l.w0 l.w1 l.w2 l.w3)) (sym l.invariant.4 ∙ loop_read walk q _ l.at _ c.loop-at-test.false (end_read q (apart l.at l.start l.invariant.1 (λ e. c.if-text-start.false (sym end ∙ e))) (omega (arith, c.if-left-gt0.false))))
