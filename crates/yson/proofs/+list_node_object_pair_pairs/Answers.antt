-- What each function of the cycle has read at each of its returns, and that each loop keeps its invariant. Assumes nothing.
use mathlib.Core.Path.{refl, sym, ◌∙◌, ap}
use Rattle.std.proofs.Common.{ℕ, ◌≡◌, ◌≢◌, arith, get_or}
use Rattle.std.proofs.lemmas.Result.{err_from_is_err_and}
use native.Mathlib.Nat.{pos_of_ne-zero}
use Rattle.yson_token.specs.Token.{square}
use Rattle.yson_token.specs.Statement.{end_of}
use Rattle.yson.specs.Stages.{keyed}
use Rattle.yson.specs.declared.Fault.TheVariants.{BadYson}
use Rattle.yson.proofs.ReadLaws.{reads_list, reads_map, reads_list_deep, reads_map_deep, reads_scalar, reads_none, reads_object, reads_node_deep, reads_attributes_not, reads_attributes, passed_none, items_end, items_not, items_last, items_bad, items_more, listed_fails, listed_ends, pair_no_key, pair_no_equals, pair_fails, pair_ends, paired_ends, keyed_paired, keyed_weight, keyed_at}
use Rattle.yson.proofs.+list_node_object_pair_pairs.Goals as goal

pub list-loop-start-init : goal.list-loop-start-init
list-loop-start-init t c = passed_none _ square _ c.args.start

pub list-returns-then-byte_at-eq93 : goal.list-returns-then-byte_at-eq93
list-returns-then-byte_at-eq93 t c =
    rw c.no_map.ensures (items_end _ square _ _ _ _ c.loop-start.invariant 0 refl (sym c.byte_at.ensures ∙ c.if-byte_at-eq93.true))

pub list-returns-in_err-end : goal.list-returns-in_err-end
list-returns-in_err-end t c =
    let p = err_from_is_err_and c.from_residual.result c.from_residual.ensures.1 in
    rw (p.1, p.2)
    (items_not _ square _ _ _ _ c.loop-start.invariant _
    (listed_fails _ _ _ _ (λ e. c.if-byte_at-eq93.false (c.byte_at.ensures ∙ e)) c.in_err-end.ensures))

pub list-returns-in-93 : goal.list-returns-in-93
list-returns-in-93 t c =
    rw c.no_map-in-93.ensures
    (items_last _ square _ _ _ _ c.loop-start.invariant _
    (listed_ends _ _ _ _ (λ e. c.if-byte_at-eq93.false (c.byte_at.ensures ∙ e)) c.in_ok-end.ensures)
    0 0 refl refl (omega arith))

pub list-returns-in_default : goal.list-returns-in_default
list-returns-in_default t c =
    let behind : ℕ = get_or c.args.s.now c.in_ok-end.field-0.end 0 in
    let no_close : behind ≢ 93 = omega arith in
    let no_more : behind ≢ 59 = omega arith in
    items_bad _ square _ _ _ _ c.loop-start.invariant _
    (listed_ends _ _ _ _ (λ e. c.if-byte_at-eq93.false (c.byte_at.ensures ∙ e)) c.in_ok-end.ensures)
    no_close no_more

-- the byte behind the item is not told by its step's name, which is that of its value
pub list-loop-start-preserved : goal.list-loop-start-preserved
list-loop-start-preserved t c =
    items_more _ square _ _ _ _ c.loop-start.invariant _
    (listed_ends _ _ _ _ (λ e. c.if-byte_at-eq93.false (c.byte_at.ensures ∙ e)) c.in_ok-end.ensures)
    0 refl (omega arith) (omega arith)

pub node-returns-then-byte_at-ne60 : goal.node-returns-then-byte_at-ne60
node-returns-then-byte_at-ne60 t c =
    reads_object _ _ _ _ (λ e. c.if-byte_at-ne60.true (c.byte_at.ensures ∙ e)) c.object.ensures

pub node-returns-then-depth-eq0 : goal.node-returns-then-depth-eq0
node-returns-then-depth-eq0 t c =
    reads_node_deep _ _ _ (sym c.byte_at.ensures ∙ c.if-byte_at-ne60.false) c.if-depth-eq0.true

pub node-returns-in_err-attributes : goal.node-returns-in_err-attributes
node-returns-in_err-attributes t c =
    let p = err_from_is_err_and c.from_residual.result c.from_residual.ensures.1 in
    rw (p.1, p.2)
    (reads_attributes_not _ _ _ _ (sym c.byte_at.ensures ∙ c.if-byte_at-ne60.false) (pos_of_ne-zero c.if-depth-eq0.false)
    c.in_err-attributes.ensures)

pub node-returns : goal.node-returns
node-returns t c =
    reads_attributes _ _ _ _ _ (sym c.byte_at.ensures ∙ c.if-byte_at-ne60.false) (pos_of_ne-zero c.if-depth-eq0.false)
    c.in_ok-attributes.ensures c.object-2.ensures

pub object-returns-then-depth-eq0 : goal.object-returns-then-depth-eq0
object-returns-then-depth-eq0 t c = reads_list_deep _ _ _ (sym c.byte_at.ensures ∙ c.in-91.is) c.if-depth-eq0.true

pub object-returns-then-depth-eq0-2 : goal.object-returns-then-depth-eq0-2
object-returns-then-depth-eq0-2 t c = reads_map_deep _ _ _ (sym c.byte_at.ensures ∙ c.in-123.is) c.if-depth-eq0-2.true

pub object-returns-in_err-end-in_default : goal.object-returns-in_err-end-in_default
object-returns-in_err-end-in_default t c =
    let p = err_from_is_err_and c.from_residual.result c.from_residual.ensures.1 in
    let none = c.in_err-end-in_default.ensures.ok_part in
    let told = rw none at c.in_err-end-in_default.ensures.value in
    let is : c.in_err-end-in_default.field-0.0 ≡ BadYson c.args.at = cc in
    let no_list : get_or c.args.s.now c.args.at 0 ≢ 91 = omega arith in
    let no_map : get_or c.args.s.now c.args.at 0 ≢ 123 = omega arith in
    rw (p.1, p.2, is) (reads_none _ _ _ no_list no_map (ap end_of (sym none) ∙ c.scalar.ensures))

pub object-returns-else-depth-eq0 : goal.object-returns-else-depth-eq0
object-returns-else-depth-eq0 t c =
    reads_list _ _ _ _ (sym c.byte_at.ensures ∙ c.in-91.is) (pos_of_ne-zero c.if-depth-eq0.false) c.list.ensures

pub object-returns-else-depth-eq0-2 : goal.object-returns-else-depth-eq0-2
object-returns-else-depth-eq0-2 t c =
    reads_map _ _ _ _ (sym c.byte_at.ensures ∙ c.in-123.is) (pos_of_ne-zero c.if-depth-eq0-2.false) c.pairs.ensures

pub object-returns-in_ok-end-in_default : goal.object-returns-in_ok-end-in_default
object-returns-in_ok-end-in_default t c =
    let no_list : get_or c.args.s.now c.args.at 0 ≢ 91 = omega arith in
    let no_map : get_or c.args.s.now c.args.at 0 ≢ 123 = omega arith in
    rw c.no_map.ensures
    (reads_scalar _ _ _ _ no_list no_map (ap end_of (sym c.in_ok-end-in_default.ensures.ok_part) ∙ c.scalar.ensures))

pub pair-returns-in_err-middle : goal.pair-returns-in_err-middle
pair-returns-in_err-middle t c =
    let p = err_from_is_err_and c.from_residual.result c.from_residual.ensures.1 in
    let none = c.in_err-middle.ensures.ok_part in
    let told = rw none at c.in_err-middle.ensures.value in
    let is : c.in_err-middle.field-0.0 ≡ BadYson c.args.at = cc in
    rw (p.1, p.2, is) (pair_no_key _ _ _ (ap end_of (sym none) ∙ c.key.ensures))

pub pair-returns-then-byte_at-ne61 : goal.pair-returns-then-byte_at-ne61
pair-returns-then-byte_at-ne61 t c =
    pair_no_equals _ _ _ _ (ap end_of (sym c.in_ok-middle.ensures.ok_part) ∙ c.key.ensures)
    (λ e. c.if-byte_at-ne61.true (c.byte_at.ensures ∙ e))

pub pair-returns-in_err-end : goal.pair-returns-in_err-end
pair-returns-in_err-end t c =
    let p = err_from_is_err_and c.from_residual-in_err-end.result c.from_residual-in_err-end.ensures.1 in
    rw (p.1, p.2)
    (pair_fails _ _ _ _ (ap end_of (sym c.in_ok-middle.ensures.ok_part) ∙ c.key.ensures)
    (sym c.byte_at.ensures ∙ c.if-byte_at-ne61.false) _ c.in_err-end.ensures)

pub pair-returns : goal.pair-returns
pair-returns t c =
    pair_ends _ _ _ _ (ap end_of (sym c.in_ok-middle.ensures.ok_part) ∙ c.key.ensures)
    (sym c.byte_at.ensures ∙ c.if-byte_at-ne61.false) _ c.in_ok-end.ensures

pub pairs-loop-start-init : goal.pairs-loop-start-init
pairs-loop-start-init t c = passed_none _ (keyed c.args.close) _ c.args.start

pub pairs-returns-then-byte_at-close : goal.pairs-returns-then-byte_at-close
pairs-returns-then-byte_at-close t c =
    items_end _ (keyed c.args.close) _ _ _ _ c.loop-start.invariant _ (keyed_at c.args.close c.args.start)
    (sym c.byte_at.ensures ∙ c.if-byte_at-close.true ∙ sym c.requires)

pub pairs-returns-then-mark-close : goal.pairs-returns-then-mark-close
pairs-returns-then-mark-close t c =
    items_last _ (keyed c.args.close) _ _ _ _ c.loop-start.invariant _
    (paired_ends _ _ _ (keyed c.args.close) (keyed_paired c.args.close)
    (λ e. c.if-byte_at-close.false (c.byte_at.ensures ∙ e ∙ c.requires)) _ c.in_ok-end.ensures)
    _ 1 (keyed_at c.args.close c.args.start) (keyed_weight c.args.close c.args.s.now)
    (sym c.byte_at-mark.ensures ∙ c.if-mark-close.true ∙ sym c.requires)

pub pairs-returns-then-mark-ne59 : goal.pairs-returns-then-mark-ne59
pairs-returns-then-mark-ne59 t c =
    items_bad _ (keyed c.args.close) _ _ _ _ c.loop-start.invariant _
    (paired_ends _ _ _ (keyed c.args.close) (keyed_paired c.args.close)
    (λ e. c.if-byte_at-close.false (c.byte_at.ensures ∙ e ∙ c.requires)) _ c.in_ok-end.ensures)
    (λ e. c.if-mark-close.false (c.byte_at-mark.ensures ∙ e ∙ c.requires))
    (λ e. c.if-mark-ne59.true (c.byte_at-mark.ensures ∙ e))

pub pairs-loop-start-preserved : goal.pairs-loop-start-preserved
pairs-loop-start-preserved t c =
    items_more _ (keyed c.args.close) _ _ _ _ c.loop-start.invariant _
    (paired_ends _ _ _ (keyed c.args.close) (keyed_paired c.args.close)
    (λ e. c.if-byte_at-close.false (c.byte_at.ensures ∙ e ∙ c.requires)) _ c.in_ok-end.ensures)
    1 (keyed_weight c.args.close c.args.s.now) (omega arith) (sym c.byte_at-mark.ensures ∙ c.if-mark-ne59.false)
