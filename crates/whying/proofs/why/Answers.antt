-- `why` meets its contract: too long, a packet, a rowset, or neither. Assumes nothing.
use mathlib.Core.Path.{sym, ◌∙◌}
use native.Mathlib.Omega.{arith}
use Rattle.words.specs.Text.{text}
use Rattle.whying.proofs.OutputLaws.{starts_long, too_long, is_packet, is_rowset, is_neither}
use Rattle.whying.proofs.why.Goals as goal

pub returns-then-input : goal.returns-then-input
returns-then-input c =
    let a = c.args in
    let line = c.bad_input in
    record { whys = too_long a.input.now a.out.now line.result _ c.if-input.true line.ensures.writes; fits = line.ensures.fits }

pub slice_bounds-explain-count : goal.slice_bounds-explain-count
slice_bounds-explain-count c =
    let a = c.args in
    omega (arith, starts_long (text "packet\n") a.input.now (sym c.begins.ensures ∙ c.if-begins.true))

pub slice_bounds-explain-start : goal.slice_bounds-explain-start
slice_bounds-explain-start c =
    let a = c.args in
    omega (arith, starts_long (text "packet\n") a.input.now (sym c.begins.ensures ∙ c.if-begins.true))

pub returns-then-begins : goal.returns-then-begins
returns-then-begins c =
    let explain = c.explain in
    let a = c.args in
    let line = c.write in
    record { whys = is_packet a.input.now a.out.now line.result _ c.if-input.false (sym c.if-begins.true ∙ c.begins.ensures) explain.result explain.ensures line.ensures.writes_line; fits = line.ensures.fits }

pub slice_bounds-explain-count-then-begins-2 : goal.slice_bounds-explain-count-then-begins-2
slice_bounds-explain-count-then-begins-2 c =
    let a = c.args in
    omega (arith, starts_long (text "rowset\n") a.input.now (sym c.begins-2.ensures ∙ c.if-begins-2.true))

pub slice_bounds-explain-start-then-begins-2 : goal.slice_bounds-explain-start-then-begins-2
slice_bounds-explain-start-then-begins-2 c =
    let a = c.args in
    omega (arith, starts_long (text "rowset\n") a.input.now (sym c.begins-2.ensures ∙ c.if-begins-2.true))

pub returns-then-begins-2 : goal.returns-then-begins-2
returns-then-begins-2 c =
    let explain2 = c.explain-then-begins-2 in
    let a = c.args in
    let line = c.write-then-begins-2 in
    record { whys = is_rowset a.input.now a.out.now line.result _ c.if-input.false (sym c.if-begins.false ∙ c.begins.ensures) (sym c.if-begins-2.true ∙ c.begins-2.ensures) explain2.result explain2.ensures line.ensures.writes_line; fits = line.ensures.fits }

pub returns : goal.returns
returns c =
    let a = c.args in
    let line = c.bad_input-2 in
    record { whys = is_neither a.input.now a.out.now line.result _ c.if-input.false (sym c.if-begins.false ∙ c.begins.ensures) (sym c.if-begins-2.false ∙ c.begins-2.ensures) line.ensures.writes; fits = line.ensures.fits }
