-- `write::write_head` meets its contract: the digits, then three or two bytes. Assumes nothing.
use native.Mathlib.Omega.{arith}
use lib.ListN.{length-set}
use Rattle.text_write.proofs.PutLaws.{colon_within, sign_within, signed_puts, plain_puts}
use Rattle.text_write.proofs.write.write_head.Goals as goal

pub bounds-out-colon : goal.bounds-out-colon
bounds-out-colon c =
    let start = c in
    omega (arith, colon_within start.args.id start.args.aggregate start.args.mark start.args.out.now start.requires c.write_decimal-colon.result c.write_decimal-colon.ensures.0 c.write_decimal-colon.new.out c.write_decimal-colon.ensures.1)

pub overflow_add-out : goal.overflow_add-out
overflow_add-out c =
    let start = c in
    let write-decimal = c.write_decimal-colon in
    omega (arith, colon_within start.args.id start.args.aggregate start.args.mark start.args.out.now start.requires write-decimal.result write-decimal.ensures.0 write-decimal.new.out write-decimal.ensures.1, start.well_formed)

pub bounds-out-colon-then-aggregate-eq0 : goal.bounds-out-colon-then-aggregate-eq0
bounds-out-colon-then-aggregate-eq0 c =
    let start = c in
    let write-decimal = c.write_decimal-colon in
    simp length-set (omega (arith, colon_within start.args.id start.args.aggregate start.args.mark start.args.out.now start.requires write-decimal.result write-decimal.ensures.0 write-decimal.new.out write-decimal.ensures.1))

pub overflow_add-result : goal.overflow_add-result
overflow_add-result c =
    let start = c in
    let write-decimal = c.write_decimal-colon in
    omega (arith, colon_within start.args.id start.args.aggregate start.args.mark start.args.out.now start.requires write-decimal.result write-decimal.ensures.0 write-decimal.new.out write-decimal.ensures.1, start.well_formed)

pub returns-then-aggregate-eq0 : goal.returns-then-aggregate-eq0
returns-then-aggregate-eq0 c =
    let start = c in
    let write-decimal = c.write_decimal-colon in
    plain_puts start.args.id start.args.aggregate start.args.mark start.args.out.now start.requires write-decimal.result write-decimal.ensures.0 write-decimal.new.out write-decimal.ensures.1 c.if-aggregate-eq0.true

pub overflow_add-out-2 : goal.overflow_add-out-2
overflow_add-out-2 c =
    let start = c in
    let write-decimal = c.write_decimal-colon in
    omega (arith, colon_within start.args.id start.args.aggregate start.args.mark start.args.out.now start.requires write-decimal.result write-decimal.ensures.0 write-decimal.new.out write-decimal.ensures.1, start.well_formed)

pub bounds-out-colon-2 : goal.bounds-out-colon-2
bounds-out-colon-2 c =
    let start = c in
    let write-decimal = c.write_decimal-colon in
    simp length-set (omega (arith, colon_within start.args.id start.args.aggregate start.args.mark start.args.out.now start.requires write-decimal.result write-decimal.ensures.0 write-decimal.new.out write-decimal.ensures.1))

pub overflow_add-out-3 : goal.overflow_add-out-3
overflow_add-out-3 c =
    let start = c in
    let write-decimal = c.write_decimal-colon in
    omega (arith, sign_within start.args.id start.args.aggregate start.args.mark start.args.out.now start.requires write-decimal.result write-decimal.ensures.0 write-decimal.new.out write-decimal.ensures.1 c.if-aggregate-eq0.false, start.well_formed)

pub bounds-out-colon-3 : goal.bounds-out-colon-3
bounds-out-colon-3 c =
    let start = c in
    let write-decimal = c.write_decimal-colon in
    simp length-set (omega (arith, sign_within start.args.id start.args.aggregate start.args.mark start.args.out.now start.requires write-decimal.result write-decimal.ensures.0 write-decimal.new.out write-decimal.ensures.1 c.if-aggregate-eq0.false))

pub overflow_add-result-2 : goal.overflow_add-result-2
overflow_add-result-2 c =
    let start = c in
    let write-decimal = c.write_decimal-colon in
    omega (arith, sign_within start.args.id start.args.aggregate start.args.mark start.args.out.now start.requires write-decimal.result write-decimal.ensures.0 write-decimal.new.out write-decimal.ensures.1 c.if-aggregate-eq0.false, start.well_formed)

pub returns : goal.returns
returns c =
    let start = c in
    let write-decimal = c.write_decimal-colon in
    signed_puts start.args.id start.args.aggregate start.args.mark start.args.out.now start.requires write-decimal.result write-decimal.ensures.0 write-decimal.new.out write-decimal.ensures.1 c.if-aggregate-eq0.false
