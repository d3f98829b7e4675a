-- `pack_linked` meets its contract: all is linked, and taken out, or copied and moved. Assumes nothing.
use native.Mathlib.Omega.{arith}
use Rattle.pack.proofs.PackLaws.{spare, refused, movable, copy_requires, done}
use Rattle.pack.proofs.pack_linked.Goals as goal

pub link_all-sum-requires : goal.link_all-sum-requires
link_all-sum-requires c =
    spare c.args.area.now c.args.values.now c.requires

pub returns-then-out-sum : goal.returns-then-out-sum
returns-then-out-sum c =
    let link-all = c.link_all-sum in
    refused c.args.area.now c.args.values.now c.requires c.args.out.now link-all.new.values link-all.result link-all.ensures c.if-out-sum.true _ c.unlink_all.ensures

pub copy_all-requires : goal.copy_all-requires
copy_all-requires c =
    let link-all = c.link_all-sum in
    let asks = copy_requires c.args.area.now c.args.values.now c.requires c.args.out.now link-all.new.values link-all.result link-all.ensures c.if-out-sum.false (omega (arith, c.well_formed)) in
    record { movable = asks.0; inside = asks.1.0; values_in_bounds = asks.1.1 }

pub move_all-requires : goal.move_all-requires
move_all-requires c =
    let link-all = c.link_all-sum in
    movable c.args.area.now c.args.values.now c.requires c.args.out.now link-all.new.values link-all.result link-all.ensures c.if-out-sum.false (omega (arith, c.well_formed))

pub returns : goal.returns
returns c =
    let link-all = c.link_all-sum in
    done c.args.area.now c.args.values.now c.requires c.args.out.now link-all.new.values link-all.result link-all.ensures c.if-out-sum.false (omega (arith, c.well_formed)) _ _ c.move_all.ensures c.copy_all.ensures
