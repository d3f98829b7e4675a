-- `look` meets its contract. Assumes nothing.
use mathlib.Core.Path.{sym, ◌∙◌}
use Prim.Native.Nat.{◌+◌, ◌*◌, ◌/◌}
use native.Mathlib.Omega.{arith}
use lib.ListN.{length, get_or}
use Rattle.pack_links.proofs.TableLaws.{bucket_over, bucket_within, looks}
use Rattle.wire.specs.Layout.{entry_words}
use Rattle.pack.proofs.look.Goals as goal

pub find-requires : goal.find-requires
find-requires c =
    let h = c.requires.0 in
    let n = length c.args.values.now in
    (h, rw c.bucket_word-head.ensures (bucket_over _ _ _), rw c.bucket_word-head.ensures (omega (arith, h, bucket_within (get_or c.args.values.now (entry_words * c.args.i + 3) 0) (get_or c.args.values.now (entry_words * c.args.i + 4) 0) (n / entry_words) (omega (arith, h)))), c.requires.2)

pub returns-then-is_stored : goal.returns-then-is_stored
returns-then-is_stored c =
    looks c.args.values.now c.args.i _ c.find.result c.bucket_word-head.ensures (sym c.is_stored.ensures ∙ c.if-is_stored.true) c.find.ensures

pub returns : goal.returns
returns c = sym c.is_stored.ensures ∙ c.if-is_stored.false
