-- `bucket_word` meets its contract. Assumes nothing.
use mathlib.Core.Path.{refl}
use Prim.Native.Nat.{◌+◌, ◌/◌, ◌%◌}
use native.Mathlib.Nat.{mod-lt}
use native.Mathlib.Omega.{arith}
use Rattle.pack_links.specs.Stages.{block_start, bucket}
use Rattle.pack.proofs.bucket_word.Goals as goal

pub overflow_mul-result : goal.overflow_mul-result
overflow_mul-result c = omega (arith, mod-lt (block_start c.args.offset + c.args.offset / 16 + c.args.length % 65536) c.requires.0)

pub returns : goal.returns
unfolding bucket
returns c = refl
