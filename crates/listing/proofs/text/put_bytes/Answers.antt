-- `text::put_bytes` meets its contract: the bytes over the tail's front. Assumes nothing.
use mathlib.Core.Path.{refl}
use Rattle.listing.proofs.TextLaws.{wrote_tail}
use Rattle.listing.proofs.text.put_bytes.Goals as goal

pub returns : goal.returns
returns c = let start = c in
    record { ends = refl; holds = wrote_tail start.args.bytes.now start.args.out.now c.write_bytes.new.out start.args.at start.requires c.write_bytes.ensures }
