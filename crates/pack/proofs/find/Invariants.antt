-- What is sought lies ahead of the word at which the search stands.
use lib.ListN.{length}
use Rattle.pack_links.proofs.LinkLaws.{Walking, left}
use Rattle.pack.proofs.find.Given as goal

abbrev pub invariant-loop-link : goal.invariant-loop-link
invariant-loop-link l = Walking l.values l.i l.head l.slot l.x l.y l.link

abbrev pub decreases-loop-link : goal.decreases-loop-link
decreases-loop-link l = left (length l.values) l.link
