-- The words before k are without their links.
use Rattle.pack_links.specs.Statement.{plain_word}
use Rattle.pack_links.proofs.TurnLaws.{Turned}
use Rattle.pack_links.proofs.unlink_all.Given as goal

abbrev pub invariant-loop-k : goal.invariant-loop-k
invariant-loop-k l = Turned (plain_word l.initial.values) l.initial.values l.values l.k
