-- The id is written where there is the room. Assumes nothing.
use Rattle.face_ids.proofs.OutcomeLaws.{id_fits}
use Rattle.face_ids.proofs.write_id.Goals as goal

pub returns : goal.returns
returns c = id_fits c.args.id c.args.out.now c.if-out-lt16.false c.taken.ensures c.write.ensures
