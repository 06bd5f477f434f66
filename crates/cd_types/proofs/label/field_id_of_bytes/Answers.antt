use Rattle.cd_types.proofs.LabelSum.{next_id}
use Rattle.cd_types.proofs.label.field_id_of_bytes.Goals as goal

pub loop-byte-preserved : goal.loop-byte-preserved
loop-byte-preserved c = next_id c.args.name.now c.loop-byte.byte-index c.loop-byte.id c.loop-byte-test.true c.loop-byte.invariant
