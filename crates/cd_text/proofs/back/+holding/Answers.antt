use Rattle.cd_text.proofs.Bytes.{value_held, field_held}
use Rattle.cd_text.proofs.back.+holding.Goals as goal

pub hold_bytes-loop-value-preserved : goal.hold_bytes-loop-value-preserved
hold_bytes-loop-value-preserved t c = value_held c.args.values.now c.loop-value.value-index c.value-item.result c.loop-value-test.true c.value-item.is c.loop-value.invariant c.holds_bytes.ensures

pub fields_hold_bytes-loop-value-preserved : goal.fields_hold_bytes-loop-value-preserved
fields_hold_bytes-loop-value-preserved t c = field_held c.args.fields.now c.loop-value.value-index c.loop-value-item.result c.loop-value-test.true c.loop-value-item.is c.loop-value.invariant c.holds_bytes.ensures
