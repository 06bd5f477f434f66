use Rattle.ct_patterns.proofs.Layers.{list_layer, record_layer}
use Rattle.ct_patterns.proofs.layer.layer_of_value.Goals as goal

pub returns-in-Seq : goal.returns-in-Seq
returns-in-Seq c = list_layer c.args.value.now c.in-Seq.values.items _ c.in-Seq.is c.deref-in-Seq.ensures.value

pub returns-in-Rec : goal.returns-in-Rec
returns-in-Rec c = record_layer c.args.value.now c.in-Rec.fields.items _ c.in-Rec.is c.deref-in-Rec.ensures.value
