use Rattle.std.proofs.Common.{Some, sym, ◌∙◌}
use Rattle.std.proofs.lemmas.List.{map-set}
use Rattle.cd_text.proofs.Slots.{free_slot}
use Rattle.cd_text.specs.ReadSaid.{slot_view}
use Rattle.cd_text.proofs.fields.put.Goals as goal

pub returns-clause-free : goal.returns-clause-free
returns-clause-free c = λ h. (free_slot c.args.slots.now.items c.args.place c.index.result.now c.requires c.index.ensures (sym c.is_some.ensures ∙ c.if-is_some.false), map-set slot_view c.args.slots.now.items c.args.place (Some c.args.value))
