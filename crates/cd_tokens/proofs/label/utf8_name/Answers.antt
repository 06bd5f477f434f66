use Rattle.cd_tokens.proofs.Labels.{name_utf8}
use Rattle.cd_tokens.proofs.label.utf8_name.Goals as goal

pub unreachable-requires : goal.unreachable-requires
unreachable-requires c = c.in-Err.ensures.cases.0 (name_utf8 c.args.name.now c.requires)
