use Rattle.std.proofs.Common.{sym, ◌∙◌}
use Rattle.std.specs.Prelude.{option_map}
use Rattle.cd_plain.proofs.LeftOut.{other_value, null_value}
use Rattle.cd_plain.proofs.printing.is_left_out.Goals as goal

pub returns-in-Null : goal.returns-in-Null
returns-in-Null c = null_value (λ n. n.now) c.args.names c.args.part.now (sym c.is_some.ensures ∙ c.if-is_some.true) c.in-Null.is

pub returns-in_default : goal.returns-in_default
returns-in_default c = other_value (option_map (λ n. n.now) c.args.names) c.args.part.now c.in_default.not-Null
