use Rattle.std.proofs.Common.{◌∙◌, ◌∷◌, [], ap, rules}
use Rattle.clap.specs.Words.{Rule, rule_of}
use Rattle.ic_options.proofs.number_or.Goals as goal

pub returns : goal.returns
returns c = record {
  rule = ap rule_of c.default_value.ensures ∙ ap (λ (r : Rule). record r { defaults = c.args.default.now ∷ [] }) c.number.ensures.rule;
  local = search rules;
}
