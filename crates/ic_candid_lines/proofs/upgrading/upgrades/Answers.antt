use Rattle.ic_candid_lines.proofs.Verdicts.{answer_is}
use Rattle.ic_candid_lines.proofs.upgrading.upgrades.Goals as goal

pub returns : goal.returns
returns c = answer_is c.decided.ensures c.args.old.now c.args.new.now c.upgradable.result c.upgradable.ensures
