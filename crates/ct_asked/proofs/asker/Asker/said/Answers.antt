use Rattle.std.proofs.Common.{sym, subst}
use Rattle.ic_script.specs.declared.Ask.{Ask}
use Rattle.ct_check.specs.declared.checked.CheckedMessage.{CheckedMessage}
use Rattle.ct_outcomes.specs.Types.{types_at}
use Rattle.ct_asked.specs.Asked.{IsMessage}
use Rattle.ct_asked.proofs.Said.{message_argument}
use Rattle.ct_asked.proofs.asker.Asker.said.Goals as goal

pub returns-in_default-2 : goal.returns-in_default-2
returns-in_default-2 c =
    subst (λ (message : CheckedMessage). (ask : Ask) → IsMessage c.args.self.now c.args.names.now c.args.by message ask → ⊥) c.message.view_is
    (message_argument c.args.self.now c.args.names.now c.args.by _ (types_at c.in-Some.at) (sym c.in-Some.ensures) (c.in_ok-arg.ensures.only c.in_default-2.is))
