use Rattle.std.proofs.Common.{◌≡◌, ◌↔◌, List, IfOk, true, subst}
use Rattle.cd_types.specs.declared.entry.Entry.{Entry}
use Rattle.cd_sub.specs.Sub.{Sub}
use Rattle.cd_sub.proofs.subtyping.subtype.Goals as goal

pub returns-clause-answer : goal.returns-clause-answer
returns-clause-answer c =
    subst (λ (t : List Entry × List Entry). IfOk c.is_subtype.result (λ yes. (yes ≡ true) ↔ Sub t.0 c.args.a t.1 c.args.b)) c.new.ensures c.is_subtype.ensures.answer
