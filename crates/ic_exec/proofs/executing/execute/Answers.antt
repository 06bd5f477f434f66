use Rattle.std.proofs.Common.{◌≡◌, true, ap, sym, ◌∙◌, subst}
use Rattle.std.specs.Option.{is_some}
use Rattle.ic_behaviour.specs.Closing.{Handled}
use Rattle.ic_behaviour.specs.Entry.{enters_by}
use Rattle.ic_behaviour.proofs.Weights.{each-map}
use Rattle.ic_state.specs.declared.canister.Canister.{Canister}
use Rattle.ic_state.specs.Seen.{seen}
use Rattle.ic_state.specs.IsCanister.{IsContext}
use Rattle.ic_run_laws.specs.TrapKeeps.{TrapKeeps}
use Rattle.ic_run_laws.proofs.Trapped.{trap_keeps}
use Rattle.ic_api.specs.System.{system_api}
use Rattle.ic_exec.proofs.Conserves.{Settled, handled_cycles, conserves}
use Rattle.ic_exec.proofs.Burned.{Burns, burns}
use Rattle.ic_exec.proofs.executing.execute.Goals as goal

pub returns-in-Ok-clause-conserved : goal.returns-in-Ok-clause-conserved
returns-in-Ok-clause-conserved c =
    let a : Canister = c.args.canister in
    ap handled_cycles (rw c.of.ensures at c.in-Ok.ensures.done)
    ∙ conserves (enters_by system_api) c.args.env c.entries_are_lawful.ensures (seen a) (each-map IsContext Settled (λ x h. h.answered) a.contexts c.requires.keeps.contexts) c.args.message c.requires.expected

pub returns-in-Ok-clause-trapped : goal.returns-in-Ok-clause-trapped
returns-in-Ok-clause-trapped c =
    let a : Canister = c.args.canister in
    subst (λ (h : Handled). is_some h.trapped ≡ true → TrapKeeps (enters_by system_api) c.args.env (seen a) c.args.message h) (sym (rw c.of.ensures at c.in-Ok.ensures.done))
    (trap_keeps (enters_by system_api) c.args.env (seen a) c.args.message)

pub returns-in-Ok-clause-burned : goal.returns-in-Ok-clause-burned
returns-in-Ok-clause-burned c =
    let a : Canister = c.args.canister in
    subst (Burns c.args.env.price) (sym (rw c.of.ensures at c.in-Ok.ensures.done)) (burns (enters_by system_api) c.args.env (seen a) c.args.message)

pub returns-in-Ok-clause-handled : goal.returns-in-Ok-clause-handled
returns-in-Ok-clause-handled c = rw c.of.ensures at c.in-Ok.ensures.done
