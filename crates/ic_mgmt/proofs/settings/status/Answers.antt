use Rattle.std.proofs.Common.{ap, sym, ◌∙◌}
use Rattle.std.specs.Prelude.{Ok}
use Rattle.ic_behaviour.specs.declared.call.Response.TheVariants.{Reply}
use Rattle.ic_behaviour.specs.Counted.{dropped}
use Rattle.ic_state.specs.Seen.{seen}
use Rattle.ic_mgmt_laws.specs.Moves.{replied}
use Rattle.ic_mgmt.specs.Ending.{ended_by}
use Rattle.ic_mgmt.proofs.Sends.{with_same, answers_only}
use Rattle.ic_mgmt.proofs.Rows.{status_is}
use Rattle.ic_mgmt.proofs.settings.status.Goals as goal

pub returns-clause-does : goal.returns-clause-does
returns-clause-does c = λ now s stands.
    let call = c.args.call.now in
    let a = dropped (seen c.args.canister.now) in
    let told = status_is call c.args.id c.args.canister.now c.args.canister.now c.module_hash-hash.result c.memory_size-memory.result c.in_ok-told.told c.module_hash-hash.ensures c.memory_size-memory.ensures c.in_ok-told.ensures in
    ap Ok (
    ap (λ r. replied call (Reply r) s) (sym told)
    ∙ answers_only call c.replied.result (Reply c.in_ok-told.told) call.cycles c.replied.ensures s
    ∙ ap (ended_by call c.replied.result) (sym (with_same s c.args.id a stands.found))
    )
