use Rattle.std.proofs.Common.{◌∙◌, arith, rules}
use Rattle.ic_principal.specs.CanisterId.{canister_id_of}
use Rattle.ic_principal.proofs.CanisterIdLaws.{same_counter}
use Rattle.ic_principal.proofs.principal.Principal.canister_id.Goals as goal

pub returns-clause-id : goal.returns-clause-id
unfolding canister_id_of
returns-clause-id c = search rules

pub returns-clause-distinct : goal.returns-clause-distinct
returns-clause-distinct c other h e = same_counter other c.args.counter h (omega arith) (e ∙ returns-clause-id c)
