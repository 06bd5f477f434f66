use Rattle.std.proofs.Common.{arith}
use Rattle.std.proofs.lemmas.Grind.{common_steps}
use Rattle.ic_principal.proofs.PrincipalLaws.{found_text, found_principal, found_none}
use Rattle.ic_principal.proofs.principal.Principal.from_text.Goals as goal

pub returns-clause-text : goal.returns-clause-text
returns-clause-text c = found_text c.args.text.now c.ok_or.result (grind (arith, common_steps))

pub returns-clause-found : goal.returns-clause-found
returns-clause-found c = found_principal c.args.text.now c.ok_or.result (grind (arith, common_steps))

pub returns-clause-none : goal.returns-clause-none
returns-clause-none c = found_none c.args.text.now c.ok_or.result (grind (arith, common_steps))
