use Rattle.std.proofs.Common.{List, ℕ, subst}
use Rattle.ct_sources.specs.Files.{Files}
use Rattle.ct_asked.specs.Requests.{Code}
use Rattle.ct_asked.specs.Asked.{IsCreation}
use Rattle.ct_run.proofs.Steps.{none_made}
use Rattle.ct_run.proofs.runner.Runner.made.Goals as goal

pub returns-in-None : goal.returns-in-None
returns-in-None g c =
    let none = rw c.in-None.is at c.in_ok-creation.ensures in
    let Never = λ (files : Files). (maker : List ℕ × Code) → IsCreation files c.args.names.now c.args.by c.args.creation.now maker → ⊥ in
    none_made c.args.self.now c.args.world c.args.names.now c.args.by c.args.creation.now (subst Never c.asker.ensures none)
