use Rattle.ct_asked.specs.Requests.{Code}
use Rattle.ct_asked.specs.Asked.{IsCode}
use Rattle.ct_asked.proofs.Said.{creation_code}
use Rattle.ct_asked.proofs.asker.Asker.creation.Goals as goal

pub returns-in-None : goal.returns-in-None
returns-in-None c =
    let none : (code : Code) → IsCode c.args.self.now c.args.names.now c.args.creation.now.wasm c.args.creation.now.interface c.args.creation.now.arguments code → ⊥ = rw c.in-None.is at c.in_ok-code.ensures in
    creation_code c.args.self.now c.args.names.now c.args.by c.args.creation.now none
