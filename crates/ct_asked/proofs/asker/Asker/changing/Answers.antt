use Rattle.ct_asked.specs.Requests.{Code}
use Rattle.ct_asked.specs.Asked.{IsCode}
use Rattle.ct_asked.proofs.Said.{change_code}
use Rattle.ct_asked.proofs.asker.Asker.changing.Goals as goal

pub returns-in-None : goal.returns-in-None
returns-in-None c =
    let none : (code : Code) → IsCode c.args.self.now c.args.names.now c.args.change.now.wasm c.args.change.now.interface c.args.change.now.arguments code → ⊥ = rw c.in-None.is at c.in_ok-code.ensures in
    change_code c.args.self.now c.args.names.now c.args.by c.args.mode c.args.change.now none
