-- Calls to the management canister (IC Interface Specification, "The IC management canister").
use Rattle.std.specs.Prelude.{◌≡◌, true}
use Rattle.ic_behaviour.specs.declared.call.Message.{Message}
use Rattle.ic_behaviour.specs.declared.call.Message.TheVariants.{Call, Answer}
use Rattle.ic_behaviour.specs.Deliver.{is_management}

abbrev pub IsToManagement : Message → Type 0
IsToManagement (Call from sender callee method arg cycles) = is_management callee ≡ true
IsToManagement (Answer from sender response refund) = ⊥
