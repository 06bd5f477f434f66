use Rattle.std.proofs.Common.{inl, inr}
use Rattle.std.proofs.lemmas.Bool.{cases_Bool}
use Rattle.ic_behaviour.specs.Installing.{enters_after}
use Rattle.ic_api.specs.System.{system_api}
use Rattle.ic_mgmt_laws.specs.Manage.{manage}
use Rattle.ic_schedule.specs.Delivery.{is_managed}
use Rattle.ct_worlds.proofs.delivering.delivered.Goals as goal

pub returns : goal.returns
returns c =
    elim (cases_Bool (is_managed c.args.world c.args.place)) [
      | inl is ↦ c.in_ok-after.ensures.managed is c.args.charge.price
      | inr is ↦ c.in_ok-after.ensures.other is (manage (enters_after system_api))
    ]
