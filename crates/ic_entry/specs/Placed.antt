-- A canister gets code, without any of its entry points being run. No standard has this.
use Rattle.std.specs.Prelude.{Option, Some, None}
use Rattle.wm_store.specs.Lists.{Lists}
use Rattle.ic_behaviour.specs.State.{Code}
use Rattle.ic_behaviour.specs.Counted.{CountedCanister}

-- with the store of the module's instance; where there is none, nothing changes
abbrev pub with_code : Code → Option Lists → CountedCanister → CountedCanister
with_code code None c = c
with_code code (Some store) c = record c { code = Some code; store = store }
