-- The System API as the host of a canister's code (IC Interface Specification, "Abstract Canisters to System API").
use Rattle.ic_behaviour.specs.Entry.{SystemApi}
use Rattle.ic_api.specs.Running.{Running, starting, api_reply}
use Rattle.ic_api.specs.Effects.{effects_of}

abbrev pub system_api : SystemApi Running
system_api = record { reply = api_reply; begin = starting; effects = effects_of }
