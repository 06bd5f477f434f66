-- What callers are told whose calls a method of the management canister ends. The texts are a profile of this project.
use Rattle.std.specs.Prelude.{codes}
use Rattle.ic_behaviour.specs.declared.call.Response.{Response}
use Rattle.ic_behaviour.specs.declared.call.Response.TheVariants.{Reject}

-- the context's canister has no code any more
abbrev pub uninstalled : Response
uninstalled = Reject 4 (codes "canister has been uninstalled")

-- the canister was to stop, and runs again
abbrev pub restarted : Response
restarted = Reject 4 (codes "canister has been restarted")
