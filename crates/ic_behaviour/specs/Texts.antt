-- The reject codes and texts that a caller is told (IC Interface Specification, "Reject codes"). Which code stands for what, and the texts, are a profile of this project.
use Rattle.std.specs.Prelude.{ℕ, List, ◌++◌, codes}
use Rattle.ic_principal.specs.Text.{text_of as principal_text}
use Rattle.wm_semantics.specs.declared.trap.Trap.{Trap}
use Rattle.wm_semantics.specs.Texts.{text_of as trap_text}
use Rattle.ic_behaviour.specs.declared.call.Response.{Response}
use Rattle.ic_behaviour.specs.declared.call.Response.TheVariants.{Reject}
use Rattle.ic_behaviour.specs.declared.env.Refusal.{Refusal}
use Rattle.ic_behaviour.specs.declared.env.Refusal.TheVariants.{NotRunning, NoModule, NoMethod}

-- no canister has the callee's id
abbrev pub no_canister : List ℕ → Response
no_canister callee = Reject 3 (codes "no canister " ++ principal_text callee)

abbrev pub refusal_text : Refusal → List ℕ
refusal_text NotRunning = codes "canister is not running"
refusal_text NoModule = codes "canister has no module"
refusal_text NoMethod = codes "canister has no such method"

abbrev pub refuses : Refusal → Response
refuses refusal = Reject 5 (refusal_text refusal)

-- the balance is below the price of all instructions that the limit allows
abbrev pub out_of_cycles : Response
out_of_cycles = Reject 2 (codes "canister out of cycles")

-- the context has no answer, and awaits none
abbrev pub no_response : Response
no_response = Reject 5 (codes "canister did not respond")

abbrev pub trapped_by : Trap → Response
trapped_by cause = Reject 5 (codes "canister trapped: " ++ trap_text cause)
