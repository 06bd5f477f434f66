-- What comes of a delivery, as changes of a world's parts. No standard has this.
use Rattle.std.specs.Prelude.{◌≡◌, ℕ, ◌+◌, List}
use Rattle.std.specs.Map.{set_value}
use Rattle.ic_behaviour.specs.declared.call.Origin.{Origin}
use Rattle.ic_behaviour.specs.declared.call.Message.{Message}
use Rattle.ic_behaviour.specs.declared.call.Message.TheVariants.{Call, Answer}
use Rattle.ic_behaviour.specs.declared.env.Env.{Env}
use Rattle.ic_behaviour.specs.State.{at}
use Rattle.ic_behaviour.specs.Texts.{no_canister}
use Rattle.ic_behaviour.specs.Entry.{enters_by}
use Rattle.ic_behaviour.specs.Local.{local}
use Rattle.ic_api.specs.System.{system_api}
use Rattle.ic_state.specs.declared.canister.Canister.{Canister}
use Rattle.ic_state.specs.declared.world.Parts.{Parts}
use Rattle.ic_state.specs.Seen.{seen}
use Rattle.ic_state.specs.IsCanister.{IsCanister}
use Rattle.ic_calls.specs.Sent.{answered_in, sent_from}
use Rattle.ic_exec.specs.declared.work.Done.{Done}
use Rattle.ic_exec.specs.Executed.{done_of}

-- ---- to a canister

-- what a message used is paid, and what it sent goes where it belongs
abbrev pub with_sent : (sender : List ℕ) → Done → Parts → Parts
with_sent sender d p = sent_from sender d.calls d.answers (record p { burned = p.burned + d.burned })

-- the canister with this id has handled the message, no other canister has changed, and what it sent has gone on
pub record HasHandled (env : Env) (id : List ℕ) (c : Canister) (m : Message) (p q : Parts) : Type 0 where
  pub after : Canister
  pub done : Done
  pub handled : done_of after done ≡ local (enters_by system_api) env (seen c) m
  pub keeps : IsCanister after
  pub entries : q.canisters.entries ≡ set_value (at id) p.canisters.entries after
  pub sent : q ≡ with_sent id done (record p { canisters = q.canisters })

-- ---- to no canister

-- a call goes back with all its cycles
abbrev pub sent_back_in : (callee : List ℕ) → Origin → (cycles : ℕ) → Parts → Parts
sent_back_in callee from cycles p = answered_in callee (record { origin = from; response = no_canister callee; refund = cycles }) p

-- an answer is dropped, but no sound state has one whose caller is not there
abbrev pub refused_in : (callee : List ℕ) → Message → Parts → Parts
refused_in callee (Call from sender to method arg cycles) p = sent_back_in callee from cycles p
refused_in callee (Answer from sender response refund) p = p
