-- The management canister keeps the calls, and what a run asks of it.
use Rattle.std.proofs.Common.{◌≡◌, ℕ, true, List, slice_get, Some, Result, Ok, Err}
use Rattle.ic_behaviour.specs.declared.call.Origin.{Origin}
use Rattle.ic_behaviour.specs.declared.call.Message.TheVariants.{Call}
use Rattle.ic_behaviour.specs.State.{State}
use Rattle.ic_behaviour.specs.Sound.{Sound}
use Rattle.ic_behaviour.specs.Deliver.{without}
use Rattle.ic_behaviour.specs.Installing.{EntersAfter}
use Rattle.ic_behaviour.proofs.Ties.{tallied}
use Rattle.ic_run_laws.specs.Advances.{OutsideKeeps}
use Rattle.ic_mgmt_candid.specs.declared.denial.Denial.{Denial}
use Rattle.ic_mgmt_candid.specs.Checks.{ordered}
use Rattle.ic_mgmt_candid.specs.Denials.{denies}
use Rattle.ic_mgmt_laws.specs.KeepsCalls.{KeepsCalls}
use Rattle.ic_mgmt_laws.specs.Moves.{with_call}
use Rattle.ic_behaviour.specs.declared.call.IncomingCall.{IncomingCall}
use Rattle.ic_mgmt_laws.specs.Rows.{row}
use Rattle.ic_mgmt_laws.specs.Manage.{controllers_in, ended, manage}
use Rattle.ic_mgmt_laws.proofs.Arrives.{advances}
use Rattle.ic_mgmt_laws.proofs.Rows.{Keeps, keeps_bound, row_keeps}
use Rattle.ic_mgmt_laws.proofs.Steps.{call, replied_keeps}

module _ (enters : EntersAfter) (limit : ℕ) (s : State) (place : ℕ) (o : Origin) (from callee method arg : List ℕ) (n : ℕ) (is_m : slice_get s.messages place ≡ Some (Call o from callee method arg n)) (sound : Sound s) where
  abbrev asking : IncomingCall
  asking = call s place o from callee method arg n is_m (tallied s sound)

  ended_keeps : (r : Result State Denial) → Keeps s r → KeepsCalls s (ended (without s place) asking r)
  ended_keeps (Ok t) k = k
  ended_keeps (Err denial) k = replied_keeps s place o from callee method arg n is_m (tallied s sound) (denies denial)

  pub manage_keeps : KeepsCalls s (manage enters limit (without s place) (Call o from callee method arg n))
  unfolding manage
  manage_keeps = ended_keeps _ (keeps_bound s (ordered (controllers_in (without s place)) o from method arg) (row enters limit (with_call asking (without s place)) (without s place) asking) (λ asked is. row_keeps enters limit s place o from callee method arg n is_m (tallied s sound) asked))

pub outside_keeps : (enters : EntersAfter) → OutsideKeeps (manage enters)
outside_keeps enters limit s place from sender callee method arg cycles sound is_m is = advances s _ callee (manage_keeps enters limit s place from sender callee method arg cycles is_m sound)
