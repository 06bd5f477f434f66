-- What code keeps when it is entered, whatever it is (IC Interface Specification, "Abstract Canisters"): it makes and loses no cycles, and answers once.
use Rattle.std.specs.Prelude.{◌≡◌, ℕ, ◌+◌, ◌≤◌, true, [], Some, None, length}
use Rattle.wm_store.specs.Lists.{Lists}
use Rattle.wm_semantics.specs.declared.target.Target.{Target}
use Rattle.ic_behaviour.specs.declared.call.Response.{Response}
use Rattle.ic_behaviour.specs.declared.execution.EntryKind.{EntryKind}
use Rattle.ic_behaviour.specs.declared.execution.EntryKind.TheVariants as kind
use Rattle.ic_behaviour.specs.declared.execution.View.{View}
use Rattle.ic_behaviour.specs.declared.execution.OutCall.{OutCall}
use Rattle.ic_behaviour.specs.declared.execution.Effects.{Effects}
use Rattle.ic_behaviour.specs.Totals.{total}
use Rattle.ic_behaviour.specs.State.{Code}
use Rattle.ic_behaviour.specs.Outcomes.{Returns, Enters}
use Rattle.ic_api.specs.IsRecord.{refund_of}

-- the effects, at what was seen
pub record EntryKeeps (k : EntryKind) (v : View) (e : Effects) : Type 0 where
  pub cycles : e.balance + e.available + refund_of e.answer + total (λ (c : OutCall). c.cycles) e.calls ≡ v.balance + v.available
  pub few : v.outstanding ≤ 500 → v.outstanding + length e.calls ≤ 500
  -- who has answered gives no answer
  pub late : v.responded ≡ true → e.answer ≡ None
  -- what is available, and what an answer sends back, are no more than was available
  pub gift : e.available + refund_of e.answer ≤ v.available
  -- an answer leaves nothing available
  pub spent : (a : Response × ℕ) → e.answer ≡ Some a → e.available ≡ 0
  -- a query leaves the balance and makes no calls
  pub quiet : k ≡ kind.Query → (e.balance ≡ v.balance) × (e.calls ≡ [])

abbrev pub EntriesKeep : Enters → Type 0
EntriesKeep enters =
    (code : Code) (s : Lists) (target : Target) (k : EntryKind) (v : View) (limit : ℕ) (t : Lists) (e : Effects) (used : ℕ)
    → enters code s target k v limit ≡ Returns t e used → EntryKeeps k v e
