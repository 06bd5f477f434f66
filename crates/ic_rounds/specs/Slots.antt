-- The messages of slots are handled, and the canisters put back. No standard has this.
use Rattle.std.specs.Prelude.{ℕ, ◌+◌, ◌-◌, ◌≤◌, ◌^◌, List, [], ◌∷◌, ◌++◌, map}
use Rattle.std.specs.List.{flat_map, fold, AllByRecursion}
use Rattle.std.specs.BTreeMap.{insert_entry}
use Rattle.std.specs.Map.{set_value}
use Rattle.std.specs.Ordering.{nat_cmp}
use Rattle.std.specs.Cmp.Lexicographic.{slice_cmp}
use Rattle.ic_behaviour.specs.declared.call.Message.{Message}
use Rattle.ic_behaviour.specs.declared.request.Request.{Request}
use Rattle.ic_behaviour.specs.declared.env.Env.{Env}
use Rattle.ic_behaviour.specs.State.{at}
use Rattle.ic_behaviour.specs.Counted.{CountedCanister}
use Rattle.ic_behaviour.specs.Closing.{Handled}
use Rattle.ic_behaviour.specs.Local.{local}
use Rattle.ic_behaviour.specs.Deliver.{filled, routed}
use Rattle.ic_behaviour.specs.Outcomes.{Enters}
use Rattle.ic_behaviour.specs.Entry.{enters_by}
use Rattle.ic_api.specs.System.{system_api}
use Rattle.ic_state.specs.declared.canister.Canister.{Canister as StoredCanister}
use Rattle.ic_state.specs.declared.world.Parts.{Parts}
use Rattle.ic_state.specs.Seen.{seen}
use Rattle.ic_state.specs.IsCanister.{IsCanister}
use Rattle.ic_deliver.specs.Giving.{CanHandle}
use Rattle.ic_rounds.specs.declared.slot.Slot.{Slot as StoredSlot}

-- ---- a state with the numbers that canisters store of their calls

pub record Stored : Type 0 where
  pub canisters : List (List ℕ × CountedCanister)
  pub messages : List Message
  pub requests : List Request
  pub time : ℕ
  pub created : ℕ
  pub burned : ℕ
  pub next_canister : ℕ

abbrev pub seen_entry : List ℕ × StoredCanister → List ℕ × CountedCanister
seen_entry e = (e.0, seen e.1)

abbrev pub stored_of : Parts → Stored
stored_of p = record {
  canisters = map seen_entry p.canisters.entries;
  messages = p.messages;
  requests = p.requests;
  time = p.time;
  created = p.created;
  burned = p.burned;
  next_canister = p.next_canister;
}

-- ---- slots

-- a canister and its first message
pub record Slot : Type 0 where
  pub key : List ℕ
  pub canister : CountedCanister
  pub message : Message

abbrev pub slot_of : StoredSlot → Slot
slot_of slot = record { key = slot.key; canister = seen slot.canister; message = slot.message }

-- code is entered with the System API
abbrev pub entering : Enters
entering = enters_by system_api

-- what comes of a slot: it looks at nothing else
abbrev pub ran : Env → Slot → Handled
ran env slot = local entering env slot.canister slot.message

-- the canister goes back, and what it sends comes last
abbrev pub put : Stored → (key : List ℕ) → Handled → Stored
put w key h = record w {
  canisters = insert_entry (slice_cmp nat_cmp) w.canisters key h.canister;
  messages = w.messages ++ h.calls ++ flat_map (routed key) h.answers;
  requests = fold filled w.requests h.answers;
  burned = w.burned + h.burned;
}

abbrev pub after_slot : Env → Stored → Slot → Stored
after_slot env w slot = put w slot.key (ran env slot)

-- a canister that stays in its place is put there, and what it sends comes last
abbrev pub put_in : Stored → (key : List ℕ) → Handled → Stored
put_in w key h = record (put w key h) { canisters = set_value (at key) w.canisters h.canister }

abbrev pub after_slot_in_place : Env → Stored → Slot → Stored
after_slot_in_place env w slot = put_in w slot.key (ran env slot)

-- ---- what is asked of slots

-- the canister may handle the message
abbrev pub IsReady : StoredSlot → Type 0
IsReady slot = CanHandle slot.canister slot.message

-- one after another: what was burned until then stays within what was created
abbrev pub AreReady : Env → Stored → List StoredSlot → Type 0
AreReady env w [] = Unit {0}
AreReady env w (slot ∷ slots) = IsReady slot × (w.burned + (ran env (slot_of slot)).burned ≤ 2 ^ 127 - 1) × AreReady env (after_slot env w (slot_of slot)) slots

abbrev pub AreCanisters : Parts → Type 0
AreCanisters p = AllByRecursion (λ (e : List ℕ × StoredCanister). IsCanister e.1) p.canisters.entries
