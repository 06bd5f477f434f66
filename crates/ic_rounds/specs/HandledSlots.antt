-- Slots are worked on side by side, and what came of them is put in their order. No standard has this.
use Rattle.std.specs.Prelude.{◌≡◌, ℕ, ◌+◌, ◌-◌, ◌≤◌, ◌^◌, List, [], ◌∷◌}
use Rattle.std.specs.List.{fold}
use Rattle.std.specs.BTreeMap.{insert_entry}
use Rattle.std.specs.Ordering.{nat_cmp}
use Rattle.std.specs.Cmp.Lexicographic.{slice_cmp}
use Rattle.ic_behaviour.specs.declared.env.Env.{Env}
use Rattle.ic_state.specs.IsCanister.{IsCanister}
use Rattle.ic_exec.specs.Executed.{done_of}
use Rattle.ic_rounds.specs.declared.slot.Slot.{Slot as StoredSlot}
use Rattle.ic_rounds.specs.declared.handled_slot.HandledSlot.{HandledSlot}
use Rattle.ic_rounds.specs.Slots.{Stored, slot_of, ran, put}

-- what came of a slot is what its message does to its canister, whatever else happens
pub record IsHandled (env : Env) (slot : StoredSlot) (w : HandledSlot) : Type 0 where
  pub key : w.key ≡ slot.key
  pub done : done_of w.canister w.done ≡ ran env (slot_of slot)
  pub keeps : IsCanister w.canister

-- and it is put where it belongs
abbrev pub put_handled : Stored → HandledSlot → Stored
put_handled w x = put w x.key (done_of x.canister x.done)

-- one after another: what was burned until then stays within what was created
abbrev pub AreHandled : Stored → List HandledSlot → Type 0
AreHandled w [] = Unit {0}
AreHandled w (x ∷ xs) = IsCanister x.canister × (w.burned + x.done.burned ≤ 2 ^ 127 - 1) × AreHandled (put_handled w x) xs

-- pairs are inserted one after another
abbrev pub insert_all : {X : Type 0} → List (List ℕ × X) → List (List ℕ × X)
insert_all pairs = fold (λ es e. insert_entry (slice_cmp nat_cmp) es e.0 e.1) [] pairs

-- an entry of an outbox: this worker handled the slot with this number so
pub record Entry : Type 0 where
  pub worker : ℕ
  pub number : ℕ
  pub slot : StoredSlot
  pub env : Env

abbrev pub entry : (worker number : ℕ) → StoredSlot → Env → Entry
entry worker number slot env = record { worker = worker; number = number; slot = slot; env = env }
