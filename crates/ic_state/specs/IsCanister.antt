-- What a canister keeps by itself.
use Rattle.std.specs.Prelude.{◌≡◌, ℕ, ◌+◌, ◌-◌, ◌≤◌, ◌^◌, true, false, List, [], Option, Some, None, length}
use Rattle.std.specs.List.{AllByRecursion}
use Rattle.std.specs.List.Sorted.{IsStrictlySortedBy}
use Rattle.std.specs.Option.{IsSome}
use Rattle.std.specs.Ordering.{nat_cmp}
use Rattle.std.specs.Cmp.Lexicographic.{slice_cmp}
use Rattle.wm_store.specs.Lists.{Lists}
use Rattle.wm_store.specs.Fits.{Fits}
use Rattle.ic_behaviour.specs.declared.call.CallId.{CallId}
use Rattle.ic_behaviour.specs.declared.context.Context.{Context}
use Rattle.ic_behaviour.specs.declared.phase.Waiter.{Waiter}
use Rattle.ic_behaviour.specs.declared.phase.Phase.TheVariants.{Running}
use Rattle.ic_behaviour.specs.Totals.{total, one}
use Rattle.ic_behaviour.specs.State.{same_id, id_of, waiting}
use Rattle.ic_behaviour.specs.Counted.{CountedCanister}
use Rattle.ic_state.specs.declared.canister.Code.{Code}
use Rattle.ic_state.specs.declared.canister.Canister.{Canister}

abbrev pub no_lists : Lists
no_lists = record { memory = []; maximum = None; globals = []; table = []; stable = [] }

-- the store is one of the code's module, and without code there is nothing in it
abbrev pub FitsCode : Option Code → Lists → Type 0
FitsCode None s = s ≡ no_lists
FitsCode (Some code) s = Fits code.valid.«module» s

-- its id is that of its origin; one that need not respond has no cycles, and a deleted one need not respond
pub record IsContext (x : Context) : Type 0 where
  pub id : x.id ≡ id_of x.origin
  pub answered : x.must_respond ≡ false → x.available ≡ 0
  pub deleted : x.deleted ≡ true → x.must_respond ≡ false

abbrev pub cycles_of : Canister → ℕ
cycles_of c = c.balance + total (λ (x : Context). x.available) c.contexts + total (λ (w : Waiter). w.cycles) (waiting c.phase)

pub record IsCanister (c : Canister) : Type 0 where
  pub contexts : AllByRecursion IsContext c.contexts
  pub once : (id : CallId) → total (λ (x : Context). one (same_id id x.id)) c.contexts ≤ 1
  -- one that is not deleted is only where there is code
  pub has_code : AllByRecursion (λ (x : Context). x.deleted ≡ false → IsSome c.code) c.contexts
  pub counts : c.outstanding ≡ total (λ (x : Context). x.outstanding) c.contexts
  pub few : c.outstanding ≤ 500
  pub cycles : cycles_of c ≤ 2 ^ 127 - 1
  pub controllers : length c.controllers ≤ 10
  pub rising : IsStrictlySortedBy (slice_cmp nat_cmp) c.controllers
  pub fits : FitsCode c.code c.store.lists
  -- no message has begun on its store
  pub idle : c.store.begun ≡ None

-- a running canister without code
abbrev pub created : List ℕ → List (List ℕ) → ℕ → CountedCanister
created id controllers balance = record {
  id = id;
  controllers = controllers;
  balance = balance;
  code = None;
  store = no_lists;
  certified = [];
  contexts = [];
  phase = Running;
  next_call = 0;
  outstanding = 0;
}
