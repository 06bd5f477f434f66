-- Which names are bound at a place of a test file, which of them are seen, and in which slots what they stand for is kept.
use Rattle.std.specs.Prelude.{ℕ, suc, List, [], Option, Some, None, nat_lt, if◌then◌else◌}
use Rattle.ct_scope.specs.declared.bound.Bound.{Bound}
use Rattle.ct_scope.specs.declared.bound.InterfaceId.{InterfaceId}
use Rattle.ct_scope.specs.declared.bound.Kind.{Kind}
use Rattle.ct_scope.specs.declared.bound.Kind.TheVariants.{Canister}
use Rattle.ct_scope.specs.Names.{Named, found, put}

-- the names around a part of a file, as those of the preamble around a test; its own; how many slots are taken, and of how many the names are seen
pub record NamesInScope : Type 0 where
  pub outer : Named Bound
  pub inner : Named Bound
  pub slots : ℕ
  pub seen : ℕ

-- a part that has bound nothing yet
abbrev pub within : Named Bound → ℕ → NamesInScope
within names slots = record { outer = names; inner = []; slots = slots; seen = slots }

-- what a name is bound to, by the part or around it
abbrev pub bound_at : NamesInScope → List ℕ → Option Bound
bound_at scope name = inside (found scope.inner name)
  where
    inside : Option Bound → Option Bound
    inside None = found scope.outer name
    inside (Some bound) = Some bound

-- what a name is bound to, if it is seen
abbrev pub seen_at : NamesInScope → List ℕ → Option Bound
seen_at scope name = if_seen (bound_at scope name)
  where
    if_seen : Option Bound → Option Bound
    if_seen None = None
    if_seen (Some bound) = if nat_lt bound.slot scope.seen then Some bound else None

-- the name gets the next slot, and is not seen yet
abbrev pub with_bound : NamesInScope → List ℕ → Kind → NamesInScope
with_bound scope name kind =
    record { outer = scope.outer; inner = put scope.inner name (record { slot = scope.slots; kind = kind }); slots = suc scope.slots; seen = scope.seen }

-- the canister in this slot has another interface from here on
abbrev pub with_interface : NamesInScope → List ℕ → ℕ → InterfaceId → NamesInScope
with_interface scope name slot interface =
    record { outer = scope.outer; inner = put scope.inner name (record { slot = slot; kind = Canister interface }); slots = scope.slots; seen = scope.seen }

-- all names are seen
abbrev pub settled : NamesInScope → NamesInScope
settled scope = record { outer = scope.outer; inner = scope.inner; slots = scope.slots; seen = scope.slots }
