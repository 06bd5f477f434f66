-- A reply that names a canister is read as an argument that does.
use Rattle.std.proofs.Common.{◌≡◌, ℕ, List, Option, Some, None, refl, sym, ◌∙◌, subst}
use Rattle.std.specs.Prelude.{option_map}
use Rattle.ic_base.specs.Reader.{◌>>=◌}
use Rattle.cd_codec.specs.Content.{Content}
use Rattle.ic_mgmt_candid.specs.declared.method.Method.TheVariants as methods
use Rattle.ic_mgmt_candid.specs.declared.demand.Demand.{Demand}
use Rattle.ic_mgmt_candid.specs.declared.demand.Demand.TheVariants as demands
use Rattle.ic_mgmt_candid.specs.Checks.{target}
use Rattle.ic_mgmt_candid.specs.Types.{canister_type}
use Rattle.ic_mgmt_candid.specs.Demands.{argument, canister_id, picked, demand_of}
use Rattle.ic_mgmt_requests.specs.Requests.{canister_named}

named : (reply : List ℕ) → demand_of methods.StartCanister reply ≡ option_map demands.StartCanister (canister_named reply)
unfolding demand_of canister_named
named reply = by (argument canister_type reply) where
  by : (found : Option (List Content)) → (found >>= picked methods.StartCanister) ≡ option_map demands.StartCanister (found >>= canister_id)
  by None = refl
  by (Some values) = refl

pub none_named : (reply : List ℕ) → demand_of methods.StartCanister reply ≡ None → canister_named reply ≡ None
none_named reply none = by (canister_named reply) (sym (named reply) ∙ none) where
  by : (found : Option (List ℕ)) → option_map demands.StartCanister found ≡ None → found ≡ None
  by None e = refl
  by (Some id) e = absurd cc

pub one_named : (reply : List ℕ) (demand : Demand) → demand_of methods.StartCanister reply ≡ Some demand → target demand ≡ canister_named reply
one_named reply demand is = by (canister_named reply) (sym (named reply) ∙ is) where
  by : (found : Option (List ℕ)) → option_map demands.StartCanister found ≡ Some demand → target demand ≡ found
  by None e = absurd cc
  by (Some id) e = subst (λ (d : Demand). target d ≡ Some id) (let same : demands.StartCanister id ≡ demand = cc in same) refl
