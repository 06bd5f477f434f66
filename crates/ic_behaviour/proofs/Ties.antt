-- `Sound` and `Tallied` say the same.
use Rattle.std.proofs.Common.{◌≡◌, ℕ, List, [], ◌∷◌}
use Rattle.std.specs.List.{AllByRecursion}
use Rattle.ic_behaviour.specs.State.{Canister, State}
use Rattle.ic_behaviour.specs.Items.{items}
use Rattle.ic_behaviour.specs.Sound.{Sound, HasOwnId, IsToCanister, HasFlags, IsFree, place_in, StandsBehind, IsNamed, HasCode, IsInPhase}
use Rattle.ic_behaviour.specs.Tallied.{Tallied, wrong_id, lost_answer, wrong_flags, ingress_cycles, misranked, IsEntry}
use Rattle.ic_behaviour.proofs.Weights.{zero-each, each-zero, each-map}
use Rattle.ic_behaviour.proofs.Parts.{own_id-from, own_id-to, to_canister-from, to_canister-to, flags-from, flags-to, free-from, free-to, behind-to}
use Rattle.ic_behaviour.proofs.Listings.{listed, listing}

entries : (next : ℕ) (es : List (List ℕ × Canister))
    → AllByRecursion (λ (e : List ℕ × Canister). e.1.id ≡ e.0) es → AllByRecursion (λ (e : List ℕ × Canister). IsNamed next e.0) es
    → AllByRecursion (λ (e : List ℕ × Canister). HasCode e.1.code e.1.contexts) es → AllByRecursion (λ (e : List ℕ × Canister). IsInPhase e.1.phase e.1.contexts) es
    → AllByRecursion (IsEntry next) es
entries next [] own named code phases = tt
entries next (e ∷ es) own named code phases =
    (record { own_id = own.0; named = named.0; has_code = code.0; in_phase = phases.0 }, entries next es own.1 named.1 code.1 phases.1)

pub tallied : (s : State) → Sound s → Tallied s
tallied s sound = record {
  one_place = sound.calls.one_place;
  asked = sound.calls.asked;
  given = sound.calls.given;
  names = sound.names.names;
  ids = each-zero wrong_id HasOwnId own_id-to (items s) sound.names.own_ids;
  begun = sound.names.begun;
  arrives = each-zero lost_answer IsToCanister to_canister-to (items s) sound.names.answers;
  rises = sound.names.rises;
  entries = entries s.next_canister s.canisters sound.names.keys sound.names.named sound.contexts.code sound.phases;
  awaits = sound.contexts.awaits;
  flags = each-zero wrong_flags HasFlags flags-to (items s) sound.contexts.flags;
  ranked = (place_in sound.listed.0, each-zero (misranked (place_in sound.listed.0)) (StandsBehind sound.listed.0) (behind-to sound.listed.0) (items s) sound.listed.1.behind);
  free = each-zero ingress_cycles IsFree free-to (items s) sound.limits.free;
  few = sound.limits.few;
  conserved = sound.cycles.conserved;
  created = sound.cycles.created;
  canisters = sound.sizes.canisters;
  requests = sound.sizes.requests;
  time = sound.sizes.time;
  times = sound.sizes.times;
}

pub sound : (s : State) → Tallied s → Sound s
sound s t = record {
  calls = record { one_place = t.one_place; asked = t.asked; given = t.given };
  names = record {
    names = t.names;
    own_ids = zero-each wrong_id HasOwnId own_id-from (items s) t.ids;
    begun = t.begun;
    answers = zero-each lost_answer IsToCanister to_canister-from (items s) t.arrives;
    rises = t.rises;
    keys = each-map (IsEntry s.next_canister) (λ (e : List ℕ × Canister). e.1.id ≡ e.0) (λ e is. is.own_id) s.canisters t.entries;
    named = each-map (IsEntry s.next_canister) (λ (e : List ℕ × Canister). IsNamed s.next_canister e.0) (λ e is. is.named) s.canisters t.entries;
  };
  contexts = record {
    awaits = t.awaits;
    flags = zero-each wrong_flags HasFlags flags-from (items s) t.flags;
    code = each-map (IsEntry s.next_canister) (λ (e : List ℕ × Canister). HasCode e.1.code e.1.contexts) (λ e is. is.has_code) s.canisters t.entries;
  };
  phases = each-map (IsEntry s.next_canister) (λ (e : List ℕ × Canister). IsInPhase e.1.phase e.1.contexts) (λ e is. is.in_phase) s.canisters t.entries;
  listed = (listed s t, listing s t);
  limits = record { free = zero-each ingress_cycles IsFree free-from (items s) t.free; few = t.few };
  cycles = record { conserved = t.conserved; created = t.created };
  sizes = record { canisters = t.canisters; requests = t.requests; time = t.time; times = t.times };
}
