-- What is kept of worlds, while they move.
use Rattle.std.proofs.Common.{◌≡◌, ℕ, List, [], ◌∷◌, map, refl, sym, ap, ◌∙◌}
use Rattle.ic_behaviour.specs.State.{Canister, State}
use Rattle.ic_keep.specs.declared.parts.KeptCanister.{KeptCanister}
use Rattle.ic_keep.specs.Kept.{Tables, KeptState, code_at, entry_at, state_at}
use Rattle.ic_keep.specs.IsKept.{Grows, IsKept, HasCodes, codes_in}
use Rattle.ic_keep.proofs.Stays.{kept_stays}
use Rattle.ct_search.specs.Search.{Stays}
use Rattle.ct_worlds.specs.Worlds.{IsKeptNamed, named_at}

codes_kept : (t : Tables) (cs : List KeptCanister) → map (λ (c : KeptCanister). code_at t.codes c.code) cs ≡ map (λ (e : List ℕ × Canister). e.1.code) (map (entry_at t) cs)
codes_kept t [] = refl
codes_kept t (c ∷ cs) = ap (λ l. code_at t.codes c.code ∷ l) (codes_kept t cs)

-- a state with the codes of the one that is kept
pub has_codes : (t : Tables) (k : KeptState) (s : State) → IsKept t k → codes_in s ≡ codes_in (state_at t k) → HasCodes t k s
has_codes t k s is same = record { stored = is.stored; same = codes_kept t k.canisters ∙ sym same }

pub stays_named : (t u : Tables) → Grows t u → Stays IsKeptNamed named_at t u
stays_named t u grows k is =
    let still = kept_stays t u grows k.kept is in
    (still.0, ap (λ (s : State). (k.names, s)) still.1)
