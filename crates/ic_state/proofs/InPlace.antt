-- A canister is taken hold of in its place and stays as it is: so does the state. Its map may be of another layout.
use Rattle.std.proofs.Common.{◌≡◌, ℕ, List, map, sym, ap, subst}
use Rattle.std.specs.List.{AllByRecursion}
use Rattle.std.specs.BTreeMap.{BTreeMap}
use Rattle.ic_behaviour.specs.State.{State}
use Rattle.ic_behaviour.specs.Sound.{Sound}
use Rattle.ic_state.specs.declared.canister.Canister.{Canister}
use Rattle.ic_state.specs.declared.world.Parts.{Parts}
use Rattle.ic_state.specs.Seen.{entry_of, state_of}
use Rattle.ic_state.specs.IsCanister.{IsCanister}
use Rattle.ic_state.specs.IsWorld.{IsWorld, HasCounts}

module _ (p : Parts) (m : BTreeMap (List ℕ) Canister) (same : m.entries ≡ p.canisters.entries) where
  pub state_same : state_of (record p { canisters = m }) ≡ state_of p
  state_same = ap (λ es. record (state_of p) { canisters = map entry_of es }) same

  pub keeps_same : IsWorld p → IsWorld (record p { canisters = m })
  keeps_same keeps =
      let C = λ (es : List (List ℕ × Canister)). AllByRecursion (HasCounts (state_of p)) es in
      let S = λ (s : State). AllByRecursion (HasCounts s) m.entries in
      let K = λ (es : List (List ℕ × Canister)). AllByRecursion (λ (e : List ℕ × Canister). IsCanister e.1) es in
      record {
        sound = subst Sound (sym state_same) keeps.sound;
        counts = subst S (sym state_same) (subst C (sym same) keeps.counts);
        canisters = subst K (sym same) keeps.canisters;
      }
