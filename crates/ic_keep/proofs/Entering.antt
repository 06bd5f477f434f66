-- A world's canisters are kept, one after another.
use Rattle.std.proofs.Common.{◌≡◌, ℕ, Bool, List, [], ◌∷◌, ◌++◌, map, drop, Option, option_map, refl, sym, ap, ap₂, subst, ◌∙◌, append_assoc}
use Rattle.std.specs.Bool.{IsTrue}
use Rattle.std.specs.List.{AllByRecursion}
use Rattle.ic_behaviour.specs.State.{Code, Canister, State}
use Rattle.ic_behaviour.specs.Counted.{CountedCanister}
use Rattle.ic_state.specs.declared.canister.Canister.{Canister as StoredCanister}
use Rattle.ic_state.specs.declared.world.Parts.{Parts}
use Rattle.ic_state.specs.Seen.{code_of, seen, entry_of, state_of}
use Rattle.ic_state.specs.IsCanister.{IsCanister, FitsCode}
use Rattle.ic_keep.specs.declared.parts.KeptCanister.{KeptCanister}
use Rattle.ic_keep.specs.Kept.{Tables, KeptState, code_at, canister_at}
use Rattle.ic_keep.specs.IsKept.{Grows, HasCodes, IsStored}
use Rattle.ic_keep.proofs.Stays.{grows_again, all_stored, canisters_stay, codes_stay}

abbrev pub Entries : Type 0
Entries = List (List ℕ × StoredCanister)

abbrev pub all_seen : Entries → List CountedCanister
all_seen es = map (λ (e : List ℕ × StoredCanister). seen e.1) es

abbrev pub all_codes : Entries → List (Option Code)
all_codes es = map (λ (e : List ℕ × StoredCanister). option_map code_of e.1.code) es

abbrev pub near_codes : Tables → List KeptCanister → List (Option Code)
near_codes t cs = map (λ (c : KeptCanister). code_at t.codes c.code) cs

abbrev pub AllFit : Entries → Type 0
AllFit es = AllByRecursion (λ (e : List ℕ × StoredCanister). FitsCode e.1.code e.1.store.lists) es

pub all_fit : (es : Entries) → AllByRecursion (λ (e : List ℕ × StoredCanister). IsCanister e.1) es → AllFit es
all_fit [] all = tt
all_fit (e ∷ es) all = (all.0.fits, all_fit es all.1)

codes_of_entries : (es : Entries) → map (λ (e : List ℕ × Canister). e.1.code) (map entry_of es) ≡ all_codes es
codes_of_entries [] = refl
codes_of_entries (e ∷ es) = ap (λ l. option_map code_of e.1.code ∷ l) (codes_of_entries es)

-- codes that are those of the state are those of the world
pub codes_known : (t : Tables) (k : KeptState) (p : Parts) (s : State) → state_of p ≡ s → HasCodes t k s → near_codes t k.canisters ≡ all_codes p.canisters.entries
codes_known t k p s view are = are.same ∙ ap (λ (x : State). map (λ (e : List ℕ × Canister). e.1.code) x.canisters) (sym view) ∙ codes_of_entries p.canisters.entries

-- ---- the next canister

abbrev Known : Tables → List KeptCanister → Entries → Type 0
Known t near es = AllByRecursion (IsStored t) near × (near_codes t near ≡ all_codes es)

others_known : (t u : Tables) → Grows t u → (near : List KeptCanister) (e : List ℕ × StoredCanister) (es : Entries) → Known t near (e ∷ es) → Known u (drop 1 near) es
others_known t u grows [] e es known = let same : [] ≡ all_codes (e ∷ es) = known.1 in cc
others_known t u grows (c ∷ near) e es known =
    let same : near_codes t (c ∷ near) ≡ all_codes (e ∷ es) = known.1 in
    let tail : near_codes t near ≡ all_codes es = cc in
    (all_stored t u grows near known.0.1, codes_stay t u grows near known.0.1 ∙ tail)

map_end : (t : Tables) (cs : List KeptCanister) (c : KeptCanister) → map (canister_at t) (cs ++ c ∷ []) ≡ map (canister_at t) cs ++ canister_at t c ∷ []
map_end t [] c = refl
map_end t (d ∷ cs) c = ap (λ l. canister_at t d ∷ l) (map_end t cs c)

stored_end : (t : Tables) (cs : List KeptCanister) (c : KeptCanister) → AllByRecursion (IsStored t) cs → IsStored t c → AllByRecursion (IsStored t) (cs ++ c ∷ [])
stored_end t [] c all is = (is, tt)
stored_end t (d ∷ cs) c all is = (all.0, stored_end t cs c all.1 is)

pub record Entered (first t : Tables) (kept near : List KeptCanister) (rest all : Entries) (same_codes : Bool) : Type 0 where
  pub grows : Grows first t
  pub stored : AllByRecursion (IsStored t) kept
  pub canisters : map (canister_at t) kept ++ all_seen rest ≡ all_seen all
  pub fits : AllFit rest
  pub known : IsTrue same_codes → AllByRecursion (IsStored t) near × (near_codes t near ≡ all_codes rest)

pub one_more_entered : (first t u : Tables) (kept now near others : List KeptCanister) (e : List ℕ × StoredCanister) (rest all : Entries) (same_codes : Bool) (c : KeptCanister)
    → Entered first t kept near (e ∷ rest) all same_codes → Grows t u → IsStored u c → canister_at u c ≡ seen e.1 → now ≡ kept ++ c ∷ [] → others ≡ drop 1 near
    → Entered first u now others rest all same_codes
one_more_entered first t u kept now near others e rest all same_codes c so_far grows is sees made left = record {
  grows = grows_again first t u so_far.grows grows;
  stored = subst (AllByRecursion (IsStored u)) (sym made) (stored_end u kept c (all_stored t u grows kept so_far.stored) is);
  canisters =
      ap (λ l. map (canister_at u) l ++ all_seen rest) made
      ∙ ap (λ l. l ++ all_seen rest) (map_end u kept c)
      ∙ append_assoc (map (canister_at u) kept) (canister_at u c ∷ []) (all_seen rest)
      ∙ ap₂ (λ (l : List CountedCanister) (x : CountedCanister). l ++ x ∷ all_seen rest) (canisters_stay t u grows kept so_far.stored) sees
      ∙ so_far.canisters;
  fits = so_far.fits.1;
  known = λ yes. subst (λ l. Known u l rest) (sym left) (others_known t u grows near e rest (so_far.known yes));
}

-- ---- a canister
