-- Chains of deliveries.
use Rattle.std.proofs.Common.{◌≡◌, ℕ, zero, suc, ◌+◌, ◌≤◌, ◌<◌, Bool, true, false, cond, List, [], ◌∷◌, ◌++◌, length, take, get_or, Option, refl, sym, ap, ◌∙◌, subst, arith, not-suc-le-zero}
use Rattle.std.specs.Prelude.{MatchOption}
use Rattle.std.proofs.Math.Seq.{take-suc}
use Rattle.std.proofs.lemmas.Option.{slice_get_past}
use Rattle.ic_behaviour.specs.State.{State}
use Rattle.ic_behaviour.specs.Deliver.{Outside}
use Rattle.ic_behaviour.specs.Steps.{Rules, step, IsEligible, along, AreEligible}
use Rattle.ic_run_laws.specs.System.{system_rules}
use Rattle.ic_schedule.specs.Delivery.{Manages, is_managed, Delivers, IsStep}
use Rattle.ic_schedule.specs.Picks.{is_eligible, Chain, Picks, picked}
use Rattle.ic_schedule.proofs.Eligibles.{eligible-is, eligible-not}

-- one delivery more
pub Chain-more : (manages : Manages) (limit price : ℕ) (s : State) (places : List ℕ) (mid : State) (place : ℕ) (t : State)
    → Chain manages limit price s places mid → IsEligible mid place → Delivers manages limit price mid place t → Chain manages limit price s (places ++ place ∷ []) t
Chain-more manages limit price s [] mid place t so_far eligible done =
    subst (λ (u : State). IsEligible u place × ((v : State) × Delivers manages limit price u place v × (t ≡ v))) so_far (eligible, (t, done, refl))
Chain-more manages limit price s (x ∷ places) mid place t so_far eligible done =
    (so_far.0, (so_far.1.0, so_far.1.1, Chain-more manages limit price so_far.1.0 places mid place t so_far.1.2 eligible done))

pub Chain-next : (manages : Manages) (limit price : ℕ) (s : State) (picks : List ℕ) (i : ℕ) (mid t : State) → i < length picks
    → Chain manages limit price s (take i picks) mid → IsEligible mid (get_or picks i 0) → Delivers manages limit price mid (get_or picks i 0) t → Chain manages limit price s (take (i + 1) picks) t
Chain-next manages limit price s picks i mid t inside so_far eligible done =
    let next : suc i ≡ i + 1 = omega arith in
    subst (λ places. Chain manages limit price s places t) (sym (take-suc picks i 0 inside) ∙ ap (λ n. take n picks) next)
    (Chain-more manages limit price s (take i picks) mid (get_or picks i 0) t so_far eligible done)

-- all picks were delivered
pub Picks-all : (manages : Manages) (limit price : ℕ) (s : State) (picks : List ℕ) (t : State) (count i : ℕ) → count ≡ i → i ≡ length picks
    → Chain manages limit price s (take i picks) t → Picks manages limit price s picks t count
Picks-all manages limit price s picks t count i same all chain = record {
  few = omega (arith, same, all);
  delivered = subst (λ n. Chain manages limit price s (take n picks) t) (sym same) chain;
  ends = subst (λ (o : Option ℕ). MatchOption o (Unit {0}) (λ place. ¬ IsEligible t place)) (sym (slice_get_past picks count (omega (arith, same, all)))) tt;
}

-- where calls to the management canister are carried out as rules have it
module _ (outside : Outside) (manages : Manages) (is : IsStep outside manages) (limit price : ℕ) where
  abbrev rules : Rules
  rules = system_rules outside limit price

  one_step : (s : State) (place : ℕ) (t : State) → Delivers manages limit price s place t → t ≡ step rules s place
  one_step s place t done = by (is_managed s place) refl where
    by : (b : Bool) → is_managed s place ≡ b → t ≡ step rules s place
    by true here = is limit price s place t here (done.managed here)
    by false here = done.other here outside

  pub chain_is : (s : State) (places : List ℕ) (t : State) → Chain manages limit price s places t → (t ≡ along rules s places) × AreEligible rules s places
  chain_is s [] t chain = (chain, tt)
  chain_is s (place ∷ places) t chain =
      let here = one_step s place chain.1.0 chain.1.1 in
      let rest = chain_is chain.1.0 places t chain.1.2 in
      (rest.0 ∙ ap (λ u. along rules u places) here, (chain.0, subst (λ u. AreEligible rules u places) here rest.1))

  pub one_pick : (s : State) (place : ℕ) (t : State) (count : ℕ) → Picks manages limit price s (place ∷ []) t count
      → (t ≡ picked rules s place) × (count ≡ cond (is_eligible s place) 1 0)
  one_pick s place t zero picks =
      let stays = eligible-not s place (subst (λ (u : State). ¬ IsEligible u place) picks.delivered picks.ends) in
      (picks.delivered ∙ sym (ap (λ b. cond b (step rules s place) s) stays), sym (ap (λ b. cond b 1 0) stays))
  one_pick s place t (suc zero) picks =
      let goes = eligible-is s place picks.delivered.0 in
      ((chain_is s (place ∷ []) t picks.delivered).0 ∙ sym (ap (λ b. cond b (step rules s place) s) goes), sym (ap (λ b. cond b 1 0) goes))
  one_pick s place t (suc (suc n)) picks = absurd (not-suc-le-zero (let no : suc n ≤ 0 = omega (arith, picks.few) in no))
