-- Calls that are turned away, and refused calls to the management canister, change nothing but that they are answered.
use Rattle.std.proofs.Common.{◌≡◌, ℕ, ◌+◌, ◌*◌, nat_lt, Bool, true, false, cond, List, [], ◌∷◌, ◌++◌, map, Option, Some, None, Result, Ok, Err, refl, sym, ap, ap₂, ◌∙◌, arith, true≢false, append-nil}
use Rattle.std.specs.Int.{to_be_bytes, w64}
use Rattle.std.specs.List.{remove, AllByRecursion}
use Rattle.std.specs.Map.{lookup, set_value}
use Rattle.std.specs.Option.{is_some}
use Rattle.std.proofs.lemmas.Option.{same_Some}
use Rattle.ic_principal.specs.CanisterId.{canister_id_of}
use Rattle.ic_behaviour.specs.declared.call.Origin.{Origin}
use Rattle.ic_behaviour.specs.declared.call.Response.{Response}
use Rattle.ic_behaviour.specs.declared.call.Message.TheVariants.{Call}
use Rattle.ic_behaviour.specs.declared.env.Admitted.{Admitted}
use Rattle.ic_behaviour.specs.declared.env.Refusal.{Refusal}
use Rattle.ic_behaviour.specs.State.{at, CallContext, Code, Canister, State}
use Rattle.ic_behaviour.specs.Counted.{CountedCanister, bare, with_count, counted}
use Rattle.ic_behaviour.specs.Texts.{refuses, out_of_cycles, no_canister}
use Rattle.ic_behaviour.specs.Entry.{enters_by}
use Rattle.ic_behaviour.specs.Installing.{enters_after}
use Rattle.ic_behaviour.specs.Local.{admitted, function_of, refused, context_of, begin_call, local_call, local}
use Rattle.ic_behaviour.specs.Deliver.{env_at, handled_by, is_management, sent_back, answered_by, placed, routed_by, without}
use Rattle.ic_behaviour.specs.Sound.{Sound, IsNamed}
use Rattle.ic_behaviour.specs.Submitted.{empty}
use Rattle.ic_api.specs.System.{system_api}
use Rattle.ic_behaviour.specs.Steps.{Rules}
use Rattle.ic_behaviour.specs.Runs.{Act, Delivers, Submits, SetsTime, after_act, AllStates, AllDeliveries, OfDelivery, EachDelivery, IsRun}
use Rattle.ic_behaviour.proofs.RunLaws.{all_deliveries}
use Rattle.ic_run_laws.proofs.Delivers.{deliver_is}
use Rattle.ic_run_laws.proofs.Spots.{spot}
use Rattle.ic_mgmt_laws.specs.Moves.{message_of}
use Rattle.ic_mgmt_laws.specs.Manage.{ended, manage}
use Rattle.ic_options.specs.declared.Options.{Options}
use Rattle.ic_script_runner.specs.Options.{rules_of}
use Rattle.ic_script_runner.proofs.Keeps.{rules_keep}
use Rattle.ic_host.specs.Headline.{turned_away_at, turned_away_by, TurnedAwayLeaves, RefusalsLeave}
use Rattle.ic_host.proofs.Promises.{each_sound}

-- ---- calls that are turned away

-- a canister that is put back where it stands
put_back : (key : List ℕ) (es : List (List ℕ × Canister)) (c : Canister) → lookup (at key) es ≡ Some c → set_value (at key) es c ≡ es
put_back key es c there = let p = spot key es c there in p.set c ∙ sym p.whole

bare_counted : (s : State) (key : List ℕ) (xs : List CallContext) → map bare (map (with_count s key) xs) ≡ xs
bare_counted s key [] = refl
bare_counted s key (x ∷ xs) = ap (λ ys. x ∷ ys) (bare_counted s key xs)

module _ (rules : Rules) (s : State) (place : ℕ) (from : Origin) (sender callee method arg : List ℕ) (cycles : ℕ) where
  abbrev told : Response → State
  told response = answered_by callee (record { origin = from; response = response; refund = cycles }) (without s place)

  -- the canister is as before
  refused_is : (c : Canister) → lookup (at callee) s.canisters ≡ Some c → (response : Response)
      → placed (without s place) callee (refused (counted s callee c) from cycles response) ≡ told response
  refused_is c there response =
      let canisters = ap (λ xs. set_value (at callee) s.canisters (record c { contexts = xs })) (bare_counted s callee c.contexts) ∙ put_back callee s.canisters c there in
      let messages = ap₂ (λ xs ys. xs ++ ys) (append-nil (remove s.messages place)) (append-nil (routed_by callee from response cycles)) in
      let burned : s.burned + 0 ≡ s.burned = omega arith in
      λ i. record (told response) { canisters = canisters i; messages = messages i; burned = burned i }

  turned_away_at-is : (c : Canister) → lookup (at callee) s.canisters ≡ Some c → (response : Response) (r : Result (Code × Admitted) Refusal) → turned_away_at rules c (function_of r) ≡ Some response
      → placed (without s place) callee (local_call rules.enters (env_at s.time rules.limit rules.price) (counted s callee c) from sender method arg cycles r) ≡ told response
  turned_away_at-is c there response (Err refusal) is = refused_is c there (refuses refusal) ∙ ap told (same_Some _ _ is)
  turned_away_at-is c there response (Ok entry) is = by (nat_lt c.balance (rules.limit * rules.price)) is where
    d : CountedCanister
    d = counted s callee c

    by : (poor : Bool) → cond poor (Some out_of_cycles) None ≡ Some response
        → placed (without s place) callee (cond poor (refused d from cycles out_of_cycles) (begin_call rules.enters (env_at s.time rules.limit rules.price) d (context_of from sender cycles) method arg entry)) ≡ told response
    by true is = refused_is c there out_of_cycles ∙ ap told (same_Some _ _ is)
    by false is = absurd (true≢false (sym (ap is_some is)))

  turned_away_by-is : (response : Response) (o : Option Canister) → lookup (at callee) s.canisters ≡ o → turned_away_by rules s callee method o ≡ Some response
      → handled_by rules.enters rules.outside rules.limit rules.price s (without s place) (Call from sender callee method arg cycles) o ≡ told response
  unfolding local
  turned_away_by-is response (Some c) there is = turned_away_at-is c there response (admitted (counted s callee c) method) is
  turned_away_by-is response None there is = by (is_management callee) is where
    by : (b : Bool) → cond b None (Some (no_canister callee)) ≡ Some response
        → cond b (rules.outside rules.limit (without s place) (Call from sender callee method arg cycles)) (sent_back from callee cycles (without s place)) ≡ told response
    by true is = absurd (true≢false (sym (ap is_some is)))
    by false is = ap told (same_Some _ _ is)

turned_away_leaves : (rules : Rules) (s : State) (place : ℕ) → TurnedAwayLeaves rules s place
turned_away_leaves rules s place from sender callee method arg cycles response is_m is =
    deliver_is rules.enters rules.outside rules.limit rules.price s place (Call from sender callee method arg cycles) is_m
    ∙ turned_away_by-is rules s place from sender callee method arg cycles response (lookup (at callee) s.canisters) refl is

pub each_turned_away : (rules : Rules) (acts : List Act) → EachDelivery (TurnedAwayLeaves rules) rules acts
each_turned_away rules acts = all_deliveries (TurnedAwayLeaves rules) rules (turned_away_leaves rules) empty acts

-- ---- refused calls to the management canister

-- no canister has the id of the management canister, which has no bytes
no_bytes : (front : List ℕ) (b : ℕ) (back : List ℕ) → at [] (front ++ b ∷ back) ≡ false
no_bytes [] b back = refl
no_bytes (a ∷ front) b back = refl

not_management : (next : ℕ) (key : List ℕ) → IsNamed next key → at [] key ≡ false
unfolding canister_id_of
not_management next key is = ap (at []) is.3 ∙ no_bytes (to_be_bytes w64 is.0) 1 (1 ∷ [])

no_management : (next : ℕ) (es : List (List ℕ × Canister)) → AllByRecursion (λ (e : List ℕ × Canister). IsNamed next e.0) es → lookup (at []) es ≡ None
no_management next [] all = refl
no_management next (e ∷ es) all = rw (not_management next e.0 all.0) (no_management next es all.1)

refusals_leave : (options : Options) (s : State) (place : ℕ) → Sound s → RefusalsLeave (rules_of options) s place
unfolding manage
refusals_leave options s place sound call denial is_m refused =
    let outside = manage (enters_after system_api) in
    deliver_is (enters_by system_api) outside options.limit options.price s place (message_of call []) is_m
    ∙ ap (handled_by (enters_by system_api) outside options.limit options.price s (without s place) (message_of call [])) (no_management s.next_canister s.canisters sound.names.named)
    ∙ ap (ended (without s place) call) refused

-- what holds of each delivery in a sound state holds of each one of a run
sound_delivery : (P : State → ℕ → Type 0) (s : State) (act : Act) → ((place : ℕ) → P s place) → OfDelivery (P s) act
sound_delivery P s (Delivers place) law = law place
sound_delivery P s (Submits sender callee method arg) law = tt
sound_delivery P s (SetsTime time) law = tt

sound_deliveries : (P : State → ℕ → Type 0) (rules : Rules) → ((s : State) (place : ℕ) → Sound s → P s place) → (s : State) (acts : List Act) → AllStates Sound rules s acts → AllDeliveries P rules s acts
sound_deliveries P rules law s [] sound = tt
sound_deliveries P rules law s (act ∷ acts) sound =
    (sound_delivery P s act (λ place. law s place sound.0), sound_deliveries P rules law (after_act rules s act) acts sound.1)

pub each_refusal : (options : Options) (acts : List Act) → IsRun (rules_of options) acts → EachDelivery (RefusalsLeave (rules_of options)) (rules_of options) acts
each_refusal options acts run =
    sound_deliveries (RefusalsLeave (rules_of options)) (rules_of options) (refusals_leave options) empty acts (each_sound (rules_of options) (rules_keep options) acts run)
