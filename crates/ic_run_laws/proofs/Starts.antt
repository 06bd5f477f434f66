-- A call is refused; an answer is taken.
use Rattle.std.proofs.Common.{◌≡◌, ℕ, ◌+◌, ◌-◌, ◌<◌, Bool, true, false, ◌&&◌, List, [], ◌∷◌, ◌++◌, map, slice_get, Some, refl, sym, ap, ◌∙◌, subst, arith, not-suc-le-zero, find}
use Rattle.std.specs.List.{AllByRecursion}
use Rattle.std.specs.Option.{IsSome}
use Rattle.ic_behaviour.specs.declared.call.CallId.TheVariants as call_id
use Rattle.ic_behaviour.specs.declared.call.Origin.TheVariants as origin
use Rattle.ic_run_laws.proofs.Amid.{Amid, Scene, asked_before, desk, reply-counts, routed-items, total-desk, total-none}
use Rattle.ic_run_laws.proofs.Fills.{each-at, each-both}
use Rattle.ic_run_laws.proofs.Holds.{Swaps, Within, replied, replies}
use Rattle.ic_run_laws.proofs.Places.{count_exact, few, is_own_context, scene, start_holds, stored_codes, stored_counts, total-items, total-start, total-stored}
use Rattle.ic_run_laws.proofs.Spots.{Spot}
use Rattle.ic_run_laws.proofs.Takes.{call_leaves, taken_answer}
use Rattle.ic_run_laws.proofs.Works.{Split, split}
use Rattle.ic_behaviour.proofs.Weights.{at-self, each-back, each-map, same_id-self, total-at, total-map}
use Rattle.ic_behaviour.specs.Counted.{bare, with_count}
use Rattle.ic_behaviour.specs.Deliver.{filled_by, routed_by}
use Rattle.ic_behaviour.specs.Executing.{change, is_own}
use Rattle.ic_behaviour.specs.Items.{InAnswer, InCall, InContext, Item, awaited, begins, calls_of, counted_at, is_from, is_from_canister, items, open_at, outstanding}
use Rattle.ic_behaviour.specs.Local.{one_less}
use Rattle.ic_behaviour.specs.State.{CallContext, Canister, State, at, id_of, same_id, waiting}
use Rattle.ic_behaviour.specs.Tallied.{Tallied}
use Rattle.ic_behaviour.specs.Totals.{one, total}
use Rattle.ic_behaviour.specs.declared.call.CallId.{CallId}
use Rattle.ic_behaviour.specs.declared.call.Callback.{Callback}
use Rattle.ic_behaviour.specs.declared.call.Message.TheVariants.{Answer, Call}
use Rattle.ic_behaviour.specs.declared.call.Origin.{Origin}
use Rattle.ic_behaviour.specs.declared.call.Response.{Response}
use Rattle.ic_behaviour.specs.declared.context.Context.{Context}

-- A call is refused
module _ (s : State) (place : ℕ) (o : Origin) (sender key method arg : List ℕ) (cycles : ℕ) (is_m : slice_get s.messages place ≡ Some (Call o sender key method arg cycles))
    (a : Canister) (p : Spot key s.canisters a) (sound : Tallied s) where
  abbrev pub refused_scene : Scene
  refused_scene = scene s place (Call o sender key method arg cycles) is_m key a p sound (id_of o) (λ k id. false) (λ id. 0)

  pub start_refused : (response : Response)
      → Amid refused_scene a.balance a.next_call (total (λ (x : CallContext). outstanding s key x.id) a.contexts) (map (with_count s key) a.contexts) (waiting a.phase) (routed_by key o response cycles) (filled_by o response s.requests) s.burned
  start_refused response = record {
    holds = replied s key (λ k id. false) (λ id. 0) (InCall o cycles) [] o response cycles (call_leaves s key (λ k id. false) (λ id. 0) o cycles) within swaps (asked_before refused_scene a.next_call)
        (start_holds s place (Call o sender key method arg cycles) is_m key a p sound (id_of o) (λ k id. false) (λ id. 0));
    count_is = count_exact s place (Call o sender key method arg cycles) is_m key a p sound ∙ sym (stays (is_from_canister key) (λ k. refl));
    few = omega (arith, count_exact s place (Call o sender key method arg cycles) is_m key a p sound, (few s place (Call o sender key method arg cycles) is_m key a p sound).1);
    counted = each-map (λ (x : Context). x.outstanding ≡ total (awaited key x.id) (items s)) (λ (x : Context). x.outstanding ≡ total (awaited key x.id) left) (λ x e. e ∙ sym (stays (is_from key x.id) (λ k. refl)))
        (map (with_count s key) a.contexts) (stored_counts s place (Call o sender key method arg cycles) is_m key a p sound);
    has_code = stored_codes s place (Call o sender key method arg cycles) is_m key a p sound;
    later = omega arith;
    alone_changes = λ id differs. stays (is_from key id) (λ k. refl);
  } where
    answers : List Item
    answers = replies s key (λ k id. false) (λ id. 0) o cycles

    left : List Item
    left = desk refused_scene (routed_by key o response cycles) (map (with_count s key) a.contexts) (waiting a.phase)

    within : Within (InCall o cycles ∷ []) (items s)
    within w = omega (arith, total-items s place (Call o sender key method arg cycles) is_m key a p w)

    swaps : Swaps (InCall o cycles ∷ []) ([] ++ answers) (items s) left
    swaps w = omega (arith, total-start s place (Call o sender key method arg cycles) is_m key a p sound (id_of o) (λ k id. false) (λ id. 0) w (routed_by key o response cycles), routed-items refused_scene w o response cycles)

    stays : (test : Origin → Bool) → ((k : ℕ) → test (origin.Ingress k) ≡ false) → total (λ i. counted_at test (open_at i)) left ≡ total (λ i. counted_at test (open_at i)) (items s)
    stays test none = omega (arith, swaps (λ i. counted_at test (open_at i)), reply-counts refused_scene test o cycles none)

-- some pass, so one is the first
pub record Passes (test : Context → Bool) (xs : List Context) : Type 0 where
  pub first : Context
  pub found : find test xs ≡ Some first

passes_on : (test : Context → Bool) (x : Context) (xs : List Context) → Passes test xs → test x ≡ false → Passes test (x ∷ xs)
passes_on test x xs more is = record { first = more.first; found = rw is more.found }

find_some : (test : Context → Bool) (xs : List Context) → 0 < total (λ x. one (test x)) xs → Passes test xs
find_some test [] some = absurd (not-suc-le-zero some)
find_some test (x ∷ xs) some = by (test x) refl (λ more. find_some test xs more) where
  by : (b : Bool) → test x ≡ b → (0 < total (λ y. one (test y)) xs → Passes test xs) → Passes test (x ∷ xs)
  by true is later = record { first = x; found = rw is refl }
  by false is later = passes_on test x xs (later (omega (arith, some, ap one is))) is

-- An answer is taken
module _ (s : State) (place : ℕ) (key : List ℕ) (n : ℕ) (own : CallId) (callback : Callback) (sender : List ℕ) (response : Response) (refund : ℕ)
    (is_m : slice_get s.messages place ≡ Some (Answer (origin.Canister key n own callback) sender response refund)) (a : Canister) (p : Spot key s.canisters a) (sound : Tallied s) where
  abbrev pub answered_scene : Scene
  answered_scene = scene s place (Answer (origin.Canister key n own callback) sender response refund) is_m key a p sound own (λ k id. at key k && same_id own id) (λ id. one (same_id id (call_id.Canister key n)))

  pub own_stands : 0 < total (λ (x : Context). one (is_own own x)) (map (with_count s key) a.contexts)
  own_stands =
      let calls : 0 < total (awaited key own) (items s) = omega (
        arith,
        total-items s place (Answer (origin.Canister key n own callback) sender response refund) is_m key a p (awaited key own),
        ap (λ b. one (b && same_id own own)) (at-self key),
        ap one (same_id-self own),
      ) in
      let stands = sound.names key own calls in
      omega (arith, stands, is_own_context s place (Answer (origin.Canister key n own callback) sender response refund) is_m key a p sound own, total-map (with_count s key) (λ (x : Context). one (is_own own x)) a.contexts)

  pub start_answer : Amid answered_scene (a.balance + refund) a.next_call (total (λ (x : CallContext). outstanding s key x.id) a.contexts - 1) (change (is_own own) one_less (map (with_count s key) a.contexts)) (waiting a.phase) [] s.requests s.burned
  start_answer = subst (λ l. Amid answered_scene (a.balance + refund) a.next_call (total (λ (x : CallContext). outstanding s key x.id) a.contexts - 1) l (waiting a.phase) [] s.requests s.burned) (sym (sp.changed one_less)) (record {
    holds = taken_answer s key (λ k id. at key k && same_id own id) n own callback refund (λ k id is. is) within swaps (omega arith)
        (start_holds s place (Answer (origin.Canister key n own callback) sender response refund) is_m key a p sound own (λ k id. at key k && same_id own id) (λ id. one (same_id id (call_id.Canister key n))));
    count_is = omega (arith, exact, swaps (calls_of key), ap one (at-self key));
    few = omega (arith, exact, (few s place (Answer (origin.Canister key n own callback) sender response refund) is_m key a p sound).1);
    counted = each-back (λ (x : Context). x.outstanding ≡ total (awaited key x.id) left) sp.front (one_less first) sp.back
        (each-both (λ (x : Context). x.outstanding ≡ total (awaited key x.id) (items s)) (λ (x : Context). same_id own x.id ≡ false) (λ (x : Context). x.outstanding ≡ total (awaited key x.id) left)
        (λ x e differs. omega (arith, e, swaps (awaited key x.id), ap (λ b. one (b && same_id own x.id)) (at-self key), ap one differs)) (sp.front ++ sp.back) counts.0 alone)
        (omega (arith, counts.1, swaps (awaited key first.id), ap (λ b. one (b && same_id own first.id)) (at-self key), ap one sp.passes));
    has_code = each-back (λ (x : Context). x.deleted ≡ false → IsSome a.code) sp.front (one_less first) sp.back codes.0 codes.1;
    later = omega arith;
    alone_changes = λ id differs. omega (arith, swaps (awaited key id), ap (λ b. one (b && same_id own id)) (at-self key), ap one differs);
  }) where
    passes : Passes (is_own own) (map (with_count s key) a.contexts)
    passes = find_some (is_own own) (map (with_count s key) a.contexts) own_stands

    first : Context
    first = passes.first

    sp : Split (is_own own) (map (with_count s key) a.contexts) first
    sp = split (is_own own) (map (with_count s key) a.contexts) first passes.found

    left : List Item
    left = desk answered_scene [] (sp.front ++ one_less first ∷ sp.back) (waiting a.phase)

    within : Within (InAnswer (origin.Canister key n own callback) refund ∷ []) (items s)
    within w = omega (arith, total-items s place (Answer (origin.Canister key n own callback) sender response refund) is_m key a p w)

    swaps : Swaps (InAnswer (origin.Canister key n own callback) refund ∷ []) [] (items s) left
    swaps w = omega (
      arith,
      total-items s place (Answer (origin.Canister key n own callback) sender response refund) is_m key a p w,
      total-desk answered_scene w [] (sp.front ++ one_less first ∷ sp.back) (waiting a.phase),
      total-stored s place (Answer (origin.Canister key n own callback) sender response refund) is_m key a p sound w,
      ap (total (λ (x : Context). w (InContext key (bare x)))) sp.whole,
      total-at (λ (x : Context). w (InContext key (bare x))) sp.front first sp.back,
      total-at (λ (x : Context). w (InContext key (bare x))) sp.front (one_less first) sp.back,
    )

    exact : total (λ (x : CallContext). outstanding s key x.id) a.contexts ≡ total (calls_of key) (items s)
    exact = count_exact s place (Answer (origin.Canister key n own callback) sender response refund) is_m key a p sound

    counts : AllByRecursion (λ (x : Context). x.outstanding ≡ total (awaited key x.id) (items s)) (sp.front ++ sp.back) × (first.outstanding ≡ total (awaited key first.id) (items s))
    counts = each-at (λ (x : Context). x.outstanding ≡ total (awaited key x.id) (items s)) sp.front first sp.back
        (subst (AllByRecursion (λ (x : Context). x.outstanding ≡ total (awaited key x.id) (items s))) sp.whole (stored_counts s place (Answer (origin.Canister key n own callback) sender response refund) is_m key a p sound))

    codes : AllByRecursion (λ (x : Context). x.deleted ≡ false → IsSome a.code) (sp.front ++ sp.back) × (first.deleted ≡ false → IsSome a.code)
    codes = each-at (λ (x : Context). x.deleted ≡ false → IsSome a.code) sp.front first sp.back
        (subst (AllByRecursion (λ (x : Context). x.deleted ≡ false → IsSome a.code)) sp.whole (stored_codes s place (Answer (origin.Canister key n own callback) sender response refund) is_m key a p sound))

    alone : AllByRecursion (λ (x : Context). same_id own x.id ≡ false) (sp.front ++ sp.back)
    alone = total-none answered_scene (λ (x : Context). same_id own x.id) (sp.front ++ sp.back)
        (omega (
          arith,
          sound.begun own,
          total-items s place (Answer (origin.Canister key n own callback) sender response refund) is_m key a p (begins own),
          total-stored s place (Answer (origin.Canister key n own callback) sender response refund) is_m key a p sound (begins own),
          ap (total (λ (x : Context). one (same_id own x.id))) sp.whole,
          total-at (λ (x : Context). one (same_id own x.id)) sp.front first sp.back,
          ap one sp.passes,
        ))
