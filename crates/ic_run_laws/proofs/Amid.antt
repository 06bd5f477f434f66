-- A canister while it handles a message: its stored words, and what has gone out.
use Rattle.std.proofs.Common.{◌≡◌, ℕ, suc, ◌+◌, ◌-◌, ◌<◌, ◌≤◌, Bool, true, false, cond, ◌&&◌, List, [], ◌∷◌, ◌++◌, map, length, Option, Some, None, refl, sym, ap, ◌∙◌, subst, arith, true≢false, not-suc-le-zero, lt_irrefl}
use Rattle.std.specs.List.{AllByRecursion}
use Rattle.std.specs.Option.{IsSome}
use Rattle.ic_behaviour.specs.declared.call.CallId.TheVariants as call_id
use Rattle.ic_behaviour.specs.declared.call.Origin.TheVariants as origin
use Rattle.ic_run_laws.proofs.Fills.{each-at, each-both}
use Rattle.ic_run_laws.proofs.Holds.{Holds, Swaps, Within, dropped_context, performed, replied, replies, shifted}
use Rattle.ic_run_laws.proofs.Takes.{context_leaves, waiter_leaves}
use Rattle.ic_behaviour.proofs.Weights.{at-self, each-back, each-map, same_id-self, total-append, total-at, total-map}
use Rattle.ic_behaviour.specs.Counted.{bare}
use Rattle.ic_behaviour.specs.Deliver.{filled_by, routed_by}
use Rattle.ic_behaviour.specs.Items.{Given, HasNext, InCall, InContext, InWaiter, IsOfOlder, Item, awaited, begins, calls_of, counted_at, is_context, is_from, is_from_canister, item_of, open_at, outstanding}
use Rattle.ic_behaviour.specs.Sound.{IsNamed}
use Rattle.ic_behaviour.specs.State.{Canister, Code, State, at, same_id}
use Rattle.ic_behaviour.specs.Totals.{one, total}
use Rattle.ic_behaviour.specs.declared.call.CallId.{CallId}
use Rattle.ic_behaviour.specs.declared.call.Message.{Message}
use Rattle.ic_behaviour.specs.declared.call.Message.TheVariants.{Call}
use Rattle.ic_behaviour.specs.declared.call.Origin.{Origin}
use Rattle.ic_behaviour.specs.declared.call.Response.{Response}
use Rattle.ic_behaviour.specs.declared.context.Context.{Context}
use Rattle.ic_behaviour.specs.declared.execution.OutCall.{OutCall}
use Rattle.ic_behaviour.specs.declared.phase.Waiter.{Waiter}
use Rattle.ic_behaviour.specs.declared.request.Request.{Request}

-- where a message is handled: the state before, the canister's id, the other canisters, the other items, the message's own
-- context, whose calls may be over, the call that it answers, the canister's code and next number before
pub record Scene : Type 0 where
  pub s : State
  pub key : List ℕ
  pub rest : List (List ℕ × Canister)
  pub away : List Item
  pub own : CallId
  pub off : List ℕ → CallId → Bool
  pub less : CallId → ℕ
  pub code : Option Code
  pub first : ℕ
  pub named : IsNamed s.next_canister key
  pub older : IsOfOlder key s.next_canister
  pub apart : AllByRecursion (λ (e : List ℕ × Canister). at key e.0 ≡ false) rest
  pub none_away : (id : CallId) → total (is_context key id) away ≡ 0
  pub fresh : (n : ℕ) → Given s (call_id.Canister key n) → n < first

abbrev pub GivenAt : Scene → ℕ → CallId → Type 0
GivenAt z next (call_id.Ingress k) = k < length z.s.requests
GivenAt z next (call_id.Canister caller n) = (at caller z.key ≡ true → n < next) × HasNext caller n z.rest × IsOfOlder caller z.s.next_canister

abbrev pub desk : Scene → List Message → List Context → List Waiter → List Item
desk z ms contexts waiters = z.away ++ (map item_of ms ++ (map (λ x. InContext z.key (bare x)) contexts ++ map (InWaiter z.key) waiters))

abbrev pub HoldsAt : Scene → (next : ℕ) → List Item → List Request → ℕ → Type 0
HoldsAt z next xs rs funds = Holds z.s z.key z.off z.less (GivenAt z next) xs rs funds

abbrev pub others_balance : Scene → ℕ
others_balance z = total (λ (e : List ℕ × Canister). e.1.balance) z.rest

pub record Amid (z : Scene) (balance next count : ℕ) (contexts : List Context) (waiters : List Waiter) (ms : List Message) (rs : List Request) (burned : ℕ) : Type 0 where
  pub holds : HoldsAt z next (desk z ms contexts waiters) rs (balance + others_balance z + burned)
  pub count_is : count ≡ total (calls_of z.key) (desk z ms contexts waiters)
  pub few : count ≤ 500
  pub counted : AllByRecursion (λ (x : Context). x.outstanding ≡ total (awaited z.key x.id) (desk z ms contexts waiters)) contexts
  pub has_code : AllByRecursion (λ (x : Context). x.deleted ≡ false → IsSome z.code) contexts
  pub later : z.first ≤ next
  -- a message changes the counts of its own context alone
  pub alone_changes : (id : CallId) → same_id z.own id ≡ false → total (awaited z.key id) (desk z ms contexts waiters) ≡ outstanding z.s z.key id

module _ (z : Scene) where
  pub total-desk : (w : Item → ℕ) (ms : List Message) (contexts : List Context) (waiters : List Waiter)
      → total w (desk z ms contexts waiters) ≡ total w z.away + (total (λ m. w (item_of m)) ms + (total (λ x. w (InContext z.key (bare x))) contexts + total (λ v. w (InWaiter z.key v)) waiters))
  total-desk w ms contexts waiters = omega (
    arith,
    total-append w z.away (map item_of ms ++ (map (λ x. InContext z.key (bare x)) contexts ++ map (InWaiter z.key) waiters)),
    total-append w (map item_of ms) (map (λ x. InContext z.key (bare x)) contexts ++ map (InWaiter z.key) waiters),
    total-append w (map (λ x. InContext z.key (bare x)) contexts) (map (InWaiter z.key) waiters),
    total-map item_of w ms,
    total-map (λ x. InContext z.key (bare x)) w contexts,
    total-map (InWaiter z.key) w waiters,
  )

  -- tests that fail of each element
  pub total-none : {A : Type 0} (test : A → Bool) (xs : List A) → total (λ x. one (test x)) xs ≡ 0 → AllByRecursion (λ x. test x ≡ false) xs
  total-none test [] e = tt
  total-none test (x ∷ xs) e = (fails (test x) (total (λ y. one (test y)) xs) e, total-none test xs (omega (arith, e))) where
    fails : (b : Bool) (n : ℕ) → one b + n ≡ 0 → b ≡ false
    fails true n e = let no : 0 < 0 = omega (arith, e) in absurd (not-suc-le-zero no)
    fails false n e = refl

  module _ (front : List Context) (x : Context) (back : List Context) (waiters : List Waiter) (rs : List Request) where
    within_contexts : (ms : List Message) → Within (InContext z.key (bare x) ∷ []) (desk z ms (front ++ x ∷ back) waiters)
    within_contexts ms w = omega (arith, total-desk w ms (front ++ x ∷ back) waiters, total-at (λ y. w (InContext z.key (bare y))) front x back)

    swap_contexts : (ms ns : List Message) (y : Context) (w : Item → ℕ)
        → total w (desk z (ms ++ ns) (front ++ y ∷ back) waiters) + w (InContext z.key (bare x)) ≡ total w (desk z ms (front ++ x ∷ back) waiters) + (w (InContext z.key (bare y)) + total (λ m. w (item_of m)) ns)
    swap_contexts ms ns y w = omega (
      arith,
      total-desk w ms (front ++ x ∷ back) waiters,
      total-desk w (ms ++ ns) (front ++ y ∷ back) waiters,
      total-at (λ v. w (InContext z.key (bare v))) front x back,
      total-at (λ v. w (InContext z.key (bare v))) front y back,
      total-append (λ m. w (item_of m)) ms ns,
    )

    swap_one : (ms : List Message) (y : Context) → Swaps (InContext z.key (bare x) ∷ []) (InContext z.key (bare y) ∷ []) (desk z ms (front ++ x ∷ back) waiters) (desk z ms (front ++ y ∷ back) waiters)
    swap_one ms y w = omega (
      arith,
      total-desk w ms (front ++ x ∷ back) waiters,
      total-desk w ms (front ++ y ∷ back) waiters,
      total-at (λ v. w (InContext z.key (bare v))) front x back,
      total-at (λ v. w (InContext z.key (bare v))) front y back,
    )

    -- the counts stay where the totals do
    counts_stay : (ys : List Context) (ms ns : List Message) (cs ds : List Context) (vs ws : List Waiter)
        → ((id : CallId) → total (awaited z.key id) (desk z ns ds ws) ≡ total (awaited z.key id) (desk z ms cs vs))
        → AllByRecursion (λ (y : Context). y.outstanding ≡ total (awaited z.key y.id) (desk z ms cs vs)) ys
        → AllByRecursion (λ (y : Context). y.outstanding ≡ total (awaited z.key y.id) (desk z ns ds ws)) ys
    counts_stay ys ms ns cs ds vs ws same all =
        each-map (λ (y : Context). y.outstanding ≡ total (awaited z.key y.id) (desk z ms cs vs)) (λ (y : Context). y.outstanding ≡ total (awaited z.key y.id) (desk z ns ds ws))
        (λ y e. e ∙ sym (same y.id)) ys all

    -- cycles go from the context, or to the balance
    pub amid_shifted : (balance more next count burned n : ℕ) (ms : List Message) → n ≤ x.available → more + n ≡ balance + x.available
        → Amid z balance next count (front ++ x ∷ back) waiters ms rs burned
        → Amid z more next count (front ++ (record x { available = n }) ∷ back) waiters ms rs burned
    amid_shifted balance more next count burned n ms fewer even a =
        let y : Context = record x { available = n } in
        let same : (id : CallId) → total (awaited z.key id) (desk z ms (front ++ y ∷ back) waiters) ≡ total (awaited z.key id) (desk z ms (front ++ x ∷ back) waiters) = λ id. omega (arith, swap_one ms y (awaited z.key id)) in
        let counts = each-at (λ (v : Context). v.outstanding ≡ total (awaited z.key v.id) (desk z ms (front ++ x ∷ back) waiters)) front x back a.counted in
        let codes = each-at (λ (v : Context). v.deleted ≡ false → IsSome z.code) front x back a.has_code in
        record {
          holds = shifted z.s z.key z.off z.less (bare x) n (within_contexts ms) (swap_one ms y) fewer (omega (arith, even)) a.holds;
          count_is = omega (arith, a.count_is, swap_one ms y (calls_of z.key));
          few = a.few;
          counted = each-back (λ (v : Context). v.outstanding ≡ total (awaited z.key v.id) (desk z ms (front ++ y ∷ back) waiters)) front y back
              (counts_stay (front ++ back) ms ms (front ++ x ∷ back) (front ++ y ∷ back) waiters waiters same counts.0) (counts.1 ∙ sym (same x.id));
          has_code = each-back (λ (v : Context). v.deleted ≡ false → IsSome z.code) front y back codes.0 codes.1;
          later = a.later;
          alone_changes = λ id differs. same id ∙ a.alone_changes id differs;
        }

    -- no other context has this id
    alone : (ms : List Message) → x.id ≡ z.own → total (begins z.own) (desk z ms (front ++ x ∷ back) waiters) ≤ 1
        → AllByRecursion (λ (y : Context). same_id z.own y.id ≡ false) (front ++ back)
    alone ms is begun = total-none (λ (y : Context). same_id z.own y.id) (front ++ back)
        (omega (arith, begun, total-desk (begins z.own) ms (front ++ x ∷ back) waiters, total-at (λ (v : Context). one (same_id z.own v.id)) front x back, ap (λ i. one (same_id z.own i)) is, ap one (same_id-self z.own)))

    pub amid_performed : (balance more next count burned : ℕ) (ms : List Message) (c : OutCall) → x.id ≡ z.own → suc count ≤ 500 → more + c.cycles ≡ balance
        → Amid z balance next count (front ++ x ∷ back) waiters ms rs burned
        → Amid z more (next + 1) (count + 1) (front ++ (record x { outstanding = x.outstanding + 1 }) ∷ back) waiters
        (ms ++ Call (origin.Canister z.key next z.own c.callback) z.key c.callee c.method c.arg c.cycles ∷ []) rs burned
    amid_performed balance more next count burned ms c is room even a =
        let y : Context = record x { outstanding = x.outstanding + 1 } in
        let out : Message = Call (origin.Canister z.key next z.own c.callback) z.key c.callee c.method c.arg c.cycles in
        let swaps : Swaps [] (InCall (origin.Canister z.key next z.own c.callback) c.cycles ∷ []) (desk z ms (front ++ x ∷ back) waiters) (desk z (ms ++ out ∷ []) (front ++ y ∷ back) waiters) =
        λ w. omega (arith, swap_contexts ms (out ∷ []) y w) in
        let counts = each-at (λ (v : Context). v.outstanding ≡ total (awaited z.key v.id) (desk z ms (front ++ x ∷ back) waiters)) front x back a.counted in
        let codes = each-at (λ (v : Context). v.deleted ≡ false → IsSome z.code) front x back a.has_code in
        let stands : 0 < total (is_context z.key z.own) (desk z ms (front ++ x ∷ back) waiters) =
        omega (arith, within_contexts ms (is_context z.key z.own), ap (λ b. one (b && same_id z.own x.id)) (at-self z.key), ap (λ i. one (same_id z.own i)) is, ap one (same_id-self z.own)) in
        record {
          holds = performed z.s z.key z.off z.less next z.own c.callback c.cycles swaps
              (λ g. (let no : next < next = g.0 (at-self z.key) in lt_irrefl next no))
              (λ g. (let no = z.fresh next g in let bad : next < next = omega (arith, no, a.later) in lt_irrefl next bad))
              ((λ e. omega arith), unfinished z.rest z.apart, z.older) wider stands (omega (arith, even)) a.holds;
          count_is = omega (arith, a.count_is, swaps (calls_of z.key), ap one (at-self z.key));
          few = omega (arith, room);
          counted = each-back (λ (v : Context). v.outstanding ≡ total (awaited z.key v.id) (desk z (ms ++ out ∷ []) (front ++ y ∷ back) waiters)) front y back
              (each-both (λ (v : Context). v.outstanding ≡ total (awaited z.key v.id) (desk z ms (front ++ x ∷ back) waiters)) (λ (v : Context). same_id z.own v.id ≡ false)
              (λ (v : Context). v.outstanding ≡ total (awaited z.key v.id) (desk z (ms ++ out ∷ []) (front ++ y ∷ back) waiters))
              (λ v e differs. omega (arith, e, swaps (awaited z.key v.id), ap (λ b. one (b && same_id z.own v.id)) (at-self z.key), ap one differs)) (front ++ back) counts.0 (alone ms is (a.holds.begun z.own)))
              (omega (arith, counts.1, swaps (awaited z.key x.id), ap (λ b. one (b && same_id z.own x.id)) (at-self z.key), ap (λ i. one (same_id z.own i)) is, ap one (same_id-self z.own)));
          has_code = each-back (λ (v : Context). v.deleted ≡ false → IsSome z.code) front y back codes.0 codes.1;
          later = omega (arith, a.later);
          alone_changes = λ id differs. omega (arith, a.alone_changes id differs, swaps (awaited z.key id), ap (λ b. one (b && same_id z.own id)) (at-self z.key), ap one differs);
        }
      where
        unfinished : (es : List (List ℕ × Canister)) → AllByRecursion (λ (e : List ℕ × Canister). at z.key e.0 ≡ false) es → HasNext z.key next es
        unfinished [] all = tt
        unfinished (e ∷ es) all = ((λ is. absurd (true≢false (sym is ∙ all.0))), unfinished es all.1)

        wider : (id : CallId) → GivenAt z next id → GivenAt z (next + 1) id
        wider (call_id.Ingress k) g = g
        wider (call_id.Canister caller n) g = ((λ e. (let old = g.0 e in omega (arith, old))), g.1, g.2)

  -- an answer that is routed is an item, or none
  pub routed-items : (w : Item → ℕ) (o : Origin) (response : Response) (refund : ℕ)
      → total (λ m. w (item_of m)) (routed_by z.key o response refund) ≡ total w (replies z.s z.key z.off z.less o refund)
  routed-items w (origin.Ingress k) response refund = refl
  routed-items w (origin.Canister caller n context callback) response refund = refl

  pub reply-counts : (test : Origin → Bool) (o : Origin) (refund : ℕ) → ((k : ℕ) → test (origin.Ingress k) ≡ false)
      → total (λ i. counted_at test (open_at i)) (replies z.s z.key z.off z.less o refund) ≡ one (test o)
  reply-counts test (origin.Ingress k) refund none = sym (ap one (none k))
  reply-counts test (origin.Canister caller n context callback) refund none = omega arith

  pub asked_before : (next : ℕ) (k : ℕ) → GivenAt z next (call_id.Ingress k) → k < length z.s.requests
  asked_before next k g = g

  module _ (front : List Context) (x : Context) (back : List Context) (waiters : List Waiter) (rs : List Request) where
    -- the context answers, with all its cycles
    pub amid_responded : (balance next count burned : ℕ) (ms : List Message) (response : Response) → x.must_respond ≡ true
        → Amid z balance next count (front ++ x ∷ back) waiters ms rs burned
        → Amid z balance next count (front ++ (record x { must_respond = false; available = 0 }) ∷ back) waiters
        (ms ++ routed_by z.key x.origin response x.available) (filled_by x.origin response rs) burned
    amid_responded balance next count burned ms response must a =
        let y : Context = record x { must_respond = false; available = 0 } in
        let outs : List Message = routed_by z.key x.origin response x.available in
        let left : List Item = InContext z.key (bare y) ∷ [] in
        let answers : List Item = replies z.s z.key z.off z.less x.origin x.available in
        let moved : (w : Item → ℕ) → total w (desk z (ms ++ outs) (front ++ y ∷ back) waiters) + w (InContext z.key (bare x)) ≡ total w (desk z ms (front ++ x ∷ back) waiters) + (w (InContext z.key (bare y)) + total w answers) =
        λ w. omega (arith, swap_contexts front x back waiters rs ms outs y w, routed-items w x.origin response x.available) in
        let swaps : Swaps (InContext z.key (bare x) ∷ []) (left ++ answers) (desk z ms (front ++ x ∷ back) waiters) (desk z (ms ++ outs) (front ++ y ∷ back) waiters) =
        λ w. omega (arith, moved w, total-append w left answers) in
        let stays : (test : Origin → Bool) → ((k : ℕ) → test (origin.Ingress k) ≡ false) → total (λ i. counted_at test (open_at i)) (desk z (ms ++ outs) (front ++ y ∷ back) waiters) ≡ total (λ i. counted_at test (open_at i)) (desk z ms (front ++ x ∷ back) waiters) =
        λ test none. omega (arith, moved (λ i. counted_at test (open_at i)), reply-counts test x.origin x.available none, ap (λ b. counted_at test (cond b (Some x.origin) None)) must) in
        let same : (id : CallId) → total (awaited z.key id) (desk z (ms ++ outs) (front ++ y ∷ back) waiters) ≡ total (awaited z.key id) (desk z ms (front ++ x ∷ back) waiters) = λ id. stays (is_from z.key id) (λ k. refl) in
        let counts = each-at (λ (v : Context). v.outstanding ≡ total (awaited z.key v.id) (desk z ms (front ++ x ∷ back) waiters)) front x back a.counted in
        let codes = each-at (λ (v : Context). v.deleted ≡ false → IsSome z.code) front x back a.has_code in
        record {
          holds = replied z.s z.key z.off z.less (InContext z.key (bare x)) left x.origin response x.available (context_leaves z.s z.key z.off z.less (bare x) must)
              (within_contexts front x back waiters rs ms) swaps (asked_before next) a.holds;
          count_is = a.count_is ∙ sym (stays (is_from_canister z.key) (λ k. refl));
          few = a.few;
          counted = each-back (λ (v : Context). v.outstanding ≡ total (awaited z.key v.id) (desk z (ms ++ outs) (front ++ y ∷ back) waiters)) front y back
              (counts_stay front x back waiters rs (front ++ back) ms (ms ++ outs) (front ++ x ∷ back) (front ++ y ∷ back) waiters waiters same counts.0) (counts.1 ∙ sym (same x.id));
          has_code = each-back (λ (v : Context). v.deleted ≡ false → IsSome z.code) front y back codes.0 codes.1;
          later = a.later;
          alone_changes = λ id differs. same id ∙ a.alone_changes id differs;
        }

    -- a context that need not respond and awaits no call goes
    pub amid_dropped : (balance next count burned : ℕ) (ms : List Message) → x.must_respond ≡ false → x.outstanding ≡ 0
        → Amid z balance next count (front ++ x ∷ back) waiters ms rs burned
        → Amid z balance next count (front ++ back) waiters ms rs burned
    amid_dropped balance next count burned ms silent idle a =
        let swaps : Swaps (InContext z.key (bare x) ∷ []) [] (desk z ms (front ++ x ∷ back) waiters) (desk z ms (front ++ back) waiters) =
        λ w. omega (arith, total-desk w ms (front ++ x ∷ back) waiters, total-desk w ms (front ++ back) waiters, total-at (λ v. w (InContext z.key (bare v))) front x back) in
        let stays : (test : Origin → Bool) → total (λ i. counted_at test (open_at i)) (desk z ms (front ++ back) waiters) ≡ total (λ i. counted_at test (open_at i)) (desk z ms (front ++ x ∷ back) waiters) =
        λ test. omega (arith, swaps (λ i. counted_at test (open_at i)), ap (λ b. counted_at test (cond b (Some x.origin) None)) silent) in
        let counts = each-at (λ (v : Context). v.outstanding ≡ total (awaited z.key v.id) (desk z ms (front ++ x ∷ back) waiters)) front x back a.counted in
        let codes = each-at (λ (v : Context). v.deleted ≡ false → IsSome z.code) front x back a.has_code in
        record {
          holds = dropped_context z.s z.key z.off z.less (bare x) (within_contexts front x back waiters rs ms) swaps silent (omega (arith, idle, counts.1)) a.holds;
          count_is = a.count_is ∙ sym (stays (is_from_canister z.key));
          few = a.few;
          counted = counts_stay front x back waiters rs (front ++ back) ms ms (front ++ x ∷ back) (front ++ back) waiters waiters (λ id. stays (is_from z.key id)) counts.0;
          has_code = codes.0;
          later = a.later;
          alone_changes = λ id differs. stays (is_from z.key id) ∙ a.alone_changes id differs;
        }

  module _ (contexts : List Context) (v : Waiter) (waiters : List Waiter) (rs : List Request) where
    -- a waiter is released, with its cycles
    pub amid_released : (balance next count burned : ℕ) (ms : List Message) (response : Response)
        → Amid z balance next count contexts (v ∷ waiters) ms rs burned
        → Amid z balance next count contexts waiters (ms ++ routed_by z.key v.origin response v.cycles) (filled_by v.origin response rs) burned
    amid_released balance next count burned ms response a =
        let outs : List Message = routed_by z.key v.origin response v.cycles in
        let answers : List Item = replies z.s z.key z.off z.less v.origin v.cycles in
        let swaps : Swaps (InWaiter z.key v ∷ []) ([] ++ answers) (desk z ms contexts (v ∷ waiters)) (desk z (ms ++ outs) contexts waiters) =
        λ w. omega (arith, total-desk w ms contexts (v ∷ waiters), total-desk w (ms ++ outs) contexts waiters, total-append (λ m. w (item_of m)) ms outs, routed-items w v.origin response v.cycles) in
        let within : Within (InWaiter z.key v ∷ []) (desk z ms contexts (v ∷ waiters)) = λ w. omega (arith, total-desk w ms contexts (v ∷ waiters)) in
        let stays : (test : Origin → Bool) → ((k : ℕ) → test (origin.Ingress k) ≡ false) → total (λ i. counted_at test (open_at i)) (desk z (ms ++ outs) contexts waiters) ≡ total (λ i. counted_at test (open_at i)) (desk z ms contexts (v ∷ waiters)) =
        λ test none. omega (arith, swaps (λ i. counted_at test (open_at i)), reply-counts test v.origin v.cycles none) in
        record {
          holds = replied z.s z.key z.off z.less (InWaiter z.key v) [] v.origin response v.cycles (waiter_leaves z.s z.key z.off z.less z.key v) within swaps (asked_before next) a.holds;
          count_is = a.count_is ∙ sym (stays (is_from_canister z.key) (λ k. refl));
          few = a.few;
          counted = each-map (λ (y : Context). y.outstanding ≡ total (awaited z.key y.id) (desk z ms contexts (v ∷ waiters))) (λ (y : Context). y.outstanding ≡ total (awaited z.key y.id) (desk z (ms ++ outs) contexts waiters))
              (λ y e. e ∙ sym (stays (is_from z.key y.id) (λ k. refl))) contexts a.counted;
          has_code = a.has_code;
          later = a.later;
          alone_changes = λ id differs. stays (is_from z.key id) (λ k. refl) ∙ a.alone_changes id differs;
        }

  module _ (contexts : List Context) (waiters : List Waiter) (rs : List Request) where
    -- cycles are burned
    pub amid_burned : (balance next count burned paid : ℕ) (ms : List Message) → paid ≤ balance
        → Amid z balance next count contexts waiters ms rs burned
        → Amid z (balance - paid) next count contexts waiters ms rs (burned + paid)
    amid_burned balance next count burned paid ms enough a =
        let even : balance + others_balance z + burned ≡ (balance - paid) + others_balance z + (burned + paid) = omega (arith, enough) in
        record {
          holds = subst (λ n. HoldsAt z next (desk z ms contexts waiters) rs n) even a.holds;
          count_is = a.count_is;
          few = a.few;
          counted = a.counted;
          has_code = a.has_code;
          later = a.later;
          alone_changes = a.alone_changes;
        }
