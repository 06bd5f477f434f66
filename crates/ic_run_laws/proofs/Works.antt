-- The work of a message, from one state of its canister to the next.
use Rattle.wm_store.specs.Lists.{Lists}
use Rattle.wm_semantics.specs.declared.trap.Trap.{Trap}
use Rattle.ic_behaviour.specs.declared.call.CallId.{CallId}
use Rattle.std.proofs.Common.{◌≡◌, ℕ, ◌+◌, ◌-◌, ◌≤◌, Bool, true, false, cond, not, ◌⊎◌, List, [], ◌∷◌, ◌++◌, map, length, Option, Some, None, refl, sym, ap, ap₂, ◌∙◌, subst, arith, inl, inr, true≢false, append_assoc, append-nil, ltb-false, find, filter, fold}
use Rattle.std.specs.List.{flat_map}
use Rattle.std.specs.Option.{is_some}
use Rattle.std.proofs.lemmas.Bool.{cases_Bool}
use Rattle.std.proofs.lemmas.List.Sums.{fold-append}
use Rattle.std.proofs.lemmas.Grind.{flat_map-append}
use Rattle.ic_behaviour.specs.declared.call.Origin.TheVariants as origin
use Rattle.ic_run_laws.proofs.Amid.{Amid, Scene, amid_burned, amid_dropped, amid_performed, amid_released, amid_responded, amid_shifted}
use Rattle.ic_api.specs.IsRecord.{refund_of}
use Rattle.ic_behaviour.specs.Closing.{response_for, charge, empty_reply, finished, is_open, phase_after, rejected, released, releases}
use Rattle.ic_behaviour.specs.Counted.{CountedCanister}
use Rattle.ic_behaviour.specs.Deliver.{filled, filled_by, routed, routed_by}
use Rattle.ic_behaviour.specs.Executing.{Work, applied, change, given_answer, is_own, numbered, served}
use Rattle.ic_behaviour.specs.State.{waiting}
use Rattle.ic_behaviour.specs.Totals.{total}
use Rattle.ic_behaviour.specs.declared.call.Answered.{Answered}
use Rattle.ic_behaviour.specs.declared.call.Message.{Message}
use Rattle.ic_behaviour.specs.declared.call.Message.TheVariants.{Call}
use Rattle.ic_behaviour.specs.declared.call.Response.{Response}
use Rattle.ic_behaviour.specs.declared.context.Context.{Context}
use Rattle.ic_behaviour.specs.declared.execution.Effects.{Effects}
use Rattle.ic_behaviour.specs.declared.execution.OutCall.{OutCall}
use Rattle.ic_behaviour.specs.declared.phase.Phase.{Phase}
use Rattle.ic_behaviour.specs.declared.phase.Phase.TheVariants.{Running, Stopped, Stopping}
use Rattle.ic_behaviour.specs.declared.phase.Waiter.{Waiter}
use Rattle.ic_behaviour.specs.declared.request.Request.{Request}

-- the first that passes, and the others around it
pub record Split (test : Context → Bool) (xs : List Context) (x : Context) : Type 0 where
  pub front : List Context
  pub back : List Context
  pub whole : xs ≡ front ++ x ∷ back
  pub passes : test x ≡ true
  pub changed : (f : Context → Context) → change test f xs ≡ front ++ f x ∷ back

some_same : (x y : Context) → ◌≡◌ {A = Option Context} (Some x) (Some y) → x ≡ y
some_same x y e = cc

pub split : (test : Context → Bool) (xs : List Context) (x : Context) → find test xs ≡ Some x → Split test xs x
split test [] x e = absurd (true≢false (ap is_some (sym e)))
split test (y ∷ xs) x e = by (test y) refl (λ later. split test xs x later) where
  by : (b : Bool) → test y ≡ b → (find test xs ≡ Some x → Split test xs x) → Split test (y ∷ xs) x
  by true is later =
      let same : y ≡ x = some_same y x (rw is at e) in
      record {
        front = [];
        back = xs;
        whole = ap (λ v. v ∷ xs) same;
        passes = subst (λ v. test v ≡ true) same is;
        changed = λ f. rw is (ap (λ v. f v ∷ xs) same);
      }
  by false is later =
      let more = later (rw is at e) in
      record {
        front = y ∷ more.front;
        back = more.back;
        whole = ap (λ l. y ∷ l) more.whole;
        passes = more.passes;
        changed = λ f. rw is (ap (λ l. y ∷ l) (more.changed f));
      }

-- what a context is left with: an answer has sent back what was available
abbrev pub left : Effects → ℕ
left e = cond (is_some e.answer) 0 e.available

-- what an entry gave fits its canister and its context
pub record Fits (c : CountedCanister) (x : Context) (e : Effects) : Type 0 where
  pub cycles : e.balance + left e + refund_of e.answer + total (λ (o : OutCall). o.cycles) e.calls ≡ c.balance + x.available
  pub few : c.outstanding ≤ 500 → c.outstanding + length e.calls ≤ 500
  pub late : not x.must_respond ≡ true → e.answer ≡ None
  pub gift : left e + refund_of e.answer ≤ x.available

module _ (z : Scene) where
  -- a canister in its state, with what has gone out
  abbrev pub At : CountedCanister → List Message → List Request → ℕ → Type 0
  At c ms rs burned = Amid z c.balance c.next_call c.outstanding c.contexts (waiting c.phase) ms rs burned

  pub cast : {b b' n n' k k' : ℕ} {xs xs' : List Context} {ws : List Waiter} {ms ms' : List Message} {rs : List Request} {burned : ℕ}
      → b ≡ b' → n ≡ n' → k ≡ k' → xs ≡ xs' → ms ≡ ms' → Amid z b n k xs ws ms rs burned → Amid z b' n' k' xs' ws ms' rs burned
  cast {ws = ws} {rs = rs} {burned = burned} p q r e f a =
      subst (λ t. t) (λ i. Amid z (p i) (q i) (r i) (e i) ws (f i) rs burned) a

  pub amid_calls : (front : List Context) (x : Context) (back : List Context) (waiters : List Waiter) (rs : List Request) (calls : List OutCall) (balance next count burned : ℕ) (ms : List Message)
      → x.id ≡ z.own → count + length calls ≤ 500
      → Amid z (balance + total (λ (o : OutCall). o.cycles) calls) next count (front ++ x ∷ back) waiters ms rs burned
      → Amid z balance (next + length calls) (count + length calls) (front ++ (record x { outstanding = x.outstanding + length calls }) ∷ back) waiters (ms ++ numbered z.key z.own next calls) rs burned
  amid_calls front x back waiters rs [] balance next count burned ms is room a =
      cast (omega arith) (omega arith) (omega arith) (ap (λ n. front ++ (record x { outstanding = n }) ∷ back) (omega arith)) (sym (append-nil ms)) a
  amid_calls front x back waiters rs (o ∷ calls) balance next count burned ms is room a =
      let y : Context = record x { outstanding = x.outstanding + 1 } in
      let out : Message = Call (origin.Canister z.key next z.own o.callback) z.key o.callee o.method o.arg o.cycles in
      let first = amid_performed z front x back waiters rs (balance + (o.cycles + total (λ (p : OutCall). p.cycles) calls)) (balance + total (λ (p : OutCall). p.cycles) calls) next count burned ms o is (omega (arith, room)) (omega arith) a in
      let later = amid_calls front y back waiters rs calls balance (next + 1) (count + 1) burned (ms ++ out ∷ []) is (omega (arith, room)) first in
      cast refl (omega arith) (omega arith) (ap (λ n. front ++ (record x { outstanding = n }) ∷ back) (omega arith)) (append_assoc ms (out ∷ []) (numbered z.key z.own (next + 1) calls)) later

  pub amid_applied : (c : CountedCanister) (x : Context) (store : Lists) (e : Effects) (ms : List Message) (rs : List Request) (burned : ℕ)
      → c.id ≡ z.key → find (is_own z.own) c.contexts ≡ Some x → x.id ≡ z.own → Fits c x e → At c ms rs burned
      → At (applied z.own store e c) ((ms ++ numbered c.id z.own c.next_call e.calls) ++ flat_map (routed z.key) (given_answer x.origin e.answer)) (fold filled rs (given_answer x.origin e.answer)) burned
  amid_applied c x store e ms rs burned is_key is_found is_own_id fits a = by e.answer refl where
    parts : Split (is_own z.own) c.contexts x
    parts = split (is_own z.own) c.contexts x is_found

    sent : Amid z e.balance (c.next_call + length e.calls) (c.outstanding + length e.calls)
        (parts.front ++ (record x { available = left e + refund_of e.answer; outstanding = x.outstanding + length e.calls }) ∷ parts.back) (waiting c.phase) (ms ++ numbered c.id z.own c.next_call e.calls) rs burned
    sent =
        let here = subst (λ l. Amid z c.balance c.next_call c.outstanding l (waiting c.phase) ms rs burned) parts.whole a in
        let first = amid_shifted z parts.front x parts.back (waiting c.phase) rs c.balance (e.balance + total (λ (o : OutCall). o.cycles) e.calls) c.next_call c.outstanding burned (left e + refund_of e.answer) ms
        fits.gift (omega (arith, fits.cycles)) here in
        let second = amid_calls parts.front (record x { available = left e + refund_of e.answer }) parts.back (waiting c.phase) rs e.calls e.balance c.next_call c.outstanding burned ms is_own_id (fits.few a.few) first in
        cast refl refl refl refl (ap (λ k. ms ++ numbered k z.own c.next_call e.calls) (sym is_key)) second

    by : (answer : Option (Response × ℕ)) → e.answer ≡ answer
        → At (applied z.own store e c) ((ms ++ numbered c.id z.own c.next_call e.calls) ++ flat_map (routed z.key) (given_answer x.origin answer)) (fold filled rs (given_answer x.origin answer)) burned
    by None none =
        let amount : left e + refund_of e.answer ≡ left e = omega (arith, ap refund_of none) in
        let same : parts.front ++ (record x { available = left e + refund_of e.answer; outstanding = x.outstanding + length e.calls }) ∷ parts.back ≡ change (is_own z.own) (served e) c.contexts =
        ap₂ (λ k b. parts.front ++ (record x { must_respond = b; available = k; outstanding = x.outstanding + length e.calls }) ∷ parts.back) amount (sym (ap (λ o. cond (is_some o) false x.must_respond) none)) ∙ sym (parts.changed (served e)) in
        cast refl refl refl same (sym (append-nil (ms ++ numbered c.id z.own c.next_call e.calls))) sent
    by (Some answer) some =
        let amount : left e + refund_of e.answer ≡ answer.1 = omega (arith, ap refund_of some, ap (λ o. cond (is_some o) 0 e.available) some) in
        let must : x.must_respond ≡ true = responds (cases_Bool x.must_respond) in
        let third = amid_responded z parts.front (record x { available = left e + refund_of e.answer; outstanding = x.outstanding + length e.calls }) parts.back (waiting c.phase) rs e.balance (c.next_call + length e.calls) (c.outstanding + length e.calls) burned
        (ms ++ numbered c.id z.own c.next_call e.calls) answer.0 must sent in
        let same : parts.front ++ (record x { must_respond = false; available = 0; outstanding = x.outstanding + length e.calls }) ∷ parts.back ≡ change (is_own z.own) (served e) c.contexts =
        ap₂ (λ k b. parts.front ++ (record x { must_respond = b; available = k; outstanding = x.outstanding + length e.calls }) ∷ parts.back) (sym (ap (λ o. cond (is_some o) 0 e.available) some)) (sym (ap (λ o. cond (is_some o) false x.must_respond) some)) ∙ sym (parts.changed (served e)) in
        let outs : (ms ++ numbered c.id z.own c.next_call e.calls) ++ routed_by z.key x.origin answer.0 (left e + refund_of e.answer) ≡ (ms ++ numbered c.id z.own c.next_call e.calls) ++ flat_map (routed z.key) (given_answer x.origin (Some answer)) =
        ap (λ l. (ms ++ numbered c.id z.own c.next_call e.calls) ++ l) (ap (λ k. routed_by z.key x.origin answer.0 k) amount ∙ sym (append-nil (routed_by z.key x.origin answer.0 answer.1))) in
        cast refl refl refl same outs third
      where
        responds : (x.must_respond ≡ true) ⊎ (x.must_respond ≡ false) → x.must_respond ≡ true
        responds (inl must) = must
        responds (inr silent) = absurd (true≢false (ap is_some (sym some ∙ fits.late (ap not silent))))

  -- contexts that await no call are answered, where they must be, and go
  pub amid_rejects : (trapped : Option (CallId × Trap)) (todo front : List Context) (waiters : List Waiter) (balance next count burned : ℕ) (ms : List Message) (rs : List Request)
      → Amid z balance next count (front ++ todo) waiters ms rs burned
      → Amid z balance next count (front ++ filter is_open todo) waiters (ms ++ flat_map (routed z.key) (flat_map (rejected trapped) todo)) (fold filled rs (flat_map (rejected trapped) todo)) burned
  amid_rejects trapped [] front waiters balance next count burned ms rs a = cast refl refl refl refl (sym (append-nil ms)) a
  amid_rejects trapped (x ∷ todo) front waiters balance next count burned ms rs a =
      by (is_open x) refl (x.must_respond) refl (λ f ns qs b. amid_rejects trapped todo f waiters balance next count burned ns qs b) where
        closes : is_open x ≡ false → x.outstanding ≡ 0
        closes shut = let small : x.outstanding ≤ 0 = ltb-false 0 x.outstanding shut in omega (arith, small)

        by : (b : Bool) → is_open x ≡ b → (must : Bool) → x.must_respond ≡ must
            → ((f : List Context) (ns : List Message) (qs : List Request) → Amid z balance next count (f ++ todo) waiters ns qs burned
            → Amid z balance next count (f ++ filter is_open todo) waiters (ns ++ flat_map (routed z.key) (flat_map (rejected trapped) todo)) (fold filled qs (flat_map (rejected trapped) todo)) burned)
            → Amid z balance next count (front ++ filter is_open (x ∷ todo)) waiters (ms ++ flat_map (routed z.key) (flat_map (rejected trapped) (x ∷ todo))) (fold filled rs (flat_map (rejected trapped) (x ∷ todo))) burned
        by true stays must m later =
            let moved = cast refl refl refl (sym (append_assoc front (x ∷ []) todo)) refl a in
            rw stays (cast refl refl refl (append_assoc front (x ∷ []) (filter is_open todo)) refl (later (front ++ x ∷ []) ms rs moved))
        by false shut true m later =
            let idle : x.outstanding ≡ 0 = closes shut in
            let first = amid_responded z front x todo waiters rs balance next count burned ms (response_for trapped x.id) m a in
            let second = amid_dropped z front (record x { must_respond = false; available = 0 }) todo waiters (filled_by x.origin (response_for trapped x.id) rs) balance next count burned
            (ms ++ routed_by z.key x.origin (response_for trapped x.id) x.available) refl idle first in
            rw (shut, m) (cast refl refl refl refl (append_assoc ms (routed_by z.key x.origin (response_for trapped x.id) x.available) (flat_map (routed z.key) (flat_map (rejected trapped) todo)))
            (later front (ms ++ routed_by z.key x.origin (response_for trapped x.id) x.available) (filled_by x.origin (response_for trapped x.id) rs) second))
        by false shut false m later =
            let first = amid_dropped z front x todo waiters rs balance next count burned ms m (closes shut) a in
            rw (shut, m) (later front ms rs first)

  pub amid_releases : (waiters : List Waiter) (contexts : List Context) (balance next count burned : ℕ) (ms : List Message) (rs : List Request)
      → Amid z balance next count contexts waiters ms rs burned
      → Amid z balance next count contexts [] (ms ++ flat_map (routed z.key) (map released waiters)) (fold filled rs (map released waiters)) burned
  amid_releases [] contexts balance next count burned ms rs a = cast refl refl refl refl (sym (append-nil ms)) a
  amid_releases (v ∷ waiters) contexts balance next count burned ms rs a =
      let first = amid_released z contexts v waiters rs balance next count burned ms empty_reply a in
      let later = amid_releases waiters contexts balance next count burned (ms ++ routed_by z.key v.origin empty_reply v.cycles) (filled_by v.origin empty_reply rs) first in
      cast refl refl refl refl (append_assoc ms (routed_by z.key v.origin empty_reply v.cycles) (flat_map (routed z.key) (map released waiters))) later

  pub amid_stopped : (phase : Phase) (contexts : List Context) (balance next count burned : ℕ) (ms : List Message) (rs : List Request)
      → Amid z balance next count contexts (waiting phase) ms rs burned
      → Amid z balance next count contexts (waiting (phase_after phase contexts)) (ms ++ flat_map (routed z.key) (releases phase contexts)) (fold filled rs (releases phase contexts)) burned
  amid_stopped Running contexts balance next count burned ms rs a = cast refl refl refl refl (sym (append-nil ms)) a
  amid_stopped Stopped contexts balance next count burned ms rs a = cast refl refl refl refl (sym (append-nil ms)) a
  amid_stopped (Stopping waiters) (x ∷ contexts) balance next count burned ms rs a = cast refl refl refl refl (sym (append-nil ms)) a
  amid_stopped (Stopping waiters) [] balance next count burned ms rs a = amid_releases waiters [] balance next count burned ms rs a

  -- the price, and what closes: what is in `w` has gone out, and what `finished` gives then has
  pub amid_finished : (price : ℕ) (w : Work) (rs : List Request) (burned : ℕ)
      → At w.canister (w.calls ++ flat_map (routed z.key) w.answers) (fold filled rs w.answers) burned
      → At (finished price w).canister ((finished price w).calls ++ flat_map (routed z.key) (finished price w).answers) (fold filled rs (finished price w).answers) (burned + (finished price w).burned)
  amid_finished price w rs burned a =
      let c : CountedCanister = w.canister in
      let outs : List Message = w.calls ++ flat_map (routed z.key) w.answers in
      let no : List Answered = flat_map (rejected w.trapped) c.contexts in
      let free : List Answered = releases c.phase (filter is_open c.contexts) in
      let paid = amid_burned z c.contexts (waiting c.phase) (fold filled rs w.answers) c.balance c.next_call c.outstanding burned (charge price w) outs (omega arith) a in
      let shut = amid_rejects w.trapped c.contexts [] (waiting c.phase) (c.balance - charge price w) c.next_call c.outstanding (burned + charge price w) outs (fold filled rs w.answers) paid in
      let stopped = amid_stopped c.phase (filter is_open c.contexts) (c.balance - charge price w) c.next_call c.outstanding (burned + charge price w) (outs ++ flat_map (routed z.key) no) (fold filled (fold filled rs w.answers) no) shut in
      let same_outs : (outs ++ flat_map (routed z.key) no) ++ flat_map (routed z.key) free ≡ w.calls ++ flat_map (routed z.key) (w.answers ++ (no ++ free)) =
      ap (λ l. l ++ flat_map (routed z.key) free) (append_assoc w.calls (flat_map (routed z.key) w.answers) (flat_map (routed z.key) no)) ∙ append_assoc w.calls (flat_map (routed z.key) w.answers ++ flat_map (routed z.key) no) (flat_map (routed z.key) free)
      ∙ ap (λ l. w.calls ++ l) (ap (λ l. l ++ flat_map (routed z.key) free) (sym (flat_map-append (routed z.key) w.answers no)) ∙ sym (flat_map-append (routed z.key) (w.answers ++ no) free))
      ∙ ap (λ l. w.calls ++ flat_map (routed z.key) l) (append_assoc w.answers no free) in
      let same_requests : fold filled (fold filled (fold filled rs w.answers) no) free ≡ fold filled rs (w.answers ++ (no ++ free)) =
      ap (λ qs. fold filled qs free) (sym (fold-append filled rs w.answers no)) ∙ sym (fold-append filled rs (w.answers ++ no) free) ∙ ap (λ l. fold filled rs l) (append_assoc w.answers no free) in
      subst (λ qs. Amid z (c.balance - charge price w) c.next_call c.outstanding (filter is_open c.contexts) (waiting (phase_after c.phase (filter is_open c.contexts))) (w.calls ++ flat_map (routed z.key) (w.answers ++ (no ++ free))) qs (burned + charge price w)) same_requests
      (cast refl refl refl refl same_outs stopped)
