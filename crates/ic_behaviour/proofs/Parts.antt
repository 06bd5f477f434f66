-- What is said of each item, by weights.
use Rattle.std.proofs.Common.{◌≡◌, ℕ, ◌+◌, ◌<◌, nat_lt, Bool, true, false, not, ◌&&◌, List, refl, sym, ap, ◌∙◌, arith, true≢false, not-suc-le-zero, ltb-true, lt-ltb}
use Rattle.ic_behaviour.specs.declared.call.CallId.{CallId}
use Rattle.ic_behaviour.specs.declared.call.Origin.{Origin}
use Rattle.ic_behaviour.specs.declared.call.Origin.TheVariants as origin
use Rattle.ic_behaviour.specs.Totals.{one, when}
use Rattle.ic_behaviour.specs.State.{same_id, id_of}
use Rattle.ic_behaviour.specs.Items.{Item, InCall, InAnswer, InContext, InWaiter}
use Rattle.ic_behaviour.specs.Sound.{HasOwnId, IsToCanister, HasFlags, IsFreeFrom, IsFree, place_in, IsBehind, StandsBehind}
use Rattle.ic_behaviour.specs.Tallied.{wrong_id, lost_answer, wrong_flags, is_ingress, ingress_cycles, is_below, misranked}
use Rattle.ic_behaviour.proofs.Weights.{same_id-self, same_id-is}

one-is-not-zero : {A : Type 0} → (n : ℕ) → n ≡ 0 → 0 < n → A
one-is-not-zero n e h = let bad : 0 < 0 = omega (arith, e, h) in absurd (not-suc-le-zero bad)

true-of : (b : Bool) → one (not b) ≡ 0 → b ≡ true
true-of true e = refl
true-of false e = one-is-not-zero 1 e (omega arith)

-- Ids

pub own_id-from : (i : Item) → wrong_id i ≡ 0 → HasOwnId i
own_id-from (InCall from n) e = tt
own_id-from (InAnswer from n) e = tt
own_id-from (InContext key x) e = same_id-is x.id (id_of x.origin) (true-of (same_id x.id (id_of x.origin)) e)
own_id-from (InWaiter key w) e = tt

pub own_id-to : (i : Item) → HasOwnId i → wrong_id i ≡ 0
own_id-to (InCall from n) e = refl
own_id-to (InAnswer from n) e = refl
own_id-to (InContext key x) e = ap (λ b. one (not b)) (ap (same_id x.id) (sym e) ∙ same_id-self x.id)
own_id-to (InWaiter key w) e = refl

-- Answers

pub to_canister-from : (i : Item) → lost_answer i ≡ 0 → IsToCanister i
to_canister-from (InCall from n) e = tt
to_canister-from (InAnswer (origin.Ingress k) n) e = one-is-not-zero 1 e (omega arith)
to_canister-from (InAnswer (origin.Canister caller m context callback) n) e = tt
to_canister-from (InContext key x) e = tt
to_canister-from (InWaiter key w) e = tt

pub to_canister-to : (i : Item) → IsToCanister i → lost_answer i ≡ 0
to_canister-to (InCall from n) h = refl
to_canister-to (InAnswer (origin.Ingress k) n) h = absurd h
to_canister-to (InAnswer (origin.Canister caller m context callback) n) h = refl
to_canister-to (InContext key x) h = refl
to_canister-to (InWaiter key w) h = refl

-- Flags

flags-parts : (must deleted : Bool) (n : ℕ) → when (not must) n + one (deleted && must) ≡ 0 → (must ≡ false → n ≡ 0) × (deleted ≡ true → must ≡ false)
flags-parts true true n e = one-is-not-zero 1 e (omega arith)
flags-parts true false n e = ((λ h. absurd (true≢false h)), (λ h. absurd (true≢false (sym h))))
flags-parts false true n e = ((λ h. omega (arith, e)), (λ h. refl))
flags-parts false false n e = ((λ h. omega (arith, e)), (λ h. refl))

flags-whole : (must deleted : Bool) (n : ℕ) → (must ≡ false → n ≡ 0) → (deleted ≡ true → must ≡ false) → when (not must) n + one (deleted && must) ≡ 0
flags-whole true true n none goes = absurd (true≢false (goes refl))
flags-whole true false n none goes = refl
flags-whole false true n none goes = omega (arith, none refl)
flags-whole false false n none goes = omega (arith, none refl)

pub flags-from : (i : Item) → wrong_flags i ≡ 0 → HasFlags i
flags-from (InCall from n) e = tt
flags-from (InAnswer from n) e = tt
flags-from (InContext key x) e = flags-parts x.must_respond x.deleted x.available e
flags-from (InWaiter key w) e = tt

pub flags-to : (i : Item) → HasFlags i → wrong_flags i ≡ 0
flags-to (InCall from n) h = refl
flags-to (InAnswer from n) h = refl
flags-to (InContext key x) h = flags-whole x.must_respond x.deleted x.available h.0 h.1
flags-to (InWaiter key w) h = refl

-- The cycles of users

free-parts : (o : Origin) (n : ℕ) → when (is_ingress o) n ≡ 0 → IsFreeFrom o n
free-parts (origin.Ingress k) n e = e
free-parts (origin.Canister caller m context callback) n e = tt

free-whole : (o : Origin) (n : ℕ) → IsFreeFrom o n → when (is_ingress o) n ≡ 0
free-whole (origin.Ingress k) n e = e
free-whole (origin.Canister caller m context callback) n e = refl

pub free-from : (i : Item) → ingress_cycles i ≡ 0 → IsFree i
free-from (InCall from n) e = free-parts from n e
free-from (InAnswer from n) e = free-parts from n e
free-from (InContext key x) e = free-parts x.origin x.available e
free-from (InWaiter key w) e = free-parts w.origin w.cycles e

pub free-to : (i : Item) → IsFree i → ingress_cycles i ≡ 0
free-to (InCall from n) h = free-whole from n h
free-to (InAnswer from n) h = free-whole from n h
free-to (InContext key x) h = free-whole x.origin x.available h
free-to (InWaiter key w) h = free-whole w.origin w.cycles h

-- The order of contexts

module _ (list : List CallId) where
  below-from : (id : CallId) (o : Origin) → one (not (is_below (place_in list) id o)) ≡ 0 → IsBehind list id o
  below-from id (origin.Ingress k) e = tt
  below-from id (origin.Canister caller n context callback) e =
      ltb-true (place_in list context) (place_in list id) (true-of (nat_lt (place_in list context) (place_in list id)) e)

  below-to : (id : CallId) (o : Origin) → IsBehind list id o → one (not (is_below (place_in list) id o)) ≡ 0
  below-to id (origin.Ingress k) h = refl
  below-to id (origin.Canister caller n context callback) h = ap (λ b. one (not b)) (lt-ltb (place_in list context) (place_in list id) h)

  must-from : (id : CallId) (o : Origin) (must : Bool) → one (must && not (is_below (place_in list) id o)) ≡ 0 → must ≡ true → IsBehind list id o
  must-from id o true e h = below-from id o e
  must-from id o false e h = absurd (true≢false (sym h))

  must-to : (id : CallId) (o : Origin) (must : Bool) → (must ≡ true → IsBehind list id o) → one (must && not (is_below (place_in list) id o)) ≡ 0
  must-to id o true f = below-to id o (f refl)
  must-to id o false f = refl

  pub behind-from : (i : Item) → misranked (place_in list) i ≡ 0 → StandsBehind list i
  behind-from (InCall from n) e = tt
  behind-from (InAnswer from n) e = tt
  behind-from (InContext key x) e = must-from x.id x.origin x.must_respond e
  behind-from (InWaiter key w) e = tt

  pub behind-to : (i : Item) → StandsBehind list i → misranked (place_in list) i ≡ 0
  behind-to (InCall from n) h = refl
  behind-to (InAnswer from n) h = refl
  behind-to (InContext key x) h = must-to x.id x.origin x.must_respond h
  behind-to (InWaiter key w) h = refl
