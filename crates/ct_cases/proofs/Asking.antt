-- What moves ask: a query asks no call, and a call no query; and of two states that are the same the same comes.
use Rattle.std.proofs.Common.{◌≡◌, ℕ, Bool, true, false, List, [], ◌∷◌, Option, Some, None, refl, ap, ◌∙◌, subst, inl, inr}
use Rattle.std.specs.Prelude.{if◌then◌else◌, length, nat_lt}
use Rattle.std.specs.Map.{lookup}
use Rattle.ic_behaviour.specs.declared.install.Mode.TheVariants.{Reinstall, Upgrade}
use Rattle.ic_behaviour.specs.State.{at, Canister, State}
use Rattle.ic_behaviour.specs.Counted.{CountedCanister, counted}
use Rattle.ic_behaviour.specs.Deliver.{env_at}
use Rattle.ic_behaviour.specs.Entry.{enters_by}
use Rattle.ic_api.specs.System.{system_api}
use Rattle.ic_entry.specs.Query.{query_response}
use Rattle.ic_script.specs.declared.Ask.{Ask}
use Rattle.ic_asking.specs.Asking.{answer_by, answer_now}
use Rattle.ic_order.specs.Order.{SameState}
use Rattle.ic_order.proofs.Same.{counts_same}
use Rattle.ct_sources.specs.Files.{Files}
use Rattle.ct_check.specs.Moving.{Moving}
use Rattle.ct_check.specs.declared.checked.CheckedAction.{CheckedAction}
use Rattle.ct_check.specs.declared.checked.CheckedAction.TheVariants as actions
use Rattle.ct_outcomes.specs.declared.named.Named.{Named}
use Rattle.ct_outcomes.specs.declared.came.Came.TheVariants.{ArgumentTooLong}
use Rattle.ct_asked.specs.declared.asked.Asked.{Asked}
use Rattle.ct_asked.specs.declared.asked.Asked.TheVariants.{Call, Query, Nothing}
use Rattle.ct_asked.specs.Asked.{Asks, AsksBy, IsAsked, IsMessage, IsChange, most_bytes}
use Rattle.ct_run.specs.Called.{came_of, doing}
use Rattle.ct_run.specs.Statements.{Setting, IsMoveMet}
use Rattle.ct_cases.specs.Interleaves.{is_query, IsAnswered, QueriesAreMet, Choose}

-- ---- one or the other

pub chosen_true : (b : Bool) (P Q : Type 0) → b ≡ true → P → Choose b P Q
chosen_true true P Q is p = p
chosen_true false P Q is p = cc

pub chosen_false : (b : Bool) (P Q : Type 0) → b ≡ false → Q → Choose b P Q
chosen_false true P Q is q = cc
chosen_false false P Q is q = q

pub of_true : (b : Bool) (P Q : Type 0) → b ≡ true → Choose b P Q → P
of_true true P Q is p = p
of_true false P Q is p = cc

pub of_false : (b : Bool) (P Q : Type 0) → b ≡ false → Choose b P Q → Q
of_false true P Q is q = cc
of_false false P Q is q = q

-- ---- what is asked

call_not_within : (b : Bool) (ask other : Ask) → Call ask ≡ (if b then Nothing ArgumentTooLong else Query other) → ⊥
call_not_within true ask other is = cc
call_not_within false ask other is = cc

query_not_within : (b : Bool) (ask other : Ask) → Query ask ≡ (if b then Nothing ArgumentTooLong else Call other) → ⊥
query_not_within true ask other is = cc
query_not_within false ask other is = cc

asks_query : (IsSaid : Ask → Type 0) (ask : Ask) → Asks Query IsSaid (Call ask) → ⊥
asks_query IsSaid ask (inl (other, said, is)) = call_not_within (nat_lt most_bytes (length other.arg)) ask other is
asks_query IsSaid ask (inr (none, is)) = cc

asks_call : (IsSaid : Ask → Type 0) (ask : Ask) → Asks Call IsSaid (Query ask) → ⊥
asks_call IsSaid ask (inl (other, said, is)) = query_not_within (nat_lt most_bytes (length other.arg)) ask other is
asks_call IsSaid ask (inr (none, is)) = cc

module _ (files : Files) (names : List Named) where
  no_call_by : (by : ℕ) (action : CheckedAction) (ask : Ask) → is_query action ≡ true → AsksBy files names by action (Call ask) → ⊥
  no_call_by by (actions.Query message) ask is asks = asks_query (IsMessage files names by message) ask asks
  no_call_by by (actions.Call message) ask is asks = cc
  no_call_by by (actions.Upgrade change) ask is asks = cc
  no_call_by by (actions.Reinstall change) ask is asks = cc

  no_query_by : (by : ℕ) (action : CheckedAction) (ask : Ask) → is_query action ≡ false → AsksBy files names by action (Query ask) → ⊥
  no_query_by by (actions.Query message) ask is asks = cc
  no_query_by by (actions.Call message) ask is asks = asks_call (IsMessage files names by message) ask asks
  no_query_by by (actions.Upgrade change) ask is (inl (may, asks)) = asks_call (IsChange files names by (Upgrade false) change) ask asks
  no_query_by by (actions.Upgrade change) ask is (inr (never, other)) = cc
  no_query_by by (actions.Reinstall change) ask is asks = asks_call (IsChange files names by Reinstall change) ask asks

  pub no_call : (moving : Moving) (ask : Ask) → is_query moving.action ≡ true → IsAsked files names moving (Call ask) → ⊥
  no_call moving ask is asks = no_call_by moving.by moving.action ask is asks

  pub no_query : (moving : Moving) (ask : Ask) → is_query moving.action ≡ false → IsAsked files names moving (Query ask) → ⊥
  no_query moving ask is asks = no_query_by moving.by moving.action ask is asks

-- ---- what comes of a query does not depend on the order of messages

module _ (s t : State) (same : SameState s t) where
  answer_same : (limit price : ℕ) (ask : Ask) (found : Option Canister) → answer_by limit price s ask found ≡ answer_by limit price t ask found
  answer_same limit price ask None = refl
  answer_same limit price ask (Some c) =
      let time : s.time ≡ t.time = ap (λ (u : State). u.time) same.rest in
      ap (λ (now : ℕ). query_response (enters_by system_api) (env_at now limit price) (counted s ask.callee c) ask.sender ask.method ask.arg) time
      ∙ ap (λ (d : CountedCanister). query_response (enters_by system_api) (env_at t.time limit price) d ask.sender ask.method ask.arg) (counts_same s t same ask.callee c)

  pub answer_alike : (limit price : ℕ) (ask : Ask) → answer_now limit price s ask ≡ answer_now limit price t ask
  unfolding answer_now
  answer_alike limit price ask =
      answer_same limit price ask (lookup (at ask.callee) s.canisters)
      ∙ ap (λ (u : State). answer_by limit price t ask (lookup (at ask.callee) u.canisters)) same.rest

  came_alike : (setting : Setting) (names : List Named) (moving : Moving) (asked : Asked) → is_query moving.action ≡ true → IsAsked setting.files names moving asked
      → (doing setting.charge s asked).came ≡ (doing setting.charge t asked).came
  came_alike setting names moving (Call ask) query is = absurd (no_call setting.files names moving ask query is)
  came_alike setting names moving (Query ask) query is = ap came_of (answer_alike setting.charge.limit setting.charge.price ask)
  came_alike setting names moving (Nothing came) query is = refl

  met_alike : (setting : Setting) (names : List Named) (moving : Moving) (b : Bool) → is_query moving.action ≡ b
      → Choose b (IsAnswered setting names s moving) (Unit {0}) → Choose b (IsAnswered setting names t moving) (Unit {0})
  met_alike setting names moving true query is = record {
    asked = is.asked;
    is = is.is;
    bound = is.bound;
    met = subst (λ x. IsMoveMet setting.files names moving.action x is.bound) (came_alike setting names moving is.asked query is.is) is.met;
  }
  met_alike setting names moving false query is = tt

  pub queries_alike : (setting : Setting) (names : List Named) (moves : List Moving) → QueriesAreMet setting names s moves → QueriesAreMet setting names t moves
  queries_alike setting names [] met = tt
  queries_alike setting names (moving ∷ moves) met = (met_alike setting names moving (is_query moving.action) refl met.0, queries_alike setting names moves met.1)
