-- The counts that canisters store are kept by a delivery.
use Rattle.ic_behaviour.specs.Outcomes.{Enters}
use Rattle.ic_run_laws.specs.EntryKeeps.{EntriesKeep}
use Rattle.std.proofs.Common.{◌≡◌, ℕ, Bool, true, false, cond, true≢false, List, [], ◌∷◌, slice_get, Some, refl, sym, ap, ◌∙◌}
use Rattle.std.specs.Option.{is_some}
use Rattle.std.specs.Map.{lookup, set_value}
use Rattle.ic_behaviour.specs.declared.call.Origin.TheVariants as origin
use Rattle.ic_run_laws.proofs.Delivers.{deliver_advances, deliver_is, handled_answer, handled_call, no_ingress_answer}
use Rattle.ic_behaviour.proofs.Counts.{counted_same}
use Rattle.ic_behaviour.specs.Closing.{Handled}
use Rattle.ic_run_laws.proofs.Spots.{spot}
use Rattle.ic_run_laws.specs.Advances.{OutsideKeeps}
use Rattle.ic_behaviour.specs.Counted.{counted, dropped}
use Rattle.ic_behaviour.specs.Deliver.{Outside, env_at, deliver, handled_by, placed, without}
use Rattle.ic_behaviour.specs.Local.{local}
use Rattle.ic_behaviour.specs.State.{Canister, State, at, callee_of}
use Rattle.ic_behaviour.specs.Tallied.{Tallied}
use Rattle.ic_behaviour.specs.declared.call.Message.{Message}
use Rattle.ic_behaviour.specs.declared.call.Message.TheVariants.{Answer, Call}

look_up_again : (test : List ℕ → Bool) (es : List (List ℕ × Canister)) (b : Canister) → is_some (lookup test es) ≡ true → lookup test (set_value test es b) ≡ Some b
look_up_again test [] b some = absurd (true≢false (sym some))
look_up_again test (e ∷ es) b some = by (test e.0) refl some (λ h. look_up_again test es b h) where
  by : (c : Bool) → test e.0 ≡ c → is_some (cond c (Some e.1) (lookup test es)) ≡ true → (is_some (lookup test es) ≡ true → lookup test (set_value test es b) ≡ Some b) → lookup test (set_value test (e ∷ es) b) ≡ Some b
  by true is some later = rw is (rw is refl)
  by false is some later = rw is (rw is (later some))

abbrev handled : Enters → (limit price : ℕ) → State → Message → Canister → Handled
handled enters limit price s m a = local enters (env_at s.time limit price) (counted s (callee_of m) a) m

-- the canister stands as it handled the message
module _ (enters : Enters) (outside : Outside) (limit price : ℕ) (s : State) (place : ℕ) (m : Message) (is_m : slice_get s.messages place ≡ Some m) (a : Canister) (found : lookup (at (callee_of m)) s.canisters ≡ Some a) where
  is_placed : deliver enters outside limit price s place ≡ placed (without s place) (callee_of m) (handled enters limit price s m a)
  is_placed = deliver_is enters outside limit price s place m is_m ∙ ap (handled_by enters outside limit price s (without s place) m) found

  pub own_stands : lookup (at (callee_of m)) (deliver enters outside limit price s place).canisters ≡ Some (dropped (handled enters limit price s m a).canister)
  own_stands = ap (λ (t : State). lookup (at (callee_of m)) t.canisters) is_placed ∙ look_up_again (at (callee_of m)) s.canisters (dropped (handled enters limit price s m a).canister) (ap is_some found)

module _ (enters : Enters) (keeps : EntriesKeep enters) (outside : Outside) (out : OutsideKeeps outside) (limit price : ℕ) (s : State) (place : ℕ) (m : Message) (sound : Tallied s) (is_m : slice_get s.messages place ≡ Some m) where
  -- a message to another callee changes none of a canister's counts
  pub counts_others : (key : List ℕ) (b : Canister) → at (callee_of m) key ≡ false → counted (deliver enters outside limit price s place) key b ≡ counted s key b
  counts_others key b differs =
      counted_same s (deliver enters outside limit price s place) key (λ id. (deliver_advances enters keeps outside out limit price s place sound m is_m).others key id differs) b

  -- and its own canister has the counts that it stores
  pub counts_own : (a : Canister) → lookup (at (callee_of m)) s.canisters ≡ Some a
      → counted (deliver enters outside limit price s place) (callee_of m) (dropped (handled enters limit price s m a).canister) ≡ (handled enters limit price s m a).canister
  counts_own a found =
      ap (λ t. counted t (callee_of m) (dropped (handled enters limit price s m a).canister)) (is_placed enters outside limit price s place m is_m a found) ∙ stores m is_m found where
        stores : (n : Message) → slice_get s.messages place ≡ Some n → lookup (at (callee_of n)) s.canisters ≡ Some a
            → counted (placed (without s place) (callee_of n) (handled enters limit price s n a)) (callee_of n) (dropped (handled enters limit price s n a).canister) ≡ (handled enters limit price s n a).canister
        stores (Call o sender key method arg cycles) e f = (handled_call enters keeps limit price s place sound key a (spot key s.canisters a f) o sender method arg cycles e).counts
        stores (Answer (origin.Canister caller n own callback) sender response refund) e f = (handled_answer enters keeps limit price s place sound caller a (spot caller s.canisters a f) n own callback sender response refund e).counts
        stores (Answer (origin.Ingress k) sender response refund) e f = absurd (no_ingress_answer s place sound k sender response refund e)
