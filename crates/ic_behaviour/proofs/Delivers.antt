-- What the delivery of a message to a canister does to messages and canisters.
use Rattle.std.proofs.Common.{◌≡◌, ℕ, true, List, ◌++◌, Option, Some, None, sym, ap, ◌∙◌}
use Rattle.std.specs.Prelude.{slice_get, is_some}
use Rattle.std.specs.List.{remove, list_any}
use Rattle.std.specs.Map.{lookup, keys_of}
use Rattle.std.proofs.lemmas.List.{append_assoc}
use Rattle.std.proofs.lemmas.Map.{keys-set_value}
use Rattle.std.proofs.lemmas.Map.Made.{is_some-lookup}
use Rattle.ic_behaviour.specs.declared.call.Message.{Message}
use Rattle.ic_behaviour.specs.State.{at, callee_of, Canister, State}
use Rattle.ic_behaviour.specs.Deliver.{handled_by, without, delivered, deliver}
use Rattle.ic_behaviour.specs.Steps.{Rules, step}

-- whether a canister has that id
abbrev pub is_there : State → List ℕ → Type 0
is_there s key = is_some (lookup (at key) s.canisters) ≡ true

pub there_by_keys : (s t : State) (key : List ℕ) → keys_of t.canisters ≡ keys_of s.canisters → is_there s key → is_there t key
there_by_keys s t key same is =
    is_some-lookup (at key) t.canisters ∙ ap (list_any (at key)) same ∙ sym (is_some-lookup (at key) s.canisters) ∙ is

-- what a delivery leaves: the message is gone, others come last, and canisters have the ids that they had
pub record Left (rules : Rules) (s : State) (place : ℕ) : Type 0 where
  pub outs : List Message
  pub messages : (step rules s place).messages ≡ remove s.messages place ++ outs
  pub keys : keys_of (step rules s place).canisters ≡ keys_of s.canisters

found_left : (rules : Rules) (s : State) (place : ℕ) (m : Message) (o : Option Canister) → is_some o ≡ true
    → (outs : List Message)
    × ((handled_by rules.enters rules.outside rules.limit rules.price s (without s place) m o).messages ≡ remove s.messages place ++ outs)
    × (keys_of (handled_by rules.enters rules.outside rules.limit rules.price s (without s place) m o).canisters ≡ keys_of s.canisters)
found_left rules s place m None is = absurd cc
found_left rules s place m (Some c) is = (_, append_assoc (remove s.messages place) _ _, keys-set_value (at (callee_of m)) s.canisters _)

pub deliver_left : (rules : Rules) (s : State) (place : ℕ) (m : Message) → slice_get s.messages place ≡ Some m → is_there s (callee_of m) → Left rules s place
unfolding deliver
deliver_left rules s place m is there =
    let left = found_left rules s place m (lookup (at (callee_of m)) s.canisters) there in
    let same : step rules s place
    ≡ handled_by rules.enters rules.outside rules.limit rules.price s (without s place) m (lookup (at (callee_of m)) s.canisters) =
    ap (delivered rules.enters rules.outside rules.limit rules.price s place) is in
    record {
      outs = left.0;
      messages = ap (λ (t : State). t.messages) same ∙ left.1;
      keys = ap (λ (t : State). keys_of t.canisters) same ∙ left.2;
    }
