-- A move asks one thing.
use Rattle.std.proofs.Common.{◌≡◌, ℕ, false, List, Option, Some, sym, ap, ◌∙◌, subst, inl, inr}
use Rattle.ic_base.proofs.Steps.{some_is}
use Rattle.ic_behaviour.specs.declared.install.Mode.{Mode}
use Rattle.ic_behaviour.specs.declared.install.Mode.TheVariants.{Reinstall, Upgrade}
use Rattle.ic_script.specs.declared.Ask.{Ask}
use Rattle.ct_scope.specs.declared.bound.InterfaceId.{InterfaceId}
use Rattle.ct_sources.specs.Files.{Files}
use Rattle.ct_check.specs.Filling.{Filling}
use Rattle.ct_check.specs.Moving.{Moving}
use Rattle.ct_check.specs.declared.checked.CheckedAction.{CheckedAction}
use Rattle.ct_check.specs.declared.checked.CheckedAction.TheVariants as actions
use Rattle.ct_check.specs.declared.checked.CheckedChange.{CheckedChange}
use Rattle.ct_check.specs.declared.checked.CheckedCreation.{CheckedCreation}
use Rattle.ct_check.specs.declared.checked.CheckedMessage.{CheckedMessage}
use Rattle.ct_outcomes.specs.declared.named.Named.{Named}
use Rattle.ct_outcomes.specs.Types.{Types}
use Rattle.ct_outcomes.specs.Arguments.{IsArgument}
use Rattle.ct_outcomes.proofs.Once.{one_argument}
use Rattle.ct_asked.specs.declared.asked.Asked.{Asked}
use Rattle.ct_asked.specs.declared.asked.Asked.TheVariants.{Call, Query}
use Rattle.ct_asked.specs.Requests.{Code, installing}
use Rattle.ct_asked.specs.Asked.{unless_too_long, IsMessage, IsCode, IsChange, IsCreation, Asks, AsksUpgrade, AsksBy, IsAsked}

-- arguments at the types of one interface are one
argument_once : (names : List Named) (filling : Option Filling) (found : Option Types) (t u : Types) (a b : List ℕ) → found ≡ Some t → found ≡ Some u
    → IsArgument t names filling a → IsArgument u names filling b → a ≡ b
argument_once names filling found t u a b e f x y =
    one_argument t names filling a b x (subst (λ (z : Types). IsArgument z names filling b) (some_is u t (sym f ∙ e)) y)

some_once : {A : Type 0} (found : Option A) (a b : A) → found ≡ Some a → found ≡ Some b → a ≡ b
some_once found a b e f = some_is a b (sym e ∙ f)

ask_once : (a b : Ask) → a.sender ≡ b.sender → a.callee ≡ b.callee → a.method ≡ b.method → a.arg ≡ b.arg → a ≡ b
ask_once a b sender callee method arg =
    ap (λ (x : List ℕ). record a { sender = x }) sender
    ∙ ap (λ (x : List ℕ). record a { sender = b.sender; callee = x }) callee
    ∙ ap (λ (x : List ℕ). record a { sender = b.sender; callee = b.callee; method = x }) method
    ∙ ap (λ (x : List ℕ). record a { sender = b.sender; callee = b.callee; method = b.method; arg = x }) arg

module _ (files : Files) (names : List Named) where
  message_once : (by : ℕ) (message : CheckedMessage) (a b : Ask) → IsMessage files names by message a → IsMessage files names by message b → a ≡ b
  message_once by message a b x y =
      ask_once a b (some_once _ a.sender b.sender x.sender y.sender) (some_once _ a.callee b.callee x.callee y.callee) (x.method ∙ sym y.method)
      (argument_once names (Some message.arguments) _ x.types y.types a.arg b.arg x.typed y.typed x.argument y.argument)

  code_once : (wasm : ℕ) (interface : InterfaceId) (arguments : Option Filling) (a b : Code) → IsCode files names wasm interface arguments a → IsCode files names wasm interface arguments b → a ≡ b
  code_once wasm interface arguments a b x y =
      ap (λ (w : List ℕ). record a { wasm = w }) (some_once _ a.wasm b.wasm x.file y.file)
      ∙ ap (λ (g : List ℕ). record a { wasm = b.wasm; arg = g }) (argument_once names arguments _ x.types y.types a.arg b.arg x.typed y.typed x.argument y.argument)

  change_once : (by : ℕ) (mode : Mode) (change : CheckedChange) (a b : Ask) → IsChange files names by mode change a → IsChange files names by mode change b → a ≡ b
  change_once by mode change a b x y =
      x.asks
      ∙ ap (λ (s : List ℕ). installing s x.canister mode x.code) (some_once _ x.sender y.sender x.from y.from)
      ∙ ap (λ (c : List ℕ). installing y.sender c mode x.code) (some_once _ x.canister y.canister x.to y.to)
      ∙ ap (λ (c : Code). installing y.sender y.canister mode c) (code_once change.wasm change.interface change.arguments x.code y.code x.installed y.installed)
      ∙ sym y.asks

  pub creation_once : (by : ℕ) (creation : CheckedCreation) (a b : List ℕ × Code) → IsCreation files names by creation a → IsCreation files names by creation b → a ≡ b
  creation_once by creation a b x y =
      ap (λ (s : List ℕ). (s, a.1)) (some_once _ a.0 b.0 x.from y.from)
      ∙ ap (λ (c : Code). (b.0, c)) (code_once creation.wasm creation.interface creation.arguments a.1 b.1 x.installed y.installed)

  asked_once : (way : Ask → Asked) (IsMeant : Ask → Type 0) → ((a b : Ask) → IsMeant a → IsMeant b → a ≡ b) → (x y : Asked) → Asks way IsMeant x → Asks way IsMeant y → x ≡ y
  asked_once way IsMeant once x y (inl (a, is, e)) (inl (b, are, f)) = e ∙ ap (unless_too_long way) (once a b is are) ∙ sym f
  asked_once way IsMeant once x y (inl (a, is, e)) (inr (none, f)) = absurd (none a is)
  asked_once way IsMeant once x y (inr (none, e)) (inl (b, are, f)) = absurd (none b are)
  asked_once way IsMeant once x y (inr (none, e)) (inr (none', f)) = e ∙ sym f

  upgrade_once : (by : ℕ) (change : CheckedChange) (x y : Asked) → AsksUpgrade files names by change x → AsksUpgrade files names by change y → x ≡ y
  upgrade_once by change x y (inl (may, is)) (inl (may', are)) = asked_once Call (IsChange files names by (Upgrade false) change) (change_once by (Upgrade false) change) x y is are
  upgrade_once by change x y (inl (may, is)) (inr (never, f)) = absurd (never may)
  upgrade_once by change x y (inr (never, e)) (inl (may, are)) = absurd (never may)
  upgrade_once by change x y (inr (never, e)) (inr (never', f)) = e ∙ sym f

  action_once : (by : ℕ) (action : CheckedAction) (x y : Asked) → AsksBy files names by action x → AsksBy files names by action y → x ≡ y
  action_once by (actions.Call message) x y is are = asked_once Call (IsMessage files names by message) (message_once by message) x y is are
  action_once by (actions.Query message) x y is are = asked_once Query (IsMessage files names by message) (message_once by message) x y is are
  action_once by (actions.Upgrade change) x y is are = upgrade_once by change x y is are
  action_once by (actions.Reinstall change) x y is are = asked_once Call (IsChange files names by Reinstall change) (change_once by Reinstall change) x y is are

  pub move_once : (moving : Moving) (x y : Asked) → IsAsked files names moving x → IsAsked files names moving y → x ≡ y
  move_once moving = action_once moving.by moving.action
