-- A canister of the parts has handled its message.
use Rattle.std.proofs.Common.{◌≡◌, ℕ, List, Some, sym, ap, ◌∙◌, subst}
use Rattle.std.specs.BTreeMap.{BTreeMap}
use Rattle.std.specs.Map.{lookup, set_value}
use Rattle.ic_behaviour.specs.declared.call.Message.{Message}
use Rattle.ic_behaviour.specs.declared.env.Env.{Env}
use Rattle.ic_behaviour.specs.State.{at}
use Rattle.ic_behaviour.specs.Entry.{enters_by}
use Rattle.ic_behaviour.specs.Local.{local}
use Rattle.ic_api.specs.System.{system_api}
use Rattle.ic_state.specs.declared.canister.Canister.{Canister}
use Rattle.ic_state.specs.declared.world.Parts.{Parts}
use Rattle.ic_state.specs.Seen.{seen}
use Rattle.ic_state.specs.IsCanister.{IsCanister}
use Rattle.ic_exec.specs.declared.work.Done.{Done}
use Rattle.ic_exec.specs.Executed.{done_of}
use Rattle.ic_deliver.specs.Delivered.{with_sent, HasHandled}

pub has_handled : (env : Env) (id : List ℕ) (m : Message) (p q : Parts) (canisters : BTreeMap (List ℕ) Canister) (c after : Canister) (done : Done)
    → lookup (at id) p.canisters.entries ≡ Some c → canisters.entries ≡ set_value (at id) p.canisters.entries after
    → done_of after done ≡ local (enters_by system_api) env (seen c) m → IsCanister after → q ≡ with_sent id done (record p { canisters = canisters })
    → (b : Canister) → lookup (at id) p.canisters.entries ≡ Some b → HasHandled env id b m p q
has_handled env id m p q canisters c after done found set handled keeps sent b found_too =
    let both : Some c ≡ Some b = sym found ∙ found_too in
    let same : c ≡ b = cc in
    let there : q.canisters ≡ canisters = ap (λ (r : Parts). r.canisters) sent in
    subst (λ (x : Canister). HasHandled env id x m p q) same (record {
      after = after;
      done = done;
      handled = handled;
      keeps = keeps;
      entries = ap (λ (x : BTreeMap (List ℕ) Canister). x.entries) there ∙ set;
      sent = sent ∙ ap (λ (x : BTreeMap (List ℕ) Canister). with_sent id done (record p { canisters = x })) (sym there);
    })
