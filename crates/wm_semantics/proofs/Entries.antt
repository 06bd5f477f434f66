-- The outcome of an entry by the relation and by the function.
use Rattle.std.proofs.Common.{◌≡◌, ℕ, ap, sym, ◌∙◌}
use Rattle.wm_tree.specs.declared.parts.Module.{Module}
use Rattle.wm_store.specs.Lists.{Lists}
use Rattle.wm_semantics.specs.declared.target.Target.{Target}
use Rattle.wm_semantics.specs.Hosts.{Answers}
use Rattle.wm_semantics.specs.Begin.{InvokesOn}
use Rattle.wm_semantics.specs.Fuel.{HostOf, answers_of, AgreesWith, Rises}
use Rattle.wm_semantics.proofs.ByFuel.{invoked_by_fuel}
use Rattle.wm_semantics.proofs.Total.{invokes_total}
use Rattle.wm_semantics.specs.Entry.{Entered, Entry, entered_or, entry}

pub entry_by_function : {H : Type 0} (answers : Answers H) (reply : HostOf H) → Rises reply → AgreesWith reply answers
    → (m : Module) (s : Lists) (target : Target) (h : H) (limit spent : ℕ) (e : Entered H) → Entry answers m s target h limit spent e → entry reply m s target h limit spent ≡ e
unfolding entry
entry_by_function answers reply rises agrees m s target h limit spent e x =
    ap (entered_or spent) (invoked_by_fuel answers reply rises agrees m limit h s spent target x.outcome x.runs) ∙ sym x.is

pub entry_total : {H : Type 0} (reply : HostOf H) → Rises reply → (m : Module) (s : Lists) (target : Target) (h : H) (limit spent : ℕ) → InvokesOn (answers_of reply) m limit h s spent target
    → Entry (answers_of reply) m s target h limit spent (entry reply m s target h limit spent)
unfolding entry
entry_total reply rises m s target h limit spent on =
    let total = invokes_total reply rises m limit h s spent target on in
    record { outcome = total.0; runs = total.2; is = ap (entered_or spent) total.1 }
