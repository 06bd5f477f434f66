use Rattle.std.proofs.Common.{refl, ap, ◌∙◌}
use Rattle.wm_store.specs.Held.{Held}
use Rattle.ic_calls.proofs.PhaseKeeps.{emptied_keeps}
use Rattle.ic_calls.proofs.uninstalling.uninstall.Goals as goal

pub returns-clause-keeps : goal.returns-clause-keeps
returns-clause-keeps c =
    emptied_keeps c.args.canister.now _ c.requires.keeps c.delete.ensures refl refl refl refl refl
    (ap (λ (s : Held). s.lists) c.put.ensures ∙ c.empty.ensures.lists) (ap (λ (s : Held). s.begun) c.put.ensures ∙ c.empty.ensures.begun)
