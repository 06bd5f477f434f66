use Rattle.std.proofs.Common.{ap, ◌∙◌}
use Rattle.std.specs.Prelude.{map}
use Rattle.wm_tree.specs.declared.parts.GlobalDef.{GlobalDef}
use Rattle.wm_tree.specs.declared.parts.Module.{Module}
use Rattle.wm_valid.specs.Imports.{call_of}
use Rattle.wm_valid.specs.SystemApi.{number_of}
use Rattle.wm_valid.proofs.Steps.{filter_map_found}
use Rattle.wm_valid.proofs.answer.codes_of.Goals as goal

pub invariant_of-scope : goal.invariant_of-scope
invariant_of-scope c =
    let m : Module = c.args.«module».now in
    record {
      indexed = c.requires.functions;
      numbered = c.deref-2.ensures.value ∙ c.in_ok-hosts.ensures ∙ ap (map number_of) (filter_map_found (call_of m.types) m.imports c.args.calls.now c.requires.calls);
      typed = c.deref-3.ensures.value ∙ c.in_ok-globals.ensures ∙ ap (map (λ (g : GlobalDef). g.kind)) (c.deref.ensures.value ∙ ap (λ (x : Module). x.globals) c.«module».view_is);
    }
