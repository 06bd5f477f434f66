use Rattle.std.proofs.Common.{◌++◌, false, sym, subst, ◌∙◌, ap}
use Rattle.std.specs.List.{flat_map}
use Rattle.wm_decode.specs.Mod.{Mod}
use Rattle.wm_encode.specs.Whole.{section, sections}
use Rattle.wm_encode.proofs.Whole.{part_fits, mod_spelled}
use Rattle.wm_encode.proofs.writer.encode.Goals as goal

pub returns-clause-grammar : goal.returns-clause-grammar
returns-clause-grammar c =
    let m = c.args.module.now in
    let bytes = c.in_ok-write_sections.ensures.written ∙ ap (λ items. items ++ flat_map section (sections m)) c.in_ok-items.ensures.items in
    subst (Mod false m) (sym bytes) (mod_spelled m c.in_ok-write_sections.ensures.ranged c.requires)

pub write_sections-requires : goal.write_sections-requires
write_sections-requires c = part_fits c.args.module.now c.requires
