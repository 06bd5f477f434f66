use Rattle.std.proofs.Common.{◌≡◌, ℕ, Option, Some, List, ap, ◌∙◌, sym, rules}
use Rattle.std.specs.Prelude.{slice_get}
use Rattle.std.specs.Option.{option_copied}
use Rattle.wm_tree.specs.declared.parts.Module.{Module}
use Rattle.wm_valid.specs.Space.{type_of}
use Rattle.wm_run.proofs.Looking.{entry_typed}
use Rattle.wm_run.proofs.table.look_up.Goals as goal

pub unwrap-found-requires : goal.unwrap-found-requires
unwrap-found-requires c =
    let r = c.requires.fits in
    let f = c.in-Some-Some.function in
    let found : slice_get r.0.table c.args.place ≡ Some (Some f) =
    ap (λ (t : List (Option ℕ)). slice_get t c.args.place) r.1 ∙ sym c.in-Some-Some.ensures ∙ ap (λ (o : Option ℕ). Some o) c.in-Some-Some.field-0-is in
    let t = entry_typed c.args.valid.now r.0 c.args.place f c.module-module.ensures.valid r.2 found in
    let e : option_copied c.type_of.result ≡ Some t.0 = c.type_of.ensures ∙ ap (λ (m : Module). type_of m f) c.module-module.ensures.same ∙ t.1 in
    search rules
