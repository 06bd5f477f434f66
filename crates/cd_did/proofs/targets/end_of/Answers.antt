use Rattle.std.proofs.Common.{ℕ, length, refl, sym, ap, ◌∙◌}
use Rattle.std.proofs.lemmas.Option.{slice_get_read}
use Rattle.std.specs.Prelude.{slice_get}
use Rattle.cd_did.specs.Faults.{Definitions}
use Rattle.cd_did.specs.Targets.{row_or}
use Rattle.cd_did.proofs.targets.end_of.Goals as goal

pub returns-in-Some : goal.returns-in-Some
returns-in-Some c =
    let lookup = c.in-Some.ensures.lookup in
    let there = slice_get_read c.definitions.result.now (length c.definitions.result.now) c.jump_from.result c.in-Some.definition.now refl lookup.3.0 lookup.1 in
    ap (row_or c.args.part.now) (sym there)
    ∙ ap (λ (ds : Definitions). row_or c.args.part.now (slice_get ds c.jump_from.result)) c.definitions.ensures
    ∙ ap (λ (i : ℕ). row_or c.args.part.now (slice_get c.args.ended.now.names.now.definitions i)) c.jump_from.ensures
