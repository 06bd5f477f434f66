use Rattle.std.proofs.Common.{List, sym, subst}
use Rattle.cd_types.specs.declared.entry.TyRef.{TyRef}
use Rattle.cd_part.specs.Meets.{Meets, done}
use Rattle.cd_part.proofs.meeting.met_from.Goals as goal

pub returns-clause-met : goal.returns-clause-met
returns-clause-met c =
    c.loop-ty.invariant.meets c.loop-ty.meeting.1 (subst (λ (todo : List TyRef). Meets c.args.table.now todo c.loop-ty.meeting.1 c.loop-ty.meeting.1) (sym c.in_default.ensures.0) done)
