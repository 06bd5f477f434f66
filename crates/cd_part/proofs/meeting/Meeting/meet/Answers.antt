use Rattle.std.proofs.Common.{◌∷◌, sym, subst}
use Rattle.cd_types.specs.declared.entry.TyRef.{TyRef}
use Rattle.cd_part.specs.Meets.{Meets, primitive}
use Rattle.cd_part.proofs.meeting.Meeting.meet.Goals as goal

pub returns-in-Prim-clause-meets : goal.returns-in-Prim-clause-meets
returns-in-Prim-clause-meets c =
    λ after more. subst (λ (ty : TyRef). Meets c.args.self.now.0 (ty ∷ c.args.todo.now) c.args.self.now.1 after) (sym c.in-Prim.is) (primitive more)
