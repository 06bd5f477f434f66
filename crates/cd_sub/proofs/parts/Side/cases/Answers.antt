use Rattle.std.proofs.Common.{get_or, refl, sym, ◌∙◌, ap, arith}
use Rattle.std.specs.Ordering.{nat_cmp}
use Rattle.cd_types.specs.declared.entry.TyRef.TheVariants.{Prim}
use Rattle.cd_types.specs.declared.primitive.Primitive.TheVariants.{Null}
use Rattle.cd_sub.specs.Parts.{case_part, verdict}
use Rattle.cd_sub.proofs.PartLemmas.{read_step}
use Rattle.cd_sub.proofs.parts.Side.cases.Goals as goal

pub loop-id-preserved : goal.loop-id-preserved
loop-id-preserved c =
    let part = case_part c.args.self.now.lower.now c.args.self.now.upper.now c.args.self.now.turned in
    let field = get_or c.args.cases.now c.loop-id.id-index (0, Prim Null) in
    let call = c.type_of_field-next in
    record {
      inside = call.ensures.inside;
      all =
          read_step nat_cmp part c.args.expected.now c.args.cases.now c.loop-id.at call.result.0 c.loop-id.id-index (0, Prim Null) field field.0 call.result.1 c.loop-id.found.items c.labelled.new.found.items
          (omega arith) c.requires.cases refl refl call.ensures.found call.ensures.greater
          (sym c.in_ok-labelled.ensures ∙ ap (λ fits. verdict fits c.labelled.new.found.items) c.if-not-branch.false)
          ∙ c.loop-id.invariant.all;
    }
