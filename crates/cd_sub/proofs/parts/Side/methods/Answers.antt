use Rattle.std.proofs.Common.{sym, ◌∙◌, ap, arith}
use Rattle.std.specs.Ordering.{nat_cmp}
use Rattle.std.specs.Cmp.Lexicographic.{slice_cmp}
use Rattle.cd_sub.specs.Parts.{method_part, verdict}
use Rattle.cd_sub.proofs.PartLemmas.{read_step}
use Rattle.cd_sub.proofs.parts.Side.methods.Goals as goal

pub loop-method-preserved : goal.loop-method-preserved
loop-method-preserved c =
    let part = method_part c.args.self.now.lower.now c.args.self.now.upper.now c.args.self.now.turned in
    let method = c.method-item.result in
    let call = c.type_of_method-next in
    record {
      inside = call.ensures.inside;
      all =
          read_step (slice_cmp nat_cmp) part c.args.methods.now c.args.expected.now c.loop-method.at call.result.0 c.loop-method.method-index method method c.method_name.result.now call.result.1 c.loop-method.found.items c.labelled.new.found.items
          (omega arith) c.requires.expected (sym c.method-item.is) c.method_name.ensures call.ensures.found call.ensures.greater
          (sym c.in_ok-labelled.ensures ∙ ap (λ fits. verdict fits c.labelled.new.found.items) c.if-not-branch.false)
          ∙ c.loop-method.invariant.all;
    }
