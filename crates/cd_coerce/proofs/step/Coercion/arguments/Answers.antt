use Rattle.std.proofs.Common.{rules, ap, ◌∙◌, arith}
use Rattle.std.proofs.lemmas.Grind.{common_steps}
use Rattle.std.proofs.lemmas.List.{map_push}
use Rattle.cd_codec.specs.View.{view, views}
use Rattle.cd_coerce.proofs.CountLemmas.{number_push}
use Rattle.cd_coerce.proofs.step.Coercion.arguments.Goals as goal

pub loop-place-preserved : goal.loop-place-preserved
loop-place-preserved c =
    let grown = ap views c.in_ok-push.ensures.items ∙ map_push view c.loop-place.items.items c.in_ok-value.value in
    record {
      same = search rules;
      read = grind (arith, common_steps);
      counted = rw (grown, number_push (views c.loop-place.items.items) (view c.in_ok-value.value)) (omega (arith, c.in_ok-value.ensures.counted, c.loop-place.invariant.counted));
    }
