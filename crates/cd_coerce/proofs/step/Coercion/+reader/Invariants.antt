use Rattle.std.proofs.Common.{◌≡◌, ◌+◌, drop}
use Rattle.cd_codec.specs.Measure.{number_each}
use Rattle.cd_codec.specs.View.{view, views, views_of_fields}
use Rattle.cd_coerce.specs.Read.{coerced}
use Rattle.cd_coerce.specs.Step.{setting, each_by, part_values, expected_at}
use Rattle.cd_coerce.proofs.LoopLemmas.{after}
use Rattle.cd_coerce.proofs.step.Coercion.+reader.Given as goal

-- what was read and what is still read are what is to be read
abbrev pub invariant-fields-loop-id : goal.invariant-fields-loop-id
invariant-fields-loop-id l =
    record {
      same : l.self.0 ≡ l.fn.self.0;
      read : after (views_of_fields l.items.items) (each_by (expected_at (setting l.fn.self.0.0 l.fn.self.0.1) l.fields (part_values l.parts)) (drop l.id-index l.expected))
          ≡ each_by (expected_at (setting l.fn.self.0.0 l.fn.self.0.1) l.fields (part_values l.parts)) l.expected;
      counted : number_each (part_values l.items.items) + l.self.1 ≡ l.fn.self.1;
    }

abbrev pub invariant-items-loop-value : goal.invariant-items-loop-value
invariant-items-loop-value l =
    record {
      same : l.self.0 ≡ l.fn.self.0;
      read : after (views l.items.items) (each_by (λ v. coerced (setting l.fn.self.0.0 l.fn.self.0.1) (view v) l.t l.u) (drop l.value-index l.values))
          ≡ each_by (λ v. coerced (setting l.fn.self.0.0 l.fn.self.0.1) (view v) l.t l.u) l.values;
      counted : number_each (views l.items.items) + l.self.1 ≡ l.fn.self.1;
    }
