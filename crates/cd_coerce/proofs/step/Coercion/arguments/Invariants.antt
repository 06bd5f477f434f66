use Rattle.std.proofs.Common.{◌≡◌, ◌+◌, drop}
use Rattle.cd_codec.specs.Measure.{number_each}
use Rattle.cd_codec.specs.View.{views}
use Rattle.cd_coerce.specs.Step.{setting}
use Rattle.cd_coerce.specs.Decoded.{arguments_from}
use Rattle.cd_coerce.proofs.LoopLemmas.{after}
use Rattle.cd_coerce.proofs.step.Coercion.arguments.Given as goal

-- what was read and what is still read are what is to be read
abbrev pub invariant-loop-place : goal.invariant-loop-place
invariant-loop-place l =
    record {
      same : l.self.0 ≡ l.fn.self.0;
      read : after (views l.items.items) (arguments_from (setting l.fn.self.0.0 l.fn.self.0.1) l.place l.types (views l.values) (drop l.place l.expected))
          ≡ arguments_from (setting l.fn.self.0.0 l.fn.self.0.1) 0 l.types (views l.values) l.expected;
      counted : number_each (views l.items.items) + l.self.1 ≡ l.fn.self.1;
    }
