use Rattle.std.proofs.Common.{◌≡◌, ◌+◌, drop}
use Rattle.cd_codec.specs.Measure.{number_each}
use Rattle.cd_codec.specs.View.{views}
use Rattle.cd_coerce.specs.Parts.{byte_value}
use Rattle.cd_coerce.specs.Read.{coerced}
use Rattle.cd_coerce.specs.Step.{setting, each_by}
use Rattle.cd_coerce.proofs.LoopLemmas.{after}
use Rattle.cd_coerce.proofs.step.Coercion.bytes.Given as goal

-- what was read and what is still read are what is to be read
abbrev pub invariant-loop-byte : goal.invariant-loop-byte
invariant-loop-byte l =
    record {
      same : l.self.0 ≡ l.fn.self.0;
      read : after (views l.items.items) (each_by (λ b. coerced (setting l.fn.self.0.0 l.fn.self.0.1) (byte_value b) l.t l.u) (drop l.byte-index l.bytes))
          ≡ each_by (λ b. coerced (setting l.fn.self.0.0 l.fn.self.0.1) (byte_value b) l.t l.u) l.bytes;
      counted : number_each (views l.items.items) + l.self.1 ≡ l.fn.self.1;
    }
