use Rattle.std.proofs.Common.{◌≡◌, drop}
use Rattle.cd_coerce.specs.Step.{setting}
use Rattle.cd_coerce.specs.Decoded.{unfit_from}
use Rattle.cd_coerce.proofs.step.Coercion.unfit.Given as goal

-- those before fit
abbrev pub invariant-loop-place : goal.invariant-loop-place
invariant-loop-place l =
    record {
      same : l.self ≡ l.fn.self;
      fit : unfit_from (setting l.fn.self.0.0 l.fn.self.0.1) l.place l.types (drop l.place l.expected) ≡ unfit_from (setting l.fn.self.0.0 l.fn.self.0.1) 0 l.types l.expected;
    }
