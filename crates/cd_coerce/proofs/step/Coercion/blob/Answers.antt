use Rattle.std.proofs.Common.{rules, ◌≡◌, Some, false}
use Rattle.cd_types.specs.Shape.{shape}
use Rattle.cd_codec.specs.Wire.{is_nat8}
use Rattle.cd_coerce.specs.Read.{seq_of}
use Rattle.cd_coerce.proofs.StepLemmas.{in_tables}
use Rattle.cd_coerce.proofs.PartsLemmas.{blob_items}
use Rattle.cd_coerce.proofs.step.Coercion.blob.Goals as goal

pub returns-else-is_nat8-clause-value : goal.returns-else-is_nat8-clause-value
returns-else-is_nat8-clause-value c =
    let lower : Some c.in-Some-Some.from ≡ seq_of (shape c.args.self.now.0.0 c.args.t) = search rules in
    let upper : Some c.in-Some-Some.to ≡ seq_of (shape c.args.self.now.0.1 c.args.u) = search rules in
    let other : false ≡ is_nat8 c.in-Some-Some.to = search rules in
    rw (blob_items (in_tables c.args.self.now.0) c.args.bytes.now c.args.t c.args.u c.in-Some-Some.from c.in-Some-Some.to lower upper other) (c.list_read.ensures.value _ c.bytes.ensures.values)
