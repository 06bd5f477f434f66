use Rattle.std.proofs.Common.{arith}
use Rattle.std.specs.Prelude.{is_ok}
use Rattle.ct_sources.proofs.Wasm.{decoded_if}
use Rattle.ct_sources.proofs.file_wasm.wasm_of.Goals as goal

pub returns-in-Ok : goal.returns-in-Ok
returns-in-Ok c = decoded_if c.valid_of.result (λ said. is_ok said) c.args.bytes.now c.in-Ok.module (omega (arith, c.if-bytes-gt-LARGEST.false)) c.in-Ok.ensures.found.0 c.in-Ok.ensures.found.1 c.in-Ok.ensures.only c.valid_of.ensures
