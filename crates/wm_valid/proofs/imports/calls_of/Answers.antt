use Rattle.std.proofs.Common.{sym, ap, ◌∙◌}
use Rattle.std.specs.Prelude.{is_none}
use Rattle.wm_valid.specs.Imports.{call_of, is_other}
use Rattle.wm_valid.proofs.Steps.{position_more, found_more}
use Rattle.wm_valid.proofs.imports.calls_of.Goals as goal

pub loop-number-preserved : goal.loop-number-preserved
loop-number-preserved c =
    let types = c.args.types.now in
    let imports = c.args.imports.now in
    let import = c.index-imports-number.result in (
      rw c.in_ok-push-in-Some.ensures.items
          (found_more (call_of types) imports c.loop-number.number import c.loop-number.calls.items c.in-Some.call c.loop-number-test.true c.index-imports-number.is (sym c.in-Some.ensures) c.loop-number.invariant.0),
      sym (position_more (is_other types) imports c.loop-number.number import c.loop-number-test.true c.index-imports-number.is (ap is_none (sym c.in-Some.ensures))) ∙ c.loop-number.invariant.1,
    )
