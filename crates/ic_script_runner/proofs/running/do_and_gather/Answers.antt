use Rattle.std.proofs.Common.{◌≡◌, ap, sym, ◌∙◌, inl}
use Rattle.ic_outside.specs.declared.Line.{Line}
use Rattle.ic_script_runner.specs.AfterLine.{after_line}
use Rattle.ic_script_runner.proofs.running.do_and_gather.Goals as goal

pub returns-in-Err : goal.returns-in-Err
returns-in-Err g c =
    let line : c.deref.result.now ≡ c.args.line.now.bytes = c.deref.ensures.value ∙ ap (λ (l : Line). l.bytes) c.line.view_is in
    let text : c.deref-in-Ok.result.now ≡ c.in-Ok.text = (let v = c.deref-in-Ok.ensures.value in let w = c.text.view_is in cc) in
    record {
      does = inl (
        (c.in-Ok.next, c.in-Ok.text),
        sym (ap (after_line c.args.setting.now.options.now c.args.world) line) ∙ c.in-Ok.ensures,
        rw (sym text) c.in-Err.ensures,
      );
    }
