use Rattle.std.proofs.Common.{sym, subst, ap, arith, Err}
use Rattle.ic_outside.specs.declared.LineFault.{LineFault}
use Rattle.ic_script_runner.specs.Acts.{Ends}
use Rattle.ic_script_runner.specs.Script.{walk_of}
use Rattle.ic_script_runner.specs.declared.status.Status.{Status}
use Rattle.ic_script_runner.proofs.Unprinted.{Walks-end, Walks-fault, Walks-further, Walks-more, Walks-stopped}
use Rattle.ic_script_runner.proofs.generated.do_lines.Goals as goal

pub returns-in-Err-do_unprinted : goal.returns-in-Err-do_unprinted
returns-in-Err-do_unprinted g c =
    let walks = c.loop-line.invariant.0 in
    let reads = rw c.in-Ok-Some.field-0-is at (c.in-Ok-Some.ensures.reads walks.runs.fault) in
    Walks-stopped c.args.options.now c.args.text c.loop-line.source.left c.next.new.source.left c.loop-line.world c.loop-line.lines c.next.new.self walks
    c.in-Ok-Some.line c.in-Err-do_unprinted.status reads c.in-Err-do_unprinted.ensures

pub loop-line-smaller : goal.loop-line-smaller
loop-line-smaller g c =
    let walks = c.loop-line.invariant.0 in
    let reads = rw c.in-Ok-Some.field-0-is at (c.in-Ok-Some.ensures.reads walks.runs.fault) in
    omega (
      arith,
      Walks-further c.args.options.now c.args.text c.loop-line.source.left c.next.new.source.left c.loop-line.world c.loop-line.lines c.next.new.self walks
          c.in-Ok-Some.line reads,
    )

pub loop-line-preserved : goal.loop-line-preserved
loop-line-preserved g c =
    let walks = c.loop-line.invariant.0 in
    let reads = rw c.in-Ok-Some.field-0-is at (c.in-Ok-Some.ensures.reads walks.runs.fault) in (
      Walks-more c.args.options.now c.args.text c.loop-line.source.left c.next.new.source.left c.loop-line.world c.loop-line.lines c.next.new.self walks
          c.in-Ok-Some.line c.in-Ok-do_unprinted.next reads c.in-Ok-do_unprinted.ensures,
      (c.in-Ok-Some.ensures.sure c.loop-line.invariant.1).0,
    )

pub returns-in-Ok-None : goal.returns-in-Ok-None
returns-in-Ok-None g c =
    let walks = c.loop-line.invariant.0 in
    let reads = rw c.in-Ok-None.field-0-is at (c.in-Ok-None.ensures.reads walks.runs.fault) in
    Walks-end c.args.options.now c.args.text c.loop-line.source.left c.next.new.source.left c.loop-line.world c.loop-line.lines c.next.new.self walks reads

pub returns-in-Err : goal.returns-in-Err
returns-in-Err g c =
    let walks = c.loop-line.invariant.0 in
    let sure = c.in-Err.ensures.sure c.loop-line.invariant.1 in
    let P = λ (s : Status). Ends (walk_of c.args.options.now c.args.text).last (Err s) in
    subst P (sym c.from.ensures)
    (Walks-fault c.args.options.now c.args.text c.loop-line.source.left c.next.new.source.left c.loop-line.world c.loop-line.lines c.next.new.self walks
    c.in-Err.fault (c.in-Err.ensures.reads walks.runs.fault) (λ e. sure.2 walks.runs.fault (ap (λ (f : LineFault). Err f) e)))
