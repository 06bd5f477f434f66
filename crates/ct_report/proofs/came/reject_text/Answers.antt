use Rattle.std.proofs.Common.{◌++◌, [], sym, ◌∙◌}
use Rattle.std.proofs.lemmas.List.{append-nil}
use Rattle.ct_report.specs.Told.{reject_front}
use Rattle.ct_report.proofs.Fronts.{begun}
use Rattle.ct_report.proofs.came.reject_text.Goals as goal

pub returns : goal.returns
returns c = begun (c.args.before.now ++ reject_front c.args.code) [] c.as_bytes.result.now _ c.joined.result (c.in_ok-front.ensures ∙ sym (append-nil (c.args.before.now ++ reject_front c.args.code))) c.joined.ensures
