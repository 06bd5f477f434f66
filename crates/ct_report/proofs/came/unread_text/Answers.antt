use Rattle.std.proofs.Common.{codes}
use Rattle.ct_report.proofs.Fronts.{begun}
use Rattle.ct_report.proofs.came.unread_text.Goals as goal

pub returns : goal.returns
returns c = begun (codes "replies") (codes " blob \"") c.as_bytes.result.now _ c.joined.result c.in_ok-front.ensures.ok c.joined.ensures
