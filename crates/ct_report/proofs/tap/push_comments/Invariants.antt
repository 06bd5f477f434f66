use Rattle.std.proofs.Common.{◌≡◌, ◌++◌, take}
use Rattle.ct_report.specs.Texts.{comments_text}
use Rattle.ct_report.proofs.tap.push_comments.Given as goal

abbrev pub invariant-loop-comment : goal.invariant-loop-comment
invariant-loop-comment l = l.out.items ≡ l.fn.out.items ++ comments_text (take l.comment-index l.comments)
