use Rattle.std.proofs.Common.{refl}
use Rattle.wm_pages.proofs.Steps.{before_none}
use Rattle.wm_pages.proofs.pages.Pages.keep.Goals as goal

pub returns-clause-before : goal.returns-clause-before
returns-clause-before c = before_none _ _ refl
