use Rattle.std.proofs.Common.{ℕ, List, [], ◌∷◌, ◌++◌, subst, sym}
use Rattle.std.proofs.lemmas.Bool.{false≢true}
use Rattle.ic_outside.specs.Pieces.{HasNoLf}
use Rattle.ic_outside.proofs.PieceLaws.{HasNoLf-head, HasNoLf-tail}
use Rattle.ic_outside.proofs.lines.Lines.has_line.Goals as goal

lf_behind : (line rest : List ℕ) → HasNoLf (line ++ 10 ∷ rest) → ⊥
lf_behind [] rest none = false≢true (sym (HasNoLf-head 10 rest none))
lf_behind (b ∷ line) rest none = lf_behind line rest (HasNoLf-tail b (line ++ 10 ∷ rest) none)

pub returns-in-Some-clause-yes : goal.returns-in-Some-clause-yes
returns-in-Some-clause-yes c = λ none. let begins = c.in-Some.ensures.0 in lf_behind begins.line begins.rest (subst HasNoLf begins.whole none)
