use Rattle.std.proofs.Common.{length}
use Rattle.std.specs.Prelude.{All, MatchOption, slice_get}
use Rattle.ct_search.specs.declared.case.Case.{Case}
use Rattle.ct_search.specs.Meaning.{May}
use Rattle.ct_search.specs.Search.{all_seen, AreMoves}
use Rattle.ct_search.proofs.diving.put_moves.Given as goal

abbrev pub invariant-loop-place : goal.invariant-loop-place
invariant-loop-place g l =
    AreMoves (g.M.Machine.meaning l.machine) (all_seen g.M.Machine.state l.keeper l.met.cases.items) l.moves.items
    × All (λ place. MatchOption (slice_get (all_seen g.M.Machine.state l.keeper l.met.cases.items) l.case) ⊥ (λ (x : Case _). May (g.M.Machine.meaning l.machine) x.kept place)) l.places.items

abbrev pub decreases-loop-place : goal.decreases-loop-place
decreases-loop-place g l = length l.places.items
