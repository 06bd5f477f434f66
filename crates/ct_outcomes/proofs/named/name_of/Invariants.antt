use Rattle.std.proofs.Common.{◌≡◌, drop}
use Rattle.std.specs.List.{find}
use Rattle.ct_outcomes.specs.Standings.{stands_for}
use Rattle.ct_outcomes.proofs.named.name_of.Given as goal

abbrev pub invariant-loop-named : goal.invariant-loop-named
invariant-loop-named l = find (λ named. stands_for l.id named.standing) (drop l.named-index l.names) ≡ find (λ named. stands_for l.id named.standing) l.names
