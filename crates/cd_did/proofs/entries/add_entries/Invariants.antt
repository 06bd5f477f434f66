use Rattle.cd_did.specs.Formed.{MadeSoFar}
use Rattle.cd_did.proofs.entries.add_entries.Given as goal

abbrev pub invariant-loop-written : goal.invariant-loop-written
invariant-loop-written l = MadeSoFar l.ended.names.now l.ended.ends.now l.written-index l.made.items
