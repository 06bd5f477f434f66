use Rattle.std.proofs.Common.{◌≡◌, take}
use Rattle.ct_cases.proofs.meanings.copied_names.Given as goal

abbrev pub invariant-loop-named : goal.invariant-loop-named
invariant-loop-named l = l.items.items ≡ take l.named-index l.named-items
