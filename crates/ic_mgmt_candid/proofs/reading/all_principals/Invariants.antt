use Rattle.std.proofs.Common.{◌≡◌, drop}
use Rattle.cd_codec.specs.View.{views}
use Rattle.ic_mgmt_candid.specs.Picks.{as_principals, with_front}
use Rattle.ic_mgmt_candid.proofs.reading.all_principals.Given as goal

abbrev pub invariant-loop-value : goal.invariant-loop-value
invariant-loop-value l = with_front l.items.items (as_principals (views (drop l.value-index l.values))) ≡ as_principals (views l.fn.values)
