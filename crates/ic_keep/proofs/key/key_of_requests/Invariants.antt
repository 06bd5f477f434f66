use Rattle.std.proofs.Common.{◌≡◌, drop}
use Rattle.ic_keep.specs.Key.{key_of_requests}
use Rattle.ic_keep.proofs.key.key_of_requests.Given as goal

abbrev pub invariant-loop-request : goal.invariant-loop-request
invariant-loop-request l = key_of_requests l.key (drop l.request-index l.requests) ≡ key_of_requests l.fn.key l.requests
