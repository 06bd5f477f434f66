use Rattle.std.proofs.Common.{◌≡◌}
use Rattle.std.specs.List.{fold}
use Rattle.ic_calls.specs.Sent.{answered_in}
use Rattle.ic_calls.proofs.routing.give_all.Given as goal

abbrev pub invariant-loop-given : goal.invariant-loop-given
invariant-loop-given l = record {
  given : l.parts ≡ fold (λ q given. answered_in l.sender given q) l.initial.parts l.yielded;
  rest : l.parts ≡ record l.initial.parts { messages = l.parts.messages; requests = l.parts.requests };
}
