use Rattle.std.proofs.Common.{sym, ◌∙◌}
use Rattle.cd_tokens.proofs.Ends.{found, further, no_quote}
use Rattle.cd_tokens.proofs.token.end_of.Goals as goal

pub returns-then-is_unescaped-clause-value : goal.returns-then-is_unescaped-clause-value
returns-then-is_unescaped-clause-value c = found c.loop-place.escaped c.args.bytes.now c.loop-place.place _ _ c.loop-place-test.true (sym c.is_unescaped.ensures ∙ c.if-is_unescaped.true) c.loop-place.invariant

pub loop-place-preserved : goal.loop-place-preserved
loop-place-preserved c = rw c.is_unescaped-escaped.ensures (further c.loop-place.escaped c.args.bytes.now c.loop-place.place _ _ c.loop-place-test.true (sym c.is_unescaped.ensures ∙ c.if-is_unescaped.false) c.loop-place.invariant)

pub returns-clause-value : goal.returns-clause-value
returns-clause-value c = no_quote c.loop-place.escaped c.args.bytes.now c.loop-place.place _ c.loop-place-test.false c.loop-place.invariant
