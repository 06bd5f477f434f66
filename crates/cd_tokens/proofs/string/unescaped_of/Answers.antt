use Rattle.std.proofs.Common.{sym, ◌∙◌}
use Rattle.cd_tokens.proofs.Strings.{goes_further, stops_here, ends_here}
use Rattle.cd_tokens.proofs.string.unescaped_of.Goals as goal

pub returns-in-None : goal.returns-in-None
returns-in-None c = stops_here c.loop-byte.out.items c.loop-byte.within c.loop-byte.byte-index _ c.args.written.now _ c.loop-byte-test.true c.in-None.ensures c.loop-byte.invariant

pub loop-byte-preserved : goal.loop-byte-preserved
loop-byte-preserved c =
    goes_further c.loop-byte.out.items c.push_to.new.out.items c.loop-byte.within c.in-Some.next c.in-Some.said c.loop-byte.byte-index _ c.args.written.now _ c.loop-byte-test.true c.in-Some.ensures c.in_ok-push_to-in-Some.ensures c.loop-byte.invariant

pub returns-then-is_plain : goal.returns-then-is_plain
returns-then-is_plain c = ends_here c.loop-byte.out.items c.loop-byte.within c.loop-byte.byte-index c.args.written.now _ _ c.loop-byte-test.false (sym c.if-is_plain.true ∙ c.is_plain.ensures) c.loop-byte.invariant

pub returns-else-is_plain : goal.returns-else-is_plain
returns-else-is_plain c = ends_here c.loop-byte.out.items c.loop-byte.within c.loop-byte.byte-index c.args.written.now _ _ c.loop-byte-test.false (sym c.if-is_plain.false ∙ c.is_plain.ensures) c.loop-byte.invariant
