use Rattle.std.proofs.Common.{◌≡◌, ◌++◌, Bool, true, false, cond, List, ℕ, Option, Some, None, refl}
use Rattle.std.specs.Prelude.{is_some}
use Rattle.cd_tokens.specs.ReadString.{bytes_of}
use Rattle.cd_tokens.proofs.Strings.{goes_further, stops_here, ends_here}
use Rattle.cd_tokens.proofs.string.says_bytes.Goals as goal

pub returns-in-None : goal.returns-in-None
returns-in-None c = rw (stops_here c.loop-byte.invariant.0 c.loop-byte.within c.loop-byte.byte-index _ c.args.written.now _ c.loop-byte-test.true c.in-None.ensures c.loop-byte.invariant.1) refl

pub loop-byte-preserved : goal.loop-byte-preserved
loop-byte-preserved c =
    let more = c.loop-byte.invariant.0 ++ bytes_of c.in-Some.field-0-1 in
    (more, goes_further c.loop-byte.invariant.0 more c.loop-byte.within c.in-Some.next c.in-Some.field-0-1 c.loop-byte.byte-index _ c.args.written.now _ c.loop-byte-test.true c.in-Some.ensures refl c.loop-byte.invariant.1)

whether : (plain : Bool) (out : List ℕ) (read : Option (List ℕ)) → read ≡ cond plain (Some out) None → plain ≡ is_some read
whether true out read e = rw e refl
whether false out read e = rw e refl

pub returns : goal.returns
returns c = whether c.is_plain.result c.loop-byte.invariant.0 _ (ends_here c.loop-byte.invariant.0 c.loop-byte.within c.loop-byte.byte-index c.args.written.now _ c.is_plain.result c.loop-byte-test.false c.is_plain.ensures c.loop-byte.invariant.1)
