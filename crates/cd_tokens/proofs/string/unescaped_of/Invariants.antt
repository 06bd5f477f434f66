use Rattle.std.proofs.Common.{◌≡◌, drop}
use Rattle.cd_tokens.specs.ReadString.{said_then, unescaped_from, unescaped_of}
use Rattle.cd_tokens.proofs.string.unescaped_of.Given as goal

abbrev pub invariant-loop-byte : goal.invariant-loop-byte
invariant-loop-byte l = said_then l.out.items (unescaped_from l.within (drop l.byte-index l.written)) ≡ unescaped_of l.written
