use Rattle.std.proofs.Common.{◌≡◌, drop, List, ℕ}
use Rattle.cd_tokens.specs.ReadString.{said_then, unescaped_from, unescaped_of}
use Rattle.cd_tokens.proofs.string.says_bytes.Given as goal

-- some bytes are said so far
abbrev pub invariant-loop-byte : goal.invariant-loop-byte
invariant-loop-byte l = (out : List ℕ) × (said_then out (unescaped_from l.within (drop l.byte-index l.written)) ≡ unescaped_of l.written)
