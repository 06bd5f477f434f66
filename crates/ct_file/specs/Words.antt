-- The words of test files.
use Rattle.std.specs.Prelude.{ℕ, Bool, List, codes}
use Rattle.cd_tokens.specs.Token.{Token, run}
use Rattle.cd_tokens.specs.Front.{is_word as is_run}
use Rattle.ct_file.specs.declared.keyword.Keyword.{Keyword}
use Rattle.ct_file.specs.declared.keyword.Keyword.TheVariants.{User, Time, As, Canister, Principal, With, Cycles, Call, Query, Upgrade, Reinstall, Replies, Rejects, Refused, Or, Test, Interleave}

-- how a word is written
unfoldable pub spelling : Keyword → List ℕ
spelling User = codes "user"
spelling Time = codes "time"
spelling As = codes "as"
spelling Canister = codes "canister"
spelling Principal = codes "principal"
spelling With = codes "with"
spelling Cycles = codes "cycles"
spelling Call = codes "call"
spelling Query = codes "query"
spelling Upgrade = codes "upgrade"
spelling Reinstall = codes "reinstall"
spelling Replies = codes "replies"
spelling Rejects = codes "rejects"
spelling Refused = codes "refused"
spelling Or = codes "or"
spelling Test = codes "test"
spelling Interleave = codes "interleave"

-- a word as a token
abbrev pub word : Keyword → Token
word w = run (spelling w)

-- the token is this word
abbrev pub is_word : Keyword → Token → Bool
is_word w token = is_run (spelling w) token
