-- How a report tells what came of a statement.
use Rattle.std.specs.Prelude.{◌≡◌, ℕ, ◌++◌, List, codes, decimal}
use Rattle.ct_outcomes.specs.declared.came.Came.{Came}
use Rattle.ct_outcomes.specs.declared.came.Came.TheVariants.{Replied, Rejected, Refused, NotValues, ArgumentTooLong, TooManyCalls, RoundsWithoutEnd, NoAnswer, NotMade, NotUpgradable, NotPrincipal}

-- the text begins with a front
abbrev pub BeginsWith : (front text : List ℕ) → Type 0
BeginsWith front text = (rest : List ℕ) × (text ≡ front ++ rest)

-- the front of the text of a reject: its code; the text that was rejected with is in quotes after it
unfoldable pub reject_front : ℕ → List ℕ
reject_front code = codes "rejects " ++ decimal code ++ codes " "

-- The text tells what came. What a reply has after its word, and a reject after its code, is not said here.
abbrev pub Tells : Came → List ℕ → Type 0
Tells (Replied bytes) text = BeginsWith (codes "replies") text
Tells (Rejected code said) text = BeginsWith (reject_front code) text
Tells Refused text = text ≡ codes "refused"
Tells NotValues text = text ≡ codes "arguments that are no values of their types"
Tells ArgumentTooLong text = text ≡ codes "argument too long"
Tells TooManyCalls text = text ≡ codes "too many calls"
Tells RoundsWithoutEnd text = text ≡ codes "rounds without end"
Tells NoAnswer text = text ≡ codes "no answer"
Tells (NotMade code said) text = BeginsWith (codes "no canister made: " ++ reject_front code) text
Tells NotUpgradable text = text ≡ codes "not upgradable"
Tells (NotPrincipal name) text = text ≡ codes "'" ++ name ++ codes "' is no principal"
