-- Canisters that come and go: what becomes of the numbers of their messages. No standard has this.
use Rattle.std.specs.Prelude.{ℕ, Bool, false, cond, not, List, [], ◌∷◌, ◌++◌, Option, Some, None}
use Rattle.std.specs.List.{filter, fold}
use Rattle.std.specs.Map.{lookup}
use Rattle.std.specs.Ordering.{nat_cmp, is_gt}
use Rattle.ic_behaviour.specs.declared.call.Message.{Message}
use Rattle.ic_behaviour.specs.State.{at, callee_of}
use Rattle.ic_queues.specs.Lines.{is_number}

-- ---- a canister that is new

abbrev pub goes_to : (key : List ℕ) → Option Message → Bool
goes_to key None = false
goes_to key (Some m) = at key (callee_of m)

-- whether the message of a number is to this canister
abbrev pub is_to : List (ℕ × Message) → (key : List ℕ) → ℕ → Bool
is_to entries key n = goes_to key (lookup (is_number n) entries)

-- the queue of a canister is the one that it has, and that of a new one is of the numbers to nobody until then
abbrev pub line_of : List (ℕ × Message) → (outside : List ℕ) → (key : List ℕ) → Option (List ℕ) → List ℕ
line_of entries outside key None = filter (is_to entries key) outside
line_of entries outside key (Some line) = line

-- the numbers to nobody without those
abbrev pub outside_of : List (ℕ × Message) → (outside : List ℕ) → (key : List ℕ) → Option (List ℕ) → List ℕ
outside_of entries outside key None = filter (λ n. not (is_to entries key n)) outside
outside_of entries outside key (Some line) = outside

-- ---- a canister that is gone

abbrev pub starts_below : ℕ → List ℕ → Bool
starts_below n [] = false
starts_below n (k ∷ ks) = is_gt (nat_cmp n k)

-- the front of a list that is below a number, and the rest
abbrev pub below : ℕ → List ℕ → List ℕ
below n [] = []
below n (k ∷ ks) = cond (is_gt (nat_cmp n k)) (k ∷ below n ks) []

abbrev pub from : ℕ → List ℕ → List ℕ
from n [] = []
from n (k ∷ ks) = cond (is_gt (nat_cmp n k)) (from n ks) (k ∷ ks)

-- a number comes after those of a second list that are below it
abbrev pub put_in : List ℕ × List ℕ → ℕ → List ℕ × List ℕ
put_in lines n = ((lines.0 ++ below n lines.1) ++ n ∷ [], from n lines.1)

abbrev pub both : List ℕ × List ℕ → List ℕ
both lines = lines.0 ++ lines.1

-- two lists of numbers that rise, as one
abbrev pub merge : List ℕ → List ℕ → List ℕ
merge line more = both (fold put_in ([], line) more)
