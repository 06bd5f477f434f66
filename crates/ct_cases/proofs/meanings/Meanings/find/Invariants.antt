use Rattle.std.proofs.Common.{◌≡◌, ℕ, ◌<◌, get_or}
use Rattle.ct_cases.specs.Meanings.{Meaning}
use Rattle.ct_cases.proofs.meanings.Meanings.find.Given as goal

-- none of them so far is this one
abbrev pub invariant-loop-place : goal.invariant-loop-place
invariant-loop-place l = (k : ℕ) (d : Meaning) → k < l.place → get_or l.self k d ≡ l.meaning → ⊥
