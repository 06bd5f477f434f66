use Rattle.std.proofs.Common.{◌≡◌, ℕ, ◌<◌}
use Rattle.std.specs.Prelude.{slice_index_or}
use Rattle.ic_state.specs.declared.canister.Code.{Code}
use Rattle.ic_state.specs.Seen.{code_of}
use Rattle.ic_keep.proofs.codes.Codes.find.Given as goal

-- none of those before is this code
abbrev pub invariant-loop-i : goal.invariant-loop-i
invariant-loop-i l = (k : ℕ) (d : Code) → k < l.i → ¬ (code_of (slice_index_or l.self k d) ≡ code_of l.code)
