use Rattle.std.proofs.Common.{◌≡◌, drop, map}
use Rattle.ct_names.specs.Words.{is_among}
use Rattle.ct_names.proofs.word.is_among.Given as goal

-- the words before are others
abbrev pub invariant-loop-other : goal.invariant-loop-other
invariant-loop-other l = is_among (map (λ w. w.now) (drop l.other-index l.words)) l.word ≡ is_among (map (λ w. w.now) l.words) l.word
