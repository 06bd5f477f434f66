use Rattle.std.proofs.Common.{◌≡◌, drop, fold}
use Rattle.ic_exact.specs.Key.{mix}
use Rattle.ic_keep.proofs.key.with_words.Given as goal

abbrev pub invariant-loop-word : goal.invariant-loop-word
invariant-loop-word l = fold mix l.key (drop l.word-index l.words) ≡ fold mix l.fn.key l.words
