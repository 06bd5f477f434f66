use Rattle.std.proofs.Common.{◌≡◌, drop, map}
use Rattle.cd_grammar.specs.Words.{word_in}
use Rattle.cd_grammar.proofs.word.find_word.Given as goal

-- the words before are written otherwise
abbrev pub invariant-loop-spelling : goal.invariant-loop-spelling
invariant-loop-spelling l = word_in (map (λ w. (w.0.now, w.1)) (drop l.spelling-index l.words)) l.bytes ≡ word_in (map (λ w. (w.0.now, w.1)) l.words) l.bytes
