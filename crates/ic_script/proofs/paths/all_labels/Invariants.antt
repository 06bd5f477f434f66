use Rattle.std.proofs.Common.{◌≡◌, map, drop}
use Rattle.ic_script.specs.Paths.{label_word}
use Rattle.ic_script.specs.Steps.{each}
use Rattle.ic_script.proofs.Each.{made_and}
use Rattle.ic_script.proofs.paths.all_labels.Given as goal

abbrev pub invariant-loop-word : goal.invariant-loop-word
invariant-loop-word l = made_and l.labels.items (each label_word (map (λ w. w.now) (drop l.word-index l.words))) ≡ each label_word (map (λ w. w.now) l.words)
