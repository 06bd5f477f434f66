use Rattle.std.proofs.Common.{◌∙◌}
use Rattle.ic_exact.proofs.Keying.{next_word}
use Rattle.ic_exact.proofs.key.key_of_range.Goals as goal

pub loop-rest-preserved : goal.loop-rest-preserved
loop-rest-preserved c =
    next_word c.loop-rest.key c.mix-key.result c.word_of.result c.loop-rest.rest.now c.split_at.result.0.now c.split_at.result.1.now
    c.split_at.ensures.back_len c.split_at.ensures.front c.split_at.ensures.back c.word_of.ensures c.mix-key.ensures
    ∙ c.loop-rest.invariant
