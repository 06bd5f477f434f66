use Rattle.cd_text.proofs.walk.Walk.+pass_byte.Given as goal

abbrev pub decreases-pass_byte : goal.decreases-pass_byte
decreases-pass_byte l = l.depth
