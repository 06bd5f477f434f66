use Rattle.std.proofs.Common.{refl}
use Rattle.ic_leb.specs.Spelling.{unsigned_spelling, seven_bits_each}
use Rattle.ic_behaviour.specs.Closing.{empty_reply}
use Rattle.ic_mgmt_candid.proofs.laws.empty_reply_is_a_message.Goals as goal

pub returns : goal.returns
unfolding empty_reply unsigned_spelling seven_bits_each
returns c = refl
