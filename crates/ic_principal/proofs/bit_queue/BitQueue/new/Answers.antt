use Rattle.std.proofs.Common.{refl}
use Rattle.ic_principal.specs.Bits.{bits_of}
use Rattle.ic_principal.proofs.bit_queue.BitQueue.new.Goals as goal

pub returns : goal.returns
unfolding bits_of
returns c = refl
