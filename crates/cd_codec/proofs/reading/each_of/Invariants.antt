use Rattle.std.proofs.Common.{◌≡◌, drop}
use Rattle.cd_codec.specs.View.{views}
use Rattle.cd_codec.specs.ReadValue.{each_at, value_at}
use Rattle.cd_codec.proofs.Loops.{with_front}
use Rattle.cd_codec.proofs.reading.each_of.Given as goal

abbrev pub invariant-loop-ty : goal.invariant-loop-ty
invariant-loop-ty l = with_front (views l.values.items) (each_at (value_at l.table 128) (drop l.ty-index l.types) l.unread l.rest) ≡ each_at (value_at l.table 128) l.types 1000000 l.bytes
