use Rattle.ic_leb.specs.Reading.{unsigned_at}
use Rattle.ic_leb.proofs.Places.{value_at_place, short_at_place, long_at_place, wide_at_place}
use Rattle.ic_leb.proofs.Readers.{unsigned_format}
use Rattle.ic_leb.proofs.reading.read_u.Goals as goal

pub returns-clause-value : goal.returns-clause-value
unfolding unsigned_at
returns-clause-value c = value_at_place (unsigned_format c.args.width) c.args.bytes.now c.args.at c.unsigned.result c.requires c.unsigned.ensures.exact

pub returns-clause-short : goal.returns-clause-short
unfolding unsigned_at
returns-clause-short c = short_at_place (unsigned_format c.args.width) c.args.bytes.now c.args.at c.unsigned.result c.unsigned.ensures.exact

pub returns-clause-long : goal.returns-clause-long
unfolding unsigned_at
returns-clause-long c = long_at_place (unsigned_format c.args.width) c.args.bytes.now c.args.at c.unsigned.result c.unsigned.ensures.exact

pub returns-clause-wide : goal.returns-clause-wide
unfolding unsigned_at
returns-clause-wide c = wide_at_place (unsigned_format c.args.width) c.args.bytes.now c.args.at c.unsigned.result c.unsigned.ensures.exact
