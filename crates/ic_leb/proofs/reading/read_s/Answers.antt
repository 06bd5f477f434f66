use Rattle.ic_leb.specs.Reading.{signed_at}
use Rattle.ic_leb.proofs.Places.{value_at_place, short_at_place, long_at_place, wide_at_place}
use Rattle.ic_leb.proofs.Readers.{signed_format}
use Rattle.ic_leb.proofs.reading.read_s.Goals as goal

pub returns-clause-value : goal.returns-clause-value
unfolding signed_at
returns-clause-value c = value_at_place (signed_format c.args.width) c.args.bytes.now c.args.at c.signed.result c.requires c.signed.ensures.exact

pub returns-clause-short : goal.returns-clause-short
unfolding signed_at
returns-clause-short c = short_at_place (signed_format c.args.width) c.args.bytes.now c.args.at c.signed.result c.signed.ensures.exact

pub returns-clause-long : goal.returns-clause-long
unfolding signed_at
returns-clause-long c = long_at_place (signed_format c.args.width) c.args.bytes.now c.args.at c.signed.result c.signed.ensures.exact

pub returns-clause-wide : goal.returns-clause-wide
unfolding signed_at
returns-clause-wide c = wide_at_place (signed_format c.args.width) c.args.bytes.now c.args.at c.signed.result c.signed.ensures.exact
