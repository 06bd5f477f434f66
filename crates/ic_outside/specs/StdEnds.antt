-- What a clause reads of an end over a standard stream.
use Rattle.std.specs.Prelude.{ℕ, Bool}
use Rattle.ic_outside.specs.declared.std_source.StdSource.{StdSource}
use Rattle.ic_outside.specs.declared.std_sink.StdSink.{StdSink}

-- the reader inside
abbrev pub std_reader : {R : Type 0} → StdSource R → R
std_reader source = source.reader

-- how many reads failed
abbrev pub source_faults : {R : Type 0} → StdSource R → ℕ
source_faults source = source.faults

-- whether the reader gave its end
abbrev pub source_ended : {R : Type 0} → StdSource R → Bool
source_ended source = source.ended

-- the writer inside
abbrev pub std_writer : {W : Type 0} → StdSink W → W
std_writer sink = sink.writer

-- how many writes failed
abbrev pub sink_faults : {W : Type 0} → StdSink W → ℕ
sink_faults sink = sink.faults
