-- What the source over a reader and the sink over a writer hold.
use Rattle.std.specs.Prelude.{ℕ, Bool}
use Rattle.peano_io.specs.declared.standard.StdSource.{StdSource}
use Rattle.peano_io.specs.declared.standard.StdSink.{StdSink}

-- the reader, as it stands now
abbrev pub source_reader : {R : Type 0} → StdSource R → R
source_reader s = s.reader

-- how often a read failed
abbrev pub read_faults : {R : Type 0} → StdSource R → ℕ
read_faults s = s.faults

-- whether a read told the end
abbrev pub has_ended : {R : Type 0} → StdSource R → Bool
has_ended s = s.ended

-- the writer, as it stands now
abbrev pub sink_writer : {W : Type 0} → StdSink W → W
sink_writer s = s.writer

-- how often a write failed
abbrev pub write_faults : {W : Type 0} → StdSink W → ℕ
write_faults s = s.faults
