-- What the source and the sink hold that are cut off: their bytes, where the cut is, and their faults.
use Rattle.std.specs.Prelude.{ℕ, List}
use Rattle.peano_io.specs.declared.cut_source.CutSource.{CutSource}
use Rattle.peano_io.specs.declared.cut_sink.CutSink.{CutSink}
use Rattle.peano_io.specs.Memory.{unread_bytes, sink_bytes, sink_room, sink_calls}

-- the bytes that are left, before the cut and behind it
abbrev pub cut_left : CutSource → List ℕ
cut_left s = unread_bytes s.unread

-- how many of them can be read before the cut
abbrev pub until_cut : CutSource → ℕ
until_cut s = s.until

-- how many reads failed
abbrev pub read_faults : CutSource → ℕ
read_faults s = s.faults

-- the bytes that were taken
abbrev pub cut_bytes : CutSink → List ℕ
cut_bytes s = sink_bytes s.sink

-- the most that can be taken in all
abbrev pub cut_room : CutSink → ℕ
cut_room s = sink_room s.sink

-- how many writes failed
abbrev pub write_faults : CutSink → ℕ
write_faults s = (sink_calls s.sink).faults
