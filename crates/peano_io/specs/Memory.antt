-- What the sources and sinks in memory hold: their bytes, and the numbers of the calls that fail.
use Rattle.std.specs.Prelude.{ℕ, Bool, if◌then◌else◌, List, drop, Contains}
use Rattle.peano_io.specs.Causes.{counted}
use Rattle.peano_io.specs.declared.calls.Calls.{Calls}
use Rattle.peano_io.specs.declared.memory_source.Unread.{Unread}
use Rattle.peano_io.specs.declared.memory_source.MemSource.{MemSource}
use Rattle.peano_io.specs.declared.memory_source.SureSource.{SureSource}
use Rattle.peano_io.specs.declared.memory_sink.MemSink.{MemSink}

-- the next call is one of those that fail
abbrev pub IsListed : Calls → Type 0
IsListed calls = Contains calls.failing.items calls.next

-- the calls after one more: its number is counted, and a fault where it was not Ok
abbrev pub after_call : Calls → Bool → Calls
after_call calls ok = record calls {
  next = counted calls.next;
  faults = (if ok then calls.faults else counted calls.faults);
}

-- the bytes from the place of the next read on
abbrev pub unread_bytes : Unread → List ℕ
unread_bytes u = drop u.at u.bytes.items

-- the bytes that are left
abbrev pub source_left : MemSource → List ℕ
source_left s = unread_bytes s.unread

-- its calls: the numbers of those that fail, the number of the next one, and how many failed
abbrev pub source_calls : MemSource → Calls
source_calls s = s.calls

-- whether a read told the end
abbrev pub source_ended : MemSource → Bool
source_ended s = s.unread.ended

-- the bytes that are left
abbrev pub sure_left : SureSource → List ℕ
sure_left s = unread_bytes s.unread

-- whether a read told the end
abbrev pub sure_ended : SureSource → Bool
sure_ended s = s.unread.ended

-- the bytes that were taken
abbrev pub sink_bytes : MemSink → List ℕ
sink_bytes s = s.bytes.items

-- the most that can be taken in all
abbrev pub sink_room : MemSink → ℕ
sink_room s = s.room

-- the most that one write takes
abbrev pub sink_piece : MemSink → ℕ
sink_piece s = s.piece

-- its calls: the numbers of those that fail, the number of the next one, and how many failed
abbrev pub sink_calls : MemSink → Calls
sink_calls s = s.calls
