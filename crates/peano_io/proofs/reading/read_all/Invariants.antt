-- So far `all` is what the source lost, at most `limit` bytes, and nothing failed. Each turn adds a byte.
use Rattle.std.proofs.Common.{length, vec_len, ◌≡◌, ◌-◌, ◌≤◌, false}
use Rattle.std.specs.Io.KnownBytes.{Consumes}
use Rattle.peano_io.proofs.reading.read_all.Given as goal

abbrev pub invariant-loop-count : goal.invariant-loop-count
invariant-loop-count g l = record {
  lost : Consumes (g.S.Source.left l.fn.src) (g.S.Source.left l.src) l.all.items;
  within : vec_len l.all ≤ l.limit;
  kept : g.S.Source.faults l.src ≡ g.S.Source.faults l.fn.src;
  before_end : g.S.Source.ended l.src ≡ false;
  piece : length l.piece ≡ 8192;
}

abbrev pub decreases-loop-count : goal.decreases-loop-count
decreases-loop-count g l = l.most - vec_len l.all
