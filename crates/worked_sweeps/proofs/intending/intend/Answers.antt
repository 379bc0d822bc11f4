use Rattle.std.proofs.Common.{rules}
use Rattle.curve_cuts.specs.Keys.{cuts_of}
use Rattle.worked_sweeps.proofs.Over.{written_over}
use Rattle.worked_sweeps.proofs.intending.intend.Goals as goal

pub returns : goal.returns
returns g c = record {
  over = written_over (cuts_of c.args.keys.now) c.args.grid.now c.args.store.now c.write_all.new.store c.write_all.ensures c.requires;
  slots = c.are_before.ensures (search rules);
}
