use Rattle.std.proofs.Common.{rules}
use Rattle.grid_file.proofs.Steps.{nothing_refused, something_refused, one_read}
use Rattle.grid_file.proofs.boxes.rows_in.Goals as goal

pub returns-in_err-read : goal.returns-in_err-read
returns-in_err-read g c =
    let refused = something_refused g.R.Row.CODE (g.R.Row.checks c.args.head) c.args.items.now c.loop-index.index _ _ _ _ c.loop-index-test.true c.index-items-index.is c.in-Some.ensures c.in_err-read.ensures c.loop-index.invariant.faults in
    search rules

pub loop-index-preserved : goal.loop-index-preserved
loop-index-preserved g c = record {
  faults = nothing_refused g.R.Row.CODE (g.R.Row.checks c.args.head) c.args.items.now c.loop-index.index _ _ _ c.loop-index-test.true c.index-items-index.is c.in-Some.ensures c.in_ok-read.ensures.0 c.loop-index.invariant.faults;
  rows = rw c.in_ok-push.ensures.items (one_read (g.R.Row.says c.args.head) c.args.items.now c.loop-index.index _ _ _ _ _ c.loop-index-test.true c.index-items-index.is c.in-Some.ensures c.in_ok-read.ensures.1 c.loop-index.invariant.rows);
}
