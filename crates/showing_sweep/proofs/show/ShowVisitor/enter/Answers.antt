use Rattle.std.proofs.Common.{refl, inl}
use Rattle.showing_sweep.proofs.Gathered.{with_row}
use Rattle.showing_sweep.proofs.show.ShowVisitor.enter.Goals as goal

pub returns-clause-done : goal.returns-clause-done
returns-clause-done c = rw (← c.self.view_is) (
  refl,
  inl (record {
    own = c.is_own_leaf.ensures.0 c.if-not-is_own_leaf.false;
    gathered = with_row (record { keys = c.self.inside.keys.now; tree = c.self.inside.tree; rows = c.self.inside.rows.items; counts = c.self.inside.counts }) c.args.cell.now c.dim.result c.row_in.result c.push.new.self.items c.dim.ensures c.row_in.ensures c.in_ok-push.ensures.items;
  }),
)
