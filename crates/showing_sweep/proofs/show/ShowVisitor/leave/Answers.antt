use Rattle.std.proofs.Common.{refl, inl}
use Rattle.showing_sweep.proofs.Gathered.{with_count}
use Rattle.showing_sweep.proofs.show.ShowVisitor.leave.Goals as goal

pub returns-clause-done : goal.returns-clause-done
returns-clause-done c = rw (← c.self.view_is) (
  refl,
  inl (record {
    own = c.is_own_leaf.ensures.0 c.if-not-is_own_leaf.false;
    enclave = c.is_enclave.result;
    decides = record { enclave = c.is_enclave.ensures.enclave; skeleton = c.is_enclave.ensures.skeleton };
    counted = with_count (record { keys = c.self.inside.keys.now; tree = c.self.inside.tree; rows = c.self.inside.rows.items; counts = c.self.inside.counts }) c.args.cell.now c.is_enclave.result c.with_cell-counts.result c.with_leaf-self-inside.result c.with_cell-counts.ensures c.with_leaf-self-inside.ensures;
  }),
)
