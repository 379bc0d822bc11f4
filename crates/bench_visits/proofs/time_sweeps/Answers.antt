use Rattle.std.proofs.Common.{false, refl}
use Rattle.std.specs.FinSet as set
use Rattle.peano_curve.specs.declared.order.Direction.TheVariants.{Backward}
use Rattle.curve_cuts.specs.Cuts.{range_of}
use Rattle.curve_cuts.specs.Keys.{cuts_of}
use Rattle.vertex_stacks.specs.declared.kind.Kind.TheVariants.{Show}
use Rattle.tree_automaton.specs.declared.kinds.Serves.TheVariants.{Plain}
use Rattle.tree_automaton.proofs.Rests.{store_can_be_swept}
use Rattle.bench_visits.proofs.time_sweeps.Goals as goal

pub sweep-requires : goal.sweep-requires
sweep-requires g c =
    let can = store_can_be_swept c.args.keys.now.depth (range_of (cuts_of c.args.keys.now) 0) 0 Backward c.args.grid.now c.args.field.now c.in_ok-store.store (record { serves = Plain; dim = c.dim.result; new_grid = record { dim = c.dim.result; refined = set.empty }; may_want = false; loan = 0 }) Show c.requires.grid.deepest c.requires.grid.grid c.in_ok-store.ensures refl refl c.dim.ensures in
    record { asks = (can.sweep, can.asks) }
