use Rattle.std.proofs.Common.{false, refl, arith}
use Rattle.peano_keys.specs.declared.dim.Dim.{Dim}
use Rattle.curve_cuts.specs.Cuts.{range_of}
use Rattle.curve_cuts.specs.Keys.{cuts_of}
use Rattle.vertex_stacks.specs.declared.kind.Kind.TheVariants as kind
use Rattle.tree_automaton.specs.declared.kinds.Serves.TheVariants.{Plain}
use Rattle.tree_automaton.specs.Promises.{Meaning}
use Rattle.tree_automaton.proofs.Rests.{store_can_be_swept}
use Rattle.adapt_sweep.specs.Lone.{lone}
use Rattle.worked_sweeps.proofs.showing.watch.Goals as goal

abbrev meaning_of : Dim → Meaning
meaning_of dim = record { serves = Plain; dim = dim; new_grid = lone; may_want = false; loan = 0 }

pub sweep-requires : goal.sweep-requires
sweep-requires c =
    let can = store_can_be_swept 2 (range_of (cuts_of c.args._keys.now) 0) 0 c.args.store.now.dir c.args.grid.now c.args._field.now c.args.store.now (meaning_of c.args.watcher.now.dim) kind.Show (omega arith) c.requires.grid c.requires.stands refl refl c.requires.dim in
    record { asks = (can.sweep, can.asks) }
