use Rattle.std.proofs.Common.{◌∙◌}
use Rattle.pool_events.specs.Histories.{events_told}
use Rattle.running_threads.specs.Runs.{history_of}
use Rattle.running_threads.proofs.Opened.{opens, covers}
use Rattle.running_threads.proofs.Runs.{tells}
use Rattle.running_threads.proofs.laws.runs_answer.Goals as goal

pub returns : goal.returns
returns g c updated r over cell leaf = c.each_leaf_is_answered.ensures updated r.grid r.field r.core (events_told (history_of r.points)) (opens r.cuts r.grid r.field r.dir r.core r.begins.core) (covers r.cuts r.grid r.field r.dir r.core r.begins.core r.begins.cut) ((tells c.args.pool.now r updated).sweep ∙ over) cell leaf
