use Rattle.running_threads.proofs.Ends.{keeps_leaf}
use Rattle.running_threads.proofs.laws.tasks_keep_leaves.Goals as goal

pub returns : goal.returns
returns c updated core events i n l h = keeps_leaf updated i n l core events h
