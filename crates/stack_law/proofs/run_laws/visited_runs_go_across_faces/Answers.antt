use Rattle.stack_law.proofs.Visited.{visited_runs_go_across_faces}
use Rattle.stack_law.proofs.run_laws.visited_runs_go_across_faces.Goals as goal

pub returns : goal.returns
returns c = visited_runs_go_across_faces
