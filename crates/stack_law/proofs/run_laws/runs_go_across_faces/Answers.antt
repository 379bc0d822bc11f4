use Rattle.stack_law.proofs.Followers.{runs_go_across_faces}
use Rattle.stack_law.proofs.run_laws.runs_go_across_faces.Goals as goal

pub returns : goal.returns
returns c = runs_go_across_faces
