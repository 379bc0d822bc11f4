use Rattle.handed_down.proofs.Rounds.{previous_by_faces}
use Rattle.handed_down.proofs.ages.previous_axis.Goals as goal

pub returns : goal.returns
returns c = λ dir dim k cell below is. previous_by_faces dir dim k c.args.n cell below c.args.faces.now is c.age_in.result c.age_in-2.result c.age_in-3.result c.age_in.ensures c.age_in-2.ensures c.age_in-3.ensures c.youngest.result c.youngest.ensures
