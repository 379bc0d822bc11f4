use Rattle.handed_down.proofs.Rounds.{next_by_faces}
use Rattle.handed_down.proofs.ages.next_axis.Goals as goal

pub returns : goal.returns
returns c = λ dir dim k cell below is. next_by_faces dir dim k c.args.n cell below c.args.faces.now is c.age_out.result c.age_out-2.result c.age_out-3.result c.age_out.ensures c.age_out-2.ensures c.age_out-3.ensures c.youngest.result c.youngest.ensures
