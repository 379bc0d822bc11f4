use Rattle.adapt_marks.proofs.Exist.{marked_views_exist}
use Rattle.adapt_marks.proofs.laws.marked_views_exist.Goals as goal

pub returns : goal.returns
returns c = marked_views_exist
