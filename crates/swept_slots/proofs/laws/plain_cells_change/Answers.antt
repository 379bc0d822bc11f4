use Rattle.swept_slots.proofs.Swept.{plain_cells_change}
use Rattle.swept_slots.proofs.laws.plain_cells_change.Goals as goal

pub returns : goal.returns
returns g c = plain_cells_change g.V.Visitor.entered g.V.Visitor.left
