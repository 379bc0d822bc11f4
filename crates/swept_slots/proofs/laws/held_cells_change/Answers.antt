use Rattle.swept_slots.proofs.Swept.{held_cells_change}
use Rattle.swept_slots.proofs.laws.held_cells_change.Goals as goal

pub returns : goal.returns
returns g c = held_cells_change g.V.Visitor.entered g.V.Visitor.left
