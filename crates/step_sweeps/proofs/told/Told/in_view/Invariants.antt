use Rattle.std.proofs.Common.{◌≡◌}
use Rattle.step_sweeps.specs.Told.{told_corner}
use Rattle.swept_slots.proofs.Views.{CornersBelow}
use Rattle.step_sweeps.proofs.told.Told.in_view.Given as goal

abbrev pub invariant-loop-n : goal.invariant-loop-n
invariant-loop-n l = CornersBelow (λ j k x. x ≡ told_corner l.dim l.self j k) l.n l.fn.cell l.cell
