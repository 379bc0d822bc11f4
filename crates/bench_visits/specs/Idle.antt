-- What the calls of a visitor do that changes nothing.
use Rattle.std.specs.Prelude.{◌≡◌}
use Rattle.peano_records.specs.declared.view.CellView.{CellView}
use Rattle.bench_visits.specs.declared.idle.Idle.{Idle}

-- the visitor and the view stay as they are
abbrev pub ChangesNothing : Idle → CellView → CellView → Idle → Type 0
ChangesNothing a v w b = (b ≡ a) × (w ≡ v)
