-- The visits of a sweep: cells depth first, the children of a cell in the order of the curve.
use Rattle.std.specs.Prelude.{ℕ, zero, suc, ◌+◌, Bool, if◌then◌else◌, List, [], ◌∷◌, ◌++◌}
use Rattle.peano_keys.specs.declared.cell.CellKey.{CellKey}
use Rattle.peano_keys.specs.declared.dim.Dim.{Dim}
use Rattle.peano_keys.specs.Dim.{children}
use Rattle.peano_keys.specs.Cell.{root}
use Rattle.peano_curve.specs.declared.order.Direction.{Direction}
use Rattle.peano_curve.specs.Order.{child_along}
use Rattle.sweep_visits.specs.Plan.{SweepPlan, dim_of, is_visited, is_opened}

-- a cell is entered before the cells below it and left after them
pub data Visit : Type 0 where
  enter leave : CellKey → Visit

module _ (dim : Dim) (dir : Direction) where
  -- the lists of `more` children of a cell, from the child at place `k` on
  abbrev pub from_child : {A : Type 0} → (CellKey → List A) → CellKey → ℕ → ℕ → List A
  from_child each c k zero = []
  from_child each c k (suc more) = each (child_along dir dim c k) ++ from_child each c (k + 1) more

  module _ (visited opened : CellKey → Bool) where
    -- the visits of a cell and of what lies below it, `levels` levels down
    abbrev pub visits_at : ℕ → CellKey → List Visit
    visits_at zero c = if visited c then enter c ∷ leave c ∷ [] else []
    visits_at (suc levels) c = if visited c
        then enter c
        ∷ ((if opened c then from_child (visits_at levels) c 0 (children dim) else [])
        ++ leave c ∷ [])
        else []

-- the visits of a sweep
abbrev pub visits_of : SweepPlan → List Visit
visits_of p = visits_at (dim_of p) p.dir (is_visited p) (is_opened p) p.depth root
