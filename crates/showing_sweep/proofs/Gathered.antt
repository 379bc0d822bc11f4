-- What a call of the visitor adds.
use Rattle.std.proofs.Common.{◌≡◌, Bool, List, [], ◌∷◌, ◌++◌, ap, ◌∙◌}
use Rattle.peano_keys.specs.declared.dim.Dim.{Dim}
use Rattle.peano_records.specs.declared.view.CellView.{CellView}
use Rattle.spacetree.specs.declared.row.Row.{Row}
use Rattle.showing_sweep.specs.declared.counts.CellCounts.{CellCounts}
use Rattle.showing_sweep.specs.Shows.{ShowWork, row_in, with_cell, with_leaf}

-- the visitor with a row more
pub with_row : (a : ShowWork) (v : CellView) (dim : Dim) (row : Row) (rows : List Row) → dim ≡ a.keys.dim → row ≡ row_in dim v → rows ≡ a.rows ++ row ∷ [] → record { keys = a.keys; tree = a.tree; rows = rows; counts = a.counts } ≡ record a { rows = a.rows ++ row_in a.keys.dim v ∷ [] }
with_row a v dim row rows at is more = ap (λ l. record a { rows = l }) (more ∙ ap (λ r. a.rows ++ r ∷ []) (is ∙ ap (λ d. row_in d v) at))

-- the visitor with a leaf more that is counted
pub with_count : (a : ShowWork) (v : CellView) (enclave : Bool) (cell leaf : CellCounts) → cell ≡ with_cell v a.counts → leaf ≡ with_leaf enclave cell → record { keys = a.keys; tree = a.tree; rows = a.rows; counts = leaf } ≡ record a { counts = with_leaf enclave (with_cell v a.counts) }
with_count a v enclave cell leaf counted counted_leaf = ap (λ n. record a { counts = n }) (counted_leaf ∙ ap (with_leaf enclave) counted)
