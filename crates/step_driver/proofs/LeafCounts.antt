-- What is told of a number of cells is so of the grid that has so many.
use Rattle.std.proofs.Common.{◌≡◌, ℕ, ◌-◌, ap, ◌∙◌}
use Rattle.std.specs.FinSet as set
use Rattle.peano_keys.specs.declared.dim.Dim.{Dim}
use Rattle.peano_keys.specs.Grid.{Spacetree}
use Rattle.spacetree.specs.Counts.{cells_for, cells_of, leaves_of}

pub leaves_told : (g : Spacetree) (dim : Dim) (cells leaves : ℕ) → cells ≡ cells_of g → g.dim ≡ dim → ((refined : ℕ) → cells ≡ cells_for dim refined → leaves ≡ cells - refined) → leaves ≡ leaves_of g
leaves_told g dim cells leaves size dims told = told (set.len g.refined) (size ∙ ap (λ d. cells_for d (set.len g.refined)) dims) ∙ ap (λ n. n - set.len g.refined) size
