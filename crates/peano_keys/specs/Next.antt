-- The next grid: leaves that split are added, and refined cells that merge are taken away.
use Rattle.std.specs.Prelude.{◌≡◌, ◌⊎◌, ◌↔◌, ℕ, true, List}
use Rattle.peano_keys.specs.declared.cell.CellKey.{CellKey}
use Rattle.peano_keys.specs.declared.side.Mark.{Mark}
use Rattle.peano_keys.specs.declared.side.Mark.TheVariants.{Refine, Coarsen}
use Rattle.peano_keys.specs.Cell.{IsCell, IsDigits, child_of}
use Rattle.peano_keys.specs.Grid.{Spacetree, is_refined, is_leaf}

-- a leaf that is marked to be refined splits: a cell of the domain, as every leaf is
pub record Splits (t : Spacetree) (marks : CellKey → Mark) (c : CellKey) : Type 0 where
  pub cell : IsCell t.dim c
  pub leaf : is_leaf t c ≡ true
  pub marked : marks c ≡ Refine

-- a refined cell whose children are all leaves that are marked to be coarsened merges
pub record Merges (t : Spacetree) (marks : CellKey → Mark) (c : CellKey) : Type 0 where
  pub refined : is_refined t c ≡ true
  pub leaves : (k : List ℕ) → IsDigits t.dim k → is_leaf t (child_of c k) ≡ true
  pub marked : (k : List ℕ) → IsDigits t.dim k → marks (child_of c k) ≡ Coarsen

-- the new grid is the next one after the old by these marks
pub record IsNextGrid (old : Spacetree) (marks : CellKey → Mark) (new : Spacetree) : Type 0 where
  pub dim : new.dim ≡ old.dim
  pub refined : (c : CellKey)
      → (is_refined new c ≡ true)
      ↔ (Splits old marks c ⊎ ((is_refined old c ≡ true) × ¬ Merges old marks c))
