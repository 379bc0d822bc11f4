-- The cells that a tree owns.
use Rattle.std.specs.Prelude.{◌≤◌, ℕ}
use Rattle.peano_keys.specs.declared.cell.CellKey.{CellKey}
use Rattle.curve_cuts.specs.Cuts.{Cuts, Owns}

-- a cell down to the depth that a tree owns
pub record IsOwn (k : Cuts) (t : ℕ) (c : CellKey) : Type 0 where
  pub level : c.level ≤ k.depth
  pub owns : Owns k t c
