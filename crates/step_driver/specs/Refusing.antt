-- Why a step is refused.
use Rattle.std.specs.Prelude.{◌≡◌, ℕ, ◌<◌, ◌≤◌, Option, Some, None}
use Rattle.peano_keys.specs.declared.cell.CellKey.{CellKey}
use Rattle.spacetree.specs.declared.limits.TheConstants.{MOST_CELLS}
use Rattle.spacetree.specs.declared.fault.EvalFault.{EvalFault}
use Rattle.spacetree.specs.declared.fault.EvalFault.TheVariants.{Overflow, Crowded, NoMemory}

-- By the least failing leaf, if there is one, and the size of the next grid: a step is refused at that leaf; or, where no leaf fails, for a size above 200,000
abbrev pub IsRefusal : Option CellKey → ℕ → ℕ → Option EvalFault → Type 0
IsRefusal failing cells step None = (failing ≡ None) × (cells ≤ MOST_CELLS)
IsRefusal failing cells step (Some (Overflow s c)) = (s ≡ step) × (failing ≡ Some c)
IsRefusal failing cells step (Some (Crowded s n)) = (s ≡ step) × (n ≡ cells) × (failing ≡ None)
    × (MOST_CELLS < cells)
IsRefusal failing cells step (Some NoMemory) = ⊥
