-- Sums of the new numbers of leaves, with merging cells in place of their leaves, and the field that comes next.
use Rattle.std.specs.Prelude.{◌≡◌, ◌↔◌, ℕ, zero, suc, ◌-◌, ◌≤◌, ℤ, pos, ◌*ℤ◌, Bool, true, false, if◌then◌else◌}
use Rattle.peano_keys.specs.declared.dim.Dim.{Dim}
use Rattle.peano_keys.specs.declared.cell.CellKey.{CellKey}
use Rattle.peano_keys.specs.declared.side.Mark.{Mark}
use Rattle.peano_keys.specs.Cell.{IsCell, parent_of, child_of}
use Rattle.peano_keys.specs.Grid.{Spacetree, IsGrid, is_refined, has_cell}
use Rattle.peano_keys.specs.Next.{Merges, IsNextGrid}
use Rattle.cell_sums.specs.Bounds.{WeighsBetween, AllBetween}
use Rattle.solver_api.specs.Step.{IsLeafOf}
use Rattle.peano_keys.specs.Sums.{over_children, weight, cell_weight, floor_of, mean_of}

-- a sum with its floor in its place
abbrev pub rounded : ℤ → ℕ → ℤ
rounded s w = floor_of s w *ℤ pos w

-- what a cell hands up to its parent: its sum, and where it merges its own new number times its weight
abbrev pub handed_up : Dim → (CellKey → Bool) → ℕ → CellKey → ℤ → ℤ
handed_up dim merging levels c s = if merging c then rounded s (weight dim levels) else s

-- the sum of a cell: of the new numbers of the leaves below it times weight, with each merging cell strictly below it in place of its leaves
abbrev pub next_sum : Spacetree → (CellKey → Bool) → (CellKey → ℤ) → ℕ → CellKey → ℤ
next_sum t merging now zero c = now c *ℤ pos (weight t.dim zero)
next_sum t merging now (suc levels) c =
    if is_refined t c
    then over_children t.dim (λ k. handed_up t.dim merging levels (child_of c k)
    (next_sum t merging now levels (child_of c k)))
    else now c *ℤ pos (weight t.dim (suc levels))

-- a test of the cells that merge
abbrev pub TellsMerges : Spacetree → (CellKey → Mark) → (CellKey → Bool) → Type 0
TellsMerges t marks merging = (c : CellKey) → (merging c ≡ true) ↔ Merges t marks c

-- a component of the next field: a leaf that stays has its new number, a child of a split leaf that leaf's, a merged cell its mean
pub record AreNextNumbers (depth : ℕ) (old new : Spacetree) (now after : CellKey → ℤ) : Type 0 where
  pub kept : (c : CellKey) → IsLeafOf old c → IsLeafOf new c → after c ≡ now c
  pub split : (c : CellKey) → IsLeafOf new c → has_cell old c ≡ false → after c ≡ now (parent_of c)
  pub merged : (c : CellKey) → IsLeafOf new c → is_refined old c ≡ true
      → after c ≡ mean_of old now (depth - c.level) c

-- of each cell of both grids the floor of its sum is its mean in the next field
abbrev pub NextIsMean : Type 0
NextIsMean = (depth : ℕ) (old new : Spacetree) (marks : CellKey → Mark)
    (merging : CellKey → Bool) (now after : CellKey → ℤ)
    → depth ≤ 12 → IsGrid depth old → IsGrid depth new → IsNextGrid old marks new
    → TellsMerges old marks merging → AreNextNumbers depth old new now after
    → (c : CellKey) → IsCell old.dim c → c.level ≤ depth → has_cell old c ≡ true
    → has_cell new c ≡ true
    → floor_of (next_sum old merging now (depth - c.level) c) (cell_weight depth old.dim c)
    ≡ mean_of new after (depth - c.level) c

-- tests that agree give the same sums
abbrev pub SameTestsSameSums : Type 0
SameTestsSameSums = (t : Spacetree) (a b : CellKey → Bool) (now : CellKey → ℤ)
    → ((c : CellKey) → a c ≡ b c)
    → (levels : ℕ) (c : CellKey) → next_sum t a now levels c ≡ next_sum t b now levels c

-- next sums lie between the bounds of the numbers times the weight of the cell, whatever is merging
abbrev pub NextSumsAreBetween : Type 0
NextSumsAreBetween = (t : Spacetree) (merging : CellKey → Bool) (now : CellKey → ℤ) (lo hi : ℤ)
    → AllBetween lo hi now → (levels : ℕ) (c : CellKey)
    → WeighsBetween lo hi (weight t.dim levels) (next_sum t merging now levels c)
