-- The totals of cells over the partials of all trees, with the corrections of the shared cells below them that merge.
use Rattle.std.specs.Prelude.{ℕ, ◌<◌, ◌≤◌, ◌*◌, ◌^◌, ℤ, pos, ◌+ℤ◌, List, [], ◌∷◌, Option, Some, None, map, filter, flat_map, slice_index_or, All, if◌then◌else◌}
use Rattle.std.specs.List.{find}
use Rattle.std.specs.Int.{w64}
use Rattle.std.specs.Int.RustNames.{unsigned_abs, FitsSigned}
use Rattle.peano_keys.specs.declared.cell.CellKey.{CellKey}
use Rattle.peano_keys.specs.declared.dim.Dim.{Dim}
use Rattle.peano_keys.specs.Cell.{IsCell}
use Rattle.sweep_visits.specs.Moves.{same_cell}
use Rattle.peano_records.specs.declared.partials.Partial.{Partial}
use Rattle.peano_keys.specs.Sums.{cell_weight, floor_of}
use Rattle.tree_sums.specs.Totals.{corrected}

-- a component of the sums of a partial
abbrev pub sum_at : ℕ → Partial → ℤ
sum_at i p = slice_index_or p.sums i (pos 0)

-- the partial of a cell among those of a tree
abbrev pub partial_of : CellKey → List Partial → Option Partial
partial_of c ps = find (λ p. same_cell p.key c) ps

-- a component of its sums, nothing where there is no partial
abbrev pub sum_or_nothing : ℕ → Option Partial → ℤ
sum_or_nothing i None = pos 0
sum_or_nothing i (Some p) = sum_at i p

-- what a tree has of a cell
abbrev pub sum_in : CellKey → ℕ → List Partial → ℤ
sum_in c i ps = sum_or_nothing i (partial_of c ps)

-- the total of a cell: what all trees have of it
abbrev pub total_in : List (List Partial) → ℕ → CellKey → ℤ
total_in [] i c = pos 0
total_in (ps ∷ rest) i c = sum_in c i ps +ℤ total_in rest i c

-- the cells that merge by the partials of a tree
abbrev pub merging_of : List Partial → List CellKey
merging_of ps = map (λ p. p.key) (filter (λ p. p.merges) ps)

-- and by those of all trees
abbrev pub merging_in : List (List Partial) → List CellKey
merging_in all = flat_map merging_of all

-- what a partial adds, by what each merging cell adds
abbrev pub added_of : (CellKey → ℤ) → Partial → ℤ
added_of added p = if p.merges then added p.key else pos 0

-- the total of a cell with the corrections of the merging cells strictly below it
abbrev pub corrected_in : ℕ → Dim → List (List Partial) → ℕ → CellKey → ℤ
corrected_in depth dim all i c = corrected depth dim (total_in all i) (merging_in all) c

-- the mean that it gives the cell
abbrev pub mean_in : ℕ → Dim → List (List Partial) → ℕ → CellKey → ℤ
mean_in depth dim all i c = floor_of (corrected_in depth dim all i c) (cell_weight depth dim c)

-- a partial of a cell down to a depth, with sums of at most 2^63 times the weight of the cell
pub record IsPartial (depth : ℕ) (dim : Dim) (p : Partial) : Type 0 where
  pub cell : IsCell dim p.key
  pub level : p.key.level ≤ depth
  pub sums : (i : ℕ) → i < 4
      → unsigned_abs (sum_at i p) ≤ 2 ^ 63 * cell_weight depth dim p.key

-- the partials of all trees are such
abbrev pub ArePartials : ℕ → Dim → List (List Partial) → Type 0
ArePartials depth dim all = All (All (IsPartial depth dim)) all

-- the means of a cell are numbers of 64 bits
abbrev pub MeansAreWords : ℕ → Dim → List (List Partial) → CellKey → Type 0
MeansAreWords depth dim all c = (i : ℕ) → i < 4 → FitsSigned w64 (mean_in depth dim all i c)
