-- How many cells split and merge in all trees, and the size of the next grid.
use Rattle.std.proofs.Common.{◌≡◌, ℕ, ◌+◌, ◌*◌, ◌^◌, ◌<◌, ◌≤◌, ap, sym, subst, ◌∙◌, arith}
use Rattle.std.specs.Prelude.{IsSome}
use Rattle.peano_keys.specs.declared.dim.Dim.{Dim}
use Rattle.peano_keys.specs.declared.cell.CellKey.{CellKey}
use Rattle.peano_keys.specs.declared.side.Mark.{Mark}
use Rattle.peano_keys.specs.Dim.{axes}
use Rattle.peano_keys.specs.Grid.{Spacetree}
use Rattle.peano_keys.specs.Field.{States}
use Rattle.peano_keys.specs.Next.{Splits, Merges, IsNextGrid}
use Rattle.solver_api.specs.Step.{UpdateRule, MarkRule, IsLeafOf, marks_of, new_state}
use Rattle.spacetree.specs.Counts.{CountsCells, cells_of}
use Rattle.spacetree.specs.Evaluation.{Crowds}
use Rattle.curve_cuts.specs.Cuts.{Cuts, IsCutGrid}
use Rattle.vertex_stacks.specs.Tales.{capped}
use Rattle.step_world.specs.Counts.{total}
use Rattle.step_world.proofs.Worlds.{deep_grid}
use Rattle.spacetree.proofs.Exists.{next_grid_exists}
use Rattle.step_world.proofs.Counts.{splits_add_up, merges_add_up, next_size, size_decides}
use Rattle.step_world.proofs.AtMost.{splits_at_most, merges_at_most}
use Rattle.step_driver.specs.declared.finishing.Turnover.{Turnover}
use Rattle.step_driver.specs.Finishing.{CountsFirst}
use Rattle.step_driver.specs.Sizes.{IsTurnover, IsSizeAfter}

-- a small number is far from the last value of a count
not_capped : (n : ℕ) → n ≤ 200000 → capped n ≡ n
not_capped n small = omega (arith, small)

-- what the trees counted together is what the grid has
pub splits_counted : (k : Cuts) (g : Spacetree) (marks : CellKey → Mark) (n : ℕ) → IsCutGrid k g → cells_of g ≤ 200000 → CountsFirst k (Splits g marks) k.trees n → CountsCells (Splits g marks) n
splits_counted k g marks n fits small h =
    let all = splits_add_up k g marks h.counts fits h.each in
    let most = splits_at_most g marks (total k.trees h.counts) all in
    subst (CountsCells (Splits g marks)) (sym (h.told ∙ not_capped (total k.trees h.counts) (omega (arith, most, small)))) all

pub merges_counted : (k : Cuts) (g : Spacetree) (marks : CellKey → Mark) (n : ℕ) → IsCutGrid k g → cells_of g ≤ 200000 → CountsFirst k (Merges g marks) k.trees n → CountsCells (Merges g marks) n
merges_counted k g marks n fits small h =
    let all = merges_add_up k g marks h.counts fits h.each in
    let most = merges_at_most g marks (total k.trees h.counts) (deep_grid k g fits) all in
    subst (CountsCells (Merges g marks)) (sym (h.told ∙ not_capped (total k.trees h.counts) (omega (arith, most, small)))) all

pub turnover_counted : (k : Cuts) (g : Spacetree) (marks : CellKey → Mark) (turnover : Turnover) (dim : Dim) (cells : ℕ) → IsCutGrid k g → k.dim ≡ dim → cells_of g ≡ cells → cells ≤ 200000 →
    CountsFirst k (Splits g marks) k.trees turnover.splits → CountsFirst k (Merges g marks) k.trees turnover.merges → IsTurnover dim cells g marks turnover
turnover_counted k g marks turnover dim cells fits is size small splits merges =
    let room : cells_of g ≤ 200000 = omega (arith, size, small) in
    record {
      grid = deep_grid k g fits;
      dims = fits.dim ∙ is;
      size = size;
      splits = splits_counted k g marks turnover.splits fits room splits;
      merges = merges_counted k g marks turnover.merges fits room merges;
    }

module _ (dim : Dim) (cells : ℕ) (g : Spacetree) (marks : CellKey → Mark) (turnover : Turnover) (h : IsTurnover dim cells g marks turnover) where
  fan_is : (n : ℕ) → 3 ^ axes g.dim * n ≡ 3 ^ axes dim * n
  fan_is n = ap (λ d. 3 ^ axes d * n) h.dims

  -- what can be taken away is there
  pub room_for_merges : 3 ^ axes dim * turnover.merges ≤ cells + 3 ^ axes dim * turnover.splits
  room_for_merges =
      let next = next_grid_exists g marks h.grid in
      let whole = next_size g next.0 marks turnover.splits turnover.merges h.grid next.1 h.splits h.merges in
      omega (arith, whole, h.size, fan_is turnover.splits, fan_is turnover.merges)

  pub no_more_splits : turnover.splits ≤ cells
  no_more_splits = omega (arith, splits_at_most g marks turnover.splits h.splits, h.size)

  pub no_more_merges : turnover.merges ≤ cells
  no_more_merges = omega (arith, merges_at_most g marks turnover.merges h.grid h.merges, h.size)

  -- a size after that of the grid is the size of the next grid
  pub size_is_next : (size : ℕ) (new : Spacetree) → IsSizeAfter dim cells turnover size → IsNextGrid g marks new → size ≡ cells_of new
  size_is_next size new after next =
      let whole = next_size g new marks turnover.splits turnover.merges h.grid next h.splits h.merges in
      omega (arith, whole, after, h.size, fan_is turnover.splits, fan_is turnover.merges)

-- a step is crowded where each leaf has a new state and this size is above the limit
pub size_crowds : (updated : UpdateRule) (marked : MarkRule) (g : Spacetree) (f : States) (dim : Dim) (cells : ℕ) (turnover : Turnover) (size : ℕ) → IsTurnover dim cells g (marks_of marked g f) turnover → IsSizeAfter dim cells turnover size →
    ((c : CellKey) → IsLeafOf g c → IsSome (new_state updated g f c)) → 200000 < size → Crowds updated marked g f size
size_crowds updated marked g f dim cells turnover size h after updates over =
    size_decides updated marked g f turnover.splits turnover.merges size h.grid updates h.splits h.merges
    (omega (arith, after, h.size, fan_is dim cells g (marks_of marked g f) turnover h turnover.splits, fan_is dim cells g (marks_of marked g f) turnover h turnover.merges)) over
