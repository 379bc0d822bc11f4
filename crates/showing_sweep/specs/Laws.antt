-- Laws of the traffic of trees.
use Rattle.std.specs.Prelude.{◌≡◌, ℕ, ◌<◌, ◌≤◌}
use Rattle.peano_keys.specs.Grid.{Spacetree}
use Rattle.spacetree.specs.declared.limits.TheConstants.{MOST_CELLS}
use Rattle.spacetree.specs.Counts.{cells_of}
use Rattle.curve_cuts.specs.Cuts.{Cuts, IsCutGrid}
use Rattle.field_report.specs.declared.traffic.Traffic.{Traffic}
use Rattle.showing_sweep.specs.Shown.{Amounts, AreAmounts, IsTraffic}

-- the numbers of a tree are one
abbrev pub AmountsAreOne : Type 0
AmountsAreOne = (k : Cuts) (g : Spacetree) (t : ℕ) (n m : Amounts) → AreAmounts k g t n
    → AreAmounts k g t m → n ≡ m

-- and each tree has them
abbrev pub AmountsExist : Type 0
AmountsExist = (k : Cuts) (g : Spacetree) (t : ℕ) → IsCutGrid k g → t < k.trees
    → (n : Amounts) × AreAmounts k g t n

-- the numbers that traffic tells
abbrev pub amounts_in : Traffic → Amounts
amounts_in x =
    record {
      cells = x.cells;
      stored = x.stored;
      pushes = x.pushes;
      hanging = x.hanging;
      enclave = x.enclave;
      skeleton = x.skeleton;
      sent = x.sent;
    }

-- where a grid has at most 200,000 cells and there are at most 64 trees, no number comes to the last value of a count: traffic tells each as it is
abbrev pub TrafficIsExact : Type 0
TrafficIsExact = (k : Cuts) (g : Spacetree) (t : ℕ) (x : Traffic) → g.dim ≡ k.dim → k.trees ≤ 64
    → cells_of g ≤ MOST_CELLS → IsTraffic k g t x → AreAmounts k g t (amounts_in x)
