-- What contracts see of the keys of trees.
use Rattle.std.specs.Prelude.{◌≡◌, ℕ, ◌+◌, ◌-◌, ◌*◌, ◌/◌, ◌^◌, ◌<◌, ◌≤◌, List, length, slice_index, slice_index_or}
use Rattle.peano_keys.specs.declared.dim.Dim.{Dim}
use Rattle.peano_keys.specs.declared.cell.CellKey.{CellKey}
use Rattle.peano_keys.specs.Dim.{children}
use Rattle.peano_keys.specs.Cell.{root}
use Rattle.peano_curve.specs.Order.{interval_start}
use Rattle.curve_cuts.specs.Cuts.{Cuts, AreCuts}

-- the dimension, the depth and the positions where ranges begin, and at last the number of all positions
pub record CutPoints : Type 0 where
  pub dim : Dim
  pub depth : ℕ
  pub starts : List ℕ

-- the trees between these positions
abbrev pub cuts_of : CutPoints → Cuts
cuts_of p =
    record {
      dim = p.dim;
      depth = p.depth;
      trees = length p.starts - 1;
      start = λ t. slice_index p.starts t;
    }

-- the positions of 1 to 64 trees: they rise from 0 to the number of all positions of the depth
pub record AreCutPoints (p : CutPoints) : Type 0 where
  pub some : 2 ≤ length p.starts
  pub most : length p.starts ≤ 65
  pub deepest : p.depth ≤ 12
  pub cuts : AreCuts (cuts_of p)

-- the leaf with which the share of a tree begins: of `n` trees tree `t` begins at leaf `t * leaves / n`, rounded down
abbrev pub first_leaf : List CellKey → ℕ → ℕ → CellKey
first_leaf leaves n t = slice_index_or leaves (t * length leaves / n) root

-- each of `n` trees begins with its share of the leaves
pub record AreEqualCuts (d : Dim) (l : ℕ) (leaves : List CellKey) (n : ℕ)
    (p : CutPoints) : Type 0 where
  pub dim : p.dim ≡ d
  pub depth : p.depth ≡ l
  pub trees : length p.starts ≡ n + 1
  pub start : (t : ℕ) → t < n → slice_index p.starts t ≡ interval_start d (first_leaf leaves n t) l
  pub end : slice_index p.starts n ≡ children d ^ l
