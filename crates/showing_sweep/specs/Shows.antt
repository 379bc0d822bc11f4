-- What the visitor of a showing sweep does.
use Rattle.std.specs.Prelude.{◌≡◌, ◌⊎◌, ℕ, ◌+◌, Bool, true, false, List, [], ◌∷◌, ◌++◌, count_by}
use Rattle.std.specs.FinSet as set
use Rattle.peano_keys.specs.declared.dim.Dim.{Dim}
use Rattle.peano_records.specs.declared.view.Corner.{Corner}
use Rattle.peano_records.specs.declared.view.Corner.TheVariants.{Vertex, Hanging, Beyond}
use Rattle.peano_records.specs.declared.view.CellView.{CellView}
use Rattle.vertex_stacks.specs.Tales.{capped}
use Rattle.curve_cuts.specs.Keys.{CutPoints, cuts_of}
use Rattle.spacetree.specs.declared.row.Row.{Row}
use Rattle.tree_automaton.specs.declared.kinds.Serves.TheVariants.{Plain}
use Rattle.tree_automaton.specs.Promises.{Meaning}
use Rattle.tree_automaton.specs.Views.{value_at_home}
use Rattle.step_sweeps.specs.Enclaves.{DecidesEnclave}
use Rattle.step_sweeps.specs.Kernels.{IsOwnLeaf}
use Rattle.showing_sweep.specs.declared.counts.CellCounts.{CellCounts}

-- the keys and the number of its tree, and the rows and the counts so far
pub record ShowWork : Type 0 where
  pub keys : CutPoints
  pub tree : ℕ
  pub rows : List Row
  pub counts : CellCounts

-- its visitor serves sweeps that change nothing, foresees no grid, may want memory and holds no loan
abbrev pub show_meaning : ShowWork → Meaning
show_meaning a =
    record {
      serves = Plain;
      dim = a.keys.dim;
      new_grid = record { dim = a.keys.dim; refined = set.empty };
      may_want = true;
      loan = 0;
    }

-- the counts as a sweep begins
abbrev pub nothing_counted : CellCounts
nothing_counted = record { cells = 0; hanging = 0; enclave = 0; skeleton = 0 }

-- whether a corner hangs
abbrev pub is_hanging : Corner → Bool
is_hanging (Vertex s) = false
is_hanging (Hanging k) = true
is_hanging Beyond = false

-- how many corners of a view hang
abbrev pub hanging_in : CellView → ℕ
hanging_in v = count_by is_hanging v.corners

-- the row of a leaf, with the value that its view shows
abbrev pub row_in : Dim → CellView → Row
row_in dim v = record { key = v.key; value = value_at_home dim v }

-- one cell more
abbrev pub with_cell : CellView → CellCounts → CellCounts
with_cell v n =
    record n { cells = capped (n.cells + 1); hanging = capped (n.hanging + hanging_in v) }

-- one leaf more that the tree owns
abbrev pub with_leaf : Bool → CellCounts → CellCounts
with_leaf true n = record n { enclave = capped (n.enclave + 1) }
with_leaf false n = record n { skeleton = capped (n.skeleton + 1) }

-- a leaf of the tree gives a row
pub record LeafGathered (a : ShowWork) (v : CellView) (b : ShowWork) : Type 0 where
  pub own : IsOwnLeaf (cuts_of a.keys) a.tree v
  pub gathered : b ≡ record a { rows = a.rows ++ row_in a.keys.dim v ∷ [] }

-- any other cell gives none
pub record NoneGathered (a : ShowWork) (v : CellView) (b : ShowWork) : Type 0 where
  pub other : ¬ IsOwnLeaf (cuts_of a.keys) a.tree v
  pub same : b ≡ a

-- a leaf of the tree is counted as a cell and as one of its kind
pub record LeafCounted (a : ShowWork) (v : CellView) (b : ShowWork) : Type 0 where
  pub own : IsOwnLeaf (cuts_of a.keys) a.tree v
  pub enclave : Bool
  pub decides : DecidesEnclave (cuts_of a.keys) a.tree v enclave
  pub counted : b ≡ record a { counts = with_leaf enclave (with_cell v a.counts) }

-- any other cell is counted alone
pub record OtherCounted (a : ShowWork) (v : CellView) (b : ShowWork) : Type 0 where
  pub other : ¬ IsOwnLeaf (cuts_of a.keys) a.tree v
  pub counted : b ≡ record a { counts = with_cell v a.counts }

-- as a cell is entered its row is gathered, and its view stays
abbrev pub ShowEnters : ShowWork → CellView → CellView → ShowWork → Type 0
ShowEnters a v w b = (w ≡ v) × (LeafGathered a v b ⊎ NoneGathered a v b)

-- as it is left it is counted, and its view stays
abbrev pub ShowLeaves : ShowWork → CellView → CellView → ShowWork → Type 0
ShowLeaves a v w b = (w ≡ v) × (LeafCounted a v b ⊎ OtherCounted a v b)
