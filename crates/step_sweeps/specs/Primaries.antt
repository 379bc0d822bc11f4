-- What the visitor of the primary sweep does.
use Rattle.std.specs.Prelude.{◌≡◌, ◌⊎◌, ℕ, true, false, Option, Some, None}
use Rattle.peano_keys.specs.declared.cell.CellKey.{CellKey}
use Rattle.peano_keys.specs.declared.dim.Dim.{Dim}
use Rattle.peano_records.specs.declared.view.CellView.{CellView}
use Rattle.curve_cuts.specs.Cuts.{Cuts}
use Rattle.curve_cuts.specs.Keys.{CutPoints, cuts_of}
use Rattle.step_sweeps.specs.declared.told.Told.{Told}
use Rattle.step_sweeps.specs.Told.{IsTold}
use Rattle.step_sweeps.specs.Enclaves.{DecidesEnclave}
use Rattle.step_sweeps.specs.Tasks.{TasksSeen, Offers}
use Rattle.step_sweeps.specs.Kernels.{Kernel, IsOwnLeaf, HasParts, new_in, mark_in, failing_with}

-- the solver, the keys and the number of its tree, the least leaf so far that has no new state, and the tree's tasks
pub record PrimaryWork (S : Type 0) : Type 0 where
  pub solver : S
  pub keys : CutPoints
  pub tree : ℕ
  pub failing : Option CellKey
  pub tasks : TasksSeen S

-- a leaf that a tree owns can be computed
pub record Computes (k : Kernel) (cuts : Cuts) (tree : ℕ) (v : CellView) : Type 0 where
  pub own : IsOwnLeaf cuts tree v
  pub parts : HasParts k cuts.dim v

-- an enclave leaf is told its mark
abbrev pub mark_told : Kernel → Dim → CellView → Told
mark_told k dim v = record { mark = Some (mark_in k dim v); next = None; intent = None }

-- a skeleton leaf is told its mark, and its new state where it has one
abbrev pub leaf_told : Kernel → Dim → CellView → Told
leaf_told k dim v = record { mark = Some (mark_in k dim v); next = new_in k dim v; intent = None }

module _ {S : Type 0} (kernel : S → Kernel) where
  -- the visitor can compute the leaf of a view
  abbrev pub IsComputed : PrimaryWork S → CellView → Type 0
  IsComputed a v = Computes (kernel a.solver) (cuts_of a.keys) a.tree v

  -- the enclave leaf of a view is told its mark, and offered as a task
  pub record LeafMarked (a : PrimaryWork S) (v w : CellView) (b : PrimaryWork S) : Type 0 where
    pub computed : IsComputed a v
    pub enclave : DecidesEnclave (cuts_of a.keys) a.tree v true
    pub told : IsTold a.keys.dim (mark_told (kernel a.solver) a.keys.dim v) v
        (record w { task = v.task })
    pub offered : Offers a.tasks w.task b.tasks
    pub same : b ≡ record a { tasks = b.tasks }

  -- the skeleton leaf of a view is told its mark and its new state, and may be the least that has none
  pub record LeafComputed (a : PrimaryWork S) (v w : CellView) (b : PrimaryWork S) : Type 0 where
    pub computed : IsComputed a v
    pub skeleton : DecidesEnclave (cuts_of a.keys) a.tree v false
    pub told : IsTold a.keys.dim (leaf_told (kernel a.solver) a.keys.dim v) v w
    pub found : b
        ≡ record a {
          failing = failing_with a.failing v.key
              (new_in (kernel a.solver) a.keys.dim v);
        }

  -- any other cell is passed by
  pub record CellPassed (a : PrimaryWork S) (v w : CellView) (b : PrimaryWork S) : Type 0 where
    pub other : ¬ IsComputed a v
    pub view : w ≡ v
    pub same : b ≡ a

  -- as a cell is entered
  abbrev pub PrimaryEnters : PrimaryWork S → CellView → CellView → PrimaryWork S → Type 0
  PrimaryEnters a v w b = LeafMarked a v w b ⊎ (LeafComputed a v w b ⊎ CellPassed a v w b)

  -- and as it is left nothing is done
  abbrev pub PrimaryLeaves : PrimaryWork S → CellView → CellView → PrimaryWork S → Type 0
  PrimaryLeaves a v w b = (w ≡ v) × (b ≡ a)
