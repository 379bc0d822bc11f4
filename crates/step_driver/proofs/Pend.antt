-- What a step is about to change can be finished.
use Rattle.std.proofs.Common.{◌≡◌, Bool, true, if◌then◌else◌, refl, ap}
use Rattle.std.specs.Prelude.{None}
use Rattle.peano_keys.specs.declared.cell.CellKey.{CellKey}
use Rattle.peano_keys.specs.Grid.{Spacetree, is_leaf}
use Rattle.peano_keys.specs.Field.{States}
use Rattle.peano_keys.specs.Next.{IsNextGrid}
use Rattle.solver_api.specs.Step.{new_state, marks_of}
use Rattle.step_sweeps.specs.Kernels.{Kernel, IsChangeBy}
use Rattle.step_sweeps.specs.Sweeps.{IsToFinish}
use Rattle.step_driver.specs.Pending.{pending}

module _ (kernel : Kernel) (g : Spacetree) (f : States) (new : Spacetree) where
  of_leaf : (c : CellKey) → is_leaf g c ≡ true → (pending kernel g f new).next c ≡ new_state kernel.updated g f c
  of_leaf c leaf = ap (λ (q : Bool). if q then new_state kernel.updated g f c else None) leaf

  pub pending_by : IsChangeBy kernel g f (pending kernel g f new)
  pending_by = record { old = refl; marks = λ c leaf. refl; leaves = λ c leaf. of_leaf c leaf.leaf }

  pub pending_to_finish : IsNextGrid g (marks_of kernel.marked g f) new → IsToFinish (pending kernel g f new) f
  pending_to_finish next = record { values = λ c. refl; grid = next }
