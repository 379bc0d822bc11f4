-- What is known of a leaf as a visitor has computed it, in the words of its view.
use Rattle.std.proofs.Common.{◌≡◌, ℕ, ap, sym, subst}
use Rattle.peano_keys.specs.declared.dim.Dim.{Dim}
use Rattle.peano_keys.specs.declared.state.State.{State}
use Rattle.peano_keys.specs.declared.side.Sides.{Sides}
use Rattle.peano_records.specs.declared.view.CellView.{CellView}
use Rattle.solver_api.specs.Parts.{HaveParts}
use Rattle.step_sweeps.specs.declared.told.Told.{Told}
use Rattle.step_sweeps.specs.Told.{IsTold}

pub have_by : (n m : ℕ) (s t : State) (sides : Sides) → n ≡ m → s ≡ t → HaveParts n s sides → HaveParts m t sides
have_by n m s t sides count same h = subst (λ x. HaveParts m x sides) same (subst (λ x. HaveParts x s sides) count h)

pub have_back : (n m : ℕ) (s t : State) (sides : Sides) → n ≡ m → s ≡ t → HaveParts m t sides → HaveParts n s sides
have_back n m s t sides count same h = have_by m n t s sides (sym count) (sym same) h

pub told_by : (d e : Dim) (t u : Told) (v w : CellView) → d ≡ e → t ≡ u → IsTold d t v w → IsTold e u v w
told_by d e t u v w dim told h = subst (λ x. IsTold e x v w) told (subst (λ x. IsTold x t v w) dim h)

-- a view that is given a number after it was told
pub told_numbered : (d : Dim) (t : Told) (v m : CellView) (number : ℕ) → IsTold d t v m → IsTold d t v (record (record m { task = number }) { task = v.task })
told_numbered d t v m number h = record { size = h.size; corners_told = h.corners_told; past = h.past; others = ap (λ (x : CellView). record x { task = v.task }) h.others }
