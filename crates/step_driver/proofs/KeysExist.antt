-- Keys to start with exist: the leaves of a grid can be put along the curve and shared.
use Rattle.std.proofs.Common.{ℕ, zero, suc, ◌*◌, ◌/◌, ◌^◌, ◌≤◌, List, [], ◌∷◌, ◌++◌, length, get_or, refl, subst, arith, add-one}
use Rattle.peano_keys.specs.declared.cell.CellKey.{CellKey}
use Rattle.peano_keys.specs.Dim.{children}
use Rattle.peano_keys.specs.Cell.{root}
use Rattle.peano_keys.specs.Grid.{Spacetree, IsGrid}
use Rattle.peano_curve.specs.Order.{interval_start}
use Rattle.solver_api.specs.Step.{IsLeafOf}
use Rattle.spacetree.proofs.Leaves.{leaf_there}
use Rattle.spacetree.proofs.AllCells.{all_cells, listed}
use Rattle.spacetree.proofs.Told.{leaf_told}
use Rattle.curve_cuts.specs.Leaves.{AreLeaves, InCurveOrder}
use Rattle.curve_cuts.proofs.Filled.{IsFilled, filled_more}
use Rattle.curve_cuts.proofs.Leaves.{are_cuts, equal_cuts, some_leaf}
use Rattle.curve_cuts.proofs.Shares.{share_below}
use Rattle.step_driver.specs.Starts.{EqualKeysExist}
use Rattle.step_driver.proofs.Begins.{one_leaf}
use Rattle.step_driver.proofs.Places.{in_place, place_in}
use Rattle.step_driver.proofs.Rising.{put_along, rises_along}

-- the leaves of a grid along the curve
leaves_exist : (depth : ℕ) (g : Spacetree) → IsGrid depth g → (leaves : List CellKey) × AreLeaves g.dim depth g leaves
leaves_exist depth g grid =
    let f : CellKey → ℕ = λ c. interval_start g.dim c depth in
    let put = put_along f (IsLeafOf g) (one_leaf depth g grid) (leaf_told g) (all_cells g) in (
      put.0,
      record {
        dim = refl;
        grid = grid;
        only = λ i d inside. let leaf = ((put.1.members (get_or put.0 i d)).0 (place_in d put.0 i inside)).1 in (leaf.cell, leaf.leaf);
        all = λ c cell leaf. in_place c c put.0 (let is : IsLeafOf g c = record { cell = cell; leaf = leaf } in (put.1.members c).1 (listed g c cell (leaf_there g c is), is));
        order = rises_along f put.0 put.1.rise;
      },
    )

module _ (depth : ℕ) (g : Spacetree) (trees : ℕ) (leaves : List CellKey) (are : AreLeaves g.dim depth g leaves) (deepest : depth ≤ 12) where
  ordered : InCurveOrder g.dim depth leaves
  ordered = (g, are)

  filled : (n : ℕ) → n ≤ trees → (starts : List ℕ) × IsFilled g.dim depth leaves trees n starts
  filled zero h = ([], record { len = refl; each = λ t below. absurd (omega (arith, below)) })
  filled (suc n) h =
      let rest = filled n (omega (arith, h)) in
      let place : ℕ = n * length leaves / trees in
      let start : ℕ = interval_start g.dim (get_or leaves place root) depth in
      let more = filled_more g.dim depth leaves trees n rest.0 start place root rest.1 refl (share_below n trees (length leaves) (omega (arith, h)) (some_leaf g.dim depth leaves ordered deepest)) refl in
      (rest.0 ++ start ∷ [], subst (λ m. IsFilled g.dim depth leaves trees m (rest.0 ++ start ∷ [])) (add-one n) more)

pub equal_keys_exist : EqualKeysExist
equal_keys_exist depth g trees deepest grid some most =
    let leaves = leaves_exist depth g grid in
    let starts = filled depth g trees leaves.0 leaves.1 deepest trees (omega arith) in
    let order : InCurveOrder g.dim depth leaves.0 = (g, leaves.1) in
    let total : ℕ = children g.dim ^ depth in (
      record { dim = g.dim; depth = depth; starts = starts.0 ++ total ∷ [] },
      (leaves.0, leaves.1, equal_cuts g.dim depth leaves.0 order deepest trees starts.0 some most starts.1 total refl),
      record {
        cuts = are_cuts g.dim depth leaves.0 order deepest trees starts.0 some most starts.1 total refl;
        deepest = deepest;
        dim = refl;
        grid = grid;
      },
    )
