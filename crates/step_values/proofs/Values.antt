-- The change that a step makes.
use Rattle.std.proofs.Common.{◌≡◌, inr, ℕ, ◌<◌, ◌==◌, Bool, true, false, if◌then◌else◌, refl, sym, ap, subst, ◌∙◌, arith, Option, Some, None, unwrap_or, IsSome, pos, zero, suc}
use Rattle.std.specs.FinMap as map
use Rattle.std.proofs.lemmas.Bool.{false≢true, or_parts}
use Rattle.peano_keys.specs.declared.cell.CellKey.{CellKey}
use Rattle.peano_keys.specs.declared.state.State.{State}
use Rattle.peano_keys.specs.declared.state.State.TheVariants.{Single}
use Rattle.peano_keys.specs.Cell.{IsCell, parent_of, centre_child, centre_digits}
use Rattle.peano_keys.specs.Grid.{Spacetree, IsGrid, is_refined, has_cell}
use Rattle.peano_keys.specs.Field.{States, state_at, value_of}
use Rattle.solver_api.specs.Step.{UpdateRule, MarkRule, IsLeafOf, IsStep, new_state, marks_of}
use Rattle.hanging_nodes.specs.Views.{AreOldAndNew}
use Rattle.hanging_nodes.proofs.OneGrid.{there_by_parent}
use Rattle.hanging_nodes.proofs.TwoGrids.{leaf_not, refined_there, next_had}
use Rattle.spacetree.proofs.Children.{child_cell, parent_of_child, third_digit}
use Rattle.spacetree.proofs.Leaves.{child_there, leaf_from, leaf_there, parent_refined}
use Rattle.spacetree.proofs.Values.{centre_is_digits}
use Rattle.mean_values.specs.Steps.{IsMeanStep}
use Rattle.cell_sums.proofs.Means.{value_plain}
use Rattle.mean_values.proofs.Steps.{even, keeps_state, split_has_state}
use Rattle.step_values.specs.Values.{ValueRule, change_by, change_of, ShowsLeaves, SplitsEvenly, AnyValueIsChange, AnyLeafTakesNewState, ValueShowsLeaves, ValueSplitsEvenly, StepIsChange, LeafTakesNewState}

some_by : (o p : Option State) (d : State) → o ≡ p → IsSome p → Some (unwrap_or o d) ≡ p
some_by o None d e h = absurd (false≢true h)
some_by o (Some s) d e h = ap (λ q. Some (unwrap_or q d)) e

pub value_shows_leaves : ValueShowsLeaves
value_shows_leaves g f c leaf = value_plain 12 g f c (leaf_not g c leaf)

deeper : (l : ℕ) → (l == 0) ≡ false → 0 < l
deeper zero h = absurd (false≢true (sym h))
deeper (suc l) h = omega arith

-- a cell that is not one of a grid is below the root, and its parent is not refined there
pub below_root : (g : Spacetree) (c : CellKey) → has_cell g c ≡ false → (0 < c.level) × (is_refined g (parent_of c) ≡ false)
below_root g c away = let parts = or_parts (c.level == 0) (is_refined g (parent_of c)) away in (deeper c.level parts.0, parts.1)

module _ (updated : UpdateRule) (marked : MarkRule) (g : Spacetree) (f : States) (new : Spacetree) (after : States) (grid : IsGrid 12 g) (new_grid : IsGrid 12 new) (step : IsStep updated marked g f new after) where
  both : AreOldAndNew 12 g.dim g new
  both = record { grid = grid; old_dim = refl; step = inr (marks_of marked g f, step.grid) }

  deepest : IsMeanStep 12 updated marked g f step.states new after
  deepest = record { deepest = omega arith; old_grid = grid; new_grid = new_grid; made = step.made; step = step }

  leaf_of_new : (c : CellKey) → IsCell g.dim c → has_cell new c ≡ true → is_refined new c ≡ false → IsLeafOf new c
  leaf_of_new c cell there plain = leaf_from new c (subst (λ d. IsCell d c) (sym step.grid.dim) cell) there plain

  -- a cell that was not there is a leaf of the next grid
  new_plain : (c : CellKey) (b : Bool) → has_cell g c ≡ false → is_refined new c ≡ b → is_refined new c ≡ false
  new_plain c false away e = e
  new_plain c true away e = absurd (false≢true (sym away ∙ next_had 12 g.dim g new c both e))

  -- the new state of a leaf is its state in the field of new states
  state_made : (c : CellKey) → IsLeafOf g c → Some (state_at step.states c) ≡ new_state updated g f c
  state_made c leaf = some_by (map.get step.states c) (new_state updated g f c) (Single (pos 0)) (step.made.leaves c leaf) (step.made.updates c leaf)

  -- the centre child of a leaf that was split was not there
  pub record IsSplit (p m : CellKey) : Type 0 where
    pub parent : parent_of m ≡ p
    pub cell : IsCell g.dim m
    pub away : has_cell g m ≡ false
    pub leaf : IsLeafOf new m

  split : (p : CellKey) → IsCell g.dim p → is_refined g p ≡ false → is_refined new p ≡ true → IsSplit p (centre_child new.dim p)
  split p cell plain refined =
      let m : CellKey = centre_child new.dim p in
      let d = centre_is_digits new.dim in
      let up : parent_of m ≡ p = parent_of_child p (centre_digits new.dim) cell.shape d.first d.second (third_digit new.dim (centre_digits new.dim) d) in
      let inside : IsCell g.dim m = subst (λ e. IsCell e m) step.grid.dim (child_cell new.dim p (centre_digits new.dim) (subst (λ e. IsCell e p) (sym step.grid.dim) cell) (new_grid.levels p refined) d) in
      let away : has_cell g m ≡ false = there_by_parent g m (omega arith) ∙ ap (is_refined g) up ∙ plain in
      let there : has_cell new m ≡ true = child_there new p (centre_digits new.dim) cell.shape d.first d.second (third_digit new.dim (centre_digits new.dim) d) refined in
      record { parent = up; cell = inside; away = away; leaf = leaf_of_new m inside there (new_plain m (is_refined new m) away refl) }

  splits_evenly : SplitsEvenly value_of g new after
  splits_evenly c cell away there = even 12 updated marked g f step.states new after deepest c cell away there

  -- the new value of a leaf, by any rule
  module _ (value : ValueRule) (shows : ShowsLeaves value) (evenly : SplitsEvenly value g new after) (c : CellKey) (leaf : IsLeafOf g c) where
    in_next : (b : Bool) → is_refined new c ≡ b → has_cell new c ≡ true → Some (value new after c) ≡ new_state updated g f c
    in_next false plain there =
        let kept = leaf_of_new c leaf.cell there plain in
        ap Some (shows new after c kept.leaf ∙ sym (value_shows_leaves new after c kept.leaf) ∙ keeps_state 12 updated marked g f step.states new after deepest c leaf kept) ∙ state_made c leaf
    in_next true refined there =
        let m : CellKey = centre_child new.dim c in
        let plain : is_refined g c ≡ false = leaf_not g c leaf.leaf in
        let s = split c leaf.cell plain refined in
        let m_there : has_cell new m ≡ true = leaf_there new m s.leaf in
        let by_rule : value new after c ≡ state_at after m = ap (value new after) (sym s.parent) ∙ evenly m s.cell s.away m_there ∙ shows new after m s.leaf.leaf in
        let by_mean : value_of new after c ≡ state_at after m = ap (value_of new after) (sym s.parent) ∙ splits_evenly m s.cell s.away m_there ∙ value_shows_leaves new after m s.leaf.leaf in
        ap Some (by_rule ∙ sym by_mean ∙ split_has_state 12 updated marked g f step.states new after deepest c refined plain) ∙ state_made c leaf

    leaf_next : (if has_cell new c then Some (value new after c) else new_state updated g f c) ≡ new_state updated g f c
    leaf_next = elim (has_cell new c) as (λ b. has_cell new c ≡ b → (if b then Some (value new after c) else new_state updated g f c) ≡ new_state updated g f c) [
      | true ↦ λ there. in_next (is_refined new c) refl there
      | false ↦ λ away. refl
    ] refl

pub any_value_is_change : AnyValueIsChange
any_value_is_change value updated marked g f new after grid new_grid step evenly = record {
  grid = step.grid;
  values = λ c cell there. elim (has_cell g c) as (λ b. has_cell g c ≡ b → (change_by value updated marked g f new after).next (if b then c else parent_of c) ≡ Some (value new after c)) [
    | true ↦ λ here. rw there refl
    | false ↦ λ away.
        let up : has_cell new (parent_of c) ≡ true = refined_there 12 new (parent_of c) new_grid (parent_refined new c (below_root g c away).0 there) in
        (rw up refl) ∙ ap Some (evenly c cell away there)
  ] refl;
}

pub any_leaf_takes_new_state : AnyLeafTakesNewState
any_leaf_takes_new_state value updated marked g f new after grid new_grid step shows evenly c leaf = leaf_next updated marked g f new after grid new_grid step value shows evenly c leaf

pub value_splits_evenly : ValueSplitsEvenly
value_splits_evenly updated marked g f new after grid new_grid step = splits_evenly updated marked g f new after grid new_grid step

pub step_is_change : StepIsChange
step_is_change updated marked g f new after grid new_grid step = any_value_is_change value_of updated marked g f new after grid new_grid step (value_splits_evenly updated marked g f new after grid new_grid step)

pub leaf_takes_new_state : LeafTakesNewState
leaf_takes_new_state updated marked g f new after grid new_grid step c leaf = any_leaf_takes_new_state value_of updated marked g f new after grid new_grid step value_shows_leaves (value_splits_evenly updated marked g f new after grid new_grid step) c leaf

-- that is its state in the field of new states
pub leaf_has_state : (updated : UpdateRule) (marked : MarkRule) (g : Spacetree) (f : States) (new : Spacetree) (after : States) → IsGrid 12 g → IsGrid 12 new → (step : IsStep updated marked g f new after) → (c : CellKey) → IsLeafOf g c → (change_of updated marked g f new after).next c ≡ Some (state_at step.states c)
leaf_has_state updated marked g f new after grid new_grid step c leaf = leaf_takes_new_state updated marked g f new after grid new_grid step c leaf ∙ sym (state_made updated marked g f new after grid new_grid step c leaf)
