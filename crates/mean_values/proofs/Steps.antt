-- Steps between grids of a depth.
use Rattle.std.proofs.Common.{◌≡◌, ℕ, zero, suc, ◌+◌, ◌-◌, ◌<◌, ◌≤◌, ◌==◌, pos, ◌*ℤ◌, Bool, true, false, if◌then◌else◌, List, inl, inr, ⊎_elim, refl, sym, ap, subst, ◌∙◌, arith, Option, Some, None, unwrap_or, IsSome, IfSome}
use Rattle.std.specs.FinMap as map
use Rattle.std.proofs.lemmas.Bool.{false≢true, or_parts, cases_eq}
use Rattle.peano_keys.specs.declared.cell.CellKey.{CellKey}
use Rattle.peano_keys.specs.declared.state.State.{State}
use Rattle.peano_keys.specs.declared.state.State.TheVariants.{Single}
use Rattle.peano_keys.specs.declared.side.Mark.{Mark}
use Rattle.peano_keys.specs.Cell.{IsCell, IsDigits, parent_of, child_of, centre_child, centre_digits}
use Rattle.peano_keys.specs.State.{count_of, value_at}
use Rattle.peano_keys.specs.Grid.{Spacetree, IsGrid, is_refined, has_cell}
use Rattle.peano_keys.specs.Sums.{weight, leaf_sum, floor_of}
use Rattle.peano_keys.specs.Field.{States, state_at, centre_state, value_of, state_like, component_of, mean_under}
use Rattle.peano_keys.specs.Next.{IsNextGrid}
use Rattle.solver_api.specs.Step.{UpdateRule, MarkRule, IsLeafOf, AreNewStates, marks_of, source_of}
use Rattle.hanging_nodes.specs.Views.{AreOldAndNew}
use Rattle.hanging_nodes.proofs.OneGrid.{there_by_parent}
use Rattle.hanging_nodes.proofs.TwoGrids.{refined_there, next_had}
use Rattle.spacetree.specs.Fields.{IsFieldOn}
use Rattle.spacetree.proofs.CellMaps.{cells_total, exact_cells}
use Rattle.spacetree.proofs.Children.{child_cell, parent_of_child, third_digit}
use Rattle.spacetree.proofs.NextGrids.{source_is_cell}
use Rattle.spacetree.proofs.Leaves.{child_there, leaf_from, leaf_there, parent_refined, unrefined}
use Rattle.spacetree.proofs.Told.{leaf_told}
use Rattle.spacetree.proofs.Values.{centre_is_digits, count_of_value}
use Rattle.mean_values.specs.NextSums.{AreNextNumbers}
use Rattle.mean_values.specs.Steps.{OneFieldOfNewStates, IsMeanStep, StepGivesNumbers, NextFieldIsField, SumsGiveValue}
use Rattle.cell_sums.proofs.Sums.{over_same, split_evenly, weight_positive, floor_exact, sum_plain, sum_refined}
use Rattle.cell_sums.proofs.Means.{like_itself, same_state, component_is, value_refined, value_plain, centre_plain, centre_refined, value_by_any_depth}
use Rattle.mean_values.proofs.NextSums.{false_by, next_is_mean}

pub one_field_of_new_states : OneFieldOfNewStates
one_field_of_new_states updated old before a b here there = map.same_map cells_total exact_cells a b (λ c. ⊎_elim
    (λ leaf. here.leaves c leaf ∙ sym (there.leaves c leaf))
    (λ apart. here.others c apart ∙ sym (there.others c apart))
    (leaf_told old c))

deeper : (l : ℕ) → (l == 0) ≡ false → 0 < l
deeper zero h = absurd (false≢true (sym h))
deeper (suc l) h = omega arith

pub source_here : (old : Spacetree) (c : CellKey) → has_cell old c ≡ true → source_of old c ≡ c
source_here old c h = rw h refl

pub source_away : (old : Spacetree) (c : CellKey) → has_cell old c ≡ false → source_of old c ≡ parent_of c
source_away old c h = rw h refl

-- a step under the depth of its grids
pub record IsStepUnder (depth : ℕ) (updated : UpdateRule) (marked : MarkRule) (old : Spacetree) (before states : States) (new : Spacetree) (after : States) : Type 0 where
  pub made : AreNewStates updated old before states
  pub grid : IsNextGrid old (marks_of marked old before) new
  pub leaves : (c : CellKey) → IsLeafOf new c → map.get after c ≡ Some (mean_under depth old states (source_of old c))
  pub others : (c : CellKey) → ¬ IsLeafOf new c → map.get after c ≡ None

module _ (depth : ℕ) (updated : UpdateRule) (marked : MarkRule) (old : Spacetree) (before states : States) (new : Spacetree) (after : States) (deep : depth ≤ 12) (old_grid : IsGrid depth old) (new_grid : IsGrid depth new) (step : IsStepUnder depth updated marked old before states new after) where
  next : IsNextGrid old (marks_of marked old before) new
  next = step.grid

  both : AreOldAndNew depth old.dim old new
  both = record { grid = old_grid; old_dim = refl; step = inr (marks_of marked old before, next) }

  -- what a leaf of the next grid has
  leaf_has : (c : CellKey) → IsLeafOf new c → state_at after c ≡ mean_under depth old states (source_of old c)
  leaf_has c leaf = ap (λ o. unwrap_or o (Single (pos 0))) (step.leaves c leaf)

  pub leaf_here : (c : CellKey) → IsLeafOf new c → has_cell old c ≡ true → state_at after c ≡ mean_under depth old states c
  leaf_here c leaf here = leaf_has c leaf ∙ ap (mean_under depth old states) (source_here old c here)

  parent_plain : (c : CellKey) → has_cell old c ≡ false → is_refined old (parent_of c) ≡ false
  parent_plain c away = (or_parts (c.level == 0) (is_refined old (parent_of c)) away).1

  leaf_away : (c : CellKey) → IsLeafOf new c → has_cell old c ≡ false → state_at after c ≡ state_at states (parent_of c)
  leaf_away c leaf away = leaf_has c leaf ∙ ap (mean_under depth old states) (source_away old c away) ∙ value_plain depth old states (parent_of c) (parent_plain c away)

  numbers : (parts i : ℕ) → IsFieldOn parts old states → i < parts → AreNextNumbers depth old new (component_of states i) (component_of after i)
  numbers parts i field h = record {
    kept = λ c was leaf. ap (λ s. value_at s i) (leaf_here c leaf (leaf_there old c was) ∙ value_plain depth old states c (unrefined old c was));
    split = λ c leaf away. ap (λ s. value_at s i) (leaf_away c leaf away);
    merged = λ c leaf refined.
        let here : has_cell old c ≡ true = refined_there depth old c old_grid refined in
        let count = count_of_value depth parts old states c deep old_grid field (old_grid.cells c refined) here in
        ap (λ s. value_at s i) (leaf_here c leaf here) ∙ component_is depth old states c i (omega (arith, count, h));
  }

  new_plain : (c : CellKey) → has_cell old c ≡ false → is_refined new c ≡ false
  new_plain c away = false_by (is_refined new c) (λ e. false≢true (sym away ∙ next_had depth old.dim old new c both e))

  -- a cell that splits
  module _ (p : CellKey) (refined : is_refined new p ≡ true) (plain : is_refined old p ≡ false) where
    inside : IsCell new.dim p
    inside = new_grid.cells p refined

    room : p.level < depth
    room = new_grid.levels p refined

    child_leaf : (k : List ℕ) → IsDigits new.dim k → (has_cell old (child_of p k) ≡ false) × IsLeafOf new (child_of p k)
    child_leaf k d =
        let up : parent_of (child_of p k) ≡ p = parent_of_child p k inside.shape d.first d.second (third_digit new.dim k d) in
        let away : has_cell old (child_of p k) ≡ false = there_by_parent old (child_of p k) (omega arith) ∙ ap (is_refined old) up ∙ plain in
        (away, leaf_from new (child_of p k) (child_cell new.dim p k inside (omega (arith, room, deep)) d) (child_there new p k inside.shape d.first d.second (third_digit new.dim k d) refined) (new_plain (child_of p k) away))

    child_state : (k : List ℕ) → IsDigits new.dim k → state_at after (child_of p k) ≡ state_at states p
    child_state k d = (let c = child_leaf k d in leaf_away (child_of p k) c.1 c.0 ∙ ap (state_at states) (parent_of_child p k inside.shape d.first d.second (third_digit new.dim k d)))

    centre_is : centre_state (12 - p.level) new after p ≡ state_at states p
    centre_is =
        let e : 12 - p.level ≡ suc (12 - (p.level + 1)) = omega (arith, room, deep) in
        let d = centre_is_digits new.dim in
        ap (λ n. centre_state n new after p) e ∙ centre_refined (12 - (p.level + 1)) new after p refined
        ∙ centre_plain (12 - (p.level + 1)) new after (centre_child new.dim p) (unrefined new (centre_child new.dim p) (child_leaf (centre_digits new.dim) d).1)
        ∙ child_state (centre_digits new.dim) d

    sum_is : (n i : ℕ) → leaf_sum new (component_of after i) (suc n) p ≡ value_at (state_at states p) i *ℤ pos (weight new.dim (suc n))
    sum_is n i =
        sum_refined new (component_of after i) n p refined
        ∙ over_same new.dim _ _ (λ k d. sum_plain new (component_of after i) n (child_of p k) (unrefined new (child_of p k) (child_leaf k d).1) ∙ ap (λ s. value_at s i *ℤ pos (weight new.dim n)) (child_state k d))
        ∙ split_evenly new.dim (value_at (state_at states p) i) n

    floor_is : (i : ℕ) → floor_of (leaf_sum new (component_of after i) (depth - p.level) p) (weight new.dim (depth - p.level)) ≡ value_at (state_at states p) i
    floor_is i =
        let e : depth - p.level ≡ suc (depth - (p.level + 1)) = omega (arith, room) in
        ap (λ n. floor_of (leaf_sum new (component_of after i) n p) (weight new.dim n)) e
        ∙ ap (λ z. floor_of z (weight new.dim (suc (depth - (p.level + 1))))) (sum_is (depth - (p.level + 1)) i)
        ∙ floor_exact (value_at (state_at states p) i) (weight new.dim (suc (depth - (p.level + 1)))) (weight_positive new.dim (suc (depth - (p.level + 1))))

    pub split_value : mean_under depth new after p ≡ state_at states p
    split_value =
        value_refined depth new after p refined
        ∙ (λ j. state_like (centre_is j) (λ i. floor_is i j))
        ∙ like_itself (state_at states p)

  splits_evenly : (c : CellKey) → IsCell old.dim c → has_cell old c ≡ false → has_cell new c ≡ true → mean_under depth new after (parent_of c) ≡ mean_under depth new after c
  splits_evenly c cell away there =
      let pos : 0 < c.level = deeper c.level (or_parts (c.level == 0) (is_refined old (parent_of c)) away).0 in
      let leaf = leaf_from new c (subst (λ d. IsCell d c) (sym next.dim) cell) there (new_plain c away) in
      split_value (parent_of c) (parent_refined new c pos there) (parent_plain c away) ∙ sym (leaf_away c leaf away) ∙ sym (value_plain depth new after c (new_plain c away))

is_some_by : (o : Option State) (s : State) → o ≡ Some s → IsSome o
is_some_by o s e = subst IsSome (sym e) refl

field_is : (depth parts : ℕ) (updated : UpdateRule) (marked : MarkRule) (old : Spacetree) (before states : States) (new : Spacetree) (after : States) → depth ≤ 12 → IsGrid depth old → IsGrid depth new → IsStepUnder depth updated marked old before states new after → IsFieldOn parts old states → IsFieldOn parts new after
field_is depth parts updated marked old before states new after deep old_grid new_grid step field = record {
  leaves = λ c. ((λ h. elim (leaf_told new c) [ inl leaf ↦ leaf | inr apart ↦ absurd (none_is (map.get after c) (step.others c apart) h) ]), (λ leaf. is_some_by (map.get after c) (mean_under depth old states (source_of old c)) (step.leaves c leaf)));
  counts = λ c. elim (leaf_told new c) [
    | inl leaf ↦ subst (λ o. IfSome o (λ s. count_of s ≡ parts)) (sym (step.leaves c leaf)) (count c leaf)
    | inr apart ↦ subst (λ o. IfSome o (λ s. count_of s ≡ parts)) (sym (step.others c apart)) tt
  ];
}
  where
    none_is : (o : Option State) → o ≡ None → IsSome o → ⊥
    none_is o e h = false≢true (subst IsSome e h)

    count : (c : CellKey) → IsLeafOf new c → count_of (mean_under depth old states (source_of old c)) ≡ parts
    count c leaf = (let from = source_is_cell old new (marks_of marked old before) c step.grid leaf in count_of_value depth parts old states (source_of old c) deep old_grid field from.cell from.there)

-- a cell of a grid is of a level up to its depth
pub level_within : (depth : ℕ) (t : Spacetree) (c : CellKey) → IsGrid depth t → has_cell t c ≡ true → c.level ≤ depth
level_within depth t c grid there = ⊎_elim
    (λ e. omega (arith, e))
    (λ apart. (let h : (parent_of c).level < depth = grid.levels (parent_of c) (parent_refined t c (omega (arith, apart)) there) in omega (arith, h, apart)))
    (cases_eq c.level 0)

module _ (depth : ℕ) (updated : UpdateRule) (marked : MarkRule) (old : Spacetree) (before states : States) (new : Spacetree) (after : States) (step : IsMeanStep depth updated marked old before states new after) where
  source_level : (c : CellKey) (b : Bool) → c.level ≤ depth → (if b then c else parent_of c).level ≤ depth
  source_level c true h = h
  source_level c false h = omega (arith, h)

  states_are : step.step.states ≡ states
  states_are = one_field_of_new_states updated old before step.step.states states step.step.made step.made

  -- the step under the depth of its grids
  pub under_depth : IsStepUnder depth updated marked old before states new after
  under_depth = record {
    made = step.made;
    grid = step.step.grid;
    leaves = λ c leaf. step.step.leaves c leaf ∙ ap (λ f. Some (value_of old f (source_of old c))) states_are ∙ ap Some (value_by_any_depth depth old states (source_of old c) step.deepest step.old_grid (source_level c (has_cell old c) (level_within depth new c step.new_grid (leaf_there new c leaf))));
    others = step.step.others;
  }

  new_value : (c : CellKey) → has_cell new c ≡ true → value_of new after c ≡ mean_under depth new after c
  new_value c there = value_by_any_depth depth new after c step.deepest step.new_grid (level_within depth new c step.new_grid there)

  below : (c : CellKey) → has_cell old c ≡ false → 0 < c.level
  below c away = deeper c.level (or_parts (c.level == 0) (is_refined old (parent_of c)) away).0

  -- the parent of a cell that is new is one of the next grid
  pub parent_in : (c : CellKey) → has_cell old c ≡ false → has_cell new c ≡ true → has_cell new (parent_of c) ≡ true
  parent_in c away there = refined_there depth new (parent_of c) step.new_grid (parent_refined new c (below c away) there)

  -- a leaf that is split has the value of each of its children
  pub even : (c : CellKey) → IsCell old.dim c → has_cell old c ≡ false → has_cell new c ≡ true → value_of new after (parent_of c) ≡ value_of new after c
  even c cell away there =
      new_value (parent_of c) (parent_in c away there)
      ∙ splits_evenly depth updated marked old before states new after step.deepest step.old_grid step.new_grid under_depth c cell away there
      ∙ sym (new_value c there)

  -- a leaf of both grids keeps the new state
  pub keeps_state : (c : CellKey) → IsLeafOf old c → IsLeafOf new c → value_of new after c ≡ state_at states c
  keeps_state c was leaf = value_plain 12 new after c (unrefined new c leaf) ∙ leaf_here depth updated marked old before states new after step.deepest step.old_grid step.new_grid under_depth c leaf (leaf_there old c was) ∙ value_plain depth old states c (unrefined old c was)

  -- and one that is split has it as its value
  pub split_has_state : (c : CellKey) → is_refined new c ≡ true → is_refined old c ≡ false → value_of new after c ≡ state_at states c
  split_has_state c refined plain =
      new_value c (refined_there depth new c step.new_grid refined)
      ∙ split_value depth updated marked old before states new after step.deepest step.old_grid step.new_grid under_depth c refined plain

pub step_gives_numbers : StepGivesNumbers
step_gives_numbers depth parts updated marked old before states new after step field i h = numbers depth updated marked old before states new after step.deepest step.old_grid step.new_grid (under_depth depth updated marked old before states new after step) parts i field h

pub next_field_is_field : NextFieldIsField
next_field_is_field depth parts updated marked old before states new after step field = field_is depth parts updated marked old before states new after step.deepest step.old_grid step.new_grid (under_depth depth updated marked old before states new after step) field

pub sums_give_value : SumsGiveValue
sums_give_value depth parts updated marked old before states new after merging step field tells c s cell level here there floors =
    let new_field = next_field_is_field depth parts updated marked old before states new after step field in
    let whole = count_of_value depth parts new after c step.deepest step.new_grid new_field (subst (λ d. IsCell d c) (sym step.step.grid.dim) cell) there in
    same_state s (mean_under depth new after c) (floors.count ∙ sym whole) (λ i h.
    let low : i < parts = omega (arith, h, floors.count) in
    floors.each i low
    ∙ next_is_mean depth old new (marks_of marked old before) merging (component_of states i) (component_of after i) step.deepest step.old_grid step.new_grid step.step.grid tells (step_gives_numbers depth parts updated marked old before states new after step field i low) c cell level here there
    ∙ sym (component_is depth new after c i (omega (arith, low, whole))))
    ∙ sym (value_by_any_depth depth new after c step.deepest step.new_grid level)
