-- How many values the states have that a cell sees.
use Rattle.std.proofs.Common.{zero, suc, ◌+◌, ◌-◌, ◌<◌, ◌≤◌, arith, ◌≡◌, ℕ, Bool, true, false, ◌||◌, ◌==◌, cond, refl, ap, sym, ◌∙◌, Option, Some, None, IfSome, is_some, unwrap_or}
use Rattle.std.proofs.lemmas.Bool.{false≢true, or_parts}
use Rattle.std.specs.FinMap as map
use Rattle.peano_keys.specs.declared.dim.Dim.{Dim}
use Rattle.peano_keys.specs.declared.dim.Dim.TheVariants.{Two, Three}
use Rattle.peano_keys.specs.declared.cell.CellKey.{CellKey}
use Rattle.peano_keys.specs.declared.state.State.{State}
use Rattle.peano_keys.specs.State.{count_of}
use Rattle.peano_keys.specs.Cell.{IsCell, IsDigits, parent_of, centre_child, centre_digits}
use Rattle.peano_keys.specs.Grid.{Spacetree, IsGrid, is_refined, has_cell}
use Rattle.peano_keys.specs.Field.{States, state_at, centre_state, covering_state, mean_under}
use Rattle.cell_sums.proofs.Means.{count_of_like, value_refined, value_plain}
use Rattle.solver_api.specs.Step.{IsLeafOf}
use Rattle.spacetree.specs.Fields.{IsFieldOn}
use Rattle.spacetree.proofs.Children.{child_cell, parent_cell, third_digit}
use Rattle.spacetree.proofs.Leaves.{leaf_from, child_there}

-- the digits of the centre child are digits
pub centre_is_digits : (dim : Dim) → IsDigits dim (centre_digits dim)
centre_is_digits Two = record { shape = refl; first = omega arith; second = omega arith; third = omega arith }
centre_is_digits Three = record { shape = refl; first = omega arith; second = omega arith; third = omega arith }

known : (o : Option State) (d : State) (n : ℕ) → is_some o ≡ true → IfSome o (λ s. count_of s ≡ n) → count_of (unwrap_or o d) ≡ n
known None d n h g = absurd (false≢true h)
known (Some s) d n h g = g

-- the state of a leaf
pub count_at_leaf : (n : ℕ) (t : Spacetree) (f : States) (c : CellKey) → IsFieldOn n t f → IsLeafOf t c → count_of (state_at f c) ≡ n
count_at_leaf n t f c field leaf = known (map.get f c) _ n ((field.leaves c).1 leaf) (field.counts c)

unrefined_at_end : (t : Spacetree) (c : CellKey) → IsGrid 12 t → c.level ≡ 12 → (b : Bool) → is_refined t c ≡ b → is_refined t c ≡ false
unrefined_at_end t c grid e true h = absurd (omega (arith, grid.levels c h))
unrefined_at_end t c grid e false h = h

-- the state of the centre leaf of a cell of the grid
pub count_at_centre : (levels n : ℕ) (t : Spacetree) (f : States) (c : CellKey) → IsGrid 12 t → IsFieldOn n t f → IsCell t.dim c → has_cell t c ≡ true → c.level + levels ≡ 12 → count_of (centre_state levels t f c) ≡ n
count_at_centre zero n t f c grid field cell there e =
    count_at_leaf n t f c field (leaf_from t c cell there (unrefined_at_end t c grid (omega arith) (is_refined t c) refl))
count_at_centre (suc levels) n t f c grid field cell there e =
    elim (is_refined t c) as (λ b. is_refined t c ≡ b → count_of (cond b (centre_state levels t f (centre_child t.dim c)) (state_at f c)) ≡ n) [
      | true ↦ λ refined.
          let digits = centre_is_digits t.dim in
          count_at_centre levels n t f (centre_child t.dim c) grid field
          (child_cell t.dim c (centre_digits t.dim) cell (grid.levels c refined) digits)
          (child_there t c (centre_digits t.dim) cell.shape digits.first digits.second (third_digit t.dim (centre_digits t.dim) digits) refined)
          (omega arith)
      | false ↦ λ apart. count_at_leaf n t f c field (leaf_from t c cell there apart)
    ] refl

-- the state of the leaf that covers a cell
pub count_at_cover : (levels n : ℕ) (t : Spacetree) (f : States) (c : CellKey) → IsFieldOn n t f → IsCell t.dim c → is_refined t c ≡ false → c.level ≡ levels → count_of (covering_state levels t f c) ≡ n
count_at_cover zero n t f c field cell apart e =
    count_at_leaf n t f c field (leaf_from t c cell (ap (λ l. (l == 0) || is_refined t (parent_of c)) e) apart)
count_at_cover (suc levels) n t f c field cell apart e =
    elim (has_cell t c) as (λ b. has_cell t c ≡ b → count_of (cond b (state_at f c) (covering_state levels t f (parent_of c))) ≡ n) [
      | true ↦ λ there. count_at_leaf n t f c field (leaf_from t c cell there apart)
      | false ↦ λ away.
          count_at_cover levels n t f (parent_of c) field (parent_cell t.dim c cell (omega arith)) (or_parts (c.level == 0) (is_refined t (parent_of c)) away).1 (omega arith)
    ] refl

deep_grid : (depth : ℕ) (t : Spacetree) → depth ≤ 12 → IsGrid depth t → IsGrid 12 t
deep_grid depth t deep grid = record { cells = grid.cells; levels = λ c h. omega (arith, grid.levels c h, deep); parents = grid.parents }

-- the value of a cell of the grid
pub count_of_value : (depth parts : ℕ) (t : Spacetree) (f : States) (c : CellKey) → depth ≤ 12 → IsGrid depth t → IsFieldOn parts t f → IsCell t.dim c → has_cell t c ≡ true → count_of (mean_under depth t f c) ≡ parts
count_of_value depth parts t f c deep grid field cell there = elim (is_refined t c) as (λ b. is_refined t c ≡ b → count_of (mean_under depth t f c) ≡ parts) [
  | true ↦ λ h. ap count_of (value_refined depth t f c h) ∙ count_of_like (centre_state (12 - c.level) t f c) _ ∙ count_at_centre (12 - c.level) parts t f c (deep_grid depth t deep grid) field cell there (omega (arith, cell.level))
  | false ↦ λ h. ap count_of (value_plain depth t f c h) ∙ count_at_leaf parts t f c field (leaf_from t c cell there h)
] refl

-- what is not in the grid is not refined
pub away_unrefined : (t : Spacetree) (c : CellKey) → IsGrid 12 t → has_cell t c ≡ false → is_refined t c ≡ false
away_unrefined t c grid away = go (is_refined t c) refl where
  go : (b : Bool) → is_refined t c ≡ b → is_refined t c ≡ false
  go false h = h
  go true h =
      let parts = or_parts (c.level == 0) (is_refined t (parent_of c)) away in
      absurd (false≢true (sym parts.1 ∙ grid.parents c h (pos (c.level) parts.0))) where
        pos : (l : ℕ) → (l == 0) ≡ false → 0 < l
        pos zero h = absurd (false≢true (sym h))
        pos (suc l) h = omega arith
