-- Demonstrations: a field has a row, their steps are never refused, and what they lead to is summed up.
use Rattle.std.proofs.Common.{◌≡◌, ℕ, zero, suc, ◌+◌, ◌<◌, Bool, true, false, List, [], ◌∷◌, length, refl, ap, subst, arith, Option, IsSome}
use Rattle.std.specs.Prelude.{map as maps}
use Rattle.std.proofs.lemmas.Bool.{false≢true}
use Rattle.std.specs.FinMap as map
use Rattle.peano_keys.specs.declared.dim.Dim.{Dim}
use Rattle.peano_keys.specs.declared.dim.Dim.TheVariants.{Two, Three}
use Rattle.peano_keys.specs.declared.cell.CellKey.{CellKey}
use Rattle.peano_keys.specs.declared.state.State.{State}
use Rattle.peano_keys.specs.Cell.{IsCell, centre_child, centre_digits, key_cmp, root}
use Rattle.peano_keys.specs.Grid.{Spacetree, IsGrid, is_refined, has_cell}
use Rattle.peano_keys.specs.Field.{States}
use Rattle.solver_api.specs.Step.{IsLeafOf, Overflows}
use Rattle.spacetree.specs.Fields.{IsFieldOn, row_of, rows_of}
use Rattle.spacetree.specs.declared.row.Row.{Row}
use Rattle.volume_solver.specs.Any.{parts_in, updated_by, marked_by}
use Rattle.spacetree.specs.Counts.{cells_of}
use Rattle.spacetree.specs.Opening.{Opens, OpensField}
use Rattle.spacetree.specs.Evaluation.{Evaluates, Crowds}
use Rattle.field_report.specs.Summary.{IsSummary}
use Rattle.grid_file.specs.declared.plan.Plan.{Plan}
use Rattle.demonstration.specs.Demo.{demo}
use Rattle.demonstration.specs.Laws.{Begins}
use Rattle.demonstration.proofs.Throughout.{never_refused}
use Rattle.spacetree.proofs.Children.{child_cell, third_digit}
use Rattle.spacetree.proofs.Leaves.{leaf_from, child_there}
use Rattle.spacetree.proofs.Values.{centre_is_digits}
use Rattle.peano_run.specs.Demonstrated.{IsDemoSummary}

root_cell : (dim : Dim) → IsCell dim root
root_cell Two = record { shape = refl; level = omega arith; first = omega arith; second = omega arith; third = omega arith }
root_cell Three = record { shape = refl; level = omega arith; first = omega arith; second = omega arith; third = omega arith }

-- below each cell of a grid, or there, is a leaf
leaf_under : (levels : ℕ) (t : Spacetree) (c : CellKey) (b : Bool) → is_refined t c ≡ b → IsGrid 12 t → IsCell t.dim c → has_cell t c ≡ true → c.level + levels ≡ 12 → (q : CellKey) × IsLeafOf t q
leaf_under levels t c false apart grid cell there e = (c, leaf_from t c cell there apart)
leaf_under zero t c true refined grid cell there e = absurd (omega (arith, grid.levels c refined))
leaf_under (suc levels) t c true refined grid cell there e =
    let digits = centre_is_digits t.dim in
    let next : CellKey = centre_child t.dim c in
    leaf_under levels t next (is_refined t next) refl grid
    (child_cell t.dim c (centre_digits t.dim) cell (grid.levels c refined) digits)
    (child_there t c (centre_digits t.dim) cell.shape digits.first digits.second (third_digit t.dim (centre_digits t.dim) digits) refined)
    (omega arith)

-- a field has a row
pub has_row : (parts : ℕ) (t : Spacetree) (f : States) → IsGrid 12 t → IsFieldOn parts t f → 0 < length (rows_of f)
has_row parts t f grid field =
    let leaf = leaf_under 12 t root (is_refined t root) refl grid (root_cell t.dim) refl (omega arith) in
    go (rows_of f) (map.entries f) leaf.0 refl (subst (λ (o : Option State). IsSome o) (map.get-entries f leaf.0) ((field.leaves leaf.0).1 leaf.1)) where
      go : (rows : List Row) (es : List (CellKey × State)) (q : CellKey) → rows ≡ maps row_of es → IsSome (map.find key_cmp q es) → 0 < length rows
      go rows [] q e h = absurd (false≢true h)
      go rows (x ∷ es) q e h = omega (arith, ap length e)

module _ (n : ℕ) (plan : Plan) (same : plan ≡ demo n) (t : Spacetree) (f : States) (opens : Opens plan.shape t) (fills : OpensField t plan.fills (parts_in plan.solver) f) where
  begins : Begins n t f
  begins = record {
    grid = subst (λ (p : Plan). Opens p.shape t) same opens;
    field = subst (λ (p : Plan). OpensField t p.fills (parts_in p.solver) f) same fills;
  }

  -- the summary of the grid and the field to which the steps of a demonstration's plan lead is the demonstration's
  pub summary_from : (u : Spacetree) (g : States) (cells : ℕ) (rows : List Row) (text : List ℕ) → Evaluates (updated_by plan.solver) (marked_by plan.solver) t f plan.steps u g → cells ≡ cells_of u → rows ≡ rows_of g → IsSummary n cells rows text → IsDemoSummary n text
  summary_from u g cells rows text told count list summary = record {
    grid = t;
    field = f;
    begins = begins;
    last_grid = u;
    last_field = g;
    leads = subst (λ (p : Plan). Evaluates (updated_by p.solver) (marked_by p.solver) t f p.steps u g) same told;
    summary = subst (λ (k : ℕ). IsSummary n k (rows_of g) text) count (subst (λ (r : List Row). IsSummary n cells r text) list summary);
  }

  -- and none of these steps is refused
  pub no_overflow : (step : ℕ) (u : Spacetree) (g : States) (c : CellKey) → Evaluates (updated_by plan.solver) (marked_by plan.solver) t f step u g → Overflows (updated_by plan.solver) u g c → ⊥
  no_overflow step u g c told over =
      let leads = subst (λ (p : Plan). Evaluates (updated_by p.solver) (marked_by p.solver) t f step u g) same told in
      (never_refused n (suc step) t f begins).0 (suc step) c (omega arith) (u, g, leads, subst (λ (p : Plan). Overflows (updated_by p.solver) u g c) same over)

  pub no_crowd : (step : ℕ) (u : Spacetree) (g : States) (cells : ℕ) → Evaluates (updated_by plan.solver) (marked_by plan.solver) t f step u g → Crowds (updated_by plan.solver) (marked_by plan.solver) u g cells → ⊥
  no_crowd step u g cells told crowds =
      let leads = subst (λ (p : Plan). Evaluates (updated_by p.solver) (marked_by p.solver) t f step u g) same told in
      (never_refused n (suc step) t f begins).1 (suc step) cells (omega arith) (u, g, leads, subst (λ (p : Plan). Crowds (updated_by p.solver) (marked_by p.solver) u g cells) same crowds)
