use Rattle.std.proofs.Common.{◌≡◌, ◌≤◌, ℕ, false}
use Rattle.peano_keys.specs.Grid.{IsGrid}
use Rattle.spacetree.specs.Counts.{cells_of}
use Rattle.spacetree.specs.Fields.{IsFieldOn}
use Rattle.spacetree.specs.Evaluation.{Evaluates}
use Rattle.spacetree.proofs.evaluation.evaluate.Given as goal

abbrev pub invariant-loop-step : goal.invariant-loop-step
invariant-loop-step g l = record {
  told : Evaluates (g.S.Solver.updated l.solver) (g.S.Solver.marked l.solver) l.grid l.field l.step l.tree l.states;
  field : IsFieldOn (g.S.Solver.parts_of l.solver) l.tree l.states;
  grid : (depth : ℕ) → g.S.Solver.deepest_of l.solver ≤ depth → IsGrid depth l.grid → IsGrid depth l.tree;
  room : cells_of l.tree ≤ 200000;
  stays : g.S.Solver.adapting l.solver ≡ false → l.tree ≡ l.grid;
}
