use Rattle.std.proofs.Common.{◌≡◌, ◌≤◌, true, take, IsSome}
use Rattle.std.specs.FinSet as set
use Rattle.peano_keys.specs.declared.cell.CellKey.{CellKey}
use Rattle.peano_keys.specs.declared.side.Mark.TheVariants.{Refine, Coarsen}
use Rattle.solver_api.specs.Step.{marks_of, new_state}
use Rattle.spacetree.specs.Leaves.{is_among}
use Rattle.spacetree.proofs.Givens.{Gives, Counts}
use Rattle.spacetree.proofs.Sifts.{Sifts}
use Rattle.spacetree.proofs.update.update_leaves.Given as goal

abbrev pub invariant-loop-leaf : goal.invariant-loop-leaf
invariant-loop-leaf g l = record {
  gives : Gives (new_state (g.S.Solver.updated l.solver) l.grid l.field) (take l.leaf-index l.leaves) l.update.states;
  counts : Counts (g.S.Solver.parts_of l.solver) l.update.states;
  made : (q : CellKey) → is_among (take l.leaf-index l.leaves) q ≡ true → IsSome (new_state (g.S.Solver.updated l.solver) l.grid l.field q);
  refine : Sifts (λ q. marks_of (g.S.Solver.marked l.solver) l.grid l.field q ≡ Refine) (take l.leaf-index l.leaves) set.empty l.update.refine;
  coarsen : Sifts (λ q. marks_of (g.S.Solver.marked l.solver) l.grid l.field q ≡ Coarsen) (take l.leaf-index l.leaves) set.empty l.update.coarsen;
  few : set.len l.update.refine ≤ l.leaf-index;
}
