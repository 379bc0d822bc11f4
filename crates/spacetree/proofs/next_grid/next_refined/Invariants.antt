use Rattle.std.proofs.Common.{take, ◌+◌, ◌≤◌}
use Rattle.std.specs.FinSet as set
use Rattle.spacetree.specs.Marked.{HasChildren}
use Rattle.spacetree.proofs.Sifts.{Sifts}
use Rattle.spacetree.proofs.next_grid.next_refined.Given as goal

abbrev pub invariant-loop-parent : goal.invariant-loop-parent
invariant-loop-parent l = record {
  sifts : Sifts (λ q. HasChildren l.grid.dim l.coarsen q → ⊥) (take l.parent-index l.parent-items) l.refine l.refined;
  count : set.len l.refined ≤ set.len l.refine + l.parent-index;
}
