-- Trees over a grid and the next one.
use Rattle.std.proofs.Common.{ℕ, ◌<◌, None, inr, sym, subst}
use Rattle.std.specs.Prelude.{pos}
use Rattle.peano_keys.specs.declared.state.State.TheVariants.{Single}
use Rattle.peano_keys.specs.declared.side.Mark.TheVariants.{Keep}
use Rattle.peano_keys.specs.Grid.{Spacetree}
use Rattle.peano_keys.specs.Field.{States}
use Rattle.peano_keys.specs.Next.{IsNextGrid}
use Rattle.peano_curve.specs.declared.order.Direction.{Direction}
use Rattle.peano_curve.specs.declared.order.Direction.TheVariants.{Backward}
use Rattle.curve_cuts.specs.Cuts.{Cuts, IsCutGrid, range_of}
use Rattle.sweep_visits.specs.Plan.{SweepPlan}
use Rattle.vertex_stacks.specs.Notes.{Note}
use Rattle.sweep_visits.specs.Runs.{turned_round}
use Rattle.step_phases.specs.Change.{Change}
use Rattle.solver_api.specs.Step.{MarkRule, UpdateRule, marks_of}
use Rattle.spacetree.specs.Evaluation.{Evaluates}
use Rattle.tree_automaton.specs.TreeLists.{TreeLists}
use Rattle.tree_automaton.specs.AtRest.{HasLists, plain_plan}
use Rattle.adapt_sweep.specs.Raising.{IsRaisedTree}
use Rattle.adapt_sweep.specs.Adapting.{CanBeAdapted, IsAdaptedTree}
use Rattle.worked_sweeps.specs.Trees.{IsTreeOver, IsTreeBefore, LeadsTo}

-- the change from one grid to the next, as far as an adaptation asks
abbrev pub between : Spacetree → Spacetree → Change
between g next = record { old = g; new = next; value = λ _. Single (pos 0); mark = λ _. Keep; next = λ _. None; last = λ _. Single (pos 0) }

-- a store with the lists of a grid, whichever way it is read
pub tree_with : (k : Cuts) (g : Spacetree) (number : ℕ) (dir : Direction) (s : TreeLists) → IsCutGrid k g → number < k.trees → HasLists (plain_plan k.depth (range_of k number) dir g) number s → IsTreeOver k g s
tree_with k g number dir s cut below lists = record {
  grid = cut;
  tree = subst (λ n. n < k.trees) (sym lists.tree) below;
  lists = subst (λ n. HasLists (plain_plan k.depth (range_of k n) s.dir g) n s) (sym lists.tree) (subst (λ d. HasLists (plain_plan k.depth (range_of k number) d g) number s) (sym lists.dir) lists);
}

pub raised_over : (k : Cuts) (g : Spacetree) (f : States) (step : ℕ) (s t : TreeLists) (note : Note) → IsCutGrid k g → s.tree < k.trees → IsRaisedTree k g f step s t note → IsTreeOver k g t
raised_over k g f step s t note cut below raised = tree_with k g s.tree Backward t cut below raised.lists

pub adapted_over : (k : Cuts) (g next : Spacetree) (step : ℕ) (s t : TreeLists) (note : Note) → IsCutGrid k next → s.tree < k.trees → IsAdaptedTree k (between g next) step s t note → IsTreeOver k next t
adapted_over k g next step s t note cut below adapted = tree_with k next s.tree (turned_round s.dir) t cut below adapted.lists

-- whatever was written into its slots
pub written_over : (k : Cuts) (g : Spacetree) (s t : TreeLists) → ((p : SweepPlan) (number : ℕ) → HasLists p number s → HasLists p number t) → IsTreeOver k g s → IsTreeOver k g t
written_over k g s t stays over = tree_with k g s.tree s.dir t over.grid over.tree (stays (plain_plan k.depth (range_of k s.tree) s.dir g) s.tree over.lists)

-- a tree with intents can be adapted
pub can_be_adapted : (k : Cuts) (g next : Spacetree) (s : TreeLists) → IsTreeBefore k g next s → IsCutGrid k next → LeadsTo g next → CanBeAdapted k (between g next) s
can_be_adapted k g next s before cut leads = record {
  old_grid = before.over.grid;
  new_grid = cut;
  step = record { grid = before.over.grid.grid; old_dim = before.over.grid.dim; step = inr leads };
  tree = before.over.tree;
  before = record { lists = before.over.lists; slots = before.slots };
}

-- one step of an evaluation leads from a grid to the next one
pub one_step : (updated : UpdateRule) (marked : MarkRule) (t : Spacetree) (f : States) (t' : Spacetree) (f' : States) → Evaluates updated marked t f 1 t' f' → LeadsTo t t'
one_step updated marked t f t' f' e = (marks_of marked e.0 e.1, subst (λ g. IsNextGrid g (marks_of marked e.0 e.1) t') e.2.0 e.3.step.grid)
