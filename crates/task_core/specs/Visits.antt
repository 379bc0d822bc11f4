-- The visits of a tree in a step, what each of them has to do, and a core at the beginning of a step.
use Rattle.std.specs.Prelude.{◌≡◌, ℕ, List, [], ◌∷◌, length, slice_get, Some}
use Rattle.std.specs.FinMap as fin
use Rattle.peano_keys.specs.declared.cell.CellKey.{CellKey}
use Rattle.peano_keys.specs.Grid.{Spacetree}
use Rattle.peano_keys.specs.Field.{States, state_at, sides_of}
use Rattle.peano_curve.specs.declared.order.Direction.{Direction}
use Rattle.curve_cuts.specs.Cuts.{Cuts, range_of}
use Rattle.curve_cuts.specs.Enclave.{OwnsLeaf, IsSkeleton, IsEnclave}
use Rattle.sweep_visits.specs.Plan.{SweepPlan}
use Rattle.sweep_visits.specs.Visits.{Visit, enter, leave, visits_of}
use Rattle.sweep_visits.specs.Runs.{turned_round}
use Rattle.task_core.specs.declared.stop.Leaf.{Leaf}
use Rattle.task_core.specs.declared.stop.Stop.{Stop}
use Rattle.task_core.specs.declared.stop.Stop.TheVariants.{Pass, Compute, Offer}
use Rattle.task_core.specs.declared.event.Sweep.TheVariants.{First}
use Rattle.task_core.specs.Core.{Tree, Core}

-- a sweep of a tree over one grid
abbrev pub plan_of : Cuts → Spacetree → ℕ → Direction → SweepPlan
plan_of k g t dir =
    record { depth = k.depth; range = range_of k t; dir = dir; old = Some g; new = g }

-- a leaf with its state and its sides in the opening field
abbrev pub leaf_of : Spacetree → States → CellKey → Leaf
leaf_of g f c = record { key = c; own = state_at f c; sides = sides_of g f c }

module _ (k : Cuts) (g : Spacetree) (f : States) (t : ℕ) where
  -- what the enter of a cell has to do: a skeleton leaf of the tree is computed, an enclave of it is offered, every other cell is passed by
  abbrev pub EntersWith : CellKey → Stop → Type 0
  EntersWith c Pass = ¬ OwnsLeaf k g t c
  EntersWith c (Compute l) = IsSkeleton k g t c × (l ≡ leaf_of g f c)
  EntersWith c (Offer l) = IsEnclave k g t c × (l ≡ leaf_of g f c)

  -- what a visit has to do: the leave of a cell passes by
  abbrev pub IsStopOf : Visit → Stop → Type 0
  IsStopOf (enter c) s = EntersWith c s
  IsStopOf (leave c) s = s ≡ Pass

  -- one stop for each visit, in their order
  abbrev pub AreStops : List Visit → List Stop → Type 0
  AreStops [] [] = Unit {0}
  AreStops [] (s ∷ ss) = ⊥
  AreStops (v ∷ vs) [] = ⊥
  AreStops (v ∷ vs) (s ∷ ss) = IsStopOf v s × AreStops vs ss

  -- a tree before its first visit: its first sweep goes along a direction, and its second one the other way
  pub record BeginsTree (dir : Direction) (w : Tree) : Type 0 where
    pub first : AreStops (visits_of (plan_of k g t dir)) w.first
    pub second : AreStops (visits_of (plan_of k g t (turned_round dir))) w.second
    pub made : w.made ≡ 0
    pub tasks : w.tasks ≡ []

module _ (k : Cuts) (g : Spacetree) (f : States) (dir : Direction) where
  -- each tree is before its first visit
  abbrev pub BeginTrees : List Tree → Type 0
  BeginTrees ws = (t : ℕ) (w : Tree) → slice_get ws t ≡ Some w → BeginsTree k g f t dir w

  -- a core at the beginning of a step: all trees are in their first sweep, and no leaf has an answer
  pub record Begins (c : Core) : Type 0 where
    pub sweep : c.sweep ≡ First
    pub count : length c.trees ≡ k.trees
    pub trees : BeginTrees c.trees
    pub answers : c.answers ≡ fin.empty
