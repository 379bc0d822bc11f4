-- A store at rest: the lists that it has by its tree's visits alone, and what its vertices say.
use Rattle.std.specs.Prelude.{◌≡◌, ℕ, ◌<◌, ◌≤◌, ◌&&◌, true, not, [], Some, None, map, length, count_by, All}
use Rattle.peano_keys.specs.declared.dim.Dim.{Dim}
use Rattle.peano_keys.specs.Grid.{Spacetree, IsGrid}
use Rattle.peano_keys.specs.Field.{States}
use Rattle.peano_curve.specs.declared.order.Direction.{Direction}
use Rattle.peano_curve.specs.declared.order.Direction.TheVariants.{Forward}
use Rattle.peano_curve.specs.declared.range.Range.{Range}
use Rattle.peano_records.specs.declared.stored.Stored.{Stored}
use Rattle.peano_records.specs.AtRest.{IsAtRest, IsBeforeAdapting}
use Rattle.peano_records.specs.declared.slot.Intent.TheVariants.{Stay}
use Rattle.peano_records.specs.Slots.{slot_at}
use Rattle.hanging_nodes.specs.Views.{AreOldAndNew}
use Rattle.vertex_stacks.specs.declared.kind.Kind.{Kind}
use Rattle.vertex_stacks.specs.declared.kind.Kind.TheVariants.{Adapt, Raise}
use Rattle.vertex_stacks.specs.Tales.{capped}
use Rattle.sweep_visits.specs.Plan.{SweepPlan, dim_of, is_refined_in}
use Rattle.sweep_visits.specs.Moves.{moves_of, taken_by}
use Rattle.sweep_streams.specs.Records.{read_by}
use Rattle.tree_automaton.specs.declared.kinds.Serves.TheVariants.{Raising, Adapting, Plain}
use Rattle.tree_automaton.specs.TreeLists.{TreeLists}
use Rattle.tree_automaton.specs.Sweep.{TreeSweep, is_owned, served_by}
use Rattle.tree_automaton.specs.Promises.{Meaning}
use Rattle.tree_automaton.specs.Moments.{flag_of}
use Rattle.tree_automaton.specs.Sweeps.{SweepAsks, key_of, no_lanes}
use Rattle.tree_automaton.specs.Views.{VertexFits}

-- a store is live and has the lists that a sweep with this plan reads: the records of the held cells of the old grid in the order of their enters, and its stored
-- vertices in the order in which they are taken; nothing else lies in it, and its numbers count what lies there
pub record HasLists (p : SweepPlan) (number : ℕ) (s : TreeLists) : Type 0 where
  pub dim : s.lanes.dim ≡ dim_of p
  pub depth : s.depth ≡ p.depth
  pub range : s.range ≡ p.range
  pub dir : s.dir ≡ p.dir
  pub tree : s.tree ≡ number
  pub live : s.live ≡ true
  pub cells : map flag_of s.cells ≡ map (is_refined_in p.old) (read_by p)
  pub written : s.written ≡ []
  pub input : map key_of s.lanes.input ≡ taken_by (moves_of p)
  pub output : s.lanes.output ≡ []
  pub lanes : s.lanes.lanes ≡ no_lanes
  pub taken : s.lanes.taken ≡ 0
  pub put : s.lanes.put ≡ 0
  pub pushed : s.lanes.pushed ≡ 0
  pub counted : s.counted ≡ 0
  pub stored : s.stored ≡ capped (length s.lanes.input)
  pub leaves : s.leaves
      ≡ capped (count_by (λ c. not (is_refined_in p.old c) && is_owned p c) (read_by p))

-- the plan of a sweep that changes no grid
abbrev pub plain_plan : ℕ → Range → Direction → Spacetree → SweepPlan
plain_plan depth range dir t =
    record { depth = depth; range = range; dir = dir; old = Some t; new = t }

-- the plan of a sweep that raises a grid
abbrev pub raising_plan : ℕ → Range → Direction → Spacetree → SweepPlan
raising_plan depth range dir t =
    record { depth = depth; range = range; dir = dir; old = None; new = t }

-- A live store at rest stands for a tree, a grid, a field and a direction: each vertex says of each cell round it its status and its value, and nothing is intended.
pub record StandsFor (depth : ℕ) (range : Range) (tree : ℕ) (dir : Direction) (t : Spacetree)
    (f : States) (s : TreeLists) : Type 0 where
  pub lists : HasLists (plain_plan depth range dir t) tree s
  pub slots : All (IsAtRest t f) s.lanes.input

-- A live store before an adaptation: its vertices have the intents by which the next grid is made, and values are free.
pub record StandsBefore (depth : ℕ) (range : Range) (tree : ℕ) (dir : Direction)
    (old new : Spacetree) (s : TreeLists) : Type 0 where
  pub lists : HasLists (plain_plan depth range dir old) tree s
  pub slots : All (IsBeforeAdapting old new) s.lanes.input

-- a store that holds nothing, as one is made: live and forward
pub record IsEmpty (depth : ℕ) (range : Range) (number : ℕ) (dim : Dim)
    (s : TreeLists) : Type 0 where
  pub dim_is : s.lanes.dim ≡ dim
  pub depth_is : s.depth ≡ depth
  pub range_is : s.range ≡ range
  pub tree : s.tree ≡ number
  pub dir : s.dir ≡ Forward
  pub live : s.live ≡ true
  pub cells : s.cells ≡ []
  pub written : s.written ≡ []
  pub input : s.lanes.input ≡ []
  pub output : s.lanes.output ≡ []
  pub lanes : s.lanes.lanes ≡ no_lanes
  pub taken : s.lanes.taken ≡ 0
  pub put : s.lanes.put ≡ 0
  pub pushed : s.lanes.pushed ≡ 0
  pub counted : s.counted ≡ 0
  pub stored : s.stored ≡ 0

-- a sweep of a plan over a tree and a field that a store can be asked for
pub record CanSweep (plan : SweepPlan) (number : ℕ) (field : States) (meaning : Meaning)
    (kind : Kind) (s : TreeLists) : Type 0 where
  pub sweep : TreeSweep
  pub plan_is : sweep.plan ≡ plan
  pub tree_is : sweep.tree ≡ number
  pub field_is : sweep.field ≡ field
  pub asks : SweepAsks sweep meaning kind s

-- What a sweep asks can be met, in each of its kinds: a store that stands for a grid and a field can be shown and stepped,
abbrev pub StoreCanBeSwept : Type 0
StoreCanBeSwept = (depth : ℕ) (range : Range) (number : ℕ) (dir : Direction) (t : Spacetree)
    (f : States) (s : TreeLists) (meaning : Meaning) (kind : Kind)
    → depth ≤ 12 → IsGrid depth t → StandsFor depth range number dir t f s
    → served_by kind ≡ Plain → meaning.serves ≡ Plain → meaning.dim ≡ t.dim
    → CanSweep (plain_plan depth range dir t) number f meaning kind s

-- one that stands before an adaptation can be adapted,
abbrev pub StoreCanBeAdapted : Type 0
StoreCanBeAdapted = (depth : ℕ) (range : Range) (number : ℕ) (dir : Direction) (old new : Spacetree)
    (f : States) (s : TreeLists) (meaning : Meaning)
    → depth ≤ 12 → AreOldAndNew depth new.dim old new → IsGrid depth new
    → StandsBefore depth range number dir old new s
    → meaning.serves ≡ Adapting → meaning.dim ≡ new.dim → meaning.new_grid ≡ new
    → CanSweep (record (plain_plan depth range dir new) { old = Some old }) number f meaning Adapt s

-- and an empty one can be raised.
abbrev pub StoreCanBeRaised : Type 0
StoreCanBeRaised = (depth : ℕ) (range : Range) (number : ℕ) (t : Spacetree) (f : States)
    (s : TreeLists) (meaning : Meaning)
    → depth ≤ 12 → IsGrid depth t → IsEmpty depth range number t.dim s
    → meaning.serves ≡ Raising → meaning.dim ≡ t.dim → meaning.new_grid ≡ t
    → CanSweep (raising_plan depth range Forward t) number f meaning Raise s

-- In a sweep that changes no grid a vertex whose slots intend nothing is at rest.
abbrev pub FittingIsAtRest : Type 0
FittingIsAtRest = (p : TreeSweep) (s : Stored) → p.serves ≡ Plain → VertexFits p s
    → ((n : ℕ) → n < 8 → (slot_at s n).intent ≡ Stay) → IsAtRest p.plan.new p.field s
