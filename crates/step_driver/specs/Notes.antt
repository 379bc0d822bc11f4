-- The notes of all trees, and the counts in them.
use Rattle.std.specs.Prelude.{◌≡◌, ◌≢◌, ℕ, ◌<◌, ◌==◌, ◌%◌, Bool, false, List, ◌∷◌, ◌++◌, All, filter, length, Option, Some, None}
use Rattle.peano_keys.specs.Grid.{Spacetree}
use Rattle.peano_curve.specs.declared.order.Direction.TheVariants.{Forward}
use Rattle.curve_cuts.specs.Cuts.{Cuts, range_of}
use Rattle.curve_cuts.specs.Keys.{CutPoints, cuts_of}
use Rattle.vertex_stacks.specs.declared.kind.Kind.TheVariants.{Raise}
use Rattle.vertex_stacks.specs.declared.tale.Tale.{Tale}
use Rattle.vertex_stacks.specs.Notes.{Note}
use Rattle.vertex_stacks.specs.Tales.{capped, tale_of}
use Rattle.sweep_visits.specs.Moves.{moves_of, taken_by}
use Rattle.sweep_streams.specs.Counts.{pushed_by}
use Rattle.tree_automaton.specs.TreeLists.{TreeLists}
use Rattle.tree_automaton.specs.AtRest.{plain_plan}
use Rattle.adapt_sweep.specs.Adapting.{adapting_plan}
use Rattle.step_world.specs.Notes.{Sizes, step_notes, recut_notes}
use Rattle.step_driver.specs.Stores.{store_of}

-- what the trees of some cuts have and move: the stored vertices that a tree has, and the passings of a sweep. A sweep's direction makes no difference to these numbers.
abbrev pub sizes_of : Cuts → Sizes
sizes_of k =
    record {
      stored = λ g t. capped
          (length (taken_by (moves_of (plain_plan k.depth (range_of k t) Forward g))));
      pushes = λ g t. capped
          (length (pushed_by (moves_of (plain_plan k.depth (range_of k t) Forward g))));
      pushes_between = λ old new t. capped
          (length (pushed_by (moves_of (adapting_plan k.depth (range_of k t) Forward old new))));
    }

-- the notes of one tree
abbrev pub notes_of : ℕ → List Note → List Note
notes_of t ns = filter (λ (m : Note). m.tree == t) ns

-- the notes of a tree since it was raised last: that of the raising, and then none of a raising
pub record IsSinceRaised (all since : List Note) : Type 0 where
  pub earlier : List Note
  pub raised : Note
  pub later : List Note
  pub all_are : all ≡ earlier ++ since
  pub since_are : since ≡ raised ∷ later
  pub raising : raised.kind ≡ Raise
  pub last : All (λ (m : Note). m.kind ≢ Raise) later

-- a tale is that of the notes of a tree since it was raised last
abbrev pub TellsSinceRaised : List Note → Tale → Type 0
TellsSinceRaised all tale = (since : List Note) × IsSinceRaised all since × (tale ≡ tale_of since)

-- so is the tale of each tree's store
abbrev pub HaveTales : ℕ → List TreeLists → List Note → Type 0
HaveTales trees stores ns = (t : ℕ) → t < trees
    → TellsSinceRaised (notes_of t ns) (store_of stores t).lanes.tale

-- whether trees are cut anew after a step: where it is asked for, after each step that is a multiple of a number
abbrev pub recuts_in : Option ℕ → ℕ → Bool
recuts_in None step = false
recuts_in (Some every) step = step % every == 0

-- the notes that a step of these trees from one grid to the next adds
abbrev pub added_notes : Cuts → Bool → ℕ → Spacetree → Spacetree → List Note
added_notes k adapts step g h = step_notes (sizes_of k)
    (record {
      trees = k.trees;
      adapts = adapts;
      recuts = λ s. false;
      printed = λ s. false;
    }) step g h

-- the notes that cutting the trees anew adds, from old keys to new ones; none where they are not cut
abbrev pub recut_added : Option ℕ → CutPoints → CutPoints → ℕ → Spacetree → List Note
recut_added recut old new step g = recut_notes (sizes_of (cuts_of old)) (sizes_of (cuts_of new))
    (record {
      trees = (cuts_of old).trees;
      adapts = false;
      recuts = recuts_in recut;
      printed = λ s. false;
    }) step g

-- the notes that were added to some are the first of others
abbrev pub AddsFirst : List Note → List Note → List Note → Type 0
AddsFirst old new all = (first : List Note) × (rest : List Note) × (new ≡ old ++ first)
    × (all ≡ first ++ rest)
