-- The secondary sweeps of all trees.
use Rattle.std.specs.Prelude.{◌≡◌, ℕ, ◌<◌, Bool, List, ◌++◌, length, Option, Result, IfOk}
use Rattle.peano_keys.specs.declared.cell.CellKey.{CellKey}
use Rattle.peano_keys.specs.Field.{States}
use Rattle.peano_keys.specs.Next.{Splits, Merges}
use Rattle.peano_curve.specs.declared.order.Direction.{Direction}
use Rattle.curve_cuts.specs.Cuts.{Cuts, Owns, range_of}
use Rattle.curve_cuts.specs.Enclave.{IsEnclave}
use Rattle.vertex_stacks.specs.declared.kind.Kind.TheVariants.{Secondary}
use Rattle.vertex_stacks.specs.Notes.{Note}
use Rattle.vertex_stacks.specs.Tales.{capped, with_note}
use Rattle.sweep_visits.specs.Runs.{turned_round}
use Rattle.tree_automaton.specs.TreeLists.{TreeLists}
use Rattle.tree_automaton.specs.AtRest.{HasLists, plain_plan}
use Rattle.step_phases.specs.Change.{Change}
use Rattle.spacetree.specs.Counts.{CountsCells}
use Rattle.step_world.specs.Counts.{total}
use Rattle.step_world.specs.Failing.{FailsAmong, IsLeastFound}
use Rattle.step_world.specs.Notes.{note_over, by_trees}
use Rattle.peano_records.specs.declared.partials.Partial.{Partial}
use Rattle.mean_values.specs.NextSums.{TellsMerges}
use Rattle.shared_sums.specs.Adding.{partials_in}
use Rattle.step_sweeps.specs.Kernels.{Kernel}
use Rattle.step_sweeps.specs.Sweeps.{IsMarked, CanFinish, IsSecondarySwept, AreNewStatesOf, IsSummed}
use Rattle.step_sweeps.specs.Tasks.{TasksSeen}
use Rattle.step_driver.specs.declared.finishing.Findings.{Findings}
use Rattle.step_driver.specs.declared.finishing.TreeFindings.{TreeFindings}
use Rattle.step_driver.specs.declared.beside.Swept.{Swept}
use Rattle.step_driver.specs.Stores.{store_of, ChangesEach}
use Rattle.step_driver.specs.Notes.{sizes_of}

-- the store of each tree has the marks of all leaves and the new values of the skeleton leaves for a change by a kernel, and all are read in one direction
pub record AllMarked (kernel : Kernel) (k : Cuts) (dir : Direction) (w : Change) (f : States)
    (stores : List TreeLists) : Type 0 where
  pub count : length stores ≡ k.trees
  pub number : (t : ℕ) → t < k.trees → (store_of stores t).tree ≡ t
  pub each : (t : ℕ) → t < k.trees → IsMarked kernel k dir w f (store_of stores t)

-- for some change and field
abbrev pub AllCanFinish : Kernel → Cuts → List TreeLists → Type 0
AllCanFinish kernel k stores = (dir : Direction) × (w : Change) × (f : States)
    × AllMarked kernel k dir w f stores

-- what the secondary sweep of one tree gives, whatever change was marked
abbrev pub Finishes : Kernel → Cuts → ℕ → TreeLists → Swept TreeFindings → Type 0
Finishes kernel k step x r = (dir : Direction) (w : Change) (f : States)
    → IsMarked kernel k dir w f x
    → IsSecondarySwept k kernel.parts dir w step x r.store r.note r.found.tally r.found.partials

-- a tree that can be swept, with tasks of a solver
abbrev pub CanFinishJob : {S : Type 0} → Kernel → Cuts → S → TreeLists × TasksSeen S → Type 0
CanFinishJob kernel k solver job = CanFinish kernel k job.0 × (job.1.solver ≡ solver)

-- what its secondary sweep gives
abbrev pub FinishesJob : {S E : Type 0} → Kernel → Cuts → ℕ → TreeLists × TasksSeen S
    → Result (Swept TreeFindings) E → Type 0
FinishesJob kernel k step job r = IfOk r (Finishes kernel k step job.0)

-- What a secondary sweep makes of the store of a tree, and the partials that it hands out: the store has the same lists, read the other way; the tale has one note more;
-- and where each leaf has a new state, the tree's own cells have their new states and sums in its copies, and the partials are those of the tree.
pub record IsFinishedTree (k : Cuts) (parts : ℕ) (dir : Direction) (w : Change) (step t : ℕ)
    (before after : TreeLists) (partials : List Partial) : Type 0 where
  pub lists : HasLists (plain_plan k.depth (range_of k t) (turned_round dir) w.old) t after
  pub summed : (states : States) (merging : CellKey → Bool) → AreNewStatesOf w parts states
      → TellsMerges w.old w.mark merging → IsSummed k parts w merging states before after partials
  pub tale : after.lanes.tale
      ≡ with_note before.lanes.tale (note_over (sizes_of k) step Secondary w.old t)

-- the first trees together own so many cells of a kind; the number stands at the last value of a count once it is there
pub record CountsFirst (k : Cuts) (P : CellKey → Type 0) (m n : ℕ) : Type 0 where
  pub counts : ℕ → ℕ
  pub each : (t : ℕ) → t < m → CountsCells (λ c. Owns k t c × P c) (counts t)
  pub told : n ≡ capped (total m counts)

-- the notes of the first trees, the least of the enclave leaves that fail in them, and how many of their cells split and merge
pub record CountedFirst (k : Cuts) (w : Change) (step m : ℕ) (old new : List Note)
    (found : Findings) : Type 0 where
  pub noted : new ≡ old ++ by_trees m (note_over (sizes_of k) step Secondary w.old)
  pub splits : CountsFirst k (Splits w.old w.mark) m found.turnover.splits
  pub merges : CountsFirst k (Merges w.old w.mark) m found.turnover.merges
  pub failing : ℕ → Option CellKey
  pub tells : (t : ℕ) → t < m → FailsAmong (IsEnclave k w.old t) w.next (failing t)
  pub least : IsLeastFound m failing found.failing

-- the stores of all trees were swept; the partials of each, their notes, the least of the enclave leaves that fail, and how many cells split and merge
pub record AreFinished (k : Cuts) (parts : ℕ) (dir : Direction) (w : Change) (step : ℕ)
    (before after : List TreeLists) (partials : List (List Partial)) (old new : List Note)
    (found : Findings) : Type 0 where
  pub trees : ChangesEach
      (λ t x y. IsFinishedTree k parts dir w step t x y (partials_in partials t))
      k.trees before after
  pub handed : length partials ≡ k.trees
  pub counted : CountedFirst k w step k.trees old new found
