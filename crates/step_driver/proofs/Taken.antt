-- A step that computes: how many cells turn over, why it is refused, and where it leads if it is not.
use Rattle.std.proofs.Common.{◌≡◌, ℕ, ◌≤◌, Bool, true, if◌then◌else◌, List, [], ◌++◌, Some, None, sym, subst, arith}
use Rattle.std.specs.Prelude.{Result, Ok, Err}
use Rattle.std.specs.Result.{IsErrAnd}
use Rattle.peano_keys.specs.declared.dim.Dim.{Dim}
use Rattle.peano_keys.specs.Grid.{Spacetree}
use Rattle.peano_keys.specs.Field.{States, state_at, sides_of}
use Rattle.peano_keys.specs.Next.{IsNextGrid}
use Rattle.solver_api.specs.Step.{IsStep, marks_of}
use Rattle.spacetree.specs.Counts.{cells_of}
use Rattle.spacetree.specs.declared.fault.EvalFault.{EvalFault}
use Rattle.spacetree.specs.declared.fault.EvalFault.TheVariants.{Overflow, Crowded, NoMemory}
use Rattle.curve_cuts.specs.Cuts.{Cuts, IsCutGrid}
use Rattle.peano_records.specs.declared.partials.Partial.{Partial}
use Rattle.vertex_stacks.specs.declared.kind.Kind.TheVariants.{Primary, Secondary}
use Rattle.vertex_stacks.specs.Notes.{Note}
use Rattle.sweep_visits.specs.Runs.{turned_round}
use Rattle.tree_automaton.specs.TreeLists.{TreeLists}
use Rattle.step_sweeps.specs.Kernels.{Kernel}
use Rattle.step_world.specs.Failing.{Fails}
use Rattle.step_world.specs.Notes.{by_trees, computing_notes, note_over, note_adapted}
use Rattle.step_world.specs.Worlds.{RefinesAbove}
use Rattle.spacetree.proofs.Exists.{step_exists}
use Rattle.step_world.proofs.Worlds.{deep_grid, next_is_cut}
use Rattle.step_driver.specs.declared.finishing.Findings.{Findings}
use Rattle.step_driver.specs.declared.stepping.Stepped.{Stepped}
use Rattle.step_driver.specs.Notes.{sizes_of, AddsFirst}
use Rattle.step_driver.specs.Computing.{AllStandOn}
use Rattle.step_driver.specs.Finishing.{AreFinished}
use Rattle.step_driver.specs.Pending.{pending}
use Rattle.step_driver.specs.Refusing.{IsRefusal}
use Rattle.step_driver.specs.Sizes.{IsTurnover, IsSizeAfter}
use Rattle.step_driver.specs.Stepping.{IsComputedStep, StoppedStep, IsStepTaken}
use Rattle.step_driver.specs.Worlds.{AreAt}
use Rattle.step_driver.proofs.Began.{grid_exists, are_marked, stand_on, both_noted, adds_more, adds_after, adds_all}
use Rattle.step_driver.proofs.Pend.{pending_by}
use Rattle.step_driver.proofs.Refused.{both_fail, step_fails, step_served}
use Rattle.step_driver.proofs.Sizes.{turnover_counted}

-- where memory was wanting in the part that computes
pub stopped_computing : (kernel : Kernel) (adapts : Bool) (k : Cuts) (g : Spacetree) (f : States) (step : ℕ) (before : List TreeLists) (old new : List Note) (cells : ℕ) → AreAt kernel.parts k before old cells g f →
    AddsFirst old new (computing_notes (sizes_of k) k.trees step g) → StoppedStep kernel adapts k g f step old new NoMemory
stopped_computing kernel adapts k g f step before old new cells at h =
    let next = grid_exists kernel k at.dir g f step before (stand_on kernel.parts k before old cells g f at) in
    (next.0, next.1, adds_more old new (computing_notes (sizes_of k) k.trees step g) (if adapts then by_trees k.trees (note_adapted (sizes_of k) step g next.0) else []) h)

-- so where the answer is that memory was wanting
pub wants_memory : (kernel : Kernel) (adapts : Bool) (k : Cuts) (g : Spacetree) (f : States) (step : ℕ) (old new : List Note) (r : Result Stepped EvalFault) (Q : EvalFault → Type 0) → ((e : EvalFault) → Q e → e ≡ NoMemory) → IsErrAnd r Q →
    StoppedStep kernel adapts k g f step old new NoMemory → IsStepTaken kernel adapts k g f step old new r
wants_memory kernel adapts k g f step old new (Ok cells) Q to h stopped = absurd h
wants_memory kernel adapts k g f step old new (Err e) Q to h stopped = subst (StoppedStep kernel adapts k g f step old new) (sym (to e h)) stopped

-- a step that is not refused: the next grid and field, for the same trees
pub record Serves (kernel : Kernel) (k : Cuts) (g : Spacetree) (f : States) (size : ℕ) : Type 0 where
  pub later : Spacetree
  pub field : States
  pub step : IsStep kernel.updated kernel.marked g f later field
  pub fits : IsCutGrid k later
  pub counted : size ≡ cells_of later
  pub room : cells_of later ≤ 200000

module _ (kernel : Kernel) (k : Cuts) (g : Spacetree) (f : States) (step : ℕ) (before after : List TreeLists) (partials : List (List Partial)) (old new : List Note) (found : Findings) (cells : ℕ)
    (at : AreAt kernel.parts k before old cells g f) (h : IsComputedStep kernel k at.dir g f step before after partials old new found) where
  all : AllStandOn k kernel.parts at.dir g f before
  all = stand_on kernel.parts k before old cells g f at

  abbrev next : Spacetree
  next = (grid_exists kernel k at.dir g f step before all).0

  finished : AreFinished k kernel.parts (turned_round at.dir) (pending kernel g f next) step h.marked after partials h.noted new h.late
  finished = h.secondary (pending kernel g f next) (are_marked kernel k at.dir g f step before all h.swept old h.noted h.early h.primary h.marked h.first)

  pub turnover_is : (dim : Dim) → k.dim ≡ dim → IsTurnover dim cells g (marks_of kernel.marked g f) found.turnover
  turnover_is dim same =
      let counted = at.counted in
      let room = at.room in
      subst (IsTurnover dim cells g (marks_of kernel.marked g f)) (sym h.turnover)
      (turnover_counted k g (marks_of kernel.marked g f) h.late.turnover dim cells at.fits same (sym counted) (omega (arith, counted, room)) finished.counted.splits finished.counted.merges)

  noted : new ≡ old ++ computing_notes (sizes_of k) k.trees step g
  noted = both_noted old h.noted new (by_trees k.trees (note_over (sizes_of k) step Primary g)) (by_trees k.trees (note_over (sizes_of k) step Secondary g)) h.primary.told.noted finished.counted.noted

  fails : Fails kernel.updated g f found.failing
  fails = subst (Fails kernel.updated g f) (sym h.failing)
      (both_fail kernel k at.dir (turned_round at.dir) (pending kernel g f next) f step before h.swept h.marked after partials old h.noted new h.early h.late at.fits (pending_by kernel g f next) h.primary finished)

  module _ (dim : Dim) (same : k.dim ≡ dim) (size : ℕ) (sized : IsSizeAfter dim cells found.turnover size) where
    -- why it is refused
    pub refused : (adapts : Bool) (fault : EvalFault) → IsRefusal found.failing size step (Some fault) → StoppedStep kernel adapts k g f step old new fault
    refused adapts (Overflow s c) why = (step_fails kernel.updated kernel.marked g f dim cells found.turnover (turnover_is dim same) found.failing fails size sized step (Overflow s c) why, noted)
    refused adapts (Crowded s n) why = (step_fails kernel.updated kernel.marked g f dim cells found.turnover (turnover_is dim same) found.failing fails size sized step (Crowded s n) why, noted)
    refused adapts NoMemory why = absurd why

    -- or where it leads
    pub serves : RefinesAbove kernel.marked k.depth → IsRefusal found.failing size step None → Serves kernel k g f size
    serves deep none =
        let served = step_served kernel.updated kernel.marked g f dim cells found.turnover (turnover_is dim same) found.failing fails size sized step none in
        let is = step_exists kernel.updated kernel.marked g f (deep_grid k g at.fits) served.0 in
        let counted = served.1 is.0 is.2.grid in
        record {
          later = is.0;
          field = is.1;
          step = is.2;
          fits = next_is_cut k g is.0 (marks_of kernel.marked g f) at.fits is.2.grid (λ c h. deep (state_at f c) (sides_of g f c) c.level h);
          counted = counted.0;
          room = counted.1;
        }

  -- where memory was wanting in the part that settles
  pub stopped_settling : (adapts : Bool) → StoppedStep kernel adapts k g f step old new NoMemory
  stopped_settling adapts = stopped_computing kernel adapts k g f step before old new cells at (adds_all old new (computing_notes (sizes_of k) k.trees step g) noted)

  -- where memory was wanting in the part that adapts
  pub stopped_adapting : (later : Spacetree) (last : List Note) → IsNextGrid g (marks_of kernel.marked g f) later → AddsFirst new last (by_trees k.trees (note_adapted (sizes_of k) step g later)) → StoppedStep kernel true k g f step old last NoMemory
  stopped_adapting later last next h = (later, next, adds_after old new last (computing_notes (sizes_of k) k.trees step g) (by_trees k.trees (note_adapted (sizes_of k) step g later)) noted h)
