-- Both sweeps of a step with notes of their own, put behind the notes before.
use Rattle.std.proofs.Common.{append_assoc, ◌≡◌, ℕ, List, [], ◌++◌, ap, sym, subst, ◌∙◌}
use Rattle.std.specs.Prelude.{Option}
use Rattle.peano_keys.specs.declared.cell.CellKey.{CellKey}
use Rattle.peano_keys.specs.Grid.{Spacetree}
use Rattle.peano_keys.specs.Field.{States}
use Rattle.peano_curve.specs.declared.order.Direction.{Direction}
use Rattle.curve_cuts.specs.Cuts.{Cuts}
use Rattle.peano_records.specs.declared.partials.Partial.{Partial}
use Rattle.vertex_stacks.specs.Notes.{Note}
use Rattle.vertex_stacks.specs.declared.kind.Kind.TheVariants.{Secondary}
use Rattle.sweep_visits.specs.Runs.{turned_round}
use Rattle.tree_automaton.specs.TreeLists.{TreeLists}
use Rattle.step_phases.specs.Change.{Change}
use Rattle.step_sweeps.specs.Kernels.{Kernel}
use Rattle.step_world.specs.Notes.{note_over, by_trees}
use Rattle.step_driver.specs.declared.finishing.Findings.{Findings}
use Rattle.step_driver.specs.declared.working.Twice.{Twice}
use Rattle.step_driver.specs.Computing.{AreComputed, least_with}
use Rattle.step_driver.specs.Finishing.{AreFinished}
use Rattle.step_driver.specs.Notes.{sizes_of}
use Rattle.step_driver.specs.Stepping.{IsSweptTwice, IsComputedStep}

computed_after : (kernel : Kernel) (k : Cuts) (dir : Direction) (g : Spacetree) (f : States) (step : ℕ) (before swept : List TreeLists) (old noted : List Note) (early : Option CellKey) → AreComputed kernel k dir g f step before swept [] noted early → AreComputed kernel k dir g f step before swept old (old ++ noted) early
computed_after kernel k dir g f step before swept old noted early h = record {
  trees = h.trees;
  told = record { noted = ap (λ (xs : List Note). old ++ xs) h.told.noted; found = h.told.found; tells = h.told.tells; least = h.told.least };
}

finished_after : (k : Cuts) (parts : ℕ) (back : Direction) (w : Change) (step : ℕ) (marked after : List TreeLists) (partials : List (List Partial)) (old noted new : List Note) (late : Findings) → AreFinished k parts back w step marked after partials noted new late → AreFinished k parts back w step marked after partials (old ++ noted) (old ++ new) late
finished_after k parts back w step marked after partials old noted new late h = record {
  trees = h.trees;
  handed = h.handed;
  counted = record {
    noted = ap (λ (xs : List Note). old ++ xs) h.counted.noted ∙ sym (append_assoc old noted (by_trees k.trees (note_over (sizes_of k) step Secondary w.old)));
    splits = h.counted.splits;
    merges = h.counted.merges;
    failing = h.counted.failing;
    tells = h.counted.tells;
    least = h.counted.least;
  };
}

module _ (kernel : Kernel) (k : Cuts) (dir : Direction) (g : Spacetree) (f : States) (step : ℕ) (before : List TreeLists) (r : Twice) (h : IsSweptTwice kernel k dir g f step before r) where
  -- behind the notes before them the step is computed
  pub computed : (old new : List Note) (found : Findings) → new ≡ old ++ r.notes.items → found.failing ≡ least_with r.early r.late.failing → found.turnover ≡ r.late.turnover → IsComputedStep kernel k dir g f step before r.stores.items r.partials.items old new found
  computed old new found noted failing turnover = record {
    swept = h.swept;
    marked = h.marked;
    noted = old ++ h.noted;
    early = r.early;
    late = r.late;
    primary = computed_after kernel k dir g f step before h.swept old h.noted r.early h.primary;
    first = h.first;
    secondary = λ w marked. subst (λ (ns : List Note). AreFinished k kernel.parts (turned_round dir) w step h.marked r.stores.items r.partials.items (old ++ h.noted) ns r.late) (sym noted) (finished_after k kernel.parts (turned_round dir) w step h.marked r.stores.items r.partials.items old h.noted r.notes.items r.late (h.secondary w marked));
    failing = failing;
    turnover = turnover;
  }
