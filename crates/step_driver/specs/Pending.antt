-- What a step is about to change, before it is known whether each leaf has a new state.
use Rattle.std.specs.Prelude.{None, if◌then◌else◌}
use Rattle.peano_keys.specs.Grid.{Spacetree, is_leaf}
use Rattle.peano_keys.specs.Field.{States, value_of}
use Rattle.solver_api.specs.Step.{new_state, marks_of}
use Rattle.step_phases.specs.Change.{Change}
use Rattle.step_sweeps.specs.Kernels.{Kernel}

-- the marks by a solver, and the new states of leaves; nothing is pending of a refined cell
abbrev pub pending : Kernel → Spacetree → States → Spacetree → Change
pending kernel g f new = record {
  old = g;
  new = new;
  value = value_of g f;
  mark = marks_of kernel.marked g f;
  next = λ c. if is_leaf g c then new_state kernel.updated g f c else None;
  last = value_of g f;
}
