-- The faults of a document in the order in which they are looked for, and the parts of a plan that are read meanwhile.
use Rattle.std.specs.Option.{option_or}
use Rattle.std.specs.Prelude.{ℕ, List, [], ◌∷◌, Option}
use Rattle.toml.specs.Data.{Members}
use Rattle.peano_keys.specs.declared.dim.Dim.{Dim}
use Rattle.grid_file.specs.declared.place.Part.{Part}
use Rattle.grid_file.specs.declared.place.Part.TheVariants.{FillList, RefineList}
use Rattle.grid_file.specs.declared.place.KeyName.TheVariants as key
use Rattle.grid_file.specs.declared.fault.Malformed.{Malformed}
use Rattle.grid_file.specs.declared.passes.Pass.{Pass}
use Rattle.grid_file.specs.declared.passes.Pass.TheVariants.{Unlisted, Missing}
use Rattle.grid_file.specs.declared.solver.SolverName.{SolverName}
use Rattle.grid_file.specs.declared.head.Head.{Head}
use Rattle.grid_file.specs.declared.body.Tail.{Tail}
use Rattle.grid_file.specs.Faults.{Check, first, first_in, step}
use Rattle.grid_file.specs.Keys.{at_key, unlisted, missing, in_tables}
use Rattle.grid_file.specs.Head.{dim_of, depth_of, base_of, solver_of, dim_checks, depth_checks, base_checks, solver_checks}
use Rattle.grid_file.specs.Solvers.{rate_checks, criterion_checks, edge_checks, edge_of}
use Rattle.grid_file.specs.Boxes.{list_checks, fill_checks, zone_checks}
use Rattle.grid_file.specs.Plan.{steps_checks, print_checks, recut_checks, steps_of, print_every_of, recut_every_of}

-- the code of a pass
abbrev pub code_of : Pass → ℕ
code_of Unlisted = 2
code_of Missing = 3

-- what it checks in a table
abbrev pub checks_of : Pass → Part → ℕ → Members → List Check
checks_of Unlisted = unlisted
checks_of Missing = missing

-- the first of codes 4 to 7
abbrev pub head_fault : Members → Option Malformed
head_fault t =
    first_in (step 4 (dim_checks t) ∷ step 5 (depth_checks t) ∷ step 6 (base_checks (depth_of t) t)
    ∷ step 7 (solver_checks t) ∷ [])

-- what a file says first
abbrev pub head_of : Members → Head
head_of t = record {
  dim = dim_of t;
  depth = depth_of t;
  base = base_of (depth_of t) t;
  solver = solver_of t;
}

-- the first of codes 12 to 15
abbrev pub tail_fault : SolverName → Members → Option Malformed
tail_fault solver t =
    first_in (step 12 (edge_checks solver t) ∷ step 13 (steps_checks t)
    ∷ step 14 (print_checks t) ∷ step 15 (recut_checks t) ∷ [])

-- what a file says last
abbrev pub tail_of : SolverName → Members → Tail
tail_of solver t = record {
  edge = edge_of solver t;
  steps = steps_of t;
  print_every = print_every_of t;
  recut_every = recut_every_of t;
}

-- the first of codes 8 to 15
abbrev pub body_fault : Dim → ℕ → SolverName → Members → Option Malformed
body_fault dim depth solver t =
    option_or (first 8 (rate_checks dim t))
    (option_or (first 9 (criterion_checks solver (at_key key.Criterion t)))
    (option_or (first 10 (list_checks FillList (fill_checks dim depth solver) (at_key key.Fill t)))
    (option_or (first 11 (list_checks RefineList (zone_checks dim depth) (at_key key.Refine t)))
    (tail_fault solver t))))

-- the first of all codes
abbrev pub first_fault : Members → Option Malformed
first_fault t =
    option_or (first 2 (in_tables unlisted t))
    (option_or (first 3 (in_tables missing t))
    (option_or (head_fault t) (body_fault (dim_of t) (depth_of t) (solver_of t) t)))
