-- The plan that a file means, and every refusal: what is checked, in the order of the codes.
use Rattle.std.specs.Prelude.{ℕ, Bool, false, List, [], ◌∷◌, Option, Some, None, Result, Err, ◌%◌, ◌==◌, ◌&&◌, ◌||◌, nat_le, unwrap_or}
use Rattle.toml.specs.Data.{Members}
use Rattle.peano_keys.specs.declared.dim.Dim.{Dim}
use Rattle.grid_file.specs.declared.limits.TheConstants.{MOST_STEPS}
use Rattle.grid_file.specs.declared.place.Part.TheVariants.{Document, FillList, RefineList}
use Rattle.grid_file.specs.declared.place.KeyName.TheVariants as key
use Rattle.grid_file.specs.declared.fault.Malformed.{Malformed}
use Rattle.grid_file.specs.declared.solver.SolverName.{SolverName}
use Rattle.grid_file.specs.declared.plan.Plan.{Plan}
use Rattle.grid_file.specs.Places.{document_key}
use Rattle.grid_file.specs.Faults.{Check, Fault, Step, malformed, step, faults_of, least, judged}
use Rattle.grid_file.specs.Tree.{tree_of, number_in}
use Rattle.grid_file.specs.Values.{every_in}
use Rattle.grid_file.specs.Keys.{at_key, key_check, listed, in_tables, unlisted, missing}
use Rattle.grid_file.specs.Head.{dim_of, depth_of, base_of, solver_of, dim_checks, depth_checks, base_checks, solver_checks}
use Rattle.grid_file.specs.Solvers.{rate_checks, criterion_checks, edge_checks, solver_with}
use Rattle.grid_file.specs.Boxes.{read_each, list_checks, fill_checks, fill_from, zone_checks, zone_from}

-- how many steps are taken
abbrev pub steps_in : Members → Option ℕ
steps_in t = number_in 0 MOST_STEPS (at_key key.Steps t)

-- how many steps the document asks for, none where no number is right
abbrev pub steps_of : Members → ℕ
steps_of t = unwrap_or (steps_in t) 0

-- how often one is printed, none where only the last is
abbrev pub print_every_of : Members → Option ℕ
print_every_of t = unwrap_or (every_in (at_key key.PrintEvery t)) None

-- how often the trees are cut anew, none where they never are
abbrev pub recut_every_of : Members → Option ℕ
recut_every_of t = unwrap_or (every_in (at_key key.RecutEvery t)) None

-- code 13: how many steps are taken
abbrev pub steps_checks : Members → List Check
steps_checks t = key_check Document 0 key.Steps (steps_in t) ∷ []

-- code 14: how often a step is printed
abbrev pub print_checks : Members → List Check
print_checks t = key_check Document 0 key.PrintEvery (every_in (at_key key.PrintEvery t)) ∷ []

-- code 15: how often the trees are cut anew
abbrev pub recut_checks : Members → List Check
recut_checks t = key_check Document 0 key.RecutEvery (every_in (at_key key.RecutEvery t)) ∷ []

-- what is checked for each code, in the order of its places
abbrev pub steps : Dim → ℕ → SolverName → Members → List Step
steps dim depth solver t =
    step 2 (in_tables unlisted t)
    ∷ step 3 (in_tables missing t)
    ∷ step 4 (dim_checks t)
    ∷ step 5 (depth_checks t)
    ∷ step 6 (base_checks depth t)
    ∷ step 7 (solver_checks t)
    ∷ step 8 (rate_checks dim t)
    ∷ step 9 (criterion_checks solver (at_key key.Criterion t))
    ∷ step 10 (list_checks FillList (fill_checks dim depth solver) (at_key key.Fill t))
    ∷ step 11 (list_checks RefineList (zone_checks dim depth) (at_key key.Refine t))
    ∷ step 12 (edge_checks solver t)
    ∷ step 13 (steps_checks t)
    ∷ step 14 (print_checks t)
    ∷ step 15 (recut_checks t)
    ∷ []

-- every fault of a document
abbrev pub faults : Members → List Fault
faults t = faults_of (steps (dim_of t) (depth_of t) (solver_of t) t)

-- the plan of a document in which nothing is refused
abbrev pub plan_from : Dim → ℕ → SolverName → Members → Plan
plan_from dim depth solver t =
    let zones = read_each (zone_from dim depth) (listed (at_key key.Refine t)) in
    record {
      shape = record { dim = dim; depth = depth; base = base_of depth t; zones = zones };
      fills = read_each (fill_from dim depth solver) (listed (at_key key.Fill t));
      solver = solver_with dim depth solver t;
      steps = steps_of t;
      print_every = print_every_of t;
      recut_every = recut_every_of t;
    }

-- the plan of a document: that by its own dimension, depth and solver
abbrev pub plan_in : Members → Plan
plan_in t = plan_from (dim_of t) (depth_of t) (solver_of t) t

-- code 1: no document
abbrev pub plan_of_tree : Option Members → Result Plan Malformed
plan_of_tree None = Err (malformed 1 (document_key key.Whole))
plan_of_tree (Some t) = judged (least (faults t)) (plan_in t)

-- what a file means: its plan, or the least code that applies and in it the first place
abbrev pub plan_of : List ℕ → Result Plan Malformed
plan_of bytes = plan_of_tree (tree_of bytes)

-- whether a step is a multiple, none where there is no number
abbrev pub is_multiple : Option ℕ → ℕ → Bool
is_multiple None step = false
is_multiple (Some every) step = step % every == 0

-- the steps that are printed: the last, and up to it each multiple of `print_every`
abbrev pub printed : Plan → ℕ → Bool
printed plan step =
    step == plan.steps || (nat_le step plan.steps && is_multiple plan.print_every step)
